use mir.Syntax.{w64}
use mathlib.Core.Path.{◌≡◌, ap, ◌∙◌}
use mathlib.Core.List.{[]}
use lib.IntN.{pos}
use mir.Syntax.{w64}
use mir.Val.{to_z, of_z}
use mir.Facts.{to_z-of_z}
use Rattle.manual.specs.Words.{between}
use Rattle.manual.specs.Diagnostics.{is_near}
use Rattle.diagnostics.proofs.is_near.Goals as goal

pub returns : goal.returns
unfolding is_near
returns c = let wide : to_z w64 (of_z w64 c.counter_of.result) ≡ c.counter_of.result =
    to_z-of_z {w = w64} (record { sfits = c.counter_of.type_inv }) in
    c.tells_near.ensures ∙ ap (between (pos 1) (pos 126)) (wide ∙ c.counter_of.ensures [] _)
