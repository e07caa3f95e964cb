-- `carries_past` meets its contract: far from the limit no stop carries a count past it.
use mathlib.Core.Path.{sym, ◌∙◌}
use Rattle.cycles.proofs.StopRiseLaws.{far}
use Rattle.cycles.proofs.carries_past.Goals as goal

pub returns-else-some_near : goal.returns-else-some_near
returns-else-some_near c =
    c.if-some_near.false ∙ sym (far _ _ _ c.requires.0 _ (sym c.some_near.ensures ∙ c.if-some_near.false))
