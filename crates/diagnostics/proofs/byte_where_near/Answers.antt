use mir.Syntax.{w64}
use mathlib.Core.Path.{◌≡◌, sym, ◌∙◌}
use mathlib.Core.List.{[]}
use mir.Syntax.{w64}
use mir.Val.{to_z, of_z}
use mir.Facts.{to_z-of_z}
use Rattle.manual.specs.Diagnostics.{is_near, counter_byte}
use Rattle.diagnostics.specs.Replies.{holding}
use Rattle.diagnostics.proofs.byte_where_near.Goals as goal

pub counter_byte-requires : goal.counter_byte-requires
counter_byte-requires c = sym c.tells_near.ensures ∙ c.if-tells_near.true

pub returns-then-tells_near : goal.returns-then-tells_near
unfolding is_near counter_byte
returns-then-tells_near c =
    let wide : to_z w64 (of_z w64 c.counter_of-counter.result) ≡ c.counter_of-counter.result =
    to_z-of_z {w = w64} (record { sfits = c.counter_of-counter.type_inv }) in
    let counter = wide ∙ c.counter_of-counter.ensures [] (holding [] []).board in
    rw (← counter, sym c.tells_near.ensures ∙ c.if-tells_near.true, ← c.counter_byte.ensures)

pub returns : goal.returns
unfolding is_near counter_byte
returns c =
    let wide : to_z w64 (of_z w64 c.counter_of-counter.result) ≡ c.counter_of-counter.result =
    to_z-of_z {w = w64} (record { sfits = c.counter_of-counter.type_inv }) in
    let counter = wide ∙ c.counter_of-counter.ensures [] (holding [] []).board in
    rw (← counter, sym c.tells_near.ensures ∙ c.if-tells_near.false)
