use Rattle.transcript.proofs.TextLaws.{digit_least, digit_most, added_none, added_here}
use Rattle.transcript.proofs.TextLaws.{added_room, added_more, added_all}
use Rattle.transcript.proofs.value_of.Goals as goal

pub loop-digit-init : goal.loop-digit-init
loop-digit-init c = added_none _ c.requires

pub with_digit-n-requires : goal.with_digit-n-requires
with_digit-n-requires c =
    let s = c.loop-digit.invariant in
    let h = c.loop-digit-test.true in
    let here = added_here _ _ _ s h in
    (added_room _ _ _ s h c.requires, digit_least _ here, digit_most _ here)

pub loop-digit-preserved : goal.loop-digit-preserved
loop-digit-preserved c =
    added_more _ _ _ c.loop-digit.invariant c.loop-digit-test.true _
    c.with_digit-n.ensures

pub returns : goal.returns
returns c = added_all _ _ _ c.loop-digit.invariant c.loop-digit-test.false
