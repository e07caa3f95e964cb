-- verdict_at
use Rattle.manual.specs.Debouncing.{verdict_at}
use Rattle.debounce.proofs.SmallNumbersLaws.{same_is, other_is}
use Rattle.debounce.proofs.verdict_at.Goals as goal

pub returns-then-d-top : goal.returns-then-d-top
unfolding verdict_at
returns-then-d-top c = simp (same_is c.ranges.d c.top.ensures c.top.type_inv c.if-d-top.true)

pub returns-then-d-bottom : goal.returns-then-d-bottom
unfolding verdict_at
returns-then-d-bottom c =
    simp (
      other_is c.ranges.d c.top.ensures c.top.type_inv c.if-d-top.false,
      same_is c.ranges.d c.bottom.ensures c.bottom.type_inv c.if-d-bottom.true,
    )

pub returns : goal.returns
unfolding verdict_at
returns c =
    simp (
      other_is c.ranges.d c.top.ensures c.top.type_inv c.if-d-top.false,
      other_is c.ranges.d c.bottom.ensures c.bottom.type_inv c.if-d-bottom.false,
    )
