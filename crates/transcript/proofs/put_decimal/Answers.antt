-- `put_decimal` writes one, two or three digits, as the definition chooses.
use borrow.Author.Tests.{lt-ltb, le-ltb}
use Rattle.transcript.specs.Line.{decimal}
use Rattle.transcript.proofs.put_decimal.Goals as goal

pub returns-then-n-lt10 : goal.returns-then-n-lt10
unfolding decimal
returns-then-n-lt10 c = rw (lt-ltb _ _ c.if-n-lt10.true) c.write.ensures

pub returns-then-n-lt100 : goal.returns-then-n-lt100
unfolding decimal
returns-then-n-lt100 c =
    rw (
      le-ltb _ _ c.if-n-lt10.false,
      lt-ltb _ _ c.if-n-lt100.true,
    )
    c.write-then-n-lt100.ensures

pub returns : goal.returns
unfolding decimal
returns c =
    rw (
      le-ltb _ _ c.if-n-lt10.false,
      le-ltb _ _ c.if-n-lt100.false,
    )
    c.write-2.ensures
