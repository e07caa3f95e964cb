-- `is_too_short` meets its contract: there are no more grey events than events.
use mathlib.Core.Path.{sym, ap}
use Prim.Native.Nat.{ℕ, ◌≤◌}
use native.Mathlib.Omega.{arith}
use lib.Dec.{ltb}
use lib.ListN.{length}
use borrow.Author.Tests.{le-ltb}
use Rattle.manual.specs.Configuration.{events}
use Rattle.manual.specs.Untested.{is_grey, grey_events}
use Rattle.manual.proofs.BelowLaws.{count_most}
use Rattle.manual.proofs.UntestedLaws.{grey_number}
use Rattle.untested.specs.Page.{holding}
use Rattle.untested.proofs.is_too_short.Goals as goal

pub returns-then-events-numbers : goal.returns-then-events-numbers
returns-then-events-numbers c =
    let a = c.args in
    let s = holding a.records.now a.board in
    let fits : length (grey_events a.cfg.now s) ≤ a.numbers =
    omega (
      arith,
      c.if-events-numbers.true,
      c.events.ensures,
      grey_number a.cfg.now s,
      count_most (is_grey a.cfg.now s) (events a.cfg.now),
    ) in
    sym (le-ltb _ _ fits)

pub returns : goal.returns
returns c =
    ap (λ (k : ℕ). ltb c.args.numbers k) c.number_grey.ensures
