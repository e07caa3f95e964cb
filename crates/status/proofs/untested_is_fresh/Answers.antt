-- `untested_is_fresh` meets its contract: the byte is that of its bits.
use mathlib.Core.Path.{sym, ◌∙◌}
use lib.Dec.{eqb}
use borrow.Author.Rules.{rules}
use Rattle.history.specs.Words.{implies}
use Rattle.history.specs.StatusByte.{test_not_completed_since_last_clear}
use Rattle.history.proofs.StatusByteLaws.{byte_of_status}
use Rattle.status.proofs.MasksLaws.{contains_is}
use Rattle.status.proofs.untested_is_fresh.Goals as goal

pub returns : goal.returns
returns c =
    let s = c.args.s.0 in
    let bit4-is = contains_is s test_not_completed_since_last_clear c.contains.ensures in
    let byte_is = sym (byte_of_status s (search rules)) in
    c.implies.ensures
    ∙ (λ i. implies (bit4-is i) ((c.eq.ensures ∙ (λ j. eqb (byte_is j) (c.fresh.ensures j))) i))
