use mathlib.Core.Path.{◌≡◌, sym}
use mathlib.Core.Bool.{false}
use native.Mathlib.Omega.{arith}
use lib.ListN.{length, get_or-eq_default}
use borrow.Author.Rules.{rules}
use Rattle.judgement.proofs.runs.Goals as goal

pub returns : goal.returns
returns c =
    let h : length c.args.board.running ≡ 4 = search rules in
    sym (get_or-eq_default c.args.board.running false (omega arith))
