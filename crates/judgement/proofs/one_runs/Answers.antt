use mathlib.Core.Path.{◌≡◌}
use lib.ListN.{length}
use borrow.Author.Rules.{rules}
use Rattle.judgement.proofs.RunsLaws.{runs_is}
use Rattle.judgement.proofs.one_runs.Goals as goal

pub returns : goal.returns
returns c =
    let h : length c.args.board.running ≡ 4 = search rules in
    runs_is c.args.board.running h c.args.cycle
