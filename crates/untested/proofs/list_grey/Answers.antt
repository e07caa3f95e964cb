-- `list_grey` meets its contract.
use mathlib.Core.Path.{sym}
use Rattle.std.proofs.lemmas.Result.{err_from_is_err_and}
use Rattle.manual.specs.Untested.{list_grey}
use Rattle.manual.proofs.AnswersLaws.{stops_with}
use Rattle.untested.proofs.PageLaws.{may_list, list_done}
use Rattle.untested.proofs.list_grey.Goals as goal

pub returns-in_err-judge_list : goal.returns-in_err-judge_list
unfolding list_grey
returns-in_err-judge_list c =
    let p = err_from_is_err_and c.from_residual.result c.from_residual.ensures.1 in
    rw (p.1, p.2) (stops_with _ _ _ _ _ c.in_err-judge_list.ensures)

pub write_grey-requires : goal.write_grey-requires
write_grey-requires c = may_list _ _ _ (sym c.in_ok-judge_list.ensures)

pub returns : goal.returns
returns c = list_done _ _ _ (sym c.in_ok-judge_list.ensures) c.write_grey.ensures
