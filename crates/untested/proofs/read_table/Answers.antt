-- `read_table` meets its contract.
use mathlib.Core.Bool.{true}
use mathlib.Core.Path.{sym}
use Rattle.std.proofs.lemmas.Result.{err_from_is_err_and}
use Rattle.judgement.proofs.BeginLaws.{begun}
use Rattle.untested.proofs.PageLaws.{table_is, table_refused}
use Rattle.untested.proofs.read_table.Goals as goal

pub returns-in_err-begin : goal.returns-in_err-begin
returns-in_err-begin c =
    let p = err_from_is_err_and c.from_residual.result c.from_residual.ensures.1 in
    rw (p.1, p.2) (table_refused _ _ _ c.in_err-begin.ensures)

pub table_of-requires : goal.table_of-requires
table_of-requires c = let (ok, _) = begun _ _ true (sym c.in_ok-begin.ensures) in ok

pub returns : goal.returns
returns c =
    let s = c.args.state.now in
    table_is _ _ (sym c.in_ok-begin.ensures) (c.table_of.ensures s.debounce.now s.memory.now s.board)
