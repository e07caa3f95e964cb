-- each line of the code is the clause of `row_ok` that stands in its place, and `of_kind_ok` five of them
use mathlib.Core.Bool.{◌&&◌}
use lib.IntN.{pos}
use Rattle.manual.specs.Configuration.{column, kind_of, row_ok}
use Rattle.config.specs.Rows.{of_kind}
use Rattle.config.proofs.Tests.{joined_amid}
use Rattle.config.proofs.RowsLaws.{kind_judged}
use Rattle.config.proofs.RowAt.row_ok.Goals as goal

pub returns : goal.returns
unfolding row_ok
returns c =
    let cfg = c.args.self.cfg.now in
    let e = c.args.self.event.0 in
    joined_amid _ _ _ _ _ (of_kind (pos (kind_of cfg e)) cfg e) _ (kind_judged cfg (column 4 cfg e) e)
    (λ i.
    c.in_range.ensures i
    && c.in_range-2.ensures i
    && c.in_range-3.ensures i
    && c.in_range-4.ensures i
    && c.of_kind_ok.ensures i
    && c.in_range-5.ensures i
    && c.in_range-6.ensures i
    && c.in_range-7.ensures i
    && c.in_range-8.ensures i
    && c.in_range-9.ensures i)
