use Rattle.manual.specs.Lent.{as_lent}
use Rattle.clearing.proofs.ClearAllLaws.{blocks_fit, all_cleared}
use Rattle.clearing.proofs.clear_all.Goals as goal

pub reset_all-requires : goal.reset_all-requires
reset_all-requires c =
    let a = c.args in
    blocks_fit a.cfg.now (as_lent a.state.now) c.requires.1

pub returns-clause-promise : goal.returns-clause-promise
returns-clause-promise c =
    let a = c.args in
    all_cleared a.cfg.now (as_lent a.state.now) c.requires.1 c.zero_from.ensures
    c.reset_all.ensures (c.clear_overflow.ensures.promise a.cfg.now)
