use mathlib.Core.Path.{sym, ◌∙◌}
use Rattle.manual.specs.WellFormed.{well_formed}
use Rattle.manual.specs.State.{lent}
use Rattle.judgement.proofs.BeginLaws.{judged_in_turn}
use Rattle.judgement.proofs.begin.Goals as goal
use Rattle.judgement.proofs.begin.Goals.{then-config_ok, else-config_ok}

pub well_formed-state_ok-requires : goal.well_formed-state_ok-requires
well_formed-state_ok-requires c = sym c.config_ok-config_ok.ensures ∙ c.if-config_ok.true

pub returns : goal.returns
returns c =
    let a = c.args in
    c.first_of.ensures
    ∙ judged_in_turn a.fits c.if-config_ok.state_ok
    (well_formed a.cfg.now (lent a.state.now.records.now a.state.now.debounce.now a.state.now.memory.now a.state.now.board))
    c.config_ok-config_ok.ensures
    (elim c.if-config_ok.branch [
      | then-config_ok w ↦ rw w.if-config_ok.true (w.state_ok-is ∙ w.well_formed-state_ok.ensures)
      | else-config_ok w ↦ rw (w.state_ok-is, w.if-config_ok.false)
    ])
