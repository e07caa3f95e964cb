use mathlib.Core.Path.{◌≡◌, sym, ◌∙◌}
use mathlib.Core.Bool.{true, ◌&&◌}
use Rattle.manual.specs.WellFormed.{lengths_fit}
use Rattle.manual.proofs.ConfigurationLaws.{config_tells}
use Rattle.manual.proofs.WellFormedLaws.{lengths_tell}
use Rattle.memory.specs.Judgement.{block_ok}
use Rattle.manual.specs.State.{lent}
use Rattle.judgement.proofs.WellFormedLaws.{not_fitting, judged_in_passes}
use Rattle.judgement.proofs.well_formed.Goals as goal

pub returns-then-not-lengths_fit : goal.returns-then-not-lengths_fit
returns-then-not-lengths_fit c =
    sym
    (not_fitting _ _ _ _ _ _
    (sym (c.lengths_fit.ensures)
    ∙ c.if-not-lengths_fit.true))

pub records_ok-requires : goal.records_ok-requires
records_ok-requires c =
    let fits : let a = c.args in lengths_fit a.cfg.now
    (lent a.state.now.records.now a.state.now.debounce.now a.state.now.memory.now a.state.now.board)
    ≡ true =
    sym (c.lengths_fit.ensures) ∙ c.if-not-lengths_fit.false in
    record {
      accepted = c.requires;
      as_long = (lengths_tell _ _ fits).records;
    }

pub numbers_ok-requires : goal.numbers_ok-requires
numbers_ok-requires c =
    let fits : let a = c.args in lengths_fit a.cfg.now
    (lent a.state.now.records.now a.state.now.debounce.now a.state.now.memory.now a.state.now.board)
    ≡ true =
    sym (c.lengths_fit.ensures) ∙ c.if-not-lengths_fit.false in
    record { accepted = c.requires; as_long = (lengths_tell _ _ fits).debounce }

pub memory_ok-requires : goal.memory_ok-requires
memory_ok-requires c =
    let t = config_tells _ c.requires in
    record {
      events_most = rw c.events-n.ensures t.n_most;
      places_most = rw c.places-m.ensures t.M_most;
      payload_most = rw c.entry_frames-f.ensures t.payload_most;
    }

pub returns : goal.returns
returns c =
    let fits : let a = c.args in lengths_fit a.cfg.now
    (lent a.state.now.records.now a.state.now.debounce.now a.state.now.memory.now a.state.now.board)
    ≡ true =
    sym (c.lengths_fit.ensures) ∙ c.if-not-lengths_fit.false in
    let a = c.args in
    let n = c.events-n.ensures in
    let m = c.places-m.ensures in
    let f = c.entry_frames-f.ensures in
    (λ i. c.records_ok.ensures i && c.numbers_ok.ensures i
    && (c.memory_ok.ensures ∙ (λ j. block_ok (n j) (m j) (f j) a.state.now.records.now a.state.now.memory.now)) i)
    ∙ judged_in_passes _ _ _ _ _ _ fits
