-- `bodies_ok` meets its contract.
use mathlib.Core.Path.{◌∙◌}
use mathlib.Core.Bool.{◌&&◌}
use native.Mathlib.Omega.{arith}
use Rattle.manual.proofs.ConfigurationLaws.{config_tells}
use Rattle.memory.specs.Judgement.{used_ok}
use Rattle.image.specs.Layout.{bodies_ok}
use Rattle.image.proofs.bodies_ok.Goals as goal

pub entries_ok-requires : goal.entries_ok-requires
entries_ok-requires c =
    let t = config_tells _ c.requires.0.accepted in
    record {
      events_most = omega (arith, c.events-n.ensures, t.n_most);
      places_most = omega (arith, c.places-m.ensures, t.M_most);
      payload_most = c.requires.1;
    }

pub returns : goal.returns
unfolding bodies_ok
returns c =
    let a = c.args in
    let n = c.events-n.ensures in
    let m = c.places-m.ensures in
    let used =
    c.entries_ok.ensures ∙ (λ j. used_ok (n j) (m j) a.payload_bytes a.records.now a.used.now) in
    λ i. c.records_ok.ensures i && used i
