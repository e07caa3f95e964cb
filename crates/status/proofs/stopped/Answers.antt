-- `stopped` meets its contract: (a) leaves g as it was, and (b) takes the record that (a) leaves.
use mathlib.Core.Path.{◌≡◌, ap, ◌∙◌}
use mathlib.Core.Bool.{false}
use Rattle.history.specs.StatusByte.{EventRecord, stop_a, ages, stop_b}
use Rattle.manual.specs.State.{Stored, opened, stored}
use Rattle.manual.proofs.StateLaws.{opened_stored}
use Rattle.status.specs.Records.{record_is, limits}
use Rattle.status.proofs.stopped.Goals as goal

pub stop_b-requires : goal.stop_b-requires
stop_b-requires c = rw (ap (λ (x : Stored). x.g) (c.stop_a.ensures 0 0 false)) c.requires.g_below

pub returns : goal.returns
returns c =
    let a = c.args in
    let first = c.stop_a in
    λ C i.
    let n = limits C a.heal a.age i in
    let first_is : record_is first.result ≡ stop_a n (record_is a.r) =
    ap opened (first.ensures C a.age i) ∙ opened_stored (stop_a n (record_is a.r)) in
    let second = c.stop_b.ensures C a.heal i in
    record {
      after = second.0 ∙ ap (λ (x : EventRecord). stored (stop_b n x)) first_is;
      aged = second.1 ∙ ap (ages n) first_is;
    }
