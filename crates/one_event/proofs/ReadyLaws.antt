-- What a call finds at each event of a well-formed state, in the form in which the steps on one event ask for it.
use mathlib.Core.Path.{◌≡◌, ap, ◌∙◌}
use mathlib.Core.Bool.{true}
use Prim.Native.Nat.{ℕ, ◌<◌}
use native.Mathlib.Omega.{arith}
use lib.Dec.{ltb}
use lib.ListN.{length}
use borrow.Author.Tests.{lt-ltb}
use Rattle.manual.specs.Configuration.{Configuration, events, places, entry_frames, config_ok}
use Rattle.manual.specs.State.{State}
use Rattle.manual.specs.Memory.{event_of, entry_count}
use Rattle.manual.specs.WellFormed.{entries}
use Rattle.manual.specs.Words.{All}
use Rattle.manual.proofs.WordsLaws.{test_of_all}
use Rattle.manual.proofs.ConfigurationLaws.{config_tells}
use Rattle.manual.proofs.MemoryLaws.{Framed, EntryGood, frames, memory_count, memory_length_lem}
use Rattle.manual.proofs.MemoryStaysGood.{has_failed_bit, MemoryGood}
use Rattle.manual.proofs.EventLoops.{EventReady}
use Rattle.memory.specs.InOrder.{InOrder}
use Rattle.one_event.specs.Ready.{Ready}

module _ (cfg : Configuration) (s : State) (ok : config_ok cfg ≡ true) where
  in_order : MemoryGood cfg s → InOrder (events cfg) (places cfg) (entry_frames cfg) s.memory
  in_order m = record {
    events_most = (config_tells cfg ok).n_most;
    places_most = (config_tells cfg ok).M_most;
    payload_most = (config_tells cfg ok).payload_most;
    sized = ap length m.block ∙ memory_length_lem (places cfg) (entry_frames cfg) (entries cfg s) framed m.good.few;
    few = omega (arith, count, m.good.few);
    block = m.block;
    below =
        test_of_all (EntryGood (events cfg) (entry_frames cfg) (has_failed_bit cfg s)) (λ x. ltb (event_of x) (events cfg))
        (λ x g. lt-ltb (event_of x) (events cfg) g.below) (entries cfg s) m.good.each;
    once = m.good.once;
  }
    where
      framed : All (Framed (entry_frames cfg)) (entries cfg s)
      framed = frames (events cfg) (entry_frames cfg) (has_failed_bit cfg s) (entries cfg s) m.good.each

      count : entry_count s.memory ≡ length (entries cfg s)
      count = ap entry_count m.block ∙ memory_count (places cfg) (entry_frames cfg) (entries cfg s) framed

  pub ready_of : (e : ℕ) → e < events cfg → EventReady cfg s e → Ready cfg s e
  ready_of e h r = record {
    event = record {
      configured = ok;
      blocks = record { below = h; records_as_long = r.memory.sized.records; in_order = in_order r.memory };
      debounce_as_long = r.memory.sized.debounce;
      kept = r.event.kept;
    };
    number = r.event.number;
  }
