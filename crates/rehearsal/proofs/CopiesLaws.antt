-- Laws of the copies: they are the blocks, and how long the blocks of a well-formed state are.
use mathlib.Core.Path.{◌≡◌}
use mathlib.Core.Bool.{true}
use mathlib.Core.List.{List}
use Prim.Native.Nat.{ℕ, ◌*◌, ◌≤◌}
use native.Mathlib.Omega.{arith}
use lib.IntN.{ℤ}
use lib.ListN.{length}
use Rattle.manual.specs.declared.Board.{Board}
use Rattle.manual.specs.Configuration.{Configuration, most_events, places, entry_frames, config_ok}
use Rattle.manual.specs.State.{State, record_width, lent}
use Rattle.manual.specs.Memory.{most_memory}
use Rattle.manual.specs.WellFormed.{well_formed}
use Rattle.rehearsal.specs.Copies.{FitCopies}
use Rattle.manual.proofs.ConfigurationLaws.{config_tells}
use Rattle.manual.proofs.WellFormedLaws.{state_tells}
use Rattle.manual.proofs.MemoryLaws.{memory_most}

pub same_blocks : {records records' : List ℕ} {debounce debounce' : List ℤ} {memory memory' : List ℕ}
    → records ≡ records' → debounce ≡ debounce' → memory ≡ memory' → (b : Board)
    → lent records debounce memory b ≡ lent records' debounce' memory' b
same_blocks p q r b = rw (p, q, r)

module _ (cfg : Configuration) (s : State) (k : config_ok cfg ≡ true) (w : well_formed cfg s ≡ true) where
  records_most : length s.records ≤ record_width * most_events
  records_most =
      let long = (state_tells cfg s w).lengths.records in let most = (config_tells cfg k).n_most in omega arith

  numbers_most : length s.debounce ≤ most_events
  numbers_most =
      let long = (state_tells cfg s w).lengths.debounce in let most = (config_tells cfg k).n_most in omega arith

  entries_most : length s.memory ≤ most_memory
  entries_most =
      let t = config_tells cfg k in
      rw (state_tells cfg s w).lengths.memory
      (memory_most (places cfg) (entry_frames cfg) t.M_most t.payload_most)

  pub fit_copies : FitCopies s
  fit_copies = record { records = records_most; debounce = numbers_most; memory = entries_most }
