-- Document 02, W1, of the counter of each event of a well-formed state: "It is 127 exactly at the top and −128 exactly
-- at the bottom for kinds 1 and 2", and "−128 to 127". A stopped cycle is no exception: D is 0 there, which is neither.
use mathlib.Core.Path.{◌≡◌}
use mathlib.Core.Logic.{◌↔◌}
use mathlib.Core.Bool.{true, false}
use Prim.Native.Nat.{ℕ, ◌<◌}
use lib.IntN.{pos, negsuc}
use Rattle.manual.specs.Words.{between}
use Rattle.manual.specs.Configuration.{Configuration, events, is_internal, config_ok}
use Rattle.manual.specs.State.{State, record_of, D}
use Rattle.manual.specs.Debouncing.{top, bottom}
use Rattle.manual.specs.WellFormed.{well_formed}
use Rattle.manual.specs.Counter.{counter_in}
use Rattle.manual.proofs.ConfigurationLaws.{RowTells, config_tells}
use Rattle.manual.proofs.DebouncingLaws.{between_ends}
use Rattle.manual.proofs.WellFormedLaws.{StateTells, state_tells}
use Rattle.manual.proofs.CounterLaws.{top_exactly, bottom_exactly, counter_in_bounds}

module _ (cfg : Configuration) (s : State) (ok : config_ok cfg ≡ true) (formed : well_formed cfg s ≡ true) (e : ℕ)
    (below : e < events cfg) where
  row : RowTells cfg e
  row = (config_tells cfg ok).row e below

  told : StateTells cfg s
  told = state_tells cfg s formed

  pub at_the_top : is_internal cfg e ≡ false → (counter_in cfg s e ≡ pos 127) ↔ (D s e ≡ top cfg e)
  unfolding counter_in
  at_the_top k =
      top_exactly cfg e (row.range k) (record_of s e).status (D s e)
      (between_ends cfg s.board e (row.range k) k (D s e) (told.numbers e below))

  pub at_the_bottom : is_internal cfg e ≡ false → (counter_in cfg s e ≡ negsuc 127) ↔ (D s e ≡ bottom cfg e)
  unfolding counter_in
  at_the_bottom k =
      bottom_exactly cfg e (row.range k) (record_of s e).status (D s e)
      (between_ends cfg s.board e (row.range k) k (D s e) (told.numbers e below))

  pub in_a_byte : between (negsuc 127) (pos 127) (counter_in cfg s e) ≡ true
  unfolding counter_in
  in_a_byte = counter_in_bounds cfg s.board e row.range (D s e) (record_of s e).status (told.numbers e below)
