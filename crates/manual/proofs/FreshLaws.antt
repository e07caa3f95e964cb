-- Laws of the fresh state of specs/Calls.antt: its blocks have room for each event, and each record is the fresh one.
use mathlib.Core.Path.{◌≡◌, refl}
use Prim.Native.Nat.{ℕ, zero, suc, ◌*◌, ◌<◌}
use native.Mathlib.Nat.{not-suc-le-zero, le_of_suc-le-suc}
use native.Mathlib.Omega.{arith}
use lib.ListN.{length, length-replicate}
use lib.IntN.{pos}
use Rattle.history.specs.StatusByte.{fresh_record}
use Rattle.manual.specs.Configuration.{Configuration, events}
use Rattle.manual.specs.State.{record_width, stored, stored_at}
use Rattle.manual.specs.Calls.{fresh_records, fresh_state}
use Rattle.manual.proofs.StateLaws.{stored_next}
use Rattle.manual.proofs.OneEventLaws.{Sized}

fresh_length : (n : ℕ) → length (fresh_records n) ≡ record_width * n
unfolding fresh_records
fresh_length zero = refl
fresh_length (suc n) = omega (arith, fresh_length n)

fresh_at : (n e : ℕ) → e < n → stored_at e (fresh_records n) ≡ stored fresh_record
unfolding fresh_records stored_at
fresh_at zero e h = absurd (not-suc-le-zero h)
fresh_at (suc n) zero h = refl
fresh_at (suc n) (suc e) h = rw stored_next (fresh_at n e (le_of_suc-le-suc h))

module _ (cfg : Configuration) where
  pub fresh_sized : Sized cfg (fresh_state cfg)
  unfolding fresh_state
  fresh_sized = record { records = fresh_length (events cfg); debounce = length-replicate (events cfg) (pos 0) }

  pub fresh_records_lem : (e : ℕ) → e < events cfg → stored_at e (fresh_state cfg).records ≡ stored fresh_record
  unfolding fresh_state
  fresh_records_lem e h = fresh_at (events cfg) e h
