-- In every state that calls lead to, with restores of images saved on the way, for every event e below n the byte at 4e
-- of the records is the byte read off that event's history, all eight bits.
use mathlib.Core.Path.{◌≡◌, ap, ◌∙◌}
use Prim.Native.Nat.{ℕ, ◌*◌, ◌<◌}
use lib.ListN.{get_or}
use Rattle.history.specs.StatusByte.{Bit, status_of, byte_of}
use Rattle.history.specs.History.{reading}
use Rattle.history.proofs.StatusByteLaws.{status_of_byte}
use Rattle.history.proofs.ByteIsReading.{byte_is_reading}
use Rattle.manual.specs.Configuration.{Configuration, events, limits_of}
use Rattle.manual.specs.State.{State, Stored, record_width, stored_at}
use Rattle.manual.specs.Sequences.{Reached}
use Rattle.manual.proofs.ConfigurationLaws.{config_tells}
use Rattle.manual.proofs.SequencesLaws.{Histories}
use Rattle.manual.proofs.WellFormedInEverySequence.{config_accepted, record_follows}
use Rattle.manual.proofs.HistoriesAreLegal.{history_is_legal}

module _ (cfg : Configuration) {s : State} {H : Histories} (reached : Reached cfg s H) where
  -- the byte at 4e of the records
  pub byte_is_reading_in_sequence : (e : ℕ) → e < events cfg
      → get_or s.records (record_width * e) 0 ≡ byte_of (reading (limits_of cfg e) (H e))
  unfolding stored_at
  byte_is_reading_in_sequence e h =
      ap (λ (r : Stored). r.status) (record_follows cfg reached e h)
      ∙ byte_is_reading (limits_of cfg e) ((config_tells cfg (config_accepted cfg reached)).row e h).limits (H e)
      (history_is_legal cfg reached e h)

  -- the same, bit by bit
  pub bit_is_reading_in_sequence : (e : ℕ) → e < events cfg → (b : Bit)
      → status_of (get_or s.records (record_width * e) 0) b ≡ reading (limits_of cfg e) (H e) b
  bit_is_reading_in_sequence e h b =
      ap (λ (byte : ℕ). status_of byte b) (byte_is_reading_in_sequence e h)
      ∙ status_of_byte (reading (limits_of cfg e) (H e)) b
