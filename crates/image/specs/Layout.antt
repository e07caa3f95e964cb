-- Document 01, "Saved image": where the bodies lie in an image, by the configuration and the entry count in it, and how
-- it is judged. Assumes nothing.
use Rattle.std.specs.Prelude.{Bool, ◌&&◌, List, ℕ, ◌+◌, ◌*◌, eqb, leb, length}
use Rattle.manual.specs.Words.{all_below}
use Rattle.manual.specs.Configuration.{Configuration, events, places}
use Rattle.manual.specs.State.{record_width, opened, stored_at}
use Rattle.manual.specs.WellFormed.{record_ok}
use Rattle.manual.specs.Memory.{entry_count, bytes_in_use}
use Rattle.manual.specs.Image.{header_length, after_records}
use Rattle.memory.specs.Judgement.{used_ok}

module _ (cfg : Configuration) where
  -- where body 2 begins: "Bodies follow without gaps: 1 the records; 2 the entry count and the entries in use"
  abbrev pub memory_at : ℕ
  memory_at = header_length + record_width * events cfg

  -- ---- an image of an edition whose entries have payloads of W bytes

  module _ (W : ℕ) where
    -- at most M entries, and an image as long as these make it: body 3 is one byte, and nothing follows it
    unfoldable pub length_ok : List ℕ → Bool
    length_ok image =
        leb (entry_count (after_records cfg image)) (places cfg)
        && eqb (length image) (memory_at + bytes_in_use W (entry_count (after_records cfg image)) + 1)

    -- bodies 1 and 2 are as a well-formed state has its records and its entries
    unfoldable pub bodies_ok : List ℕ → List ℕ → Bool
    bodies_ok records used =
        all_below (events cfg) (λ e. record_ok cfg e (opened (stored_at e records)))
        && used_ok (events cfg) (places cfg) W records used
