-- What the requests `19 01 mask`, `19 02 mask` and `19 0A` are sent, in a room that holds it and in one that does not.
use mathlib.Core.Path.{◌≡◌, refl, ap, ◌∙◌}
use mathlib.Core.Logic.{◌≢◌}
use mathlib.Core.Bool.{Bool, true, false}
use mathlib.Core.List.{List, [], ◌∷◌, ◌++◌, map, flat_map}
use Prim.Native.Nat.{ℕ, ◌+◌, ◌*◌, ◌≤◌, ◌<◌}
use native.Mathlib.Omega.{arith}
use lib.Dec.{ltb}
use lib.ListN.{length, drop}
use lib.Seq.{take_at}
use borrow.Author.Tests.{ltb-true, ltb-false}
use Rattle.manual.specs.Words.{those, two, three}
use Rattle.manual.specs.Configuration.{Configuration, events, code_of, config_ok}
use Rattle.manual.specs.State.{State, status_byte}
use Rattle.manual.specs.WellFormed.{well_formed}
use Rattle.manual.specs.Answers.{Beside, Outcome}
use Rattle.manual.specs.Counts.{counts_fit}
use Rattle.manual.specs.Diagnostics.{request_reply}
use Rattle.manual.specs.Replies.{rising, shares_bit, number_by, list_by, list_events, fours, lines_in, Tells, second_byte}
use Rattle.manual.specs.Replies.{Due, sends, refused_with, length_of_01, length_of_02, length_of_0a}
use Rattle.manual.specs.Replies.{numbered_by_mask, listed_by_mask, list_all, too_long, negative, positive}
use Rattle.manual.proofs.WordsLaws.{those_le}
use Rattle.manual.proofs.ConfigurationLaws.{config_tells}
use Rattle.manual.proofs.RepliesLaws.{rising_length, fours_flat, flat_length, accepted_told}
use Rattle.manual.proofs.RepliesFollowTheSentences.{reply_is}

module _ (cfg : Configuration) (s : State) (configured : config_ok cfg ≡ true) (formed : well_formed cfg s ≡ true) where
  abbrev pub ask : List ℕ → Beside → Outcome
  ask request b = request_reply cfg request b s

  -- "one longer than the room: code 14"
  abbrev pub TooLong : List ℕ → Beside → Type 0
  TooLong request b = ask request b ≡ refused_with cfg request s b 0x14

  -- ---- a request without the top bit that is due these bytes

  record Wants (request bytes : List ℕ) : Type 0 where
    asked : length request ≢ 0
    due : Due cfg request s bytes
    plain : second_byte cfg request s < 128

  module _ {request bytes : List ℕ} (w : Wants request bytes) (b : Beside)
      (five : counts_fit b.counts ≡ true) (least : 3 ≤ length b.room) where
    answered : (ask request b).answer ≡ 0
    answered = accepted_told cfg request b s (record {
      configuration = configured;
      five_counts = five;
      formed = formed;
      room_least = least;
      some_bytes = w.asked;
      not_past = λ c. let is19 = w.due.sized.service_19 in let is14 = c.0 in let z : ⊥ = omega arith in absurd z;
    })

    sent_all : length bytes ≤ length b.room → ask request b ≡ sends cfg request s b bytes s
    sent_all h = reply_is cfg request b s answered _ (positive bytes w.due w.plain h)

    sent_14 : length b.room < length bytes → TooLong request b
    sent_14 h = reply_is cfg request b s answered _ (negative 0x14 (too_long bytes w.due w.plain h))

    sent_if : ¬ TooLong request b → ask request b ≡ sends cfg request s b bytes s
    sent_if n = go (ltb (length b.room) (length bytes)) refl
      where
        go : (t : Bool) → ltb (length b.room) (length bytes) ≡ t → ask request b ≡ sends cfg request s b bytes s
        go true t = absurd (n (sent_14 (ltb-true _ _ t)))
        go false f = sent_all (ltb-false _ _ f)

  -- ---- three bytes, and the lines of these events

  abbrev pub line : ℕ → List ℕ
  line e = three (code_of cfg e) ++ (status_byte s e ∷ [])

  pub line_tells : (e : ℕ) → e < events cfg → Tells cfg s e (line e)
  line_tells e h =
      let most = ((config_tells cfg configured).row e h).code_most in
      record { four = refl; bytes = (omega arith, (omega arith, (omega arith, tt))); code = omega arith; status = refl }

  cut : (e : ℕ) (l : List ℕ) → fours (line e ++ l) ≡ line e ∷ fours l
  unfolding fours
  cut e l = refl

  module _ (request : List ℕ) (x y z : ℕ) (es : List ℕ) (w : Wants request (x ∷ y ∷ z ∷ flat_map line es))
      (b : Beside) (five : counts_fit b.counts ≡ true) where
    its_length : length (x ∷ y ∷ z ∷ flat_map line es) ≡ 3 + 4 * length es
    its_length = let h = flat_length line 4 (λ e. refl) es in omega arith

    list_value : 3 + 4 * length es ≤ length b.room → (ask request b).value ≡ 3 + 4 * length es
    list_value h = ap (λ (o : Outcome). o.value) (sent_all w b five (omega arith) (rw its_length h)) ∙ its_length

    list_14 : 3 ≤ length b.room → length b.room < 3 + 4 * length es → TooLong request b
    list_14 h l = sent_14 w b five h (rw its_length l)

    list_lines : 3 ≤ length b.room → ¬ TooLong request b → lines_in (ask request b) ≡ map line es
    list_lines h n =
        ap lines_in (sent_if w b five h n)
        ∙ ap (λ (l : List ℕ). fours (drop 3 l)) (take_at (x ∷ y ∷ z ∷ flat_map line es) _ _ refl)
        ∙ fours_flat line cut es

  -- ---- `19 01 mask`

  module _ (mask : ℕ) where
    abbrev pub matched : List ℕ
    matched = those (λ e. shares_bit (status_byte s e) mask) (rising (events cfg))

    pub matched_most : length matched ≤ 512
    matched_most =
        let a = those_le (λ e. shares_bit (status_byte s e) mask) (rising (events cfg)) in
        let b = rising_length (events cfg) in
        let c = (config_tells cfg configured).n_most in
        omega arith

    abbrev pub number_bytes : List ℕ
    number_bytes = 0x59 ∷ 0x01 ∷ 0xFF ∷ 0x01 ∷ two (length matched)

    number_wants : Wants (number_by mask) number_bytes
    number_wants = record {
      asked = λ e. omega arith;
      due = record {
        sized = record { service_19 = refl; more = λ e. omega arith; must_have = length_of_01 refl };
        asks = numbered_by_mask refl;
      };
      plain = omega arith;
    }

    pub number_sent : (b : Beside) → counts_fit b.counts ≡ true → 6 ≤ length b.room
        → ask (number_by mask) b ≡ sends cfg (number_by mask) s b number_bytes s
    number_sent b five h = sent_all number_wants b five (omega arith) h

    pub number_14 : (b : Beside) → counts_fit b.counts ≡ true → 3 ≤ length b.room → length b.room < 6
        → TooLong (number_by mask) b
    number_14 = sent_14 number_wants

    -- ---- `19 02 mask`

    by_mask_wants : Wants (list_by mask) (0x59 ∷ 0x02 ∷ 0xFF ∷ flat_map line matched)
    by_mask_wants = record {
      asked = λ e. omega arith;
      due = record {
        sized = record { service_19 = refl; more = λ e. omega arith; must_have = length_of_02 refl };
        asks = listed_by_mask refl;
      };
      plain = omega arith;
    }

    pub by_mask_value : (b : Beside) → counts_fit b.counts ≡ true → 3 + 4 * length matched ≤ length b.room
        → (ask (list_by mask) b).value ≡ 3 + 4 * length matched
    by_mask_value = list_value (list_by mask) 0x59 0x02 0xFF matched by_mask_wants

    pub by_mask_14 : (b : Beside) → counts_fit b.counts ≡ true → 3 ≤ length b.room
        → length b.room < 3 + 4 * length matched → TooLong (list_by mask) b
    by_mask_14 = list_14 (list_by mask) 0x59 0x02 0xFF matched by_mask_wants

    pub by_mask_lines : (b : Beside) → counts_fit b.counts ≡ true → 3 ≤ length b.room → ¬ TooLong (list_by mask) b
        → lines_in (ask (list_by mask) b) ≡ map line matched
    by_mask_lines = list_lines (list_by mask) 0x59 0x02 0xFF matched by_mask_wants

  -- ---- `19 0A`

  abbrev pub every : List ℕ
  every = rising (events cfg)

  all_wants : Wants list_events (0x59 ∷ 0x0A ∷ 0xFF ∷ flat_map line every)
  all_wants = record {
    asked = λ e. omega arith;
    due = record {
      sized = record { service_19 = refl; more = λ e. omega arith; must_have = length_of_0a refl };
      asks = list_all refl;
    };
    plain = omega arith;
  }

  pub all_value : (b : Beside) → counts_fit b.counts ≡ true → 3 + 4 * length every ≤ length b.room
      → (ask list_events b).value ≡ 3 + 4 * length every
  all_value = list_value list_events 0x59 0x0A 0xFF every all_wants

  pub all_14 : (b : Beside) → counts_fit b.counts ≡ true → 3 ≤ length b.room
      → length b.room < 3 + 4 * length every → TooLong list_events b
  all_14 = list_14 list_events 0x59 0x0A 0xFF every all_wants

  pub all_lines : (b : Beside) → counts_fit b.counts ≡ true → 3 ≤ length b.room → ¬ TooLong list_events b
      → lines_in (ask list_events b) ≡ map line every
  all_lines = list_lines list_events 0x59 0x0A 0xFF every all_wants
