-- The replies of service 19 agree. The number in the reply to `19 01 mask` is the number of lines in the reply to
-- `19 02 mask`, for which a room of 3 bytes and 4 a line is enough, and no smaller one. The reply to `19 0A` has one
-- line for each event, rising: its trouble code, high byte first, and its status. The lines of the reply to
-- `19 02 mask` are those of the reply to `19 0A` whose status shares a set bit with the mask. Five counts are lent.
use mathlib.Core.Path.{◌≡◌, refl, sym, ap, ◌∙◌}
use mathlib.Core.Bool.{Bool, true}
use mathlib.Core.List.{List, []}
use Prim.Native.Nat.{ℕ, ◌+◌, ◌*◌, ◌≤◌, ◌<◌}
use native.Mathlib.Omega.{arith}
use lib.ListN.{length, get_or, length-map}
use Rattle.manual.specs.Words.{those}
use Rattle.manual.specs.Configuration.{Configuration, events, config_ok}
use Rattle.manual.specs.State.{State}
use Rattle.manual.specs.WellFormed.{well_formed}
use Rattle.manual.specs.Answers.{Beside, Outcome}
use Rattle.manual.specs.Counts.{counts_fit}
use Rattle.manual.specs.Diagnostics.{request_reply}
use Rattle.manual.specs.Replies.{shares_bit, number_by, list_by, list_events, reply_in, lines_in}
use Rattle.manual.specs.Replies.{status_in, number_in, Tells, refused_with}
use Rattle.manual.proofs.RepliesLaws.{rising_length, rising_at, map_at, those_map}
use Rattle.manual.proofs.ListedRepliesLaws as Laws

module _ (cfg : Configuration) (s : State) (configured : config_ok cfg ≡ true) (formed : well_formed cfg s ≡ true) where
  abbrev ask : List ℕ → Beside → Outcome
  ask request b = request_reply cfg request b s

  -- "one longer than the room: code 14"
  abbrev TooLong : List ℕ → Beside → Type 0
  TooLong request b = ask request b ≡ refused_with cfg request s b 0x14

  abbrev line : ℕ → List ℕ
  line = Laws.line cfg s configured formed

  abbrev every : List ℕ
  every = Laws.every cfg s configured formed

  -- ---- `19 01 mask` and `19 02 mask`

  module _ (mask : ℕ) where
    abbrev matched : List ℕ
    matched = Laws.matched cfg s configured formed mask

    -- the number takes 6 bytes of room, two of them its own
    pub number_in_two_bytes : (b : Beside) → counts_fit b.counts ≡ true → 6 ≤ length b.room
        → ((ask (number_by mask) b).value ≡ 6)
        × (get_or (reply_in (ask (number_by mask) b)) 4 0 < 256)
        × (get_or (reply_in (ask (number_by mask) b)) 5 0 < 256)
    number_in_two_bytes b five six =
        let most = Laws.matched_most cfg s configured formed mask in
        rw (Laws.number_sent cfg s configured formed mask b five six) (refl, omega arith, omega arith)

    pub number_too_long : (b : Beside) → counts_fit b.counts ≡ true → 3 ≤ length b.room → length b.room < 6
        → TooLong (number_by mask) b
    number_too_long = Laws.number_14 cfg s configured formed mask

    module _ (b₁ b₂ : Beside) (five₁ : counts_fit b₁.counts ≡ true) (five₂ : counts_fit b₂.counts ≡ true)
        (six : 6 ≤ length b₁.room) where
      abbrev told : ℕ
      told = number_in (ask (number_by mask) b₁)

      told_is : told ≡ length matched
      told_is = ap number_in (Laws.number_sent cfg s configured formed mask b₁ five₁ six) ∙ omega arith

      pub number_is_lines : 3 ≤ length b₂.room → ¬ TooLong (list_by mask) b₂
          → told ≡ length (lines_in (ask (list_by mask) b₂))
      number_is_lines h n =
          told_is
          ∙ sym (ap length (Laws.by_mask_lines cfg s configured formed mask b₂ five₂ h n) ∙ length-map matched line)

      pub number_is_length : 3 + 4 * told ≤ length b₂.room → (ask (list_by mask) b₂).value ≡ 3 + 4 * told
      number_is_length = rw told_is (Laws.by_mask_value cfg s configured formed mask b₂ five₂)

      pub list_too_long : 3 ≤ length b₂.room → length b₂.room < 3 + 4 * told → TooLong (list_by mask) b₂
      list_too_long = rw told_is (Laws.by_mask_14 cfg s configured formed mask b₂ five₂)

  -- ---- `19 0A`

  module _ (b : Beside) (five : counts_fit b.counts ≡ true) where
    pub all_is_length : 3 + 4 * events cfg ≤ length b.room → (ask list_events b).value ≡ 3 + 4 * events cfg
    all_is_length = rw (rising_length (events cfg)) at (Laws.all_value cfg s configured formed b five)

    pub all_too_long : 3 ≤ length b.room → length b.room < 3 + 4 * events cfg → TooLong list_events b
    all_too_long = rw (rising_length (events cfg)) at (Laws.all_14 cfg s configured formed b five)

    module _ (least : 3 ≤ length b.room) (sent : ¬ TooLong list_events b) where
      pub as_many_lines_as_events : length (lines_in (ask list_events b)) ≡ events cfg
      as_many_lines_as_events =
          ap length (Laws.all_lines cfg s configured formed b five least sent)
          ∙ length-map every line
          ∙ rising_length (events cfg)

      line_is : (e : ℕ) → e < events cfg → get_or (lines_in (ask list_events b)) e [] ≡ line e
      line_is e h =
          ap (λ (l : List (List ℕ)). get_or l e []) (Laws.all_lines cfg s configured formed b five least sent)
          ∙ map_at line every e (rw (rising_length (events cfg)) h)
          ∙ ap line (rising_at (events cfg) e h)

      pub line_of_event : (e : ℕ) → e < events cfg → Tells cfg s e (get_or (lines_in (ask list_events b)) e [])
      line_of_event e h = rw (line_is e h) (Laws.line_tells cfg s configured formed e h)

  -- ---- `19 02 mask` and `19 0A`

  module _ (mask : ℕ) (b₁ b₂ : Beside) (five₁ : counts_fit b₁.counts ≡ true) (five₂ : counts_fit b₂.counts ≡ true)
      (least₁ : 3 ≤ length b₁.room) (least₂ : 3 ≤ length b₂.room) where
    abbrev shares : List ℕ → Bool
    shares l = shares_bit (status_in l) mask

    pub the_others_left_out : ¬ TooLong (list_by mask) b₁ → ¬ TooLong list_events b₂
        → lines_in (ask (list_by mask) b₁) ≡ those shares (lines_in (ask list_events b₂))
    the_others_left_out n₁ n₂ =
        Laws.by_mask_lines cfg s configured formed mask b₁ five₁ least₁ n₁
        ∙ sym (ap (those shares) (Laws.all_lines cfg s configured formed b₂ five₂ least₂ n₂)
        ∙ those_map line shares every)
