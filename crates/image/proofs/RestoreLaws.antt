-- Laws of restore: what its judge gives, and that what it writes is the state that the image tells.
use mathlib.Core.Path.{◌≡◌, refl, sym, ap, subst, ◌∙◌}
use mathlib.Core.Logic.{◌⊎◌, inl, inr}
use mathlib.Core.Bool.{Bool, true, not}
use mathlib.Core.List.{List, [], ◌∷◌, ◌++◌, map, append-nil}
use Prim.Native.Nat.{ℕ, ◌+◌, ◌-◌, ◌*◌, ◌≤◌}
use native.Mathlib.Nat.{mul_comm, mul-sub, mul-le-mul_left}
use native.Mathlib.Omega.{arith}
use lib.Dec.{eqb}
use lib.IntN.{ℤ, pos}
use lib.ListN.{length, get_or, take, drop, replicate, length-append, length-drop, drop_of_length-le}
use lib.Seq.{take_at}
use borrow.Author.Tests.{not-false}
use Rattle.manual.specs.declared.Board.{Board}
use Rattle.manual.specs.declared.Refusal.{Refusal}
use Rattle.manual.specs.Configuration.{Configuration, most_places, events, places, frame_bytes, entry_frames, config_ok}
use Rattle.manual.specs.State.{State, lent, all_stopped, record_width, with_memory}
use Rattle.manual.specs.WellFormed.{lengths_fit, entries}
use Rattle.manual.specs.Memory.{Entry, entry_width, entry_count, bytes_in_use, entries_of}
use Rattle.manual.specs.OneEvent.{with_entries}
use Rattle.manual.specs.Answers.{lent_counts, done, refused, Rule, ◌if◌, first_that_applies, number_of}
use Rattle.manual.specs.Counts.{counts_fit, present_counts}
use Rattle.manual.specs.Calls.{begins_with_lengths}
use Rattle.manual.specs.Image.{header_length, Edition, edition1, edition2, with_both, records_of, state_in, acceptable_in}
use Rattle.manual.specs.Image.{Still, widened, state_of, acceptable, restore_rules, restored_to, restore}
use Rattle.manual.proofs.AnswersLaws.{none_applies, three_passed, goes_through, stops_with}
use Rattle.manual.proofs.ConfigurationLaws.{config_tells}
use Rattle.manual.proofs.AcceptedImages.{in_one, state_1, state_2, accepted_state}
use Rattle.manual.proofs.WellFormedLaws.{lengths_tell, state_tells}
use Rattle.counts.specs.Near.{AreFive}
use Rattle.counts.proofs.NearLaws.{are_five}
use Rattle.judgement.proofs.BeginLaws.{begun_with_lengths, after_lengths_go, after_lengths_stop}
use Rattle.writing.specs.Writing as writing
use Rattle.writing.specs.Writing.{written, append, filled}
use Rattle.writing.proofs.WritingLaws.{append_filled}
use Rattle.std.specs.Prelude.{Result, Ok, Err}
use Rattle.image.specs.declared.Edition as declared
use Rattle.image.specs.Editions.{Judged, judged_number}
use Rattle.image.specs.Layout.{memory_at, length_ok}
use Rattle.image.specs.Widened.{widened_bytes, made_of}
use Rattle.image.specs.Ready.{Counted, Fillable, Restorable}
use Rattle.image.proofs.LayoutLaws.{Fitting, used_part, flag_byte, header_part}
use Rattle.image.proofs.LayoutLaws.{parts_fit, parts_joined, length_least}
use Rattle.image.proofs.JudgementLaws.{accepted_length, byte_1_is, records_cut, used_cut, told, state_in_lem}
use Rattle.image.proofs.WidenedLaws.{made_of_1, made_of_other, widened_long, widened_memory}
use Rattle.memory.proofs.PlacesLaws.{entries_are_count}
use Rattle.memory.proofs.JudgementLaws.{entries_in_front}
use Rattle.writing.specs.Filled.{filled_from}

-- ---- the judge

module _ (cfg : Configuration) (image counts : List ℕ) (s : State) where
  abbrev rules : List Rule
  rules = restore_rules cfg image (lent_counts counts) s

  -- the rule of its own
  abbrev eight : List Rule
  eight = (8 if not (acceptable cfg image)) ∷ []

  module _ {fits : Bool} (f : fits ≡ counts_fit counts) where
    rules_are : first_that_applies (begins_with_lengths cfg s fits eight) ≡ first_that_applies rules
    unfolding restore_rules
    rules_are = ap (λ (x : Bool). first_that_applies (begins_with_lengths cfg s x eight)) f

    module _ (go : 0 ≡ first_that_applies (begins_with_lengths cfg s fits [])) where
      pub begun_accepted : config_ok cfg ≡ true
      begun_accepted = (begun_with_lengths cfg s fits (sym go)).0

      pub judged_image : (r : Result declared.Edition Refusal) → Judged cfg image r → judged_number r ≡ first_that_applies rules
      unfolding first_that_applies
      judged_image (Ok e) j = sym (after_lengths_go cfg s fits eight (sym go) ∙ rw j.0) ∙ rules_are
      judged_image (Err r) j =
          ap number_of j.1 ∙ sym (after_lengths_go cfg s fits eight (sym go) ∙ rw j.0) ∙ rules_are

    pub judged_stop : (r : Refusal) → number_of r ≡ first_that_applies (begins_with_lengths cfg s fits [])
        → number_of r ≡ first_that_applies rules
    judged_stop r e = sym (after_lengths_stop cfg s fits eight r e) ∙ rules_are

  -- ---- the call

  module _ (z : 0 ≡ first_that_applies rules) where
    -- what is lent has its length
    lengths_right : (counts_fit counts ≡ true) × (lengths_fit cfg s ≡ true)
    unfolding restore_rules
    lengths_right = three_passed (counts_fit counts) (lengths_fit cfg s) (none_applies _ (sym z) refl 1)

    pub restore_ready : Restorable cfg s.records s.debounce s.memory image
    unfolding restore_rules
    restore_ready =
        let none = none_applies _ (sym z) refl in
        let t = lengths_tell cfg s lengths_right.1 in
        record {
          accepted = not-false (config_ok cfg) (none 0);
          records_as_long = t.records;
          debounce_as_long = t.debounce;
          memory_as_long = t.memory;
          image_accepted = not-false (acceptable cfg image) (none 2);
        }

    pub restore_five : AreFive counts
    restore_five = are_five counts lengths_right.0

    module _ {s' : State} (p : s' ≡ state_of cfg image) where
      -- memory of the state that it makes
      pub restored_counted : Counted cfg s'.memory
      restored_counted =
          let t =
          state_tells cfg s'
          (subst (Still cfg) (sym p) (accepted_state cfg image restore_ready.image_accepted)).formed in
          record {
            accepted = restore_ready.accepted;
            some = omega (arith, t.lengths.memory);
            few = t.few;
          }

      pub few_enough : entry_count s'.memory ≤ most_places
      few_enough = omega (arith, restored_counted.few, (config_tells cfg restore_ready.accepted).M_most)

      -- W7: "A restore sets admitted to the entries present and the rest to 0"
      pub restore_done : {present : ℕ} {counts' : List ℕ} → present ≡ entry_count s'.memory
          → ((xs : List Entry) → length xs ≡ present → counts' ≡ present_counts xs)
          → done (lent_counts counts') s' ≡ restore cfg image (lent_counts counts) s
      unfolding restore
      restore_done n q =
          ap (λ (l : List ℕ). done (lent_counts l) s') (q (entries cfg s') (entries_are_count _ s'.memory ∙ sym n))
          ∙ ap (λ (t : State). restored_to cfg t (lent_counts counts)) p
          ∙ sym
          (goes_through _ (lent_counts counts) s (restored_to cfg (state_of cfg image) (lent_counts counts)) (sym z))

  pub restore_left : (r : Refusal) → number_of r ≡ first_that_applies rules
      → refused (number_of r) (lent_counts counts) s ≡ restore cfg image (lent_counts counts) s
  unfolding restore
  restore_left r e = stops_with _ _ _ _ r e

  -- the judge reads the state as it is lent
  pub as_read : {found : State} → found ≡ s → {number : ℕ}
      → number ≡ first_that_applies (restore_rules cfg image (lent_counts counts) found)
      → number ≡ first_that_applies rules
  as_read same e = e ∙ ap (λ (x : State). first_that_applies (restore_rules cfg image (lent_counts counts) x)) same

-- ---- what is written

-- a body over a whole block
whole_written : (xs block : List ℕ) {next : ℕ} {after : List ℕ} → length xs ≡ length block
    → written next after ≡ append xs (written 0 block) → after ≡ xs
unfolding filled
whole_written xs block h e =
    ap (λ (w : writing.Written). w.room) (e ∙ append_filled xs block (omega arith))
    ∙ ap (λ (l : List ℕ). xs ++ l) (drop_of_length-le block {i = length xs} (omega arith))
    ∙ append-nil xs

-- a body at the front of a block, and bytes 0 behind it
pub front_written : (xs block : List ℕ) {next : ℕ} {between after : List ℕ} → length xs ≤ length block
    → written next between ≡ append xs (written 0 block)
    → after ≡ filled_from 0 next between → after ≡ xs ++ replicate (length block - length xs) 0
unfolding filled filled_from
front_written xs block h e q =
    let w = e ∙ append_filled xs block h in
    q
    ∙ ap (λ (w : writing.Written). take w.next w.room ++ replicate (length w.room - w.next) 0) w
    ∙
    (λ i. take_at xs (drop (length xs) block) (length xs) refl i
    ++ replicate (ap (λ (k : ℕ). k - length xs) long i) 0)
  where
    long : length (xs ++ drop (length xs) block) ≡ length block
    long = simp (length-append, length-drop) (omega arith)

-- an accepted image of one edition, and blocks that fit the configuration
module _ (cfg : Configuration) (ed : Edition) (image : List ℕ) (a : acceptable_in cfg ed image ≡ true) where
  right_length : length_ok cfg ed.payload image ≡ true
  right_length = accepted_length cfg ed image a

  abbrev used : List ℕ
  used = used_part cfg ed.payload image right_length

  abbrev fits : Fitting cfg ed.payload (header_part cfg ed.payload image right_length) (records_of cfg image) used
  fits = parts_fit cfg ed.payload image right_length

  abbrev told_by : State
  told_by =
      told cfg ed (header_part cfg ed.payload image right_length) (records_of cfg image) used
      (flag_byte cfg ed.payload image right_length) fits

  state_is : state_in cfg ed image ≡ told_by
  state_is =
      ap (state_in cfg ed) (sym (parts_joined cfg ed.payload image right_length))
      ∙ state_in_lem cfg ed (header_part cfg ed.payload image right_length) (records_of cfg image) used
      (flag_byte cfg ed.payload image right_length) fits

  -- all but memory
  made_around : (records : List ℕ) (debounce : List ℤ) {records' memory' : List ℕ} {debounce' : List ℤ}
      {board' : Board} {start next : ℕ}
      → start ≡ memory_at cfg
      → length records ≡ record_width * events cfg
      → length debounce ≡ events cfg
      → written next records' ≡ append (take (start - header_length) (drop header_length image)) (written 0 records)
      → debounce' ≡ replicate (length debounce) (pos 0)
      → board' ≡ record { running = all_stopped; overflow = eqb (get_or image (length image - 1) 0) 1 }
      → lent records' debounce' memory' board' ≡ with_memory memory' (state_in cfg ed image)
  made_around records debounce {memory'} at records_as_long debounce_as_long p d b =
      let body =
      p
      ∙ ap (λ (l : List ℕ). append l (written 0 records)) (records_cut cfg ed.payload image right_length at) in
      let records-are = whole_written (records_of cfg image) records (fits.records_long ∙ sym records_as_long) body in
      let numbers-are = d ∙ ap (λ (k : ℕ). replicate k (pos 0)) debounce_as_long in
      (λ i. lent (records-are i) (numbers-are i) memory' (b i)) ∙ ap (with_memory memory') (sym state_is)

module _ (cfg : Configuration) (records : List ℕ) (debounce : List ℤ) (memory image : List ℕ)
    (r : Restorable cfg records debounce memory image) {start : ℕ} (at : start ≡ memory_at cfg) where
  abbrev As1 : Type 0
  As1 = acceptable_in cfg (edition1 cfg) image ≡ true

  abbrev As2 : Type 0
  As2 = acceptable_in cfg (edition2 cfg) image ≡ true

  one_of : As2 ⊎ As1
  one_of = in_one cfg image r.image_accepted

  abbrev cut : List ℕ
  cut = take (length image - 1 - start) (drop start image)

  -- the numbers that the code goes by
  pub end_least : start + 2 ≤ length image
  end_least = go one_of
    where
      least : (ed : Edition) → acceptable_in cfg ed image ≡ true → start + 2 ≤ length image
      least ed a = omega (arith, at, length_least cfg ed.payload image (accepted_length cfg ed image a))

      go : As2 ⊎ As1 → start + 2 ≤ length image
      go (inl a) = least (edition2 cfg) a
      go (inr a) = least (edition1 cfg) a

  -- ---- what body 2 makes

  cut_is : (ed : Edition) (a : acceptable_in cfg ed image ≡ true) → cut ≡ used cfg ed image a
  cut_is ed a = used_cut cfg ed.payload image (right_length cfg ed image a) at

  abbrev made : ℕ → List ℕ → List ℕ
  made F body = made_of (get_or image 1 0) F body

  -- with zeros behind it
  abbrev block : ℕ → List ℕ → List ℕ
  block F body = made F body ++ replicate (length memory - length (made F body)) 0

  -- memory holds as many entries with both frames
  block_holds : (k : ℕ) → k ≤ places cfg → bytes_in_use (entry_frames cfg) k ≤ length memory
  block_holds k h =
      let w = entry_width (entry_frames cfg) in
      omega (arith, mul-le-mul_left w h, mul_comm (places cfg) w, r.memory_as_long)

  module _ (a : As1) where
    abbrev F₁ : ℕ
    F₁ = frame_bytes cfg

    abbrev body₁ : List ℕ
    body₁ = used cfg (edition1 cfg) image a

    long₁ : length body₁ ≡ bytes_in_use F₁ (entry_count body₁)
    long₁ = (fits cfg (edition1 cfg) image a).used_long

    made₁ : made F₁ body₁ ≡ widened_bytes F₁ body₁
    made₁ = made_of_1 (get_or image 1 0) F₁ body₁ (byte_1_is cfg (edition1 cfg) image a)

    holds₁ : bytes_in_use (2 * F₁) (entry_count body₁) ≤ length memory
    holds₁ = block_holds (entry_count body₁) (fits cfg (edition1 cfg) image a).few

    fillable₁ : Fillable (get_or image 1 0) F₁ body₁ memory
    fillable₁ = record {
      of_edition_1 =
          λ e. record { small = (config_tells cfg r.accepted).F_most; as_long = long₁; within = holds₁ };
      within = omega (arith, ap length made₁, widened_long F₁ body₁ long₁, holds₁);
    }

    -- "its one frame becoming both"
    state₁ : with_memory (block F₁ body₁) (state_in cfg (edition1 cfg) image) ≡ state_of cfg image
    unfolding widened
    state₁ =
        let s = state_in cfg (edition1 cfg) image in
        let entries : entries_of F₁ s.memory ≡ entries_of F₁ body₁ =
        ap (λ (t : State). entries_of F₁ t.memory) (state_is cfg (edition1 cfg) image a)
        ∙ entries_in_front F₁ body₁ _ long₁ in
        ap (λ (l : List ℕ). with_memory l s)
        ((λ i. made₁ i ++ replicate (length memory - length (made₁ i)) 0)
        ∙ widened_memory F₁ body₁ long₁ (places cfg) memory r.memory_as_long)
        ∙ ap (λ (xs : List Entry). with_entries cfg (map with_both xs) s) (sym entries)
        ∙ sym (state_1 cfg image a)

  module _ (a : As2) where
    abbrev body₂ : List ℕ
    body₂ = used cfg (edition2 cfg) image a

    long₂ : length body₂ ≡ bytes_in_use (entry_frames cfg) (entry_count body₂)
    long₂ = (fits cfg (edition2 cfg) image a).used_long

    not_1 : get_or image 1 0 ≡ 1 → ⊥
    not_1 e = omega (arith, e, byte_1_is cfg (edition2 cfg) image a)

    made₂ : made (frame_bytes cfg) body₂ ≡ body₂
    made₂ = made_of_other (get_or image 1 0) (frame_bytes cfg) body₂ not_1

    fillable₂ : Fillable (get_or image 1 0) (frame_bytes cfg) body₂ memory
    fillable₂ = record {
      of_edition_1 = λ e. absurd (not_1 e);
      within =
          omega (
            arith,
            ap length made₂,
            long₂,
            block_holds (entry_count body₂) (fits cfg (edition2 cfg) image a).few,
          );
    }

    state₂ : with_memory (block (frame_bytes cfg) body₂) (state_in cfg (edition2 cfg) image) ≡ state_of cfg image
    state₂ =
        let w = entry_width (entry_frames cfg) in
        let zeros : length memory - length body₂ ≡ w * (places cfg - entry_count body₂) =
        omega
        (arith, r.memory_as_long, long₂, mul-sub w (places cfg) (entry_count body₂), mul_comm (places cfg) w) in
        ap (λ (l : List ℕ). with_memory l (state_in cfg (edition2 cfg) image))
        ((λ i. made₂ i ++ replicate (length memory - length (made₂ i)) 0)
        ∙ ap (λ (k : ℕ). body₂ ++ replicate k 0) zeros
        ∙ ap (λ (t : State). t.memory) (sym (state_is cfg (edition2 cfg) image a)))
        ∙ sym (state_2 cfg image a)

  module _ {F : ℕ} (f : F ≡ frame_bytes cfg) where
    body_is : (ed : Edition) (a : acceptable_in cfg ed image ≡ true)
        → ◌≡◌ {A = ℕ × List ℕ} (F, cut) (frame_bytes cfg, used cfg ed image a)
    body_is ed a = λ i. (f i, cut_is ed a i)

    fillable_told : Fillable (get_or image 1 0) F cut memory
    fillable_told = go one_of
      where
        told_of : (ed : Edition) (a : acceptable_in cfg ed image ≡ true)
            → Fillable (get_or image 1 0) (frame_bytes cfg) (used cfg ed image a) memory
            → Fillable (get_or image 1 0) F cut memory
        told_of ed a g =
            subst (λ (b : ℕ × List ℕ). Fillable (get_or image 1 0) b.0 b.1 memory) (sym (body_is ed a)) g

        go : As2 ⊎ As1 → Fillable (get_or image 1 0) F cut memory
        go (inl a) = told_of (edition2 cfg) a (fillable₂ a)
        go (inr a) = told_of (edition1 cfg) a (fillable₁ a)

    -- the edition that byte 1 tells
    module _ {number : ℕ} (told : get_or image 1 0 ≡ number) where
      pub fillable : Fillable number F cut memory
      fillable = subst (λ (n : ℕ). Fillable n F cut memory) told fillable_told

      pub restored_is : {records' memory' : List ℕ} {debounce' : List ℤ} {board' : Board} {next : ℕ}
          → written next records' ≡ append (take (start - header_length) (drop header_length image)) (written 0 records)
          → debounce' ≡ replicate (length debounce) (pos 0)
          → memory' ≡ made_of number F cut ++ replicate (length memory - length (made_of number F cut)) 0
          → board' ≡ record { running = all_stopped; overflow = eqb (get_or image (length image - 1) 0) 1 }
          → lent records' debounce' memory' board' ≡ state_of cfg image
      restored_is {records'} {memory'} {debounce'} {board'} p d m b = go one_of
        where
          as_told : made_of number F cut ++ replicate (length memory - length (made_of number F cut)) 0 ≡ block F cut
          as_told =
              ap (λ (n : ℕ). made_of n F cut ++ replicate (length memory - length (made_of n F cut)) 0) (sym told)

          state : (ed : Edition) (a : acceptable_in cfg ed image ≡ true)
              → lent records' debounce' memory' board'
              ≡ with_memory (block (frame_bytes cfg) (used cfg ed image a)) (state_in cfg ed image)
          state ed a =
              made_around cfg ed image a records debounce at r.records_as_long r.debounce_as_long p d b
              ∙ ap (λ (l : List ℕ). with_memory l (state_in cfg ed image))
              (m ∙ as_told ∙ (λ i. block (body_is ed a i).0 (body_is ed a i).1))

          go : As2 ⊎ As1 → lent records' debounce' memory' board' ≡ state_of cfg image
          go (inl a) = state (edition2 cfg) a ∙ state₂ a
          go (inr a) = state (edition1 cfg) a ∙ state₁ a
