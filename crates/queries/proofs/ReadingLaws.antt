-- Laws of specs/Reading.antt: a part of a block, what a passed judgement gives, and what each call answers.
use mathlib.Core.Path.{◌≡◌, refl, sym, ap, ◌∙◌}
use mathlib.Core.Bool.{true, not, cond}
use mathlib.Core.Logic.{⊎_elim}
use mathlib.Core.List.{List, [], ◌∷◌}
use Prim.Native.Nat.{ℕ, ◌+◌, ◌-◌, ◌*◌, ◌≤◌, ◌<◌}
use native.Mathlib.Omega.{arith}
use lib.Dec.{eqb}
use lib.IntN.{ℤ, pos, negsuc}
use lib.ListN.{length, take, drop, length-drop}
use lib.Seq.{take-take, take-add, drop_at, drop-drop, length-take-le}
use mir.Syntax.{w8}
use mir.Val.{SFits}
use borrow.Author.Tests.{le-leb, lt-leb, leb-true, leb-false, not-false}
use Rattle.std.specs.Prelude.{Option, Some, None, unwrap_or, Ok, Err}
use Rattle.std.specs.Borrow.{Bor}
use Rattle.std.specs.List.{slice_range}
use Rattle.std.specs.Slice.{IsGetRangeResult}
use Rattle.history.specs.Words.{any_of}
use Rattle.manual.specs.declared.Place.{Place}
use Rattle.manual.specs.declared.StillMissing.{StillMissing}
use Rattle.manual.specs.declared.Refusal.{Refusal}
use Rattle.manual.specs.declared.Refusal.TheVariants.{NoEntry}
use Rattle.manual.specs.declared.Verdict.{Verdict}
use Rattle.manual.specs.declared.Which.{Which}
use Rattle.manual.specs.declared.Which.TheVariants.{First, Latest}
use Rattle.manual.specs.Configuration.{Configuration, most_events, most_places, most_frame, most_payload, events}
use Rattle.manual.specs.Configuration.{frame_bytes}
use Rattle.manual.specs.Configuration.{entry_frames, needed_of, config_ok}
use Rattle.manual.specs.State.{State, status_byte}
use Rattle.manual.specs.Memory.{entries_of, is_of, entry_for}
use Rattle.manual.specs.WellFormed.{entries, well_formed}
use Rattle.manual.specs.Answers.{alone, Outcome, refused, Rule, ◌if◌, first_that_applies, number_of, answered, leaves}
use Rattle.manual.specs.Words.{between}
use Rattle.manual.specs.Conditions.{missing_of, lowest_missing_of}
use Rattle.manual.specs.Missing.{read_missing_rules, read_missing, told, missing_read}
use Rattle.manual.specs.Counter.{counter_in, read_counter_rules, read_counter, counted, counter_read}
use Rattle.manual.specs.Calls.{chosen, frame_of, begins, no_such_event, read_status_rules, read_status, read_frame_rules}
use Rattle.manual.specs.Calls.{read_frame}
use Rattle.manual.proofs.WordsLaws.{first_none, first_some, between_from, between_to}
use Rattle.manual.proofs.AnswersLaws.{first_of_both, none_applies, goes_through, stops_with}
use Rattle.manual.proofs.OneOutcomeOnly.{not_done}
use Rattle.manual.proofs.ConfigurationLaws.{config_tells}
use Rattle.manual.proofs.CounterOfAState.{in_a_byte}
use Rattle.memory.specs.Places.{Find, frame_at, place_of}
use Rattle.memory.specs.Fits.{EntriesFit, PlaceFits}
use Rattle.memory.proofs.PlacesLaws.{entries_fit, entry_within, entries_are_count, frame_is_at, found, found_nothing}
use Rattle.queries.specs.Reading.{four, part_at, says, skipped, chosen_part, frame_start, entry_answer, placed}
use Rattle.queries.specs.Reading.{frame_read}
use Rattle.queries.specs.Reading as Reading

-- ---- a part of a block

module _ (start size : ℕ) (m : List ℕ) where
  pub part_within : start + size ≤ length m → take size (drop start m) ≡ part_at start size m
  unfolding part_at
  part_within h = rw (le-leb (start + size) (length m) h)

  pub part_beyond : length m < start + size → [] ≡ part_at start size m
  unfolding part_at
  part_beyond h = rw (lt-leb (start + size) (length m) h)

-- what is got of the rest of a block, which begins at the start
pub part_got : (start size : ℕ) (m behind : List ℕ) (got : Option (Bor (List ℕ))) (none : Bor (List ℕ)) → none.now ≡ []
    → behind ≡ slice_range m start (length m) → length behind + start ≡ length m → IsGetRangeResult behind 0 size got
    → (unwrap_or got none).now ≡ part_at start size m
part_got start size m behind (Some x) none e b l (g, _) =
    let all : size - 0 ≡ size = omega arith in
    g.2 ∙ (λ i. take (all i) (b i)) ∙ take-take size (length m - start) (drop start m) (omega (arith, g.1, l))
    ∙ part_within start size m (omega (arith, g.1, l))
part_got start size m behind None none e b l (g, _) =
    e ∙ ⊎_elim (λ h. absurd (omega (arith, h))) (λ h. part_beyond start size m (omega (arith, h, l))) g

-- ---- the answer of a search

-- W' and F' were read from the configuration
module _ (cfg : Configuration) (e : ℕ) (which : Which) (m : List ℕ) {W' F' : ℕ} (w : W' ≡ entry_frames cfg)
    (f : F' ≡ frame_bytes cfg) where
  pub found_most : EntriesFit (entry_frames cfg) m → (p : Place) → place_of e (entries_of W' m) ≡ Some p
      → (W' ≤ most_payload) × ((F' ≤ most_frame) × (p.0 ≤ most_places))
  found_most fits p q =
      let inside = (found (is_of e) (entries_of W' m) p q).inside in
      let most = fits.count_most in
      let few = fits.payload_most in
      (rw w few, (omega (arith, f, few), omega (arith, entries_are_count W' m)))

-- the chosen frame of two that stand at the front of some bytes
chosen_is : (which : Which) (F : ℕ) (l : List ℕ) → 2 * F ≤ length l
    → take F (drop (skipped which F) l) ≡ chosen which F (take (2 * F) l)
chosen_is First F l h = sym (take-take F (2 * F) l (omega arith))
chosen_is Latest F l h =
    let twice : 2 * F ≡ F + F = omega arith in
    sym
    (ap (λ (k : ℕ). drop F (take k l)) twice ∙ ap (drop F) (take-add F F l)
    ∙ drop_at (take F l) (take F (drop F l)) F (length-take-le F l (omega (arith, h))))

pub skipped_most : (which : Which) (F : ℕ) → skipped which F ≤ F
skipped_most First F = omega arith
skipped_most Latest F = omega arith

-- "read frame 4, 10"
abbrev ten : Configuration → State → ℕ → List Rule
ten cfg s e = (10 if not (any_of (is_of e) (entries cfg s))) ∷ []

then_ten : (cfg : Configuration) (s : State) (e : ℕ)
    → let first = first_that_applies (begins cfg s true (four (no_such_event cfg e))) in
    first_that_applies (read_frame_rules cfg e s) ≡ cond (eqb first 0) (first_that_applies (ten cfg s e)) first
unfolding read_frame_rules
then_ten cfg s e = first_of_both (begins cfg s true (four (no_such_event cfg e))) (ten cfg s e) refl

-- a refused read says no place
refused_is : (r : Refusal) (s : State) (o : Outcome) (start size : ℕ) → refused (number_of r) alone s ≡ o
    → says (Err r) s ≡ placed o start size
refused_is r s o start size q =
    let here : says (Err r) s ≡ placed (refused (number_of r) alone s) start size = rw (not_done r) in
    here ∙ ap (λ (o : Outcome). placed o start size) q

-- ---- where 2, 3 and 4 do not apply

module _ (cfg : Configuration) (s : State) (e : ℕ)
    (z : first_that_applies (begins cfg s true (four (no_such_event cfg e))) ≡ 0) where
  pub may_seek : EntriesFit (entry_frames cfg) s.memory
  may_seek =
      entries_fit cfg s (not-false (config_ok cfg) (none_applies _ z refl 0))
      (not-false (well_formed cfg s) (none_applies _ z refl 1))

  pub status_is : {byte : ℕ} → byte ≡ status_byte s e
      → leaves (answered 0 Verdict.None byte) [] alone s ≡ read_status cfg e alone s
  unfolding read_status read_status_rules
  status_is q = ap (λ (b : ℕ). leaves (answered 0 Verdict.None b) [] alone s) q ∙ sym (goes_through _ alone s _ z)

  -- the event is one of the configuration's, and its counter fits a byte with a sign
  pub event_inside : e < events cfg
  event_inside = leb-false _ _ (none_applies _ z refl 2)

  pub event_most : e < most_events
  event_most =
      let most =
      (config_tells cfg (not-false (config_ok cfg) (none_applies _ z refl 0))).n_most in omega (arith, event_inside)

  pub counter_small : between (negsuc 127) (pos 127) (counter_in cfg s e) ≡ true
  counter_small =
      in_a_byte cfg s (not-false (config_ok cfg) (none_applies _ z refl 0))
      (not-false (well_formed cfg s) (none_applies _ z refl 1)) e event_inside

  pub counter_is : {counter : ℤ} → counter ≡ counter_in cfg s e
      → Reading.tells (Ok counter) s ≡ counter_read cfg e alone s
  unfolding counter_read read_counter read_counter_rules
  counter_is q = let o = sym (goes_through _ alone s _ z) in (λ i. counted (o i) (q i))

  pub missing_is : (present : ℕ) (still : StillMissing)
      → (still.count ≡ missing_of (needed_of cfg e) present) × (still.lowest ≡ lowest_missing_of (needed_of cfg e) present)
      → Reading.tells_missing (Ok still) s ≡ missing_read cfg e present alone s
  unfolding missing_read read_missing read_missing_rules
  missing_is present still (p, q) =
      (λ i. told (leaves (answered 0 Verdict.None (p i)) [] alone s) (q i))
      ∙ ap (λ (o : Outcome). told o (lowest_missing_of (needed_of cfg e) present)) (sym (goes_through _ alone s _ z))

  only_ten : first_that_applies (read_frame_rules cfg e s) ≡ first_that_applies (ten cfg s e)
  only_ten = then_ten cfg s e ∙ rw z

  -- the event has an entry
  frame_there : (which : Which) (p : Place) → place_of e (entries cfg s) ≡ Some p
      → let start = frame_at (entry_frames cfg) p + skipped which (frame_bytes cfg) in
      leaves (answered 0 Verdict.None 0) (part_at start (frame_bytes cfg) s.memory) alone s ≡ read_frame cfg e which alone s
  unfolding read_frame first_that_applies
  frame_there which p q =
      let own = found (is_of e) (entries cfg s) p q in
      let fits : PlaceFits (entry_frames cfg) s.memory p.0 =
      record {
        entries = may_seek;
        below = omega (arith, own.inside, entries_are_count (entry_frames cfg) s.memory);
      } in
      let F = frame_bytes cfg in
      let at = frame_at (entry_frames cfg) p in
      let within = entry_within (entry_frames cfg) p.0 s.memory fits in
      let behind : 2 * F ≤ length (drop at s.memory) = omega (arith, within, length-drop at s.memory) in
      let part : part_at (at + skipped which F) F s.memory ≡ frame_of which F (entry_for e (entries cfg s)) =
      sym (part_within _ _ _ (omega (arith, within, skipped_most which F)))
      ∙ ap (take F) (sym (drop-drop (skipped which F) at s.memory)) ∙ chosen_is which F (drop at s.memory) behind
      ∙ ap (chosen which F) (sym (frame_is_at (entry_frames cfg) s.memory p.0 fits.below))
      ∙ ap (frame_of which F) (sym own.first) in
      ap (λ (l : List ℕ). leaves (answered 0 Verdict.None 0) l alone s) part
      ∙ sym (goes_through _ alone s _ (only_ten ∙ rw (first_some (is_of e) (entries cfg s) _ own.first)))

  -- it has none
  frame_nowhere : (which : Which) → place_of e (entries cfg s) ≡ None
      → refused 10 alone s ≡ read_frame cfg e which alone s
  unfolding read_frame first_that_applies
  frame_nowhere which q =
      stops_with _ alone s _ NoEntry
      (sym (only_ten ∙ rw (first_none (is_of e) (entries cfg s) (found_nothing (is_of e) (entries cfg s) q))))

  pub frame_is : (which : Which)
      → says (entry_answer (entry_frames cfg) (frame_bytes cfg) which (place_of e (entries cfg s))) s
      ≡ frame_read cfg e which s
  unfolding frame_read
  frame_is which = go (place_of e (entries cfg s)) refl
    where
      go : (f : Find) → place_of e (entries cfg s) ≡ f
          → says (entry_answer (entry_frames cfg) (frame_bytes cfg) which f) s
          ≡ placed (read_frame cfg e which alone s)
          (frame_start (entry_frames cfg) (frame_bytes cfg) which (place_of e (entries cfg s))) (frame_bytes cfg)
      go (Some p) q =
          λ i. placed (frame_there which p q i) (frame_start (entry_frames cfg) (frame_bytes cfg) which (sym q i))
          (frame_bytes cfg)
      go None q = refused_is NoEntry s _ _ _ (frame_nowhere which q)

-- ---- where 2, 3 or 4 applies

module _ (cfg : Configuration) (s : State) (e : ℕ) (r : Refusal)
    (q : number_of r ≡ first_that_applies (begins cfg s true (four (no_such_event cfg e)))) where
  pub status_refused : refused (number_of r) alone s ≡ read_status cfg e alone s
  unfolding read_status read_status_rules
  status_refused = stops_with _ alone s _ r q

  pub counter_refused : Reading.tells (Err r) s ≡ counter_read cfg e alone s
  unfolding counter_read read_counter read_counter_rules
  counter_refused =
      let here : Reading.tells (Err r) s
      ≡ counted (refused (number_of r) alone s) (counter_in cfg s e) =
      rw (not_done r) in
      here ∙ ap (λ (o : Outcome). counted o (counter_in cfg s e)) (stops_with _ alone s _ r q)

  pub missing_refused : (present : ℕ)
      → Reading.tells_missing (Err r) s ≡ missing_read cfg e present alone s
  unfolding missing_read read_missing read_missing_rules
  missing_refused present =
      let lowest = lowest_missing_of (needed_of cfg e) present in
      let here : Reading.tells_missing (Err r) s ≡ told (refused (number_of r) alone s) lowest =
      rw (not_done r) in
      here ∙ ap (λ (o : Outcome). told o lowest) (stops_with _ alone s _ r q)

  pub frame_refused : (which : Which) → says (Err r) s ≡ frame_read cfg e which s
  unfolding frame_read read_frame
  frame_refused which = refused_is r s _ _ _ (stops_with _ alone s _ r (sym (then_ten cfg s e ∙ rw (← q, not_done r))))

-- a number from −128 to 127 fits a byte with a sign
pub small_fits : (z : ℤ) → between (negsuc 127) (pos 127) z ≡ true → SFits w8 z
small_fits (pos n) t = record { sfits = omega (arith, leb-true n 127 (between_to (negsuc 127) (pos 127) (pos n) t)) }
small_fits (negsuc n) t =
    record { sfits = omega (arith, leb-true n 127 (between_from (negsuc 127) (pos 127) (negsuc n) t)) }
