-- Laws of specs/Page.antt: bits and their numbers, counts that rise event by event, what is written of an event, and
-- what each call answers.
use mathlib.Core.Path.{◌≡◌, refl, sym, ap, ◌∙◌}
use mathlib.Core.Logic.{◌≢◌, ◌⊎◌, inl, inr, ⊎_elim}
use mathlib.Core.Bool.{Bool, true, false, cond}
use mathlib.Core.List.{List, [], ◌∷◌}
use Prim.Native.Nat.{ℕ, zero, suc, ◌+◌, ◌-◌, ◌*◌, ◌/◌, ◌%◌, ◌≤◌, ◌<◌}
use native.Mathlib.Nat.{eq-or-lt_of_le}
use native.Mathlib.Omega.{arith}
use lib.Dec.{eqb, ltb}
use lib.IntN.{ℤ}
use lib.ListN.{length, get_or, set, take, drop, replicate, get_or-replicate, length-drop}
use lib.Seq.{ext_get_or, get_or-set_same, get_or-set_other, length-take-le}
use borrow.Rule.Slice.PartMut.{put_mid}
use Rattle.std.proofs.lemmas.List.{get_or-take, get_or-drop}
use Rattle.std.proofs.lemmas.Slice.{take-put_mid_below, between-put_mid, drop-put_mid}
use borrow.Author.Tests.{eq-eqb, ne_eqb, ltb-true, ltb-false, not-false}
use Rattle.std.specs.Prelude.{Ok, Err}
use Rattle.history.specs.StatusByte.{Bit, test_failed, test_failed_this_operation_cycle, pending_dtc, confirmed_dtc, weight}
use Rattle.history.specs.StatusByte.{test_not_completed_since_last_clear, test_failed_since_last_clear}
use Rattle.history.specs.StatusByte.{test_not_completed_this_operation_cycle, warning_indicator_requested}
use Rattle.history.proofs.StatusByteLaws.{each_bit}
use Rattle.manual.specs.declared.Board.{Board}
use Rattle.manual.specs.declared.Paint.{Paint}
use Rattle.manual.specs.declared.Refusal.{Refusal}
use Rattle.manual.specs.Words.{count_below}
use Rattle.manual.specs.Configuration.{Configuration, events, cycle_of, config_ok}
use Rattle.manual.specs.State.{State, lent, stored_at}
use Rattle.manual.specs.WellFormed.{well_formed}
use Rattle.manual.specs.Answers.{lent_room, alone, Outcome, refused, first_that_applies, number_of, of_length, leaves}
use Rattle.manual.specs.Calls.{begins, no_such_event}
use Rattle.manual.specs.Replies.{bit_at}
use Rattle.manual.specs.Untested.{bit_number, place_in, counts, count_of, table, is_grey, paint_of, grey_events}
use Rattle.manual.specs.Untested.{read_table_rules, read_table, read_paint_rules, read_paint, list_grey_rules, listed, list_grey}
use Rattle.manual.specs.Untested.{tabled, table_read, painted, paint_read}
use Rattle.manual.proofs.AnswersLaws.{none_applies, goes_through, stops_with}
use Rattle.manual.proofs.OneOutcomeOnly.{not_done}
use Rattle.manual.proofs.ConfigurationLaws.{config_tells}
use Rattle.manual.proofs.WellFormedLaws.{state_tells}
use Rattle.manual.proofs.BelowLaws.{count_none, count_more, count_most}
use Rattle.manual.proofs.UntestedLaws.{table_length, count_at}
use Rattle.config.proofs.PartLaws.{row_within}
use Rattle.writing.specs.Writing.{written, append, filled}
use Rattle.writing.specs.Writing as writing
use Rattle.judgement.specs.Fits.{RecordsFor}
use Rattle.queries.specs.Reading.{four}
use Rattle.queries.proofs.ReadingLaws.{event_inside}
use Rattle.untested.specs.Page.{RowFits, Risen, holding, any_board, CountsBelow, OneMore, EventWithin, MayList}
use Rattle.untested.specs.Page.{table_told, paint_told}

-- ---- the eight bits and their numbers

pub bit_at_number : (b : Bit) (byte : ℕ) → bit_at (bit_number b) byte ≡ byte / weight b % 2
unfolding bit_at
bit_at_number test_failed byte = omega arith
bit_at_number test_failed_this_operation_cycle byte = omega arith
bit_at_number pending_dtc byte = omega arith
bit_at_number confirmed_dtc byte = omega arith
bit_at_number test_not_completed_since_last_clear byte = omega arith
bit_at_number test_failed_since_last_clear byte = omega arith
bit_at_number test_not_completed_this_operation_cycle byte = omega arith
bit_at_number warning_indicator_requested byte = omega arith

number_below : (b : Bit) → bit_number b < 8
number_below =
    each_bit _ (omega arith) (omega arith) (omega arith) (omega arith) (omega arith) (omega arith) (omega arith)
    (omega arith)

the_bit : (j : ℕ) → j < 8 → (b : Bit) × (bit_number b ≡ j)
the_bit zero h = (test_failed, refl)
the_bit (suc zero) h = (test_failed_this_operation_cycle, refl)
the_bit (suc (suc zero)) h = (pending_dtc, refl)
the_bit (suc (suc (suc zero))) h = (confirmed_dtc, refl)
the_bit (suc (suc (suc (suc zero)))) h = (test_not_completed_since_last_clear, refl)
the_bit (suc (suc (suc (suc (suc zero))))) h = (test_failed_since_last_clear, refl)
the_bit (suc (suc (suc (suc (suc (suc zero)))))) h = (test_not_completed_this_operation_cycle, refl)
the_bit (suc (suc (suc (suc (suc (suc (suc zero))))))) h = (warning_indicator_requested, refl)
the_bit (suc (suc (suc (suc (suc (suc (suc (suc j)))))))) h = absurd (omega arith)

-- the bits of what is left of a byte, once its lowest are taken off
abbrev pub Left : ℕ → ℕ → ℕ → Type 0
Left byte k rest = (j : ℕ) → bit_at j rest ≡ bit_at (k + j) byte

pub left_whole : (byte : ℕ) → Left byte 0 byte
left_whole byte j = let e : j ≡ 0 + j = omega arith in ap (λ (i : ℕ). bit_at i byte) e

pub left_next : (byte k rest : ℕ) → Left byte k rest → Left byte (k + 1) (rest / 2)
unfolding bit_at
left_next byte k rest l j =
    let e : k + suc j ≡ k + 1 + j = omega arith in l (suc j) ∙ ap (λ (i : ℕ). bit_at i byte) e

left_lowest : (byte k rest : ℕ) → Left byte k rest → rest % 2 ≡ bit_at k byte
unfolding bit_at
left_lowest byte k rest l = let e : k + 0 ≡ k = omega arith in l 0 ∙ ap (λ (i : ℕ). bit_at i byte) e

-- ---- a row that rises

-- its first k counts have risen by the bits of the byte, and the others are as before
pub record Row (byte k : ℕ) (before after : List ℕ) : Type 0 where
  pub counted : (j : ℕ) → j < k → get_or after j 0 ≡ get_or before j 0 + bit_at j byte
  pub others : (j : ℕ) → k ≤ j → get_or after j 0 ≡ get_or before j 0

pub row_none : (byte : ℕ) (before : List ℕ) → Row byte 0 before before
row_none byte before = record { counted = λ j h. absurd (omega (arith, h)); others = λ j h. refl }

pub row_more : (byte k rest : ℕ) (before after : List ℕ) → Row byte k before after → Left byte k rest → k < length after
    → Row byte (k + 1) before (set after k (get_or after k 0 + rest % 2))
row_more byte k rest before after r l h = record {
  counted = λ j below. ⊎_elim (λ (q : j ≡ k). rw q here)
      (λ (q : j < k). get_or-set_other after k j new 0 (λ e. absurd (omega arith)) ∙ r.counted j q)
      (eq-or-lt_of_le (let b = below in omega arith));
  others = λ j above. get_or-set_other after k j new 0 (λ e. absurd (omega (arith, above)))
      ∙ r.others j (omega (arith, above));
}
  where
    new : ℕ
    new = get_or after k 0 + rest % 2

    here : get_or (set after k new) k 0 ≡ get_or before k 0 + bit_at k byte
    here =
        get_or-set_same after k new 0 h ∙ (λ i. r.others k (omega arith) i + left_lowest byte k rest l i)

-- the row that begins at `at`
module _ (at : ℕ) (table : List ℕ) where
  row_read : (j : ℕ) → j < 8 → get_or (take 8 (drop at table)) j 0 ≡ get_or table (at + j) 0
  row_read j h = get_or-take 8 (drop at table) j 0 h ∙ get_or-drop at table j 0

  pub row_long : at + 8 ≤ length table → length (take (at + 8 - at) (drop at table)) ≡ 8
  row_long h =
      let eight : at + 8 - at ≡ 8 = omega arith in
      rw eight (length-take-le 8 (drop at table) (omega (arith, h, length-drop at table)))

  -- a count that has not yet risen
  pub row_not_yet : (byte k : ℕ) (row : List ℕ) → RowFits at table → Row byte k (take 8 (drop at table)) row → k < 8
      → get_or row k 0 < 65535
  row_not_yet byte k row fits r h = rw (r.others k (omega arith), row_read k h) (fits.below k h)

  -- the row put back
  pub row_put : (byte : ℕ) (row : List ℕ) → at + 8 ≤ length table → length row ≡ 8
      → Row byte 8 (take 8 (drop at table)) row
      → Risen at byte 8 table (put_mid at 8 table row)
  row_put byte row h l r = record {
    counted = λ j b. within j b ∙ r.counted j b ∙ ap (λ (k : ℕ). k + bit_at j byte) (row_read j b);
    others = λ i where-it-is. ⊎_elim (before i) (behind i) where-it-is;
  }
    where
      all : List ℕ
      all = put_mid at 8 table row

      before : (i : ℕ) → i < at → get_or all i 0 ≡ get_or table i 0
      before i b =
          sym (get_or-take at all i 0 b)
          ∙ ap (λ (z : List ℕ). get_or z i 0) (take-put_mid_below at 8 table row at (omega arith) (omega (arith, h)))
          ∙ get_or-take at table i 0 b

      within : (j : ℕ) → j < 8 → get_or all (at + j) 0 ≡ get_or row j 0
      within j b =
          sym (get_or-take (at + 8 - at) (drop at all) j 0 (omega (arith, b)) ∙ get_or-drop at all j 0)
          ∙ ap (λ (z : List ℕ). get_or z j 0)
          (between-put_mid at 8 table row (at + 8) (omega (arith, h)) (omega (arith, l)))

      behind : (i : ℕ) → at + 8 ≤ i → get_or all i 0 ≡ get_or table i 0
      behind i b =
          let e : i ≡ i + 0 = omega arith in
          ap (λ (k : ℕ). get_or all k 0) e
          ∙ sym (get_or-drop i all 0 0)
          ∙ ap (λ (z : List ℕ). get_or z 0 0) (drop-put_mid at 8 table row i b (omega (arith, h)) l)
          ∙ get_or-drop i table 0 0
          ∙ ap (λ (k : ℕ). get_or table k 0) (sym e)

-- ---- the counts, event by event

-- a digit as a test
digit_counts : (d k : ℕ) → d < 2 → cond (eqb d 1) (k + 1) k ≡ k + d
digit_counts zero k h = omega arith
digit_counts (suc zero) k h = omega arith
digit_counts (suc (suc d)) k h = absurd (omega arith)

module _ (cfg : Configuration) (records : List ℕ) where
  pub counts_none : CountsBelow cfg records 0 (replicate 32 0)
  counts_none = record {
    long = refl;
    each = λ c h b. get_or-replicate 32 (place_in c b) 0 0 (let n = number_below b in omega arith)
        ∙ sym (count_none (counts cfg (holding records any_board) c b));
  }

  module _ (e : ℕ) (before : List ℕ) (ready : OneMore cfg records e before) where
    cycle_most : cycle_of cfg e < 4
    cycle_most = let m = ((config_tells cfg ready.config).row e ready.event_inside).cycle_most in omega arith

    pub row_fits : RowFits (8 * cycle_of cfg e) before
    row_fits = record {
      within = let m = cycle_most in let l = ready.so_far.long in omega arith;
      below = λ j h. let (b, q) = the_bit j h in
          let is = ready.so_far.each (cycle_of cfg e) cycle_most b in
          let most = count_most (counts cfg (holding records any_board) (cycle_of cfg e) b) e in
          let n = (config_tells cfg ready.config).n_most in
          let below = ready.event_inside in
          rw (← q, is) (omega arith);
    }

    -- the counts of its own cycle
    own : (after : List ℕ) → Risen (8 * cycle_of cfg e) (stored_at e records).status 8 before after → (b : Bit)
        → get_or after (place_in (cycle_of cfg e) b) 0
        ≡ count_below (e + 1) (counts cfg (holding records any_board) (cycle_of cfg e) b)
    own after r b =
        r.counted (bit_number b) (number_below b)
        ∙ (λ i. ready.so_far.each (cycle_of cfg e) cycle_most b i + bit_at_number b (stored_at e records).status i)
        ∙ sym (digit_counts ((stored_at e records).status / weight b % 2) _ (omega arith))
        ∙ sym (count_more (counts cfg (holding records any_board) (cycle_of cfg e) b) e
        ∙ rw (eq-eqb (cycle_of cfg e) (cycle_of cfg e) refl))

    -- and those of another
    other : (after : List ℕ) → Risen (8 * cycle_of cfg e) (stored_at e records).status 8 before after → (c : ℕ) → c < 4
        → (b : Bit) → cycle_of cfg e ≢ c → (place_in c b < 8 * cycle_of cfg e) ⊎ (8 * cycle_of cfg e + 8 ≤ place_in c b)
        → get_or after (place_in c b) 0 ≡ count_below (e + 1) (counts cfg (holding records any_board) c b)
    other after r c h b n q =
        r.others (place_in c b) q
        ∙ ready.so_far.each c h b
        ∙ sym (count_more (counts cfg (holding records any_board) c b) e ∙ rw (ne_eqb (cycle_of cfg e) c n))

    pub counts_next : (after : List ℕ) → length after ≡ length before
        → Risen (8 * cycle_of cfg e) (stored_at e records).status 8 before after
        → CountsBelow cfg records (e + 1) after
    counts_next after l r =
        record { long = l ∙ ready.so_far.long; each = λ c h b. go c h b (ltb c (cycle_of cfg e)) refl }
      where
        go : (c : ℕ) → c < 4 → (b : Bit) (t : Bool) → ltb c (cycle_of cfg e) ≡ t
            → get_or after (place_in c b) 0 ≡ count_below (e + 1) (counts cfg (holding records any_board) c b)
        go c h b true t =
            let less = ltb-true c (cycle_of cfg e) t in
            let n = number_below b in other after r c h b (λ q. omega arith) (inl (omega arith))
        go c h b false t =
            ⊎_elim (λ q. rw (← q) (own after r b))
            (λ less. let n = number_below b in other after r c h b (λ q. omega arith) (inr (omega arith)))
            (eq-or-lt_of_le (ltb-false c (cycle_of cfg e) t))

  -- of all events they are the table
  pub counts_are_table : (xs : List ℕ) → CountsBelow cfg records (events cfg) xs
      → (d : List ℤ) (m : List ℕ) (b : Board)
      → xs ≡ table cfg (lent records d m b)
  unfolding count_of
  counts_are_table xs is d m b =
      ext_get_or 0 xs (table cfg (lent records d m b)) (is.long ∙ sym (table_length cfg (lent records d m b)))
      (λ i h. at_place i (rw is.long at h))
    where
      at_place : (i : ℕ) → i < 32 → get_or xs i 0 ≡ get_or (table cfg (lent records d m b)) i 0
      at_place i h =
          let (bit, q) = the_bit (i % 8) (omega arith) in
          let place : i ≡ place_in (i / 8) bit = rw q (omega arith) in
          let c : i / 8 < 4 = omega arith in
          ap (λ k. get_or xs k 0) place
          ∙ is.each (i / 8) c bit
          ∙ sym (count_at cfg (lent records d m b) (i / 8) c bit)
          ∙ ap (λ k. get_or (table cfg (lent records d m b)) k 0) (sym place)

-- ---- what the paint and the list are read off

module _ (cfg : Configuration) (s : State) where
  abbrev held : State
  held = holding s.records s.board

  paint_in_lem : (e : ℕ) → paint_of cfg s e ≡ paint_of cfg held e
  unfolding paint_of is_grey
  paint_in_lem e = refl

  pub list_in : grey_events cfg s ≡ grey_events cfg held
  unfolding grey_events is_grey
  list_in = refl

-- ---- the records that were judged

pub judged_records : (cfg : Configuration) (s : State) → config_ok cfg ≡ true → well_formed cfg s ≡ true
    → RecordsFor cfg s.records
judged_records cfg s ok w = record { accepted = ok; as_long = (state_tells cfg s w).lengths.records }

pub event_within : (cfg : Configuration) (records : List ℕ) → RecordsFor cfg records → (e : ℕ) → e < events cfg
    → EventWithin cfg records e
event_within cfg records r e h =
    record { row = row_within cfg e r.accepted h; record_within = omega (arith, r.as_long, h) }

-- ---- one number written

pub one_written : (x at : ℕ) (list : List ℕ) → written (at + 1) (set list at x) ≡ append (x ∷ []) (written at list)
unfolding append
one_written x at list = refl

-- ---- what each call answers

module _ (cfg : Configuration) (s : State) where
  -- read table, where 2 and 3 do not apply, and where one does
  pub table_is : {counts : List ℕ} → first_that_applies (begins cfg s true []) ≡ 0 → counts ≡ table cfg s
      → table_told (Ok counts) s ≡ table_read cfg alone s
  unfolding table_read read_table read_table_rules
  table_is z q = let o = sym (goes_through _ alone s _ z) in (λ i. tabled (o i) (q i))

  pub table_refused : (r : Refusal) → number_of r ≡ first_that_applies (begins cfg s true [])
      → table_told (Err r) s ≡ table_read cfg alone s
  unfolding table_read read_table read_table_rules
  table_refused r q =
      let here : table_told (Err r) s
      ≡ tabled (refused (number_of r) alone s) (table cfg s) =
      rw (not_done r) in
      here ∙ ap (λ (o : Outcome). tabled o (table cfg s)) (stops_with _ alone s _ r q)

  -- read paint, where 2, 3 and 4 do not apply, and where one does
  pub event_read : (e : ℕ) → first_that_applies (begins cfg s true (four (no_such_event cfg e))) ≡ 0
      → EventWithin cfg s.records e
  event_read e z =
      event_within cfg s.records
      (judged_records cfg s (not-false (config_ok cfg) (none_applies _ z refl 0))
      (not-false (well_formed cfg s) (none_applies _ z refl 1)))
      e (event_inside cfg s e z)

  pub paint_is_lem : (e : ℕ) {paint : Paint} → first_that_applies (begins cfg s true (four (no_such_event cfg e))) ≡ 0
      → paint ≡ paint_of cfg (held cfg s) e
      → paint_told (Ok paint) s ≡ paint_read cfg e alone s
  unfolding paint_read read_paint read_paint_rules
  paint_is_lem e z q =
      let o = sym (goes_through _ alone s _ z) in let p = q ∙ sym (paint_in_lem cfg s e) in (λ i. painted (o i) (p i))

  pub paint_refused : (e : ℕ) (r : Refusal)
      → number_of r ≡ first_that_applies (begins cfg s true (four (no_such_event cfg e)))
      → paint_told (Err r) s ≡ paint_read cfg e alone s
  unfolding paint_read read_paint read_paint_rules
  paint_refused e r q =
      let here : paint_told (Err r) s ≡ painted (refused (number_of r) alone s) (paint_of cfg s e) =
      rw (not_done r) in
      here ∙ ap (λ (o : Outcome). painted o (paint_of cfg s e)) (stops_with _ alone s _ r q)

  -- list grey, where 2, 3 and 7 do not apply
  module _ (list : List ℕ) (z : first_that_applies (list_grey_rules cfg (lent_room list) s) ≡ 0) where
    pub may_list : MayList cfg (held cfg s) list
    unfolding list_grey_rules
    may_list = record {
      judged =
          judged_records cfg s (not-false (config_ok cfg) (none_applies _ z refl 0))
          (not-false (well_formed cfg s) (none_applies _ z refl 1));
      within =
          rw (← list_in cfg s) (ltb-false (length list) (length (grey_events cfg s)) (none_applies _ z refl 2));
    }

    pub list_done : {size : ℕ} {after : List ℕ} → written size after ≡ filled (grey_events cfg (held cfg s)) list
        → leaves (of_length (Ok size)) [] (lent_room after) s ≡ list_grey cfg (lent_room list) s
    unfolding list_grey filled
    list_done e =
        ap (λ (w : writing.Written). leaves (of_length (Ok w.next)) [] (lent_room w.room) s) e
        ∙ ap (λ (l : List ℕ). listed cfg l (lent_room list) s) (sym (list_in cfg s))
        ∙ sym (goes_through _ (lent_room list) s _ z)
