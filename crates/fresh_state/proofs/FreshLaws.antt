-- Laws of making a fresh state: the records filled one after the other, the whole state, and what the call answers.
use mathlib.Core.Path.{◌≡◌, refl, sym, ap, ◌∙◌}
use mathlib.Core.Bool.{Bool, true, false, ◌&&◌}
use mathlib.Core.List.{List, []}
use Prim.Native.Nat.{ℕ, ◌+◌, ◌*◌, ◌≤◌, ◌<◌}
use native.Mathlib.Omega.{arith}
use lib.IntN.{ℤ, pos}
use lib.ListN.{length, get_or, set, replicate}
use Rattle.history.specs.StatusByte.{fresh_record}
use Rattle.history.specs.History.{record_after}
use Rattle.history.proofs.WordsLaws.{and_left, and_right}
use Rattle.manual.specs.declared.Board.{Board}
use Rattle.manual.specs.declared.Refusal.{Refusal}
use Rattle.manual.specs.Configuration.{Configuration, events}
use Rattle.manual.specs.State.{State, record_width, Stored, stored, stored_at, with_stored, all_stopped, lent}
use Rattle.manual.specs.WellFormed.{lengths_fit}
use Rattle.manual.specs.Answers.{lent_counts, done, refused, first_that_applies, number_of}
use Rattle.manual.specs.Counts.{counts_fit, no_counts}
use Rattle.manual.specs.Calls.{begins_with_lengths, fresh_records, fresh_state, fresh_rules, fresh}
use Rattle.manual.proofs.AnswersLaws.{goes_through, stops_with}
use Rattle.manual.proofs.WellFormedLaws.{LengthsTell, lengths_tell}
use Rattle.manual.proofs.RecordsFollowHistories.{fresh_follows}
use Rattle.writing.proofs.PartlyWritten.{mix, mix_more, mix_all}
use Rattle.writing.specs.Filled.{filled_from}
use Rattle.writing.proofs.FilledLaws.{filled_whole}
use Rattle.counts.specs.Near.{AreFive}
use Rattle.counts.proofs.NearLaws.{are_five}
use Rattle.judgement.proofs.BeginLaws.{begun_with_lengths}

-- ---- the records

-- after the records before it, a record of g is written over that of m
module _ (g m : List ℕ) (as_long : length g ≡ length m) where
  one_byte : (k k' v : ℕ) → k + 1 ≡ k' → k < length m → v ≡ get_or g k 0 → set (mix k g m) k v ≡ mix k' g m
  one_byte k k' v e h q = mix_more 0 g m k v as_long h q ∙ ap (λ (j : ℕ). mix j g m) e

  pub record_more : (e : ℕ) (r : Stored) → record_width * e + record_width ≤ length m → stored_at e g ≡ r
      → with_stored e r (mix (record_width * e) g m) ≡ mix (record_width * (e + 1)) g m
  unfolding with_stored stored_at
  record_more e r h q =
      let at : ℕ = record_width * e in
      rw (
        one_byte at (at + 1) r.status refl (omega arith) (ap (λ (x : Stored). x.status) (sym q)),
        one_byte (at + 1) (at + 2) r.K (omega arith) (omega arith) (ap (λ (x : Stored). x.K) (sym q)),
        one_byte (at + 2) (at + 3) r.h (omega arith) (omega arith) (ap (λ (x : Stored). x.h) (sym q)),
        one_byte (at + 3) (record_width * (e + 1)) r.g (omega arith) (omega arith)
            (ap (λ (x : Stored). x.g) (sym q)),
      )

module _ (cfg : Configuration) (m : List ℕ) where
  -- the records below event i are fresh, the others as they were
  unfoldable pub fresh_to : ℕ → List ℕ
  fresh_to i = mix (record_width * i) (fresh_records (events cfg)) m

  pub fresh_none : m ≡ fresh_to 0
  unfolding fresh_to
  fresh_none = refl

  module _ (fits : length m ≡ record_width * events cfg) where
    as_long : length (fresh_records (events cfg)) ≡ length m
    unfolding fresh_state
    as_long = (fresh_follows cfg).sized.records ∙ sym fits

    pub fresh_more : (i : ℕ) → i < events cfg → {l l' : List ℕ} → l ≡ fresh_to i
        → l' ≡ with_stored i (stored fresh_record) l → l' ≡ fresh_to (i + 1)
    unfolding fresh_to fresh_state record_after
    fresh_more i h p q =
        q ∙ ap (with_stored i (stored fresh_record)) p
        ∙ record_more (fresh_records (events cfg)) m as_long i (stored fresh_record) (omega arith)
        ((fresh_follows cfg).records i h)

    pub fresh_all : {i : ℕ} → i ≡ events cfg → {l : List ℕ} → l ≡ fresh_to i → l ≡ fresh_records (events cfg)
    unfolding fresh_to
    fresh_all {i} e p = p ∙ mix_all (fresh_records (events cfg)) m (record_width * i) as_long (omega arith)

-- ---- the state

module _ (cfg : Configuration) (records : List ℕ) (debounce : List ℤ) (memory : List ℕ)
    (found : Board) (fits : lengths_fit cfg (lent records debounce memory found) ≡ true) where
  abbrev stopped : Board
  stopped = record { running = all_stopped; overflow = false }

  lengths : LengthsTell cfg (lent records debounce memory found)
  lengths = lengths_tell cfg (lent records debounce memory found) fits

  pub records_as_long : length records ≡ record_width * events cfg
  records_as_long = lengths.records

  pub state_fresh : {records' : List ℕ} {debounce' : List ℤ} {memory' : List ℕ} {board : Board}
      → records' ≡ fresh_records (events cfg) → debounce' ≡ replicate (length debounce) (pos 0)
      → memory' ≡ filled_from 0 0 memory → board ≡ stopped → lent records' debounce' memory' board ≡ fresh_state cfg
  unfolding fresh_state
  state_fresh r d m b =
      let numbers = d ∙ ap (λ (k : ℕ). replicate k (pos 0)) lengths.debounce in
      let bytes = m ∙ filled_whole 0 memory ∙ ap (λ (k : ℕ). replicate k 0) lengths.memory in
      λ i. lent (r i) (numbers i) (bytes i) (b i)

-- ---- the call: the check that it begins with, and what it then leaves

module _ (cfg : Configuration) (s : State) (fits : Bool) where
  -- the check reads the state as it is lent
  pub as_read : {found : State} → found ≡ s → {number : ℕ}
      → number ≡ first_that_applies (begins_with_lengths cfg found fits [])
      → number ≡ first_that_applies (begins_with_lengths cfg s fits [])
  as_read same e = e ∙ ap (λ (x : State). first_that_applies (begins_with_lengths cfg x fits [])) same

  module _ (go : 0 ≡ first_that_applies (begins_with_lengths cfg s fits [])) where
    all_fit : fits && lengths_fit cfg s ≡ true
    all_fit = (begun_with_lengths cfg s fits (sym go)).1

    pub blocks_fit : lengths_fit cfg s ≡ true
    blocks_fit = and_right fits (lengths_fit cfg s) all_fit

    -- W7: "A slice of another length is 3."
    pub five_lent : (counts : List ℕ) → fits ≡ counts_fit counts → AreFive counts
    five_lent counts f = are_five counts (sym f ∙ and_left fits (lengths_fit cfg s) all_fit)

  module _ (counts : List ℕ) (f : fits ≡ counts_fit counts) where
    rules_are : first_that_applies (begins_with_lengths cfg s fits [])
        ≡ first_that_applies (fresh_rules cfg (lent_counts counts) s)
    unfolding fresh_rules
    rules_are = ap (λ (b : Bool). first_that_applies (begins_with_lengths cfg s b [])) f

    pub made_fresh : 0 ≡ first_that_applies (begins_with_lengths cfg s fits [])
        → {s' : State} {counts' : List ℕ} → s' ≡ fresh_state cfg → counts' ≡ no_counts
        → done (lent_counts counts') s' ≡ fresh cfg (lent_counts counts) s
    unfolding fresh
    made_fresh go p q = (λ i. done (lent_counts (q i)) (p i)) ∙ sym (goes_through _ _ _ _ (sym (go ∙ rules_are)))

    pub left_as_found : (r : Refusal) → number_of r ≡ first_that_applies (begins_with_lengths cfg s fits [])
        → refused (number_of r) (lent_counts counts) s ≡ fresh cfg (lent_counts counts) s
    unfolding fresh
    left_as_found r e = stops_with _ _ _ _ r (e ∙ rules_are)
