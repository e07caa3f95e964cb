-- What a well-formed state tells, clause by clause, and that these clauses make a state well formed.
use mathlib.Core.Path.{◌≡◌, sym, ap, subst, ◌∙◌}
use mathlib.Core.Bool.{true, false, not, ◌&&◌}
use mathlib.Core.List.{List, ◌++◌}
use Prim.Native.Nat.{ℕ, ◌-◌, ◌*◌, ◌≤◌, ◌<◌}
use native.Mathlib.Nat.{mul_comm, mul-sub, mul-le-mul_left}
use native.Mathlib.Omega.{arith}
use lib.ListN.{length, take, drop, replicate, length-drop, take-append-drop}
use lib.Seq.{length-take-le}
use borrow.Author.Tests.{eqb-true, eq-eqb, leb-true, le-leb}
use Rattle.history.specs.Words.{all_of}
use Rattle.history.proofs.WordsLaws.{and_left, and_right, both, part, parts}
use Rattle.manual.specs.Words.{all_below}
use Rattle.manual.specs.Configuration.{Configuration, events, places, entry_frames}
use Rattle.manual.specs.State.{State, record_width, record_of, D}
use Rattle.manual.specs.Memory.{entry_width, memory_length, entry_count, bytes_in_use, no_twice}
use Rattle.manual.specs.WellFormed.{record_ok, d_ok, event_ok, entry_ok, lengths_fit_with, entries_with}
use Rattle.manual.specs.WellFormed.{zero_tail_with, memory_ok_with, well_formed_with, lengths_fit, well_formed}
use Rattle.manual.specs.Answers.{Beside}
use Rattle.manual.specs.Counts.{counts_fit}
use Rattle.manual.proofs.WordsLaws.{all_below_at, all_below_lem, zeros_are}
use Rattle.manual.proofs.AnswersLaws.{three_passed}

-- payloads of W bytes
module _ (cfg : Configuration) (W : ℕ) (s : State) where
  pub record LengthsTellWith : Type 0 where
    pub records : length s.records ≡ record_width * events cfg
    pub debounce : length s.debounce ≡ events cfg
    pub memory : length s.memory ≡ memory_length (places cfg) W

  pub record StateTellsWith : Type 0 where
    pub lengths : LengthsTellWith
    pub records : (e : ℕ) → e < events cfg → record_ok cfg e (record_of s e) ≡ true
    pub numbers : (e : ℕ) → e < events cfg → d_ok cfg s.board e (D s e) ≡ true
    pub few : entry_count s.memory ≤ places cfg
    pub each : all_of (entry_ok cfg s) (entries_with cfg W s) ≡ true
    pub once : no_twice (entries_with cfg W s) ≡ true
    pub tail : zero_tail_with cfg W s ≡ true

-- of a state as the calls take it
abbrev pub LengthsTell : Configuration → State → Type 0
LengthsTell cfg s = LengthsTellWith cfg (entry_frames cfg) s

abbrev pub StateTells : Configuration → State → Type 0
StateTells cfg s = StateTellsWith cfg (entry_frames cfg) s

module _ (cfg : Configuration) {W : ℕ} (s : State) where
  pub lengths_tell : lengths_fit_with cfg W s ≡ true → LengthsTellWith cfg W s
  unfolding lengths_fit_with
  lengths_tell l =
      record {
        records = eqb-true _ _ (part _ l 0);
        debounce = eqb-true _ _ (part _ l 1);
        memory = eqb-true _ _
            (part _ l 2);
      }

  pub lengths_told : LengthsTellWith cfg W s → lengths_fit_with cfg W s ≡ true
  unfolding lengths_fit_with
  lengths_told t =
      parts _ (
        eq-eqb (length s.records) (record_width * events cfg) t.records,
        (
          eq-eqb (length s.debounce) (events cfg) t.debounce,
          (eq-eqb (length s.memory) (memory_length (places cfg) W) t.memory, tt),
        ),
      )

  pub state_tells : well_formed_with cfg W s ≡ true → StateTellsWith cfg W s
  unfolding well_formed_with memory_ok_with
  state_tells w =
      let events_ok : all_below (events cfg) (event_ok cfg s) ≡ true = part _ w 1 in
      let memory_ok_lem : memory_ok_with cfg W s ≡ true = part _ w 2 in
      record {
        lengths = lengths_tell (part _ w 0);
        records =
            λ e h. and_left (record_ok cfg e (record_of s e)) (d_ok cfg s.board e (D s e))
            (all_below_at (events cfg) (event_ok cfg s) events_ok e h);
        numbers =
            λ e h. and_right (record_ok cfg e (record_of s e)) (d_ok cfg s.board e (D s e))
            (all_below_at (events cfg) (event_ok cfg s) events_ok e h);
        few = leb-true _ _ (part _ memory_ok_lem 0);
        each = part _ memory_ok_lem 1;
        once = part _ memory_ok_lem 2;
        tail = part _ memory_ok_lem 3;
      }

  pub state_told : StateTellsWith cfg W s → well_formed_with cfg W s ≡ true
  unfolding well_formed_with memory_ok_with
  state_told t =
      parts _ (
        lengths_told t.lengths,
        (
          all_below_lem (events cfg) (event_ok cfg s)
              (λ e h. both (record_ok cfg e (record_of s e)) (d_ok cfg s.board e (D s e)) (t.records e h)
              (t.numbers e h)),
          (parts _ (le-leb (entry_count s.memory) (places cfg) t.few, (t.each, (t.once, (t.tail, tt)))), tt),
        ),
      )

  -- ---- the bytes in use, and the zeros behind them

  module _ (t : StateTellsWith cfg W s) where
    abbrev used : ℕ
    used = bytes_in_use W (entry_count s.memory)

    pub used_fits : used ≤ length s.memory
    used_fits =
        let most : entry_width W * entry_count s.memory ≤ places cfg * entry_width W =
        subst (λ (j : ℕ). entry_width W * entry_count s.memory ≤ j)
        (mul_comm (entry_width W) (places cfg))
        (mul-le-mul_left (entry_width W) t.few) in
        let l = t.lengths.memory in
        omega arith

    pub used_length : length (take used s.memory) ≡ used
    used_length = length-take-le used s.memory used_fits

    pub zeros_behind : drop used s.memory
        ≡ replicate (entry_width W * (places cfg - entry_count s.memory)) 0
    zeros_behind =
        zeros_are (drop used s.memory) t.tail
        ∙ ap (λ (j : ℕ). replicate j 0)
        (length-drop used s.memory
        ∙
        (let l = t.lengths.memory in let e : length s.memory - used
        ≡ places cfg * entry_width W - entry_width W * entry_count s.memory = omega
        arith in e)
        ∙ ap (λ (j : ℕ). j - entry_width W * entry_count s.memory)
        (mul_comm (places cfg) (entry_width W))
        ∙ sym (mul-sub (entry_width W) (places cfg) (entry_count s.memory)))

    pub memory_split : s.memory
        ≡ take used s.memory ++ replicate (entry_width W * (places cfg - entry_count s.memory)) 0
    memory_split =
        sym (take-append-drop used s.memory) ∙ ap (λ (l : List ℕ). take used s.memory ++ l) zeros_behind

pub well_formed_lengths : (cfg : Configuration) (s : State) → well_formed cfg s ≡ true → lengths_fit cfg s ≡ true
unfolding well_formed_with
well_formed_lengths cfg s w = part _ w 0

-- where refusal 3 does not apply the state is well formed
pub judged_formed : (cfg : Configuration) (b : Beside) (s : State)
    → not (counts_fit b.counts && well_formed cfg s) ≡ false → well_formed cfg s ≡ true
judged_formed cfg b s e = (three_passed (counts_fit b.counts) (well_formed cfg s) e).1
