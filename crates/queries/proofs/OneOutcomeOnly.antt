-- The statements of `read_status`, `read_counter`, `read_missing`, `read_frame` and `frame_part` allow one outcome
-- only: one result. The calls are lent nothing to be written; of a frame the result says where it starts and how long
-- it is.
use mathlib.Core.Path.{◌≡◌, refl, sym, ◌∙◌}
use mathlib.Core.List.{List, []}
use Prim.Native.Nat.{ℕ}
use lib.IntN.{ℤ, pos}
use Rattle.std.specs.Prelude.{Result, Ok, Err}
use Rattle.manual.specs.declared.FramePart.{FramePart}
use Rattle.manual.specs.declared.Refusal.{Refusal}
use Rattle.manual.specs.declared.StillMissing.{StillMissing}
use Rattle.manual.specs.declared.Which.{Which}
use Rattle.manual.specs.Configuration.{Configuration}
use Rattle.manual.specs.State.{State}
use Rattle.manual.specs.Answers.{alone, answered, of_status, of_counter, of_missing, of_frame, leaves}
use Rattle.manual.specs.Calls.{read_status}
use Rattle.manual.specs.Counter.{CounterRead, counter_read}
use Rattle.manual.specs.Missing.{MissingRead, missing_read}
use Rattle.manual.proofs.OneOutcomeOnly.{answer_at, refused_back, one_outcome, same_status}
use Rattle.queries.specs.Reading.{tells, tells_missing, FrameRead, part_of, says, frame_read}

module _ (cfg : Configuration) (event : ℕ) (s : State) where
  pub one_read_status : (r r' : Result ℕ Refusal)
      → leaves (of_status r) [] alone s ≡ read_status cfg event alone s
      → leaves (of_status r') [] alone s ≡ read_status cfg event alone s
      → r ≡ r'
  one_read_status r r' p q = same_status r r' p q

  -- the answer is read off its number and its counter
  abbrev counter_answer_in : CounterRead → Result ℤ Refusal
  counter_answer_in c =
      answer_at (λ a. Ok c.counter) Err
      (answered c.outcome.answer c.outcome.verdict c.outcome.value)

  counter_back : (r : Result ℤ Refusal) → counter_answer_in (tells r s) ≡ r
  counter_back (Ok z) = refl
  counter_back (Err r) =
      refused_back (λ a. Ok (pos 0)) Err r (of_counter (Err r)) refl

  pub one_read_counter : (r r' : Result ℤ Refusal)
      → tells r s ≡ counter_read cfg event alone s
      → tells r' s ≡ counter_read cfg event alone s
      → r ≡ r'
  one_read_counter r r' p q = one_outcome counter_answer_in (counter_back r) (counter_back r') p q

  -- the answer is read off its number, its value and its lowest number
  abbrev missing_in : MissingRead → Result StillMissing Refusal
  missing_in m =
      answer_at (λ a. Ok (record { count = a.value; lowest = m.lowest })) Err
      (answered m.outcome.answer m.outcome.verdict m.outcome.value)

  missing_back : (r : Result StillMissing Refusal) → missing_in (tells_missing r s) ≡ r
  missing_back (Ok still) = refl
  missing_back (Err r) =
      refused_back (λ a. Ok (record { count = a.value; lowest = 0 })) Err r
      (of_missing (Err r)) refl

  pub one_read_missing : (present : ℕ) (r r' : Result StillMissing Refusal)
      → tells_missing r s ≡ missing_read cfg event present alone s
      → tells_missing r' s ≡ missing_read cfg event present alone s
      → r ≡ r'
  one_read_missing present r r' p q = one_outcome missing_in (missing_back r) (missing_back r') p q

  -- the answer is read off its number, its start and its length
  abbrev answer_in : FrameRead → Result FramePart Refusal
  answer_in f =
      answer_at (λ a. Ok (record { start = f.start; length = f.length })) Err
      (answered f.outcome.answer f.outcome.verdict f.outcome.value)

  answer_back : (r : Result FramePart Refusal) → answer_in (says r s) ≡ r
  answer_back (Ok part) = refl
  answer_back (Err r) =
      refused_back (λ a. Ok (record { start = 0; length = 0 })) Err r (of_frame (Err r))
      refl

  pub one_read_frame : (which : Which) (r r' : Result FramePart Refusal)
      → says r s ≡ frame_read cfg event which s
      → says r' s ≡ frame_read cfg event which s
      → r ≡ r'
  one_read_frame which r r' p q = one_outcome answer_in (answer_back r) (answer_back r') p q

pub one_frame_part : (memory : List ℕ) (answer : Result FramePart Refusal) (part part' : List ℕ) → part ≡ part_of answer memory
    → part' ≡ part_of answer memory → part ≡ part'
one_frame_part memory answer part part' p q = p ∙ sym q
