-- Document 01, "Numbers a call answers with". Assumes nothing.
use Rattle.std.specs.Prelude.{◌≡◌, Bool, true, false, cond, List, [], ◌∷◌, ◌++◌, ℕ, eqb, ℤ, pos, Result, Ok, Err, ⊤}
use Rattle.history.specs.Words.{any_of}
use Rattle.manual.specs.declared.Verdict.{Verdict}
use Rattle.manual.specs.declared.Verdict.TheVariants.{None}
use Rattle.manual.specs.declared.Refusal.{Refusal}
use Rattle.manual.specs.declared.Refusal.TheVariants.{BadArgument, BadConfiguration, BadState, NoSuch}
use Rattle.manual.specs.declared.Refusal.TheVariants.{WrongCycleState, NoPreResult, RoomTooSmall, BadImage}
use Rattle.manual.specs.declared.Refusal.TheVariants.{WrongFrame, NoEntry, MissingCondition, CountsFull}
use Rattle.manual.specs.declared.Paint.{Paint}
use Rattle.manual.specs.declared.Paint.TheVariants.{Grey}
use Rattle.manual.specs.declared.StillMissing.{StillMissing}
use Rattle.manual.specs.declared.FramePart.{FramePart}
use Rattle.manual.specs.State.{State}

-- What is lent beside the blocks and the board for a call to write: the output room, of bytes or, to list the grey
-- events, of 16-bit numbers; and document 02's W7, "five counts, each 32 bits and lent as a slice of five". A call that
-- is not lent one of them does not look at it and leaves it as it is.
pub record Beside : Type 0 where
  pub room : List ℕ
  pub counts : List ℕ

abbrev pub lent_both : List ℕ → List ℕ → Beside
lent_both room counts = record { room = room; counts = counts }

abbrev pub lent_room : List ℕ → Beside
lent_room room = lent_both room []

abbrev pub lent_counts : List ℕ → Beside
lent_counts counts = lent_both [] counts

-- nothing is lent beside the blocks and the board
abbrev pub alone : Beside
alone = lent_both [] []

abbrev pub with_room : List ℕ → Beside → Beside
with_room room b = record { room = room; counts = b.counts }

abbrev pub with_counts : List ℕ → Beside → Beside
with_counts counts b = record { room = b.room; counts = counts }

-- What a call answers and leaves: its number; a report's verdict; the status or length; the frame part; what was lent
-- beside; the blocks and the board.
pub record Outcome : Type 0 where
  pub answer : ℕ
  pub verdict : Verdict
  pub value : ℕ
  pub part : List ℕ
  pub beside : Beside
  pub state : State

-- "A refusal changes nothing lent and hands back the board it was given; any status, count or length it answers is 0, a
-- frame part empty, a verdict none."
abbrev pub refused : ℕ → Beside → State → Outcome
refused number b s = record { answer = number; verdict = None; value = 0; part = []; beside = b; state = s }

-- "0 | done"
abbrev pub done : Beside → State → Outcome
done b s = record { answer = 0; verdict = None; value = 0; part = []; beside = b; state = s }

-- ---- "The first that applies, in the call's order, is given."

-- a number, and the test of when it is given
pub record Rule : Type 0 where
  pub number : ℕ
  pub applies : Bool

abbrev pub ◌if◌ : ℕ → Bool → Rule
number if applies = record { number = number; applies = applies }

infix 20 ◌if◌
unfoldable pub first_that_applies : List Rule → ℕ
first_that_applies [] = 0
first_that_applies (r ∷ rs) = cond r.applies r.number (first_that_applies rs)

-- the same as a relation: this number is given by these rules
pub data Given : List Rule → ℕ → Type 0 where
  -- no test of the list holds
  done_by : (rules : List Rule) → any_of (λ r. r.applies) rules ≡ false → Given rules 0
  -- the test of r holds, and none before it does
  refusal_by : (earlier : List Rule) (r : Rule) (later : List Rule) → any_of (λ r. r.applies) earlier ≡ false
      → r.applies ≡ true → Given (earlier ++ r ∷ later) r.number

-- refused by the first that applies, and what the call does where none does
unfoldable pub judged : List Rule → Beside → State → Outcome → Outcome
judged rules b s accepted = cond (eqb (first_that_applies rules) 0) accepted (refused (first_that_applies rules) b s)

-- ---- "Where an answer is an enum, a definition gives this paper's number and values for each of the enum's cases."

abbrev pub number_of : Refusal → ℕ
number_of BadArgument = 1
number_of BadConfiguration = 2
number_of BadState = 3
number_of NoSuch = 4
number_of WrongCycleState = 5
number_of NoPreResult = 6
number_of RoomTooSmall = 7
number_of BadImage = 8
number_of WrongFrame = 9
number_of NoEntry = 10
number_of MissingCondition = 11
number_of CountsFull = 12

-- the number of an answer, whatever stands beside it
abbrev pub number_answered : {A : Type 0} → Result A Refusal → ℕ
number_answered (Ok x) = 0
number_answered (Err r) = number_of r

-- an answer in this paper's numbers
pub record Answered : Type 0 where
  pub number : ℕ
  pub verdict : Verdict
  pub value : ℕ

abbrev pub answered : ℕ → Verdict → ℕ → Answered
answered number verdict value = record { number = number; verdict = verdict; value = value }

abbrev pub of_answer : Result ⊤ Refusal → Answered
of_answer (Ok t) = answered 0 None 0
of_answer (Err r) = answered (number_of r) None 0

abbrev pub of_report : Result Verdict Refusal → Answered
of_report (Ok v) = answered 0 v 0
of_report (Err r) = answered (number_of r) None 0

abbrev pub of_status : Result ℕ Refusal → Answered
of_status (Ok byte) = answered 0 None byte
of_status (Err r) = answered (number_of r) None 0

-- the counter, which has a sign, is said beside it
abbrev pub of_counter : Result ℤ Refusal → Answered
of_counter (Ok z) = answered 0 None 0
of_counter (Err r) = answered (number_of r) None 0

abbrev pub counter_answered : Result ℤ Refusal → ℤ
counter_answered (Ok z) = z
counter_answered (Err r) = pos 0

-- the paint is said beside it; "a refusal … paints grey"
abbrev pub of_paint : Result Paint Refusal → Answered
of_paint (Ok p) = answered 0 None 0
of_paint (Err r) = answered (number_of r) None 0

abbrev pub paint_answered : Result Paint Refusal → Paint
paint_answered (Ok p) = p
paint_answered (Err r) = Grey

-- the lowest missing number is said beside it; "a refusal … answers 0 and 0"
abbrev pub of_missing : Result StillMissing Refusal → Answered
of_missing (Ok still) = answered 0 None still.count
of_missing (Err r) = answered (number_of r) None 0

abbrev pub lowest_answered : Result StillMissing Refusal → ℕ
lowest_answered (Ok still) = still.lowest
lowest_answered (Err r) = 0

-- the part is said of the caller's block beside it
abbrev pub of_frame : Result FramePart Refusal → Answered
of_frame (Ok part) = answered 0 None 0
of_frame (Err r) = answered (number_of r) None 0

abbrev pub of_length : Result ℕ Refusal → Answered
of_length (Ok length) = answered 0 None length
of_length (Err r) = answered (number_of r) None 0

-- an answer, with the frame part, what was lent beside and the state that the call leaves
abbrev pub leaves : Answered → List ℕ → Beside → State → Outcome
leaves a part b s =
    record { answer = a.number; verdict = a.verdict; value = a.value; part = part; beside = b; state = s }
