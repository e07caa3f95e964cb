-- What meets the statement of a call is one: the numbers of an answer give the enum back, and the outcome gives the
-- blocks, the board and the room. Each crate of calls says so of its own calls, in a file of this name.
use mathlib.Core.Path.{◌≡◌, refl, sym, ap, ◌∙◌}
use mathlib.Core.Bool.{false, cond}
use mathlib.Core.List.{List, []}
use Prim.Native.Nat.{ℕ}
use lib.Dec.{eqb}
use borrow.Author.Tests.{ne_eqb}
use Rattle.std.specs.Prelude.{Result, Ok, Err, ⊤}
use Rattle.manual.specs.declared.Verdict.{Verdict}
use Rattle.manual.specs.declared.Refusal.{Refusal}
use Rattle.manual.specs.declared.Refusal.TheVariants.{BadArgument, BadConfiguration, BadState, NoSuch}
use Rattle.manual.specs.declared.Refusal.TheVariants.{WrongCycleState, NoPreResult, RoomTooSmall, BadImage}
use Rattle.manual.specs.declared.Refusal.TheVariants.{WrongFrame, NoEntry, MissingCondition, CountsFull}
use Rattle.manual.specs.State.{State}
use Rattle.manual.specs.Answers.{Beside, Outcome, number_of, Answered, answered}
use Rattle.manual.specs.Answers.{of_answer, of_report, of_status, of_length, leaves}
use Rattle.manual.proofs.AnswersLaws.{never_done}

-- ---- the numbers give the enum back

abbrev pub refusal_at : ℕ → Refusal
refusal_at n =
    cond (eqb n 1) BadArgument
    (cond (eqb n 2) BadConfiguration (cond (eqb n 3) BadState (cond (eqb n 4) NoSuch (cond (eqb n 5) WrongCycleState
    (cond (eqb n 6) NoPreResult
    (cond (eqb n 7) RoomTooSmall (cond (eqb n 8) BadImage (cond (eqb n 9) WrongFrame
    (cond (eqb n 10) NoEntry (cond (eqb n 11) MissingCondition CountsFull))))))))))

pub refusal_back : (r : Refusal) → refusal_at (number_of r) ≡ r
refusal_back BadArgument = refl
refusal_back BadConfiguration = refl
refusal_back BadState = refl
refusal_back NoSuch = refl
refusal_back WrongCycleState = refl
refusal_back NoPreResult = refl
refusal_back RoomTooSmall = refl
refusal_back BadImage = refl
refusal_back WrongFrame = refl
refusal_back NoEntry = refl
refusal_back MissingCondition = refl
refusal_back CountsFull = refl

pub not_done : (r : Refusal) → eqb (number_of r) 0 ≡ false
not_done r = ne_eqb _ _ (never_done r)

-- a done answer where the number is 0, else the refusal of that number
module _ {A : Type 0} (done : Answered → A) (refuse : Refusal → A) where
  abbrev pub answer_at : Answered → A
  answer_at a = cond (eqb a.number 0) (done a) (refuse (refusal_at a.number))

  pub refused_back : (r : Refusal) (a : Answered) → a.number ≡ number_of r → answer_at a ≡ refuse r
  refused_back r a e = rw (e, not_done r, refusal_back r)

abbrev answer_of : Answered → Result ⊤ Refusal
answer_of a = answer_at (λ a. Ok tt) Err a

answer_back : (a : Result ⊤ Refusal) → answer_of (of_answer a) ≡ a
answer_back (Ok t) = refl
answer_back (Err r) = refused_back (λ a. Ok tt) Err r (of_answer (Err r)) refl

abbrev report_of : Answered → Result Verdict Refusal
report_of a = answer_at (λ a. Ok a.verdict) Err a

report_back : (a : Result Verdict Refusal) → report_of (of_report a) ≡ a
report_back (Ok v) = refl
report_back (Err r) =
    refused_back (λ a. Ok a.verdict) Err r (of_report (Err r)) refl

abbrev status_answer_of : Answered → Result ℕ Refusal
status_answer_of a = answer_at (λ a. Ok a.value) Err a

status_back : (a : Result ℕ Refusal) → status_answer_of (of_status a) ≡ a
status_back (Ok byte) = refl
status_back (Err r) =
    refused_back (λ a. Ok a.value) Err r (of_status (Err r)) refl

abbrev length_of : Answered → Result ℕ Refusal
length_of a = answer_at (λ a. Ok a.value) Err a

length_back : (a : Result ℕ Refusal) → length_of (of_length a) ≡ a
length_back (Ok length) = refl
length_back (Err r) =
    refused_back (λ a. Ok a.value) Err r (of_length (Err r)) refl

-- ---- one outcome

-- what is read off all that meets one statement is one
pub one_outcome : {O X : Type 0} (read : O → X) {o y y' : O} {x x' : X} → read y ≡ x → read y' ≡ x' → y ≡ o → y' ≡ o
    → x ≡ x'
one_outcome read b b' p q = sym b ∙ ap read (p ∙ sym q) ∙ b'

-- the blocks, the board and what was lent beside them
pub same_blocks : {o y y' : Outcome} → y ≡ o → y' ≡ o
    → (y.state.records ≡ y'.state.records) ×
    ((y.state.debounce ≡ y'.state.debounce) × (y.state.memory ≡ y'.state.memory))
same_blocks p q = (
  one_outcome (λ (y : Outcome). y.state.records) refl refl p q,
  (
    one_outcome (λ (y : Outcome). y.state.debounce) refl refl p q,
    one_outcome (λ (y : Outcome). y.state.memory) refl refl p q,
  ),
)

pub same_board : {o y y' : Outcome} → y ≡ o → y' ≡ o → y.state.board ≡ y'.state.board
same_board p q = one_outcome (λ (y : Outcome). y.state.board) refl refl p q

pub same_beside : {o y y' : Outcome} → y ≡ o → y' ≡ o → y.beside ≡ y'.beside
same_beside p q = one_outcome (λ (y : Outcome). y.beside) refl refl p q

pub same_room : {o y y' : Outcome} → y ≡ o → y' ≡ o → y.beside.room ≡ y'.beside.room
same_room p q = ap (λ (b : Beside). b.room) (same_beside p q)

pub same_counts : {o y y' : Outcome} → y ≡ o → y' ≡ o → y.beside.counts ≡ y'.beside.counts
same_counts p q = ap (λ (b : Beside). b.counts) (same_beside p q)

-- the answer, which its numbers give back
module _ {A : Type 0} (of : A → Answered) (from : Answered → A) (back : (a : A) → from (of a) ≡ a) where
  same_numbers : {o : Outcome} {part part' : List ℕ} {b b' : Beside} {s s' : State} (a a' : A)
      → leaves (of a) part b s ≡ o → leaves (of a') part' b' s' ≡ o → a ≡ a'
  same_numbers a a' p q =
      one_outcome (λ (y : Outcome). from (answered y.answer y.verdict y.value)) (back a) (back a') p q

module _ {o : Outcome} {part part' : List ℕ} {b b' : Beside} {s s' : State} where
  pub same_answer : (a a' : Result ⊤ Refusal) → leaves (of_answer a) part b s ≡ o → leaves (of_answer a') part' b' s' ≡ o → a ≡ a'
  same_answer = same_numbers of_answer answer_of answer_back

  -- report
  pub same_report : (a a' : Result Verdict Refusal) → leaves (of_report a) part b s ≡ o → leaves (of_report a') part' b' s' ≡ o
      → a ≡ a'
  same_report = same_numbers of_report report_of report_back

  -- read status
  pub same_status : (a a' : Result ℕ Refusal) → leaves (of_status a) part b s ≡ o → leaves (of_status a') part' b' s' ≡ o
      → a ≡ a'
  same_status = same_numbers of_status status_answer_of status_back

  -- save and a diagnostic request
  pub same_length : (a a' : Result ℕ Refusal) → leaves (of_length a) part b s ≡ o → leaves (of_length a') part' b' s' ≡ o
      → a ≡ a'
  same_length = same_numbers of_length length_of length_back

-- fresh, tick, start, stop, clear and restore: the answer with the board
pub same_answer_and_board : {o : Outcome} {b b' : Beside} {s s' : State} (a a' : Result ⊤ Refusal)
    → leaves (of_answer a) [] b s ≡ o → leaves (of_answer a') [] b' s' ≡ o → (a ≡ a') × (s.board ≡ s'.board)
same_answer_and_board a a' p q = (same_answer a a' p q, same_board p q)
