-- Every call answers k exactly when k's test is the first of the call's list that holds, and 0 exactly when none does;
-- and a refused call leaves every block, the board, the room and the counts as found, and answers no verdict, value or
-- part.
use mathlib.Core.Path.{◌≡◌, refl, sym, ap, subst, ◌∙◌}
use mathlib.Core.Logic.{◌≢◌, ◌↔◌}
use mathlib.Core.Bool.{Bool, true, false, ◌||◌, cond}
use mathlib.Core.List.{List, [], ◌∷◌, ◌++◌}
use Prim.Native.Nat.{ℕ}
use lib.Dec.{eqb}
use borrow.Author.Tests.{eqb-true}
use Rattle.history.specs.Words.{any_of}
use Rattle.manual.specs.Configuration.{Configuration}
use Rattle.manual.specs.State.{State}
use Rattle.manual.specs.Answers.{Beside, Outcome, refused, Rule, first_that_applies}
use Rattle.manual.specs.Answers.{judged, Given, done_by, refusal_by}
use Rattle.manual.specs.Counter.{read_counter}
use Rattle.manual.specs.Missing.{read_missing}
use Rattle.manual.specs.Untested.{read_table, read_paint, list_grey}
use Rattle.manual.specs.Calls.{fresh, report, tick, start_cycle, stop_cycle, clear_code, read_status, read_frame}
use Rattle.manual.specs.Image.{save, restore}
use Rattle.manual.specs.Diagnostics.{sent, request_reply}
use Rattle.manual.specs.Sequences.{Query, ReadStatus, ReadFrame, ReadCounter, ReadMissing, ReadTable, ReadPaint}
use Rattle.manual.specs.Sequences.{ListGrey, Save, Call, Fresh, Report, Tick}
use Rattle.manual.specs.Sequences.{Start, Stop, Clear, Read, Restore, Request, outcome, rules_of}
use Rattle.manual.proofs.AnswersLaws.{left_alone}
use Rattle.manual.proofs.WordsLaws.{clash}

given : (rules : List Rule) → Given rules (first_that_applies rules)
unfolding first_that_applies
given [] = done_by [] refl
given (r ∷ rs) = go r.applies refl (given rs)
  where
    later : {k : ℕ} {l : List Rule} → r.applies ≡ false → Given l k → Given (r ∷ l) k
    later e (done_by l n) = done_by (r ∷ l) (rw (e, n))
    later e (refusal_by a x b n q) = refusal_by (r ∷ a) x b (rw (e, n)) q

    go : (b : Bool) → r.applies ≡ b → Given rs (first_that_applies rs)
        → Given (r ∷ rs) (cond b r.number (first_that_applies rs))
    go true e g = refusal_by [] r rs refl e
    go false e g = later e g

none_first : (rules : List Rule) → any_of (λ r. r.applies) rules ≡ false → first_that_applies rules ≡ 0
unfolding first_that_applies
none_first [] n = refl
none_first (r ∷ rs) n = go r.applies n (λ t. none_first rs t)
  where
    go : (b : Bool) → b || any_of (λ r. r.applies) rs ≡ false
        → (any_of (λ r. r.applies) rs ≡ false → first_that_applies rs ≡ 0) → cond b r.number (first_that_applies rs) ≡ 0
    go true t ih = clash true refl t
    go false t ih = ih t

this_first : (earlier : List Rule) (r : Rule) (later : List Rule) → any_of (λ r. r.applies) earlier ≡ false
    → r.applies ≡ true → first_that_applies (earlier ++ r ∷ later) ≡ r.number
unfolding first_that_applies
this_first [] r later n q = rw q
this_first (x ∷ xs) r later n q = go x.applies n (λ t. this_first xs r later t q)
  where
    go : (b : Bool) → b || any_of (λ r. r.applies) xs ≡ false
        → (any_of (λ r. r.applies) xs ≡ false → first_that_applies (xs ++ r ∷ later) ≡ r.number)
        → cond b x.number (first_that_applies (xs ++ r ∷ later)) ≡ r.number
    go true t ih = clash true refl t
    go false t ih = ih t

only : {rules : List Rule} {k : ℕ} → Given rules k → first_that_applies rules ≡ k
only (done_by rules n) = none_first rules n
only (refusal_by a r b n q) = this_first a r b n q

module _ (cfg : Configuration) where
  -- every call is judged by its list, and accepted answers 0
  record Judged (c : Call) (b : Beside) (s : State) : Type 0 where
    accepts : Outcome
    zero : accepts.answer ≡ 0
    is : outcome cfg c b s ≡ judged (rules_of cfg c b s) b s accepts

  judges_query : (q : Query) (b : Beside) (s : State) → Judged (Read q) b s
  unfolding read_status read_frame read_counter read_missing read_table read_paint list_grey save
  judges_query (ReadStatus k) b s = record { accepts = _; zero = refl; is = refl }
  judges_query (ReadFrame k which) b s = record { accepts = _; zero = refl; is = refl }
  judges_query (ReadCounter k) b s = record { accepts = _; zero = refl; is = refl }
  judges_query (ReadMissing k present) b s = record { accepts = _; zero = refl; is = refl }
  judges_query ReadTable b s = record { accepts = _; zero = refl; is = refl }
  judges_query (ReadPaint k) b s = record { accepts = _; zero = refl; is = refl }
  judges_query ListGrey b s = record { accepts = _; zero = refl; is = refl }
  judges_query Save b s = record { accepts = _; zero = refl; is = refl }

  judges : (c : Call) (b : Beside) (s : State) → Judged c b s
  unfolding fresh report tick start_cycle stop_cycle clear_code restore request_reply sent
  judges Fresh b s = record { accepts = _; zero = refl; is = refl }
  judges (Report k code frame present) b s = record { accepts = _; zero = refl; is = refl }
  judges (Tick ms frame present) b s = record { accepts = _; zero = refl; is = refl }
  judges (Start c) b s = record { accepts = _; zero = refl; is = refl }
  judges (Stop c) b s = record { accepts = _; zero = refl; is = refl }
  judges (Clear code) b s = record { accepts = _; zero = refl; is = refl }
  judges (Read q) b s = judges_query q b s
  judges (Restore image) b s = record { accepts = _; zero = refl; is = refl }
  judges (Request bytes) b s = record { accepts = _; zero = refl; is = refl }

  judged_answer : (rules : List Rule) (b : Beside) (s : State) (o : Outcome) → o.answer ≡ 0
      → (judged rules b s o).answer ≡ first_that_applies rules
  unfolding judged
  judged_answer rules b s o z = go (eqb (first_that_applies rules) 0) refl
    where
      go : (t : Bool) → eqb (first_that_applies rules) 0 ≡ t
          → (cond t o (refused (first_that_applies rules) b s)).answer ≡ first_that_applies rules
      go true e = z ∙ sym (eqb-true (first_that_applies rules) 0 e)
      go false e = refl

  module _ (c : Call) (b : Beside) (s : State) where
    pub answer_is : (outcome cfg c b s).answer ≡ first_that_applies (rules_of cfg c b s)
    answer_is =
        let j = judges c b s in ap (λ (o : Outcome). o.answer) j.is
        ∙ judged_answer (rules_of cfg c b s) b s j.accepts j.zero

    -- exactly when
    pub answer_is_given : (k : ℕ) → ((outcome cfg c b s).answer ≡ k) ↔ Given (rules_of cfg c b s) k
    answer_is_given k = (
      λ e. subst (Given (rules_of cfg c b s)) (sym answer_is ∙ e) (given (rules_of cfg c b s)),
      λ g. answer_is ∙ only g,
    )

    -- "A refusal changes nothing lent and hands back the board it was given"
    pub refusal_leaves_all : (outcome cfg c b s).answer ≢ 0 → outcome cfg c b s ≡ refused (outcome cfg c b s).answer b s
    refusal_leaves_all n =
        let j = judges c b s in
        j.is
        ∙ left_alone (rules_of cfg c b s) b s j.accepts j.zero (subst (λ (o : Outcome). o.answer ≢ 0) j.is n)
        ∙ ap (λ (k : ℕ). refused k b s) (sym answer_is)
