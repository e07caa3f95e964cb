-- Document 02, W7: "refused with new number 12, checked last": a call answers 12 only where no other refusal of its
-- list applies.
use mathlib.Core.Path.{◌≡◌, refl, sym, ◌∙◌}
use mathlib.Core.Bool.{Bool, true, false, not, ◌&&◌, ◌||◌, cond}
use mathlib.Core.List.{List, [], ◌∷◌}
use native.Mathlib.Omega.{arith}
use lib.Dec.{eqb}
use borrow.Author.Tests.{eqb-false, not-true}
use Rattle.history.specs.Words.{any_of}
use Rattle.history.proofs.WordsLaws.{and_left, and_right}
use Rattle.manual.specs.Configuration.{Configuration}
use Rattle.manual.specs.State.{State}
use Rattle.manual.specs.Answers.{Beside, Rule, first_that_applies}
use Rattle.manual.specs.Counter.{read_counter_rules}
use Rattle.manual.specs.Missing.{read_missing_rules}
use Rattle.manual.specs.Calls.{fresh_rules, report_rules, tick_rules, start_rules, stop_rules, clear_rules}
use Rattle.manual.specs.Calls.{read_status_rules, read_frame_rules}
use Rattle.manual.specs.Untested.{read_table_rules, read_paint_rules, list_grey_rules}
use Rattle.manual.specs.Image.{save_rules, restore_rules}
use Rattle.manual.specs.Diagnostics.{request_rules}
use Rattle.manual.specs.Sequences.{Query, ReadStatus, ReadFrame, ReadCounter, ReadMissing, ReadTable, ReadPaint}
use Rattle.manual.specs.Sequences.{ListGrey, Save, Call, Fresh, Report, Tick, Start, Stop, Clear, Read, Restore}
use Rattle.manual.specs.Sequences.{Request, outcome, query_rules, rules_of}
use Rattle.manual.proofs.AnswerIsFirstThatApplies.{answer_is}

-- no rule but the last has the number 12
abbrev checked_last : List Rule → Bool
checked_last [] = true
checked_last (r ∷ []) = true
checked_last (r ∷ q ∷ rs) = not (eqb r.number 12) && checked_last (q ∷ rs)

-- a rule with another number applies
abbrev pub applies_else : Rule → Bool
applies_else r = r.applies && not (eqb r.number 12)

none_else : (rules : List Rule) → checked_last rules ≡ true → first_that_applies rules ≡ 12
    → any_of applies_else rules ≡ false
unfolding first_that_applies
none_else [] l e = absurd (let z : ⊥ = omega arith in z)
none_else (r ∷ []) l e = go r.applies e
  where
    go : (b : Bool) → cond b r.number 0 ≡ 12 → (b && not (eqb r.number 12)) || false ≡ false
    go true n = rw n
    go false n = refl
none_else (r ∷ q ∷ rs) l e =
    go r.applies e (none_else (q ∷ rs) (and_right (not (eqb r.number 12)) (checked_last (q ∷ rs)) l))
  where
    other : eqb r.number 12 ≡ false
    other = not-true _ (and_left (not (eqb r.number 12)) (checked_last (q ∷ rs)) l)

    go : (b : Bool) → cond b r.number (first_that_applies (q ∷ rs)) ≡ 12
        → (first_that_applies (q ∷ rs) ≡ 12 → any_of applies_else (q ∷ rs) ≡ false)
        → (b && not (eqb r.number 12)) || any_of applies_else (q ∷ rs) ≡ false
    go true n ih = absurd (eqb-false _ _ other n)
    go false n ih = ih n

module _ (cfg : Configuration) where
  query_last : (q : Query) (b : Beside) (s : State) → checked_last (query_rules cfg q b s) ≡ true
  unfolding read_status_rules read_frame_rules read_counter_rules read_missing_rules read_table_rules read_paint_rules list_grey_rules
      save_rules
  query_last (ReadStatus e) b s = refl
  query_last (ReadFrame e which) b s = refl
  query_last (ReadCounter e) b s = refl
  query_last (ReadMissing e present) b s = refl
  query_last ReadTable b s = refl
  query_last (ReadPaint e) b s = refl
  query_last ListGrey b s = refl
  query_last Save b s = refl

  checked_last_lem : (c : Call) (b : Beside) (s : State) → checked_last (rules_of cfg c b s) ≡ true
  unfolding fresh_rules report_rules tick_rules start_rules stop_rules clear_rules restore_rules request_rules
  checked_last_lem Fresh b s = refl
  checked_last_lem (Report e code frame present) b s = refl
  checked_last_lem (Tick ms frame present) b s = refl
  checked_last_lem (Start c) b s = refl
  checked_last_lem (Stop c) b s = refl
  checked_last_lem (Clear code) b s = refl
  checked_last_lem (Read q) b s = query_last q b s
  checked_last_lem (Restore image) b s = refl
  checked_last_lem (Request bytes) b s = refl

  pub twelve_is_checked_last : (c : Call) (b : Beside) (s : State) → (outcome cfg c b s).answer ≡ 12
      → any_of applies_else (rules_of cfg c b s) ≡ false
  twelve_is_checked_last c b s e =
      none_else (rules_of cfg c b s) (checked_last_lem c b s) (sym (answer_is cfg c b s) ∙ e)
