-- Laws of a test that is judged last, after others.
use mathlib.Core.Path.{◌≡◌, sym, ap, ◌∙◌}
use mathlib.Core.Bool.{true, cond}
use mathlib.Core.List.{List, ◌++◌}
use Prim.Native.Nat.{ℕ}
use lib.Dec.{eqb}
use borrow.Author.Tests.{ne_eqb}
use Rattle.manual.specs.declared.Refusal.{Refusal}
use Rattle.manual.specs.Answers.{Rule, first_that_applies, number_of}
use Rattle.manual.proofs.AnswersLaws.{numbered, first_of_both, never_done}
use Rattle.std.specs.Prelude.{Result, Ok, Err, ⊤}
use Rattle.judgement.specs.Checks.{check_number}

module _ (before : List Rule) (last : List Rule) (n : numbered before ≡ true) {check : Result ⊤ Refusal}
    (e : check_number check ≡ first_that_applies before) where
  pub last_judged : check ≡ Ok tt → {number : ℕ} → number ≡ first_that_applies last
      → number ≡ first_that_applies (before ++ last)
  last_judged g p =
      p
      ∙ sym
      (first_of_both before last n
      ∙ ap (λ (k : ℕ). cond (eqb k 0) (first_that_applies last) k) (sym e ∙ ap check_number g))

  pub stopped_before : (r : Refusal) → check ≡ Err r → number_of r ≡ first_that_applies (before ++ last)
  stopped_before r g =
      sym
      (first_of_both before last n
      ∙ ap (λ (k : ℕ). cond (eqb k 0) (first_that_applies last) k) (sym e ∙ ap check_number g)
      ∙ kept r)
    where
      kept : (r : Refusal) → cond (eqb (number_of r) 0) (first_that_applies last) (number_of r) ≡ number_of r
      kept r = rw (ne_eqb (number_of r) 0 (never_done r))
