-- Laws of specs/Near.antt, in its order.
use mathlib.Core.Path.{◌≡◌, sym, ◌∙◌}
use mathlib.Core.Bool.{true, false}
use mathlib.Core.List.{List}
use Prim.Native.Nat.{ℕ, suc, ◌+◌, ◌-◌, ◌≤◌, ◌<◌}
use native.Mathlib.Omega.{arith}
use lib.Dec.{ltb}
use borrow.Author.Tests.{eqb-true, ltb-false}
use Rattle.manual.specs.declared.Rise.{Rise}
use Rattle.manual.specs.declared.StoreAnswer.{StoreAnswer}
use Rattle.manual.specs.Configuration.{most_events}
use Rattle.manual.specs.Counts.{of_store, rise_of, numbers, raised, most_count, past, counts_fit}
use Rattle.manual.proofs.WordsLaws.{all_map, none_pass}
use Rattle.manual.proofs.CountsLaws.{AtMost, store_once, not_past}
use Rattle.counts.proofs.FiveLaws.{list_any_is}
use Rattle.counts.specs.Near.{AreFive, some_near, MayRise}

pub are_five : (counts : List ℕ) → counts_fit counts ≡ true → AreFive counts
are_five counts h = eqb-true _ _ h

-- where no count is near its limit, no call carries one past it: none raises a count by more than 512
pub far_from_past : (n : ℕ) (rise counts : List ℕ) → n ≤ most_events → AtMost n rise → some_near counts ≡ false
    → past (raised rise counts) ≡ false
far_from_past n rise counts q p h =
    not_past n rise counts p
    (all_map (λ k. ltb (most_count - most_events) k ≡ false) (λ k. k + n ≤ most_count)
    (λ k f. omega (arith, q, ltb-false (most_count - most_events) k f)) counts
    (none_pass (λ k. ltb (most_count - most_events) k) counts
    (sym (list_any_is (λ k. ltb (most_count - most_events) k) counts) ∙ h)))

-- ---- a rise, and one store more

module _ (rise : Rise) where
  pub may_rise : (n : ℕ) → n < most_events → AtMost n (numbers rise) → MayRise rise
  may_rise n q p = all_map (λ k. k ≤ n) (λ k. k < most_events) (λ k h. omega (arith, h, q)) (numbers rise) p

  module _ (e : ℕ) (did : StoreAnswer) where
    pub store_not_past : MayRise rise → past (raised (rise_of (of_store e did)) (numbers rise)) ≡ false
    store_not_past p =
        not_past 1 (rise_of (of_store e did)) (numbers rise) (store_once e did)
        (all_map (λ k. k < most_events) (λ k. k + 1 ≤ most_count) (λ k h. omega (arith, h)) (numbers rise) p)

    pub one_more : (n : ℕ) → AtMost n (numbers rise) → AtMost (suc n) (raised (rise_of (of_store e did)) (numbers rise))
    unfolding raised
    one_more n p =
        let o = store_once e did in (
          omega (arith, o.0, p.0),
          (
            omega (arith, o.1.0, p.1.0),
            (
              omega (arith, o.1.1.0, p.1.1.0),
              (omega (arith, o.1.1.1.0, p.1.1.1.0), (omega (arith, o.1.1.1.1.0, p.1.1.1.1.0), tt)),
            ),
          ),
        )
