-- Laws of specs/Clauses.antt: the two parts together are the nine clauses.
use mathlib.Core.Path.{◌≡◌, refl, sym, ◌∙◌}
use mathlib.Core.Bool.{Bool, true, false, not, ◌&&◌, ◌||◌, beq}
use mathlib.Core.List.{[], ◌∷◌}
use Prim.Native.Nat.{ℕ, ◌≤◌}
use native.Mathlib.Omega.{arith}
use lib.Dec.{eqb, ltb}
use borrow.Author.Tests.{eqb-true, lt-ltb}
use Rattle.history.specs.Words.{implies, same, holds}
use Rattle.history.specs.StatusByte.{confirmed_dtc, warning_indicator_requested, EventRecord, Limits}
use Rattle.history.specs.WellFormed.{untested_is_fresh, faulty_has_failed, failed_is_pending, pending_has_cycles}
use Rattle.history.specs.WellFormed.{healing_below, healing_only_warned, ageing_below, ageing_only_confirmed}
use Rattle.history.specs.WellFormed.{well_formed_record}
use Rattle.history.proofs.WordsLaws.{and_true, and_false, and_assoc, part}
use Rattle.status.specs.Clauses.{bytes_ok, limits_ok, limits_kept}

-- both hold or neither does, as code compares them
pub equal_same : (a b : Bool) → beq a b ≡ same a b
equal_same true true = refl
equal_same true false = refl
equal_same false true = refl
equal_same false false = refl

-- tests as code joins them
pub three_hold : (a b c : Bool) → a && b && c ≡ holds (a ∷ b ∷ c ∷ [])
unfolding holds
three_hold a b c = simp (and_assoc, and_true)

pub seven_hold : (a b c d e f g : Bool)
    → a && b && c && d && e && f && g ≡ holds (a ∷ b ∷ c ∷ d ∷ e ∷ f ∷ g ∷ [])
unfolding holds
seven_hold a b c d e f g = simp (and_assoc, and_true)

-- the clauses on h and g, the halves of each brought together
brought : (e f g h i : Bool)
    → holds (e ∷ g ∷ i ∷ []) && holds (f ∷ h ∷ []) ≡ holds (e ∷ f ∷ g ∷ h ∷ i ∷ [])
unfolding holds
brought false f g h i = refl
brought true true false h i = refl
brought true true true true true = refl
brought true true true true false = refl
brought true true true false true = refl
brought true true true false false = refl
brought true false false h i = refl
brought true false true h true = refl
brought true false true h false = refl

parted_hold : (a b c w p q e f g h i : Bool)
    → holds (a ∷ b ∷ c ∷ implies w p ∷ e ∷ g ∷ i ∷ []) && holds (implies w q ∷ f ∷ h ∷ [])
    ≡ holds (a ∷ b ∷ c ∷ implies w (p && q) ∷ e ∷ f ∷ g ∷ h ∷ i ∷ [])
unfolding holds
parted_hold false b c w p q e f g h i = refl
parted_hold true false c w p q e f g h i = refl
parted_hold true true false w p q e f g h i = refl
parted_hold true true true false p q e f g h i = brought e f g h i
parted_hold true true true true false q e f g h i = refl
parted_hold true true true true true true e f g h i = brought e f g h i
parted_hold true true true true true false e f g h i = and_false (holds (e ∷ g ∷ i ∷ []))

pub parted : (n : Limits) (r : EventRecord) → bytes_ok r && limits_ok n r ≡ well_formed_record n r
unfolding bytes_ok limits_ok well_formed_record
parted n r =
    parted_hold (untested_is_fresh r.status) (faulty_has_failed r.status) (failed_is_pending r.status)
    (r.status warning_indicator_requested) (r.status confirmed_dtc) n.indicator (pending_has_cycles r)
    (healing_below n r) (healing_only_warned r) (ageing_below n r) (ageing_only_confirmed r)

-- ---- a record that no limit has something to say of

zero_where : (bit : Bool) (k : ℕ) → bit ≡ false → implies (not bit) (eqb k 0) ≡ true → k ≡ 0
zero_where bit k e t = eqb-true k 0 (rw e at t)

where_first : (a : Bool) {b c : Bool} → (a ≡ true → b ≡ c) → a && b ≡ a && c
where_first true f = f refl
where_first false f = refl

module _ (n : Limits) (r : EventRecord) (H_least : 1 ≤ n.H) (A_least : 1 ≤ n.A) where
  no_counts_lem : r.status confirmed_dtc ≡ false → r.status warning_indicator_requested ≡ false → bytes_ok r ≡ true
      → (r.h ≡ 0) × (r.g ≡ 0)
  unfolding bytes_ok
  no_counts_lem c w b = (
    zero_where (r.status warning_indicator_requested) r.h w (part _ b 5),
    zero_where (r.status confirmed_dtc) r.g c (part _ b 6),
  )

  within_any : r.status confirmed_dtc ≡ false → r.status warning_indicator_requested ≡ false → bytes_ok r ≡ true
      → limits_ok n r ≡ true
  unfolding limits_ok holds
  within_any c w b =
      let (h, g) = no_counts_lem c w b in
      (λ i. holds (implies (w i) n.indicator ∷ ltb (h i) n.H ∷ ltb (g i) n.A ∷ []))
      ∙ (λ i. holds (true ∷ lt-ltb 0 n.H (omega arith) i ∷ lt-ltb 0 n.A (omega arith) i ∷ []))

  kept : bytes_ok r ≡ true → limits_kept n r ≡ limits_ok n r
  unfolding limits_kept
  kept b = go (r.status confirmed_dtc) (r.status warning_indicator_requested) refl refl
    where
      go : (c w : Bool) → r.status confirmed_dtc ≡ c → r.status warning_indicator_requested ≡ w
          → implies (c || w) (limits_ok n r) ≡ limits_ok n r
      go true w e f = refl
      go false true e f = refl
      go false false e f = sym (within_any e f b)

  pub parted_where : bytes_ok r && limits_kept n r ≡ well_formed_record n r
  parted_where = where_first (bytes_ok r) kept ∙ parted n r
