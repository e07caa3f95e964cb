-- Document 02, W1, of the fault detection counter: "It is 127 exactly at the top and −128 exactly at the bottom for
-- kinds 1 and 2, and never falls as D rises."; it lies in −128..127, and is one of 127, −128 and 0 for kind 0.
use mathlib.Core.Path.{◌≡◌, refl, sym, subst, ap, ◌∙◌}
use mathlib.Core.Logic.{◌⊎◌, ◌↔◌, inl, inr, ⊎_elim}
use mathlib.Core.Bool.{Bool, true, false, not, cond}
use Prim.Native.Nat.{ℕ, suc, ◌-◌, ◌*◌, ◌≤◌, ◌<◌}
use native.Mathlib.Nat.{mul_comm, mul-le-mul_left, mul-lt-mul_of_pos_left, le_trans, div-mul-le_self, div-le_of_le-mul}
use native.Mathlib.Nat.{le-div_iff_mul-le, div-lt_iff_lt-mul, mul-div_cancel, eq-or-lt_of_le}
use native.Mathlib.Omega.{arith}
use lib.IntN.{ℤ, pos, negsuc, neg_ℤ, nat_abs}
use lib.Signed.{le_z}
use borrow.Author.Tests.{eqb-true}
use Rattle.history.specs.StatusByte.{test_failed, test_not_completed_since_last_clear, Status}
use Rattle.manual.specs.Words.{between, twos_complement}
use Rattle.manual.specs.Configuration.{Configuration, kind_of, is_internal, is_time, low_of, high_of}
use Rattle.manual.specs.Debouncing.{top, bottom}
use Rattle.manual.specs.Counter.{share, distance, debounced_counter, internal_counter, counter_of}
use Rattle.manual.proofs.WordsLaws.{clash, by, between_from, between_to, between_is}
use Rattle.manual.proofs.SignedLaws.{over, under, signed, add_is, minus_is, neg_is}
use Rattle.manual.specs.declared.Board.{Board}
use Rattle.manual.specs.WellFormed.{d_ok}
use Rattle.manual.proofs.ConfigurationLaws.{Range}
use Rattle.manual.proofs.DebouncingLaws.{between_ends}

-- ---- the part of a whole that a distance has of its end, rounded down

share_below : (w m : ℕ) (end : ℤ) → 0 < w → m < nat_abs end → share w m end < w
share_below w m end p h =
    (div-lt_iff_lt-mul {k = nat_abs end} {x = w * m} {y = w} (omega arith)).1 (mul-lt-mul_of_pos_left h p)

share_most : (w m : ℕ) (end : ℤ) → m ≤ nat_abs end → share w m end ≤ w
share_most w m end h =
    div-le_of_le-mul (nat_abs end) (subst (λ (k : ℕ). w * m ≤ k) (mul_comm w (nat_abs end)) (mul-le-mul_left w h))

share_rises : (w : ℕ) {m n : ℕ} (end : ℤ) → 0 < nat_abs end → m ≤ n → share w m end ≤ share w n end
share_rises w {m} {n} end p h =
    (le-div_iff_mul-le {k = nat_abs end} {x = share w m end} {y = w * n} p).1
    (le_trans (div-mul-le_self (w * m) (nat_abs end)) (mul-le-mul_left w h))

share_all : (w : ℕ) {m : ℕ} (end : ℤ) → 0 < nat_abs end → m ≡ nat_abs end → share w m end ≡ w
share_all w end p e = ap (λ (m : ℕ). share w m end) e ∙ mul-div_cancel w p

-- only the whole distance has all of it
whole : (w m : ℕ) (end : ℤ) → 0 < w → m ≤ nat_abs end → share w m end ≡ w → m ≡ nat_abs end
whole w m end p h f =
    ⊎_elim (λ e. e) (λ b. let c = share_below w m end p b in absurd (omega arith)) (eq-or-lt_of_le h)

-- how far a number lies above 0, or below it
abs_over : (z : ℤ) → le_z (pos 0) z ≡ true → (nat_abs z ≡ over z) × (under z ≡ 0)
abs_over (pos n) h = (refl, refl)
abs_over (negsuc n) h = clash true refl (sym h)

abs_under : (z : ℤ) → le_z z (negsuc 0) ≡ true → (nat_abs z ≡ under z) × (over z ≡ 0)
abs_under (pos n) h = clash true refl (sym h)
abs_under (negsuc n) h = (refl, refl)

-- ---- kind 0

pub internal_one_of_three : (cfg : Configuration) (e : ℕ) (d : ℤ) (s : Status) → is_internal cfg e ≡ true
    → (counter_of cfg e d s ≡ pos 127) ⊎ ((counter_of cfg e d s ≡ negsuc 127) ⊎ (counter_of cfg e d s ≡ pos 0))
unfolding counter_of internal_counter
internal_one_of_three cfg e d s k =
    rw k
    (by (s test_failed) (λ (z : ℤ). (z ≡ pos 127) ⊎ ((z ≡ negsuc 127) ⊎ (z ≡ pos 0))) (λ t. inl refl) λ t.
    by (not (s test_not_completed_since_last_clear)) (λ (z : ℤ). (z ≡ pos 127) ⊎ ((z ≡ negsuc 127) ⊎ (z ≡ pos 0)))
    (λ t. inr (inl refl)) (λ t. inr (inr refl)))

-- ---- kinds 1 and 2

module _ (cfg : Configuration) (e : ℕ) (l : Range cfg e) where
  high_is : (nat_abs (high_of cfg e) ≡ over (high_of cfg e)) × (under (high_of cfg e) ≡ 0)
  high_is = abs_over (high_of cfg e) (omega signed)

  low_is : (nat_abs (low_of cfg e) ≡ under (low_of cfg e)) × (over (low_of cfg e) ≡ 0)
  low_is = abs_under (low_of cfg e) l.low_most

  high_some : 0 < nat_abs (high_of cfg e)
  high_some = let h = high_is in omega signed

  low_some : 0 < nat_abs (low_of cfg e)
  low_some = let h = low_is in omega signed

  -- from 0 on the distance ends at Q, which is the top's alone
  rising_most : (n : ℕ) → le_z (pos n) (top cfg e) ≡ true → distance cfg e (pos n) ≤ nat_abs (high_of cfg e)
  unfolding top
  rising_most n h =
      ⊎_elim
      (λ t. let k = eqb-true (kind_of cfg e) 1 t in rw k (let h' = rw k at h in let q = high_is in omega signed))
      (λ t. let k = eqb-true (kind_of cfg e) 2 t in rw k
      (let h' = rw k at h in let q = high_is in omega (signed, add_is (high_of cfg e) (pos 1))))
      l.kind_is

  top_alone : (n : ℕ) → le_z (pos n) (top cfg e) ≡ true → distance cfg e (pos n) ≡ nat_abs (high_of cfg e)
      → pos n ≡ top cfg e
  unfolding top
  top_alone n h f =
      ⊎_elim
      (λ t. let k = eqb-true (kind_of cfg e) 1 t in rw k (let f' = rw k at f in let q = high_is in omega signed))
      (λ t. let k = eqb-true (kind_of cfg e) 2 t in rw k
      (let h' = rw k at h in let f' = rw k at f in let q = high_is in let o = high_some in
      omega (signed, add_is (high_of cfg e) (pos 1))))
      l.kind_is

  top_full : (n : ℕ) → pos n ≡ top cfg e → distance cfg e (pos n) ≡ nat_abs (high_of cfg e)
  unfolding top
  top_full n p =
      ⊎_elim
      (λ t. let k = eqb-true (kind_of cfg e) 1 t in rw k (let o = ap over (rw k at p) in let q = high_is in omega arith))
      (λ t. let k = eqb-true (kind_of cfg e) 2 t in rw k
      (let o = ap over (rw k at p) in let u = ap under (rw k at p) in let q = high_is in
      omega (arith, add_is (high_of cfg e) (pos 1))))
      l.kind_is

  top_above : (n : ℕ) → negsuc n ≡ top cfg e → ⊥
  unfolding top
  top_above n p =
      ⊎_elim
      (λ t. let k = eqb-true (kind_of cfg e) 1 t in let u = ap under (rw k at p) in let q = high_is in omega arith)
      (λ t. let k = eqb-true (kind_of cfg e) 2 t in
      let o = ap over (rw k at p) in let u = ap under (rw k at p) in let q = high_is in
      omega (arith, add_is (high_of cfg e) (pos 1)))
      l.kind_is

  -- below 0 it ends at |P|, which is the bottom's alone
  falling_most : (n : ℕ) → le_z (bottom cfg e) (negsuc n) ≡ true → distance cfg e (negsuc n) ≤ nat_abs (low_of cfg e)
  unfolding bottom
  falling_most n h =
      ⊎_elim
      (λ t. let k = eqb-true (kind_of cfg e) 1 t in rw k (let h' = rw k at h in let q = low_is in omega signed))
      (λ t. let k = eqb-true (kind_of cfg e) 2 t in rw k
      (let h' = rw k at h in let q = low_is in omega (signed, minus_is (low_of cfg e) (pos 1))))
      l.kind_is

  bottom_alone : (n : ℕ) → le_z (bottom cfg e) (negsuc n) ≡ true → distance cfg e (negsuc n) ≡ nat_abs (low_of cfg e)
      → negsuc n ≡ bottom cfg e
  unfolding bottom
  bottom_alone n h f =
      ⊎_elim
      (λ t. let k = eqb-true (kind_of cfg e) 1 t in rw k (let f' = rw k at f in let q = low_is in omega signed))
      (λ t. let k = eqb-true (kind_of cfg e) 2 t in rw k
      (let h' = rw k at h in let f' = rw k at f in let q = low_is in let o = low_some in
      omega (signed, minus_is (low_of cfg e) (pos 1))))
      l.kind_is

  bottom_full : (n : ℕ) → negsuc n ≡ bottom cfg e → distance cfg e (negsuc n) ≡ nat_abs (low_of cfg e)
  unfolding bottom
  bottom_full n p =
      ⊎_elim
      (λ t. let k = eqb-true (kind_of cfg e) 1 t in rw k (let u = ap under (rw k at p) in let q = low_is in omega arith))
      (λ t. let k = eqb-true (kind_of cfg e) 2 t in rw k
      (let o = ap over (rw k at p) in let u = ap under (rw k at p) in let q = low_is in
      omega (arith, minus_is (low_of cfg e) (pos 1))))
      l.kind_is

  bottom_below : (n : ℕ) → pos n ≡ bottom cfg e → ⊥
  unfolding bottom
  bottom_below n p =
      ⊎_elim
      (λ t. let k = eqb-true (kind_of cfg e) 1 t in
      let o = ap over (rw k at p) in let u = ap under (rw k at p) in let q = low_is in let m = low_some in omega arith)
      (λ t. let k = eqb-true (kind_of cfg e) 2 t in
      let o = ap over (rw k at p) in let u = ap under (rw k at p) in let q = low_is in
      omega (arith, minus_is (low_of cfg e) (pos 1)))
      l.kind_is

  not_internal : is_internal cfg e ≡ false
  not_internal =
      ⊎_elim (λ t. let k = eqb-true (kind_of cfg e) 1 t in rw k) (λ t. let k = eqb-true (kind_of cfg e) 2 t in rw k)
      l.kind_is

  distance_rises : (n n' : ℕ) → n ≤ n' → distance cfg e (pos n) ≤ distance cfg e (pos n')
  distance_rises n n' h = both (is_time cfg e)
    where
      both : (t : Bool) → cond t (n - 1) n ≤ cond t (n' - 1) n'
      both true = omega arith
      both false = h

  distance_falls : (n n' : ℕ) → n' ≤ n → distance cfg e (negsuc n') ≤ distance cfg e (negsuc n)
  distance_falls n n' h = both (is_time cfg e)
    where
      both : (t : Bool) → cond t (suc n' - 1) (suc n') ≤ cond t (suc n - 1) (suc n)
      both true = omega arith
      both false = omega arith

  -- how far the counter lies above 0 and below it
  abbrev above_zero : ℕ → ℕ
  above_zero n = share 127 (distance cfg e (pos n)) (high_of cfg e)

  abbrev below_zero : ℕ → ℕ
  below_zero n = share 128 (distance cfg e (negsuc n)) (low_of cfg e)

  module _ (s : Status) where
    -- the counter on either side of 0
    above : (n : ℕ) → counter_of cfg e (pos n) s ≡ pos (above_zero n)
    unfolding counter_of debounced_counter
    above n = rw not_internal

    below : (n : ℕ) → counter_of cfg e (negsuc n) s ≡ neg_ℤ (pos (below_zero n))
    unfolding counter_of debounced_counter
    below n = rw not_internal

    -- "It is 127 exactly at the top"
    pub top_exactly : (d : ℤ) → between (bottom cfg e) (top cfg e) d ≡ true
        → (counter_of cfg e d s ≡ pos 127) ↔ (d ≡ top cfg e)
    top_exactly (pos n) i = (to, from)
      where
        to : counter_of cfg e (pos n) s ≡ pos 127 → pos n ≡ top cfg e
        to c =
            let h = between_to (bottom cfg e) (top cfg e) (pos n) i in
            let o = ap over (sym (above n) ∙ c) in
            top_alone n h (whole 127 _ (high_of cfg e) (omega arith) (rising_most n h) o)

        from : pos n ≡ top cfg e → counter_of cfg e (pos n) s ≡ pos 127
        from p = above n ∙ ap pos (share_all 127 (high_of cfg e) high_some (top_full n p))
    top_exactly (negsuc n) i = (
      λ c. absurd (let o = ap over (sym (below n) ∙ c) in let z = neg_is (pos (below_zero n)) in omega arith),
      λ p. absurd (top_above n p),
    )

    -- "and −128 exactly at the bottom"
    pub bottom_exactly : (d : ℤ) → between (bottom cfg e) (top cfg e) d ≡ true
        → (counter_of cfg e d s ≡ negsuc 127) ↔ (d ≡ bottom cfg e)
    bottom_exactly (pos n) i =
        (λ c. absurd (let u = ap under (sym (above n) ∙ c) in omega arith), λ p. absurd (bottom_below n p))
    bottom_exactly (negsuc n) i = (to, from)
      where
        to : counter_of cfg e (negsuc n) s ≡ negsuc 127 → negsuc n ≡ bottom cfg e
        to c =
            let h = between_from (bottom cfg e) (top cfg e) (negsuc n) i in
            let u = sym (neg_is (pos (below_zero n))).1 ∙ ap under (sym (below n) ∙ c) in
            bottom_alone n h (whole 128 _ (low_of cfg e) (omega arith) (falling_most n h) u)

        from : negsuc n ≡ bottom cfg e → counter_of cfg e (negsuc n) s ≡ negsuc 127
        from p = below n ∙ ap (λ (m : ℕ). neg_ℤ (pos m)) (share_all 128 (low_of cfg e) low_some (bottom_full n p))

    -- "−128 to 127"
    pub in_bounds : (d : ℤ) → between (bottom cfg e) (top cfg e) d ≡ true
        → between (negsuc 127) (pos 127) (counter_of cfg e d s) ≡ true
    in_bounds (pos n) i =
        let m = share_most 127 _ (high_of cfg e) (rising_most n (between_to (bottom cfg e) (top cfg e) (pos n) i)) in
        rw (above n) (between_is (negsuc 127) (pos 127) (pos (above_zero n)) (omega signed) (omega signed))
    in_bounds (negsuc n) i =
        let m =
        share_most 128 _ (low_of cfg e) (falling_most n (between_from (bottom cfg e) (top cfg e) (negsuc n) i)) in
        let z = neg_is (pos (below_zero n)) in
        rw (below n) (between_is (negsuc 127) (pos 127) (neg_ℤ (pos (below_zero n))) (omega signed) (omega signed))

    -- "and never falls as D rises", wherever D lies
    pub never_falls : (d d' : ℤ) → le_z d d' ≡ true → le_z (counter_of cfg e d s) (counter_of cfg e d' s) ≡ true
    never_falls (pos n) (pos n') h =
        let m = share_rises 127 (high_of cfg e) high_some (distance_rises n n' (omega signed)) in
        rw (above n, above n') (omega signed)
    never_falls (pos n) (negsuc n') h = clash true refl (sym h)
    never_falls (negsuc n) (pos n') h =
        let z = neg_is (pos (below_zero n)) in rw (below n, above n') (omega signed)
    never_falls (negsuc n) (negsuc n') h =
        let m = share_rises 128 (low_of cfg e) low_some (distance_falls n n' (omega signed)) in
        let z = neg_is (pos (below_zero n)) in
        let z' = neg_is (pos (below_zero n')) in
        rw (below n, below n') (omega signed)

-- "−128 to 127", of every kind, where D is as a well-formed state has it
pub counter_in_bounds : (cfg : Configuration) (b : Board) (e : ℕ) → (is_internal cfg e ≡ false → Range cfg e)
    → (d : ℤ) (s : Status) → d_ok cfg b e d ≡ true → between (negsuc 127) (pos 127) (counter_of cfg e d s) ≡ true
unfolding between
counter_in_bounds cfg b e range d s h = go (is_internal cfg e) refl
  where
    go : (k : Bool) → is_internal cfg e ≡ k → between (negsuc 127) (pos 127) (counter_of cfg e d s) ≡ true
    go true k =
        ⊎_elim (λ p. rw p) (⊎_elim (λ p. rw p) (λ p. rw p)) (internal_one_of_three cfg e d s k)
    go false k = in_bounds cfg e (range k) s d (between_ends cfg b e (range k) k d h)

-- "counter byte (two's complement)": −1 is FFh, −128 is 80h
pub below_zero_in_a_byte : (twos_complement (negsuc 0) ≡ 0xFF) × (twos_complement (negsuc 127) ≡ 0x80)
unfolding twos_complement
below_zero_in_a_byte = (refl, refl)
