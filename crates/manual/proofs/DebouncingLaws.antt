-- The debounce number D stays where a well-formed state has it.
use mathlib.Core.Path.{◌≡◌, refl, subst}
use mathlib.Core.Logic.{⊎_elim}
use mathlib.Core.Bool.{Bool, true, false, not, ◌&&◌, ◌||◌, cond}
use Prim.Native.Nat.{ℕ}
use native.Mathlib.Omega.{arith}
use lib.Dec.{eqb, leb-zero}
use lib.IntN.{ℤ, pos, ◌+ℤ◌, ◌-ℤ◌}
use lib.Signed.{le_z, lt_z}
use borrow.Author.Tests.{eqb-true}
use Rattle.manual.specs.declared.Board.{Board}
use Rattle.manual.specs.Words.{between, smaller, larger, eq_z}
use Rattle.manual.specs.Configuration.{Configuration, cycle_of, kind_of, is_internal}
use Rattle.manual.specs.Configuration.{is_time, low_of, high_of, up_of, down_of}
use Rattle.manual.specs.State.{runs}
use Rattle.manual.specs.Debouncing.{Debounced, top, bottom, code_passed, code_failed, code_pre_failed, leaves_at}
use Rattle.manual.specs.Debouncing.{jump_up, jump_down, counter_up, counter_down, counter_report, time_report}
use Rattle.manual.specs.Debouncing.{internal_report, reported, ticked}
use Rattle.manual.specs.WellFormed.{d_fits, d_ok}
use Rattle.manual.proofs.WordsLaws.{by, eq_z_true, between_from, between_to, between_is}
use Rattle.manual.proofs.SignedLaws.{signed, add_is, minus_is}
use Rattle.manual.proofs.ConfigurationLaws.{Range}

-- z lies in lo..hi
record In (lo hi z : ℤ) : Type 0 where
  from : le_z lo z ≡ true
  to : le_z z hi ≡ true

in_of_between : (lo hi z : ℤ) → between lo hi z ≡ true → In lo hi z
in_of_between lo hi z t = record { from = between_from lo hi z t; to = between_to lo hi z t }

between_of_in : (lo hi z : ℤ) → In lo hi z → between lo hi z ≡ true
between_of_in lo hi z h = between_is lo hi z h.from h.to

-- "add …; cap at" the upper end, "subtract …; hold at" the lower

raised_in : (lo hi z u : ℤ) → le_z (pos 0) u ≡ true → In lo hi z → In lo hi (smaller (z +ℤ u) hi)
unfolding smaller
raised_in lo hi z u p h = by (le_z (z +ℤ u) hi) (In lo hi) (λ t. omega (signed, add_is z u)) (λ t. omega signed)

lowered_in : (lo hi z u : ℤ) → le_z (pos 0) u ≡ true → In lo hi z → In lo hi (larger (z -ℤ u) lo)
unfolding larger
lowered_in lo hi z u p h = by (le_z (z -ℤ u) lo) (In lo hi) (λ t. omega signed) (λ t. omega (signed, minus_is z u))

-- ---- D stays between its ends

module _ (cfg : Configuration) (e : ℕ) where
  -- "in P..Q (kind 1) or P−1..Q+1 (kind 2)"
  abbrev InCounter : ℤ → Type 0
  InCounter = In (low_of cfg e) (high_of cfg e)

  abbrev InTime : ℤ → Type 0
  InTime = In (low_of cfg e -ℤ pos 1) (high_of cfg e +ℤ pos 1)

  abbrev InEnds : ℤ → Type 0
  InEnds = In (bottom cfg e) (top cfg e)

module _ (cfg : Configuration) (e : ℕ) (l : Range cfg e) where
  -- the ends lie on both sides of 0
  zero_in : InEnds cfg e (pos 0)
  unfolding bottom top
  zero_in =
      ⊎_elim
      (λ t. let k = eqb-true (kind_of cfg e) 1 t in rw k (omega signed))
      (λ t. let k = eqb-true (kind_of cfg e) 2 t in rw k
      (omega (signed, minus_is (low_of cfg e) (pos 1), add_is (high_of cfg e) (pos 1))))
      l.kind_is

  -- "start from D, or from 0 if …"
  start_in_lem : (jumps : Bool) (d : ℤ) → InCounter cfg e d → InCounter cfg e (cond jumps (pos 0) d)
  start_in_lem jumps d h = by jumps (InCounter cfg e) (λ t. omega signed) (λ t. h)

  counter_up_in : (d : ℤ) → InCounter cfg e d → InCounter cfg e (counter_up cfg e d)
  unfolding counter_up
  counter_up_in d h =
      raised_in (low_of cfg e) (high_of cfg e) _ (up_of cfg e) l.up_least (start_in_lem (jump_up cfg e && lt_z d (pos 0)) d h)

  counter_down_in : (d : ℤ) → InCounter cfg e d → InCounter cfg e (counter_down cfg e d)
  unfolding counter_down
  counter_down_in d h =
      lowered_in (low_of cfg e) (high_of cfg e) _ (down_of cfg e) l.down_least
      (start_in_lem (jump_down cfg e && lt_z (pos 0) d) d h)

  counter_in_lem : (code : ℕ) (d : ℤ) → InCounter cfg e d → InCounter cfg e (counter_report cfg e code d)
  unfolding counter_report
  counter_in_lem code d h =
      by (eqb code code_failed) (InCounter cfg e) (λ t. omega signed) λ t.
      by (eqb code code_passed) (InCounter cfg e) (λ t. omega signed) λ t.
      by (eqb code code_pre_failed) (InCounter cfg e) (λ t. counter_up_in d h) (λ t. counter_down_in d h)

  time_in : (code : ℕ) (d : ℤ) → InTime cfg e d → InTime cfg e (time_report cfg e code d)
  unfolding time_report
  time_in code d h =
      let p = minus_is (low_of cfg e) (pos 1) in
      let q = add_is (high_of cfg e) (pos 1) in
      by (eqb code code_failed) (InTime cfg e) (λ t. omega signed) λ t.
      by (eqb code code_passed) (InTime cfg e) (λ t. omega signed) λ t.
      by (eqb code code_pre_failed) (InTime cfg e)
      (λ t. by (le_z d (pos 0)) (InTime cfg e) (λ u. omega signed) (λ u. h))
      (λ t. by (le_z (pos 0) d) (InTime cfg e) (λ u. omega signed) (λ u. h))

  reported_in : (code : ℕ) (d : ℤ) → InEnds cfg e d → InEnds cfg e (reported cfg e code d).number
  unfolding reported leaves_at bottom top
  reported_in code d h =
      ⊎_elim
      (λ t. let k = eqb-true (kind_of cfg e) 1 t in rw k (counter_in_lem code d (rw k at h)))
      (λ t. let k = eqb-true (kind_of cfg e) 2 t in rw k (time_in code d (rw k at h)))
      l.kind_is

module _ (cfg : Configuration) (e : ℕ) where
  ticked_in : (ms : ℕ) (d : ℤ) → InEnds cfg e d → InEnds cfg e (ticked cfg e ms d).number
  unfolding ticked leaves_at
  ticked_in ms d h =
      by (lt_z (pos 0) d && lt_z d (top cfg e)) (λ (x : Debounced). InEnds cfg e x.number)
      (λ t. raised_in (bottom cfg e) (top cfg e) d (pos ms) (leb-zero ms) h) λ t.
      by (lt_z (bottom cfg e) d && lt_z d (pos 0)) (λ (x : Debounced). InEnds cfg e x.number)
      (λ t. lowered_in (bottom cfg e) (top cfg e) d (pos ms) (leb-zero ms) h) (λ t. h)

-- ---- as a well-formed state says it

module _ (cfg : Configuration) where
  pub stopped_zero : (b : Board) (e : ℕ) (d : ℤ) → runs b (cycle_of cfg e) ≡ false → d_ok cfg b e d ≡ true → d ≡ pos 0
  unfolding d_fits
  stopped_zero b e d r h = eq_z_true d (pos 0) (subst (λ (x : Bool). d_fits cfg x e d ≡ true) r h)

  pub DOk-by-running : (b b' : Board) (e : ℕ) (d : ℤ) → runs b (cycle_of cfg e) ≡ runs b' (cycle_of cfg e)
      → d_ok cfg b e d ≡ true → d_ok cfg b' e d ≡ true
  DOk-by-running b b' e d r h = subst (λ (x : Bool). d_fits cfg x e d ≡ true) r h

-- of kinds 1 and 2, D lies between its ends, also while the cycle is stopped
pub between_ends : (cfg : Configuration) (b : Board) (e : ℕ) → Range cfg e → is_internal cfg e ≡ false → (d : ℤ)
    → d_ok cfg b e d ≡ true → between (bottom cfg e) (top cfg e) d ≡ true
unfolding d_fits
between_ends cfg b e l k d h = go (runs b (cycle_of cfg e)) (rw k at h)
  where
    go : (running : Bool) → cond (not running || false) (eq_z d (pos 0)) (between (bottom cfg e) (top cfg e) d) ≡ true
        → between (bottom cfg e) (top cfg e) d ≡ true
    go true h = h
    go false h = rw (eq_z_true d (pos 0) h) (between_of_in (bottom cfg e) (top cfg e) (pos 0) (zero_in cfg e l))

module _ (cfg : Configuration) (b : Board) (e : ℕ) where
  -- a step of an event whose cycle runs
  step_ok : (d d' : ℤ) → runs b (cycle_of cfg e) ≡ true → (is_internal cfg e ≡ true → d' ≡ d)
      → (is_internal cfg e ≡ false → InEnds cfg e d → InEnds cfg e d') → d_ok cfg b e d ≡ true → d_ok cfg b e d' ≡ true
  unfolding d_fits
  step_ok d d' r same stays h =
      rw r
      (by (is_internal cfg e) (λ t. t ≡ true)
      (λ k. rw (same k) (rw (r, k) at h))
      (λ k. between_of_in (bottom cfg e) (top cfg e) d'
      (stays k (in_of_between (bottom cfg e) (top cfg e) d (rw (r, k) at h)))))

  module _ (range : is_internal cfg e ≡ false → Range cfg e) where
    pub zero_ok : d_ok cfg b e (pos 0) ≡ true
    unfolding d_fits
    zero_ok = go (not (runs b (cycle_of cfg e))) (is_internal cfg e) range
      where
        go : (stopped internal : Bool) → (internal ≡ false → Range cfg e)
            → cond (stopped || internal) true (between (bottom cfg e) (top cfg e) (pos 0)) ≡ true
        go true internal l = refl
        go false true l = refl
        go false false l = between_of_in (bottom cfg e) (top cfg e) (pos 0) (zero_in cfg e (l refl))

    module _ (r : runs b (cycle_of cfg e) ≡ true) where
      pub report_ok : (code : ℕ) (d : ℤ) → d_ok cfg b e d ≡ true → d_ok cfg b e (reported cfg e code d).number ≡ true
      unfolding reported internal_report
      report_ok code d =
          step_ok d (reported cfg e code d).number r (λ k. rw k) (λ k. reported_in cfg e (range k) code d)

      pub tick_ok : is_time cfg e ≡ true → (ms : ℕ) (d : ℤ) → d_ok cfg b e d ≡ true
          → d_ok cfg b e (ticked cfg e ms d).number ≡ true
      tick_ok t ms d =
          step_ok d (ticked cfg e ms d).number r (λ k. absurd (omega (arith, eqb-true))) (λ k. ticked_in cfg e ms d)
