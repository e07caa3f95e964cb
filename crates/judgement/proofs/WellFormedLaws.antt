-- A state is judged by its lengths, then its records, its debounce numbers and its memory, each in a pass of its own.
use mathlib.Core.Path.{◌≡◌, refl, sym, ap, ◌∙◌}
use mathlib.Core.Bool.{Bool, true, false, not, ◌&&◌, ◌||◌, cond}
use mathlib.Core.List.{List}
use Prim.Native.Nat.{ℕ, zero, suc, ◌<◌}
use native.Mathlib.Omega.{arith}
use lib.IntN.{ℤ, pos}
use lib.ListN.{get_or}
use borrow.Author.Tests.{eq-eqb}
use Rattle.history.specs.Words.{holds}
use Rattle.history.proofs.WordsLaws.{and_true}
use Rattle.manual.specs.declared.Board.{Board}
use Rattle.manual.specs.Words.{all_below}
use Rattle.manual.specs.Configuration.{Configuration, events, places, limits_of, config_ok}
use Rattle.manual.specs.State.{opened, stored_at, lent}
use Rattle.manual.specs.WellFormed.{record_ok, d_ok, memory_fits_with, lengths_fit_with, memory_ok_with, well_formed_with}
use Rattle.manual.proofs.ConfigurationLaws.{config_tells}
use Rattle.manual.proofs.WellFormedLaws.{lengths_tell}
use Rattle.status.specs.Clauses.{bytes_ok, limits_kept}
use Rattle.status.proofs.ClausesLaws.{parted_where}
use Rattle.memory.specs.Judgement.{block_ok}
use Rattle.config.proofs.Tests.{all_both}

-- the passes over the events
abbrev pub records_are : Configuration → List ℕ → Bool
records_are cfg records = all_below (events cfg) (λ e. record_ok cfg e (opened (stored_at e records)))

abbrev pub numbers_are : Configuration → Board → List ℤ → Bool
numbers_are cfg b debounce = all_below (events cfg) (λ e. d_ok cfg b e (get_or debounce e (pos 0)))

-- the test of a D that is not 0, joined to that of 0
pub or_zero : (running internal zero within : Bool)
    → (not running || internal ≡ false → zero ≡ true → within ≡ true)
    → zero || (running && not internal && within) ≡ cond (not running || internal) zero within
or_zero true true true within h = refl
or_zero true true false within h = refl
or_zero true false true within h = sym (h refl refl)
or_zero true false false within h = refl
or_zero false internal true within h = refl
or_zero false internal false within h = refl

-- tests that agree below n
same_below : (n : ℕ) (f g : ℕ → Bool) → ((e : ℕ) → e < n → f e ≡ g e) → all_below n f ≡ all_below n g
unfolding all_below
same_below zero f g h = refl
same_below (suc n) f g h =
    λ i. same_below n f g (λ e below. h e (let b = below in omega arith)) i && h n (omega arith) i

-- the records are judged in two passes
pub records_parted : (cfg : Configuration) (records : List ℕ) {n : ℕ} → config_ok cfg ≡ true → n ≡ events cfg
    → all_below n (λ e. bytes_ok (opened (stored_at e records)))
    && all_below n (λ e. limits_kept (limits_of cfg e) (opened (stored_at e records)))
    ≡ records_are cfg records
records_parted cfg records {n} ok q =
    sym
    (all_both n (λ e. bytes_ok (opened (stored_at e records)))
    (λ e. limits_kept (limits_of cfg e) (opened (stored_at e records))))
    ∙ same_below n
    (λ e. bytes_ok (opened (stored_at e records)) && limits_kept (limits_of cfg e) (opened (stored_at e records)))
    (λ e. record_ok cfg e (opened (stored_at e records)))
    (λ e below. let row = (config_tells cfg ok).row e (let b = below in omega (arith, q)) in
    parted_where (limits_of cfg e) (opened (stored_at e records)) row.limits.H_least row.limits.A_least)
    ∙ ap (λ (k : ℕ). all_below k (λ e. record_ok cfg e (opened (stored_at e records)))) q

-- payloads of W bytes
module _ (cfg : Configuration) (W : ℕ) (records : List ℕ) (debounce : List ℤ) (memory : List ℕ) (b : Board) where
  -- the judgement of a memory block is the manual's, with the block's length
  pub block_is : block_ok (events cfg) (places cfg) W records memory
      ≡ memory_fits_with cfg W (lent records debounce memory b) && memory_ok_with cfg W (lent records debounce memory b)
  unfolding block_ok memory_ok_with holds stored_at
  block_is = refl

  pub not_fitting : lengths_fit_with cfg W (lent records debounce memory b) ≡ false
      → well_formed_with cfg W (lent records debounce memory b) ≡ false
  unfolding well_formed_with holds
  not_fitting l = rw l

  pub judged_in_passes : lengths_fit_with cfg W (lent records debounce memory b) ≡ true
      → records_are cfg records && numbers_are cfg b debounce
      && block_ok (events cfg) (places cfg) W records memory
      ≡ well_formed_with cfg W (lent records debounce memory b)
  unfolding well_formed_with holds
  judged_in_passes l =
      let s = lent records debounce memory b in
      let fits : memory_fits_with cfg W s ≡ true = eq-eqb _ _ (lengths_tell cfg s l).memory in
      rw (
        block_is,
        fits,
        l,
        all_both (events cfg) (λ e. record_ok cfg e (opened (stored_at e records)))
            (λ e. d_ok cfg b e (get_or debounce e (pos 0))),
        and_true,
      )
