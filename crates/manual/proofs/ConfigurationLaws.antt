-- What an accepted configuration gives, by name, so that no later proof opens the table.
use mathlib.Core.Path.{◌≡◌, refl, sym}
use mathlib.Core.Logic.{◌≢◌, ◌⊎◌, inl, inr, ⊎_elim}
use mathlib.Core.Bool.{Bool, true, false, cond}
use mathlib.Core.Option.{none, some}
use Prim.Native.Nat.{ℕ, zero, suc, ◌-◌, ◌≤◌, ◌<◌}
use native.Mathlib.Nat.{eq-or-lt_of_le, le_of_suc-le-suc, le_refl}
use native.Mathlib.Omega.{arith}
use lib.Dec.{eqb}
use lib.IntN.{ℤ, pos, negsuc}
use lib.Signed.{le_z, lt_z}
use borrow.Author.Tests.{leb-true, ltb-true, eq-eqb, ne_eqb, eqb-true, eqb-false}
use Rattle.history.specs.History.{Allowed}
use Rattle.history.proofs.WordsLaws.{part}
use Rattle.manual.specs.Words.{between, eq_z, nat_of}
use Rattle.manual.specs.Configuration.{Configuration, most_events, most_places, most_frame, most_payload, events}
use Rattle.manual.specs.Configuration.{places, frame_bytes, entry_frames, column, number_at, code_of, cycle_of, kind_of}
use Rattle.manual.specs.Configuration.{is_internal, is_counter, is_time, low_of, high_of, up_of, down_of, limits_of}
use Rattle.manual.specs.Configuration.{row_ok, rises, config_ok, has_trouble_code, first_with_code, FirstWithCode}
use Rattle.manual.proofs.WordsLaws.{clash, all_below_at, lowest_none, none_lowest, lowest_some}
use Rattle.manual.proofs.WordsLaws.{some_lowest, eq_z_true, between_from, between_to}
use Rattle.manual.proofs.SignedLaws.{signed}

-- "kinds 1, 2: P −30,000 to −1, Q 1 to 30,000", "up, down: kind 1: 1 to 30,000; else 0", as far as debouncing needs it
pub record Range (cfg : Configuration) (e : ℕ) : Type 0 where
  pub low_most : le_z (low_of cfg e) (negsuc 0) ≡ true
  pub high_least : le_z (pos 1) (high_of cfg e) ≡ true
  pub up_least : le_z (pos 0) (up_of cfg e) ≡ true
  pub down_least : le_z (pos 0) (down_of cfg e) ≡ true
  pub kind_is : (is_counter cfg e ≡ true) ⊎ (is_time cfg e ≡ true)

pub record RowTells (cfg : Configuration) (e : ℕ) : Type 0 where
  pub code_least : 1 ≤ code_of cfg e
  pub code_most : code_of cfg e ≤ 16777214
  pub cycle_most : cycle_of cfg e ≤ 3
  pub kind_most : kind_of cfg e ≤ 2
  pub heal_most : (limits_of cfg e).H ≤ 255
  pub age_most : (limits_of cfg e).A ≤ 255
  pub limits : Allowed (limits_of cfg e)
  pub range : is_internal cfg e ≡ false → Range cfg e

pub record ConfigTells (cfg : Configuration) : Type 0 where
  pub n_least : 1 ≤ events cfg
  pub n_most : events cfg ≤ most_events
  pub M_least : 1 ≤ places cfg
  pub M_most : places cfg ≤ most_places
  pub F_most : frame_bytes cfg ≤ most_frame
  pub payload_most : entry_frames cfg ≤ most_payload
  pub row : (e : ℕ) → e < events cfg → RowTells cfg e

-- a number between two counts, as a count
counted : (lo hi : ℕ) (z : ℤ) → between (pos lo) (pos hi) z ≡ true → (lo ≤ nat_of z) × (nat_of z ≤ hi)
counted lo hi (pos n) t =
    (leb-true lo n (between_from (pos lo) (pos hi) (pos n) t), leb-true n hi (between_to (pos lo) (pos hi) (pos n) t))
counted lo hi (negsuc n) t = clash true refl (sym (between_from (pos lo) (pos hi) (negsuc n) t))

-- a step of 1 to 30,000, or 0, is not negative
step_least : (b : Bool) (z : ℤ) → cond b (between (pos 1) (pos 30000) z) (eq_z z (pos 0)) ≡ true → le_z (pos 0) z ≡ true
step_least true z t = let p = between_from (pos 1) (pos 30000) z t in omega signed
step_least false z t = rw (eq_z_true z (pos 0) t)

one_or_two : (k : ℕ) → k ≤ 2 → eqb k 0 ≡ false → (eqb k 1 ≡ true) ⊎ (eqb k 2 ≡ true)
one_or_two zero h t = clash true refl t
one_or_two (suc zero) h t = inl refl
one_or_two (suc (suc zero)) h t = inr refl
one_or_two (suc (suc (suc k))) h t = absurd (omega arith)

module _ (cfg : Configuration) where
  row_tells : (e : ℕ) → row_ok cfg e ≡ true → RowTells cfg e
  unfolding row_ok
  row_tells e t = record {
    code_least = (counted 1 16777214 (column 1 cfg e) (part _ t 0)).0;
    code_most = (counted 1 16777214 (column 1 cfg e) (part _ t 0)).1;
    cycle_most = (counted 0 3 (column 3 cfg e) (part _ t 2)).1;
    kind_most = kind;
    heal_most = (counted 1 255 (column 11 cfg e) (part _ t 10)).1;
    age_most = (counted 1 255 (column 12 cfg e) (part _ t 11)).1;
    limits = record {
      C_least = (counted 1 255 (column 10 cfg e) (part _ t 9)).0;
      C_most = (counted 1 255 (column 10 cfg e) (part _ t 9)).1;
      H_least = (counted 1 255 (column 11 cfg e) (part _ t 10)).0;
      A_least = (counted 1 255 (column 12 cfg e) (part _ t 11)).0;
    };
    range = λ k. record {
      low_most = between_to (negsuc 29999) (negsuc 0) (column 5 cfg e) (rw k at (part _ t 4));
      high_least = between_from (pos 1) (pos 30000) (column 6 cfg e) (rw k at (part _ t 5));
      up_least = step_least (is_counter cfg e) (column 7 cfg e) (part _ t 6);
      down_least = step_least (is_counter cfg e) (column 8 cfg e) (part _ t 7);
      kind_is = one_or_two (kind_of cfg e) kind k;
    };
  }
    where
      kind : kind_of cfg e ≤ 2
      kind = (counted 0 2 (column 4 cfg e) (part _ t 3)).1

  pub config_tells : config_ok cfg ≡ true → ConfigTells cfg
  unfolding config_ok events places frame_bytes
  config_tells t = record {
    n_least = (counted 1 most_events (number_at cfg 0) (part _ t 1)).0;
    n_most = (counted 1 most_events (number_at cfg 0) (part _ t 1)).1;
    M_least = (counted 1 most_places (number_at cfg 1) (part _ t 2)).0;
    M_most = (counted 1 most_places (number_at cfg 1) (part _ t 2)).1;
    F_most = (counted 0 most_frame (number_at cfg 2) (part _ t 3)).1;
    payload_most = omega (arith, (counted 0 most_frame (number_at cfg 2) (part _ t 3)).1);
    row = λ e h. row_tells e (all_below_at (events cfg) (row_ok cfg) (part _ t 5) e h);
  }

-- ---- "strictly rising from event to event"

count_rises : (x y : ℤ) → lt_z x y ≡ true → nat_of x ≤ nat_of y
count_rises (pos a) (pos b) t = let h = ltb-true a b t in omega arith
count_rises (pos a) (negsuc b) t = clash true refl (sym t)
count_rises (negsuc a) y t = omega arith

-- an event's trouble code is not above that of any event after it
pub codes_not_falling : (cfg : Configuration) → config_ok cfg ≡ true → (a b : ℕ) → a ≤ b → b < events cfg
    → code_of cfg a ≤ code_of cfg b
unfolding config_ok
codes_not_falling cfg ok a zero l h = let q : a ≡ 0 = omega arith in rw q (le_refl (code_of cfg 0))
codes_not_falling cfg ok a (suc b) l h =
    ⊎_elim (λ q. rw q (le_refl (code_of cfg (suc b))))
    (λ q. later (codes_not_falling cfg ok a b (le_of_suc-le-suc q) (omega arith)))
    (eq-or-lt_of_le l)
  where
    next : code_of cfg b ≤ code_of cfg (suc b)
    next =
        count_rises (column 1 cfg b) (column 1 cfg (suc b))
        (all_below_at (events cfg - 1) (rises cfg) (part _ ok 6) b (omega arith))

    later : code_of cfg a ≤ code_of cfg b → code_of cfg a ≤ code_of cfg (suc b)
    later k = omega (arith, next)

-- ---- the first event with a trouble code

module _ (cfg : Configuration) (code : ℕ) where
  pub found_tells : (e : ℕ) → first_with_code cfg code ≡ some e → FirstWithCode cfg code e
  unfolding first_with_code
  found_tells e q =
      let l = some_lowest (has_trouble_code cfg code) (events cfg) e q in
      record {
        below = l.below;
        has_code = eqb-true (code_of cfg e) code l.passes;
        first = λ k h. eqb-false (code_of cfg k) code (l.first k h);
      }

  pub found_is : (e : ℕ) → FirstWithCode cfg code e → first_with_code cfg code ≡ some e
  unfolding first_with_code
  found_is e l =
      lowest_some (has_trouble_code cfg code) (events cfg) e l.below (eq-eqb (code_of cfg e) code l.has_code)
      (λ k h. ne_eqb (code_of cfg k) code (l.first k h))

  pub nothing_tells : first_with_code cfg code ≡ none → (e : ℕ) → e < events cfg → code_of cfg e ≢ code
  unfolding first_with_code
  nothing_tells q e h = eqb-false (code_of cfg e) code (none_lowest (has_trouble_code cfg code) (events cfg) q e h)

  pub nothing_is : ((e : ℕ) → e < events cfg → code_of cfg e ≢ code) → first_with_code cfg code ≡ none
  unfolding first_with_code
  nothing_is n = lowest_none (has_trouble_code cfg code) (events cfg) (λ e h. ne_eqb (code_of cfg e) code (n e h))
