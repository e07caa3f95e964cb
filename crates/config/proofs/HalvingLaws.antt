-- Laws of specs/Halving.antt: how a range is halved, and what the row that is left tells. Of the codes they use only
-- that they do not fall from row to row.
use mathlib.Core.Path.{◌≡◌, ap, subst, ◌∙◌}
use mathlib.Core.Logic.{◌≢◌, inl, inr, ⊎_elim}
use mathlib.Core.Option.{none, some}
use mathlib.Core.Bool.{true}
use Prim.Native.Nat.{ℕ, suc, ◌+◌, ◌-◌, ◌*◌, ◌/◌, ◌^◌, ◌≤◌, ◌<◌}
use native.Mathlib.Nat.{pow-suc, lt_of_not-le, not-suc-le-zero}
use native.Mathlib.Omega.{arith}
use Rattle.manual.specs.Configuration.{Configuration, most_events, events, code_of, config_ok, first_with_code}
use Rattle.manual.proofs.ConfigurationLaws.{config_tells, codes_not_falling, found_is, nothing_is}
use Rattle.config.specs.declared.Range.{Range}
use Rattle.config.specs.Halving.{NarrowedTo, Halved, width}

abbrev pub middle : Range → ℕ
middle range = range.low + (range.high - range.low) / 2

-- the search begins with all rows
pub all_rows : (cfg : Configuration) (code k : ℕ) → config_ok cfg ≡ true → k ≡ events cfg
    → NarrowedTo cfg code (record { low = 0; high = k - 1 })
all_rows cfg code k ok e =
    let least = (config_tells cfg ok).n_least in
    record {
      accepted = ok;
      low_to_high = omega arith;
      high_below = omega arith;
      before = λ j h. absurd (not-suc-le-zero h);
      at_high = inl (omega arith);
    }

module _ (cfg : Configuration) (code : ℕ) (range : Range) (n : NarrowedTo cfg code range) where
  pub middle_below : middle range < most_events
  middle_below = omega (arith, n.low_to_high, n.high_below, (config_tells cfg n.accepted).n_most)

  -- the middle is below the wanted code, and so is each row before it
  pub upper_half : (low : ℕ) → middle range < low → low ≤ middle range + 1 → range.low ≢ range.high
      → code_of cfg (middle range) < code → Halved cfg code range (record { low = low; high = range.high })
  upper_half low past next d b = record {
    narrowed = record {
      accepted = n.accepted;
      low_to_high = omega (arith, n.low_to_high);
      high_below = n.high_below;
      before = before;
      at_high = n.at_high;
    };
    at_most_half = omega (arith, n.low_to_high);
  }
    where
      before : (k : ℕ) → k < low → code_of cfg k < code
      before k h =
          let within : middle range < events cfg = omega (arith, n.low_to_high, n.high_below) in
          let not-falling = codes_not_falling cfg n.accepted k (middle range) (omega arith) within in
          omega arith

  -- the middle is not
  pub lower_half : code ≤ code_of cfg (middle range)
      → Halved cfg code range (record { low = range.low; high = middle range })
  lower_half b = record {
    narrowed = record {
      accepted = n.accepted;
      low_to_high = omega arith;
      high_below = omega (arith, n.low_to_high, n.high_below);
      before = n.before;
      at_high = inr b;
    };
    at_most_half = omega (arith, n.low_to_high);
  }

  -- ---- one row is left

  pub found_where_left : range.low ≡ range.high → code_of cfg range.low ≡ code
      → first_with_code cfg code ≡ some range.low
  found_where_left one h =
      found_is cfg code range.low
      (record {
        below = omega (arith, n.high_below);
        has_code = h;
        first = λ k q e. let b = n.before k q in omega arith;
      })

  pub nothing_where_left : range.low ≡ range.high → code_of cfg range.low ≢ code → first_with_code cfg code ≡ none
  nothing_where_left one h = nothing_is cfg code other
    where
      past : (e : ℕ) → e < events cfg → range.high ≤ e → code_of cfg e ≢ code
      past e q l =
          ⊎_elim (λ last. let s : range.low ≡ e = omega arith in subst (λ (k : ℕ). code_of cfg k ≢ code) s h)
          (λ b t.
          let not-falling = codes_not_falling cfg n.accepted range.high e l q in
          let same : code_of cfg range.high ≡ code = omega arith in
          h (ap (code_of cfg) one ∙ same))
          n.at_high

      other : (e : ℕ) → e < events cfg → code_of cfg e ≢ code
      other e q t =
          let l : range.low < suc e = lt_of_not-le (λ l. let b = n.before e l in omega arith) in
          past e q (omega arith) t

-- ---- how many halvings leave one row

-- after t of m halvings, fewer than 2 ^ (m - t) rows lie behind the first
pub halves_power : (m t v w : ℕ) → t < m → 2 * w ≤ v → v < 2 ^ (m - t) → w < 2 ^ (m - (t + 1))
halves_power m t v w h half p =
    let s : m - t ≡ suc (m - (t + 1)) = omega arith in
    let q : v < 2 ^ (m - (t + 1)) * 2 = rw (s, pow-suc 2 (m - (t + 1))) at p in
    omega arith

pub one_left : (m t : ℕ) (range : Range) → m ≤ t → range.low ≤ range.high → width range < 2 ^ (m - t)
    → range.low ≡ range.high
one_left m t range h l p =
    let s : m - t ≡ 0 = omega arith in
    let q : width range < 1 = rw s at p in
    omega arith
