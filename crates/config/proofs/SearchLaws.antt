-- The search of specs/Search.antt agrees with the manual's words on a clear.
use mathlib.Core.Path.{◌≡◌, refl, sym}
use mathlib.Core.Bool.{Bool, true, false, not, not-eq-not}
use mathlib.Core.Option.{none, some}
use Prim.Native.Nat.{ℕ, ◌<◌}
use borrow.Author.Tests.{ne_eqb, eqb-false, not-true}
use Rattle.std.specs.Prelude.{Option, Some, None, is_some}
use Rattle.manual.specs.declared.EventNumber.{EventNumber}
use Rattle.config.specs.Search.{search_is}
use Rattle.manual.specs.Configuration.{Configuration, events, code_of, config_ok, first_with_code}
use Rattle.manual.specs.Calls.{for_all, covers, unknown_code}
use Rattle.manual.proofs.WordsLaws.{clash, neither, all_below_at, all_below_lem}
use Rattle.manual.proofs.ConfigurationLaws.{config_tells, found_tells, nothing_tells}

module _ (cfg : Configuration) (code : ℕ) where
  -- a clear of a code that was not found covers no event
  pub covers_nothing : for_all code ≡ false → first_with_code cfg code ≡ none → (k : ℕ) → k < events cfg
      → covers cfg code k ≡ false
  covers_nothing a q k h = rw (a, ne_eqb (code_of cfg k) code (nothing_tells cfg code q k h))

  -- "4 | no such … trouble code"
  pub unknown_where_nothing : for_all code ≡ false → first_with_code cfg code ≡ none → unknown_code cfg code ≡ true
  unfolding unknown_code
  unknown_where_nothing a q =
      all_below_lem (events cfg) (λ e. not (covers cfg code e)) (λ e h. rw (covers_nothing a q e h))

  pub known_where_found : (e : ℕ) → first_with_code cfg code ≡ some e → unknown_code cfg code ≡ false
  unfolding unknown_code
  known_where_found e q =
      let l = found_tells cfg code e q in
      not-eq-not.0
      (λ t. eqb-false (code_of cfg e) code
      (neither (for_all code) _ (not-true _ (all_below_at (events cfg) _ t e l.below))).1 l.has_code)

  -- whether the search found none
  pub unknown_where : for_all code ≡ false → (r : Option EventNumber) → search_is r ≡ first_with_code cfg code
      → (nothing : Bool) → is_some r ≡ not nothing → nothing ≡ unknown_code cfg code
  unknown_where a (Some e) q true p = absurd (clash true refl p)
  unknown_where a (Some e) q false p = sym (known_where_found e.0 (sym q))
  unknown_where a None q true p = sym (unknown_where_nothing a (sym q))
  unknown_where a None q false p = absurd (clash true refl (sym p))

module _ (cfg : Configuration) (ok : config_ok cfg ≡ true) where
  -- "FFFFFFh for all" is never unknown
  pub known_where_all : (code : ℕ) → for_all code ≡ true → unknown_code cfg code ≡ false
  unfolding unknown_code
  known_where_all code a =
      not-eq-not.0
      (λ t. clash true refl
      (sym (rw a at (all_below_at (events cfg) (λ e. not (covers cfg code e)) t 0 (config_tells cfg ok).n_least))))
