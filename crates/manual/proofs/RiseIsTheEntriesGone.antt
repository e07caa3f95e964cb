-- A stop and a clear store nothing: their rise is the number of entries before less the number of those after, aged at
-- a stop, cleared by a clear.
use mathlib.Core.Path.{◌≡◌, refl, ◌∙◌}
use mathlib.Core.Bool.{Bool, true}
use mathlib.Core.List.{List, [], ◌∷◌}
use Prim.Native.Nat.{ℕ, zero, suc, ◌+◌, ◌-◌}
use native.Mathlib.Omega.{arith}
use lib.Dec.{eqb}
use lib.ListN.{length}
use Rattle.history.specs.StatusByte.{ages_at_stop}
use Rattle.manual.specs.Words.{for_below, count_those}
use Rattle.manual.specs.Configuration.{Configuration, events, limits_of, config_ok}
use Rattle.manual.specs.State.{State, record_of}
use Rattle.manual.specs.WellFormed.{entries, well_formed}
use Rattle.manual.specs.OneEvent.{has_entry, stops, clears, for_those}
use Rattle.manual.specs.Calls.{of_cycle, stop_log, covers, cleared, clear_log}
use Rattle.manual.specs.Counts.{Happening, has_aged, was_cleared, place_of, log_below, log_those, leaves_log, stops_log}
use Rattle.manual.specs.Counts.{clears_log, count_of, rise_of}
use Rattle.manual.proofs.WordsLaws.{by, count_append}
use Rattle.manual.proofs.CountsLaws.{all_accounts}
use Rattle.manual.proofs.AccountsLaws.{stop_accounts, clear_accounts}

-- what no part shows, the log does not show
log_none : {S : Type 0} (k n : ℕ) (f : ℕ → S → S) (g : ℕ → S → List Happening) (s : S)
    → ((e : ℕ) (u : S) → count_of k (g e u) ≡ 0) → count_of k (log_below n f g s) ≡ 0
unfolding log_below count_those
log_none k zero f g s h = refl
log_none k (suc n) f g s h =
    count_append (λ h. eqb (place_of h) k) (g n (for_below n f s)) (log_below n f g s)
    ∙ (λ i. h n (for_below n f s) i + log_none k n f g s h i)

module _ (cfg : Configuration) where
  abbrev None : ℕ → List Happening → Type 0
  None k log = count_of k log ≡ 0

  none : (k : ℕ) → None k []
  unfolding count_those
  none k = refl

  leaves_none : (k : ℕ) (how : ℕ → Happening) → ((e : ℕ) → None k (how e ∷ [])) → (e : ℕ) (u : State)
      → None k (leaves_log cfg how e u)
  leaves_none k how h e u = by (has_entry cfg u e) (None k) (λ q. h e) (λ q. none k)

  those_none : (k : ℕ) (p : ℕ → Bool) (one : ℕ → State → State) (g : ℕ → State → List Happening)
      → ((e : ℕ) (u : State) → None k (g e u)) → (s : State)
      → None k (log_those cfg p one g s)
  those_none k p one g h s =
      log_none k (events cfg) _ _ s (λ e u. by (p e) (None k) (λ q. h e u) (λ q. none k))

  stop_none : (k : ℕ) → ((e : ℕ) → None k (has_aged e ∷ [])) → (c : ℕ) (s : State) → None k (stop_log cfg c s)
  unfolding stop_log
  stop_none k h c s =
      those_none k (of_cycle cfg c) (stops cfg) (stops_log cfg)
      (λ e u. by (ages_at_stop (limits_of cfg e) (record_of u e)) (None k)
      (λ q. leaves_none k has_aged h e u) (λ q. none k)) s

  clear_none : (k : ℕ) → ((e : ℕ) → None k (was_cleared e ∷ [])) → (code : ℕ) (s : State) → None k (clear_log cfg code s)
  unfolding clear_log
  clear_none k h code s =
      those_none k (covers cfg code) (clears cfg) (clears_log cfg) (leaves_none k was_cleared h) s

  module _ (configured : config_ok cfg ≡ true) (s : State) (formed : well_formed cfg s ≡ true) where
    pub stop_rise : (c : ℕ)
        → rise_of (stop_log cfg c s)
        ≡ 0 ∷ 0 ∷ (length (entries cfg s) - length (entries cfg (for_those cfg (of_cycle cfg c) (stops cfg) s))) ∷ 0 ∷ 0
        ∷ []
    unfolding count_those
    stop_rise c =
        let n0 : None 0 (stop_log cfg c s) = stop_none 0 (λ e. refl) c s in
        let n1 : None 1 (stop_log cfg c s) = stop_none 1 (λ e. refl) c s in
        let n3 : None 3 (stop_log cfg c s) = stop_none 3 (λ e. refl) c s in
        let n4 : None 4 (stop_log cfg c s) = stop_none 4 (λ e. refl) c s in
        let moved =
        all_accounts (stop_log cfg c s) (entries cfg s) (entries cfg (for_those cfg (of_cycle cfg c) (stops cfg) s))
        (stop_accounts (λ e. true) cfg configured s formed c) in
        let gone : count_of 2 (stop_log cfg c s)
        ≡ length (entries cfg s) - length (entries cfg (for_those cfg (of_cycle cfg c) (stops cfg) s)) =
        omega (arith, moved, n0, n1, n3) in
        λ i. n0 i ∷ n1 i ∷ gone i ∷ n3 i ∷ n4 i ∷ []

    pub clear_rise : (code : ℕ)
        → rise_of (clear_log cfg code s)
        ≡ 0 ∷ 0 ∷ 0 ∷ (length (entries cfg s) - length (entries cfg (cleared cfg code s))) ∷ 0 ∷ []
    unfolding count_those
    clear_rise code =
        let n0 : None 0 (clear_log cfg code s) = clear_none 0 (λ e. refl) code s in
        let n1 : None 1 (clear_log cfg code s) = clear_none 1 (λ e. refl) code s in
        let n2 : None 2 (clear_log cfg code s) = clear_none 2 (λ e. refl) code s in
        let n4 : None 4 (clear_log cfg code s) = clear_none 4 (λ e. refl) code s in
        let moved =
        all_accounts (clear_log cfg code s) (entries cfg s) (entries cfg (cleared cfg code s))
        (clear_accounts (λ e. true) cfg configured s formed code) in
        let gone : count_of 3 (clear_log cfg code s)
        ≡ length (entries cfg s) - length (entries cfg (cleared cfg code s)) = omega (arith, moved, n0, n1, n2) in
        λ i. n0 i ∷ n1 i ∷ n2 i ∷ gone i ∷ n4 i ∷ []
