-- Laws of specs/Counts.antt, in its order.
use mathlib.Core.Path.{◌≡◌, refl, sym, subst}
use mathlib.Core.Logic.{◌↔◌}
use mathlib.Core.Bool.{Bool, true, false, ◌||◌}
use mathlib.Core.List.{List, [], ◌∷◌, ◌++◌}
use Prim.Native.Nat.{ℕ, zero, suc, ◌+◌, ◌≤◌}
use native.Mathlib.Numerals.{one-add}
use native.Mathlib.Omega.{arith}
use lib.Dec.{eqb, ltb}
use lib.ListN.{length}
use borrow.Author.Tests.{ltb-false, le-ltb}
use Rattle.history.specs.StatusByte.{ages_at_stop}
use Rattle.manual.specs.declared.StoreAnswer.{StoreAnswer}
use Rattle.manual.specs.declared.StoreAnswer.TheVariants.{Untold, Renewed, Added, Displaced, NotStored}
use Rattle.manual.specs.Words.{All, for_below, count_those}
use Rattle.manual.specs.Configuration.{Configuration, events, limits_of}
use Rattle.manual.specs.State.{State, record_of}
use Rattle.manual.specs.Memory.{Entry}
use Rattle.manual.specs.OneEvent.{has_entry, stops, clears}
use Rattle.manual.specs.Calls.{report_did, tick_moves, ticks, ticks_did, of_cycle, covers}
use Rattle.manual.specs.Calls.{report_log, tick_log, stop_log, clear_log}
use Rattle.manual.specs.Counts.{Happening, was_admitted, was_pushed_out, has_aged, was_cleared, was_not_stored}
use Rattle.manual.specs.Counts.{place_of, of_store, log_below, present_log, log_those}
use Rattle.manual.specs.Counts.{leaves_log, stops_log, clears_log, count_of, rise_of, raised, most_count, past}
use Rattle.manual.specs.Counts.{present_counts, present_of, admissions_of, leavings_of, Accounts}
use Rattle.manual.proofs.WordsLaws.{by, neither, count_append, count_all}

-- ---- the counts of two logs, one after the other

pub rise_append : (a b : List Happening) → rise_of (a ++ b) ≡ raised (rise_of a) (rise_of b)
unfolding raised
rise_append a b =
    λ i. count_append (at 0) a b i ∷ count_append (at 1) a b i ∷ count_append (at 2) a b i ∷ count_append (at 3) a b i
    ∷ count_append (at 4) a b i ∷ []
  where
    at : ℕ → Happening → Bool
    at k h = eqb (place_of h) k

-- ---- a log that begins with the entries present

module _ where
  pub all_admitted : (xs : List Entry) → count_of 0 (present_log xs) ≡ length xs
  unfolding count_those
  all_admitted [] = refl
  all_admitted (x ∷ xs) = omega (arith, all_admitted xs)

  none_else : (k : ℕ) → eqb 0 k ≡ false → (xs : List Entry) → count_of k (present_log xs) ≡ 0
  unfolding count_those
  none_else k h [] = refl
  none_else k h (x ∷ xs) = rw h (omega (arith, none_else k h xs))

  pub present_rise : (xs : List Entry) → rise_of (present_log xs) ≡ present_counts xs
  present_rise xs =
      λ i. all_admitted xs i ∷ none_else 1 refl xs i ∷ none_else 2 refl xs i ∷ none_else 3 refl xs i
      ∷ none_else 4 refl xs i ∷ []

-- ---- each kind rises at most once a part

-- no count is above n
abbrev pub AtMost : ℕ → List ℕ → Type 0
AtMost n counts = All (λ k. k ≤ n) counts

pub store_once : (e : ℕ) (did : StoreAnswer) → AtMost 1 (rise_of (of_store e did))
unfolding count_those
store_once e Untold = (omega arith, (omega arith, (omega arith, (omega arith, (omega arith, tt)))))
store_once e Renewed = (omega arith, (omega arith, (omega arith, (omega arith, (omega arith, tt)))))
store_once e Added = (omega arith, (omega arith, (omega arith, (omega arith, (omega arith, tt)))))
store_once e (Displaced v) = (omega arith, (omega arith, (omega arith, (omega arith, (omega arith, tt)))))
store_once e NotStored = (omega arith, (omega arith, (omega arith, (omega arith, (omega arith, tt)))))

none_once : AtMost 1 (rise_of [])
unfolding count_those
none_once = (omega arith, (omega arith, (omega arith, (omega arith, (omega arith, tt)))))

aged_once : (e : ℕ) → AtMost 1 (rise_of (has_aged e ∷ []))
unfolding count_those
aged_once e = (omega arith, (omega arith, (omega arith, (omega arith, (omega arith, tt)))))

cleared_once : (e : ℕ) → AtMost 1 (rise_of (was_cleared e ∷ []))
unfolding count_those
cleared_once e = (omega arith, (omega arith, (omega arith, (omega arith, (omega arith, tt)))))

raised_most : (n m : ℕ) (a b : List ℕ) → AtMost n a → AtMost m b → AtMost (n + m) (raised a b)
unfolding raised
raised_most n m [] b p q = tt
raised_most n m (x ∷ a) [] p q = tt
raised_most n m (x ∷ a) (y ∷ b) p q = (omega (arith, p.0, q.0), raised_most n m a b p.1 q.1)

-- so at most n times in n parts
pub log_most : {S : Type 0} (n : ℕ) (f : ℕ → S → S) (g : ℕ → S → List Happening) (s : S)
    → ((e : ℕ) (u : S) → AtMost 1 (rise_of (g e u))) → AtMost n (rise_of (log_below n f g s))
unfolding log_below count_those
log_most zero f g s h = (omega arith, (omega arith, (omega arith, (omega arith, (omega arith, tt)))))
log_most (suc n) f g s h =
    subst (AtMost (suc n)) (sym (rise_append (g n (for_below n f s)) (log_below n f g s)))
    (rw (sym (one-add n)) (raised_most 1 n _ _ (h n (for_below n f s)) (log_most n f g s h)))

module _ (cfg : Configuration) where
  those_most : (p : ℕ → Bool) (one : ℕ → State → State) (g : ℕ → State → List Happening)
      → ((e : ℕ) (u : State) → AtMost 1 (rise_of (g e u))) → (s : State)
      → AtMost (events cfg) (rise_of (log_those cfg p one g s))
  those_most p one g h s =
      log_most (events cfg) _ _ s (λ e u. by (p e) (λ l. AtMost 1 (rise_of l)) (λ q. h e u) (λ q. none_once))

  pub report_most : (e code : ℕ) (frame : List ℕ) (s : State) → AtMost 1 (rise_of (report_log cfg e code frame s))
  unfolding report_log
  report_most e code frame s = store_once e (report_did cfg e code frame s)

  pub tick_most : (ms : ℕ) (frame : List ℕ) (present : ℕ) (s : State)
      → AtMost (events cfg) (rise_of (tick_log cfg ms frame present s))
  unfolding tick_log
  tick_most ms frame present s =
      those_most (tick_moves cfg present s.board) (ticks cfg ms frame) _
      (λ e u. store_once e (ticks_did cfg ms frame e u)) s

  leaves_once : (how : ℕ → Happening) → ((e : ℕ) → AtMost 1 (rise_of (how e ∷ []))) → (e : ℕ) (u : State)
      → AtMost 1 (rise_of (leaves_log cfg how e u))
  leaves_once how h e u = by (has_entry cfg u e) (λ l. AtMost 1 (rise_of l)) (λ q. h e) (λ q. none_once)

  pub stop_most : (c : ℕ) (s : State) → AtMost (events cfg) (rise_of (stop_log cfg c s))
  unfolding stop_log
  stop_most c s =
      those_most (of_cycle cfg c) (stops cfg) (stops_log cfg)
      (λ e u. by (ages_at_stop (limits_of cfg e) (record_of u e)) (λ l. AtMost 1 (rise_of l))
      (λ q. leaves_once has_aged aged_once e u) (λ q. none_once)) s

  pub clear_most : (code : ℕ) (s : State) → AtMost (events cfg) (rise_of (clear_log cfg code s))
  unfolding clear_log
  clear_most code s =
      those_most (covers cfg code) (clears cfg) (clears_log cfg) (leaves_once was_cleared cleared_once) s

-- ---- "past 4,294,967,295": a count of that much is not, one more is

pub past_exactly : (counts : List ℕ) → (past counts ≡ false) ↔ All (λ k. k ≤ 4294967295) counts
unfolding past
past_exactly [] = (λ e. tt, λ a. refl)
past_exactly (k ∷ counts) = (
  λ e. let n = neither (ltb most_count k) (past counts) e in (ltb-false _ _ n.0, (past_exactly counts).0 n.1),
  λ a. λ i. le-ltb most_count k a.0 i || (past_exactly counts).1 a.1 i,
)

-- far from the limit nothing is past it

pub not_past : (n : ℕ) (rise counts : List ℕ) → AtMost n rise → All (λ k. k + n ≤ most_count) counts
    → past (raised rise counts) ≡ false
unfolding raised past
not_past n [] counts p q = refl
not_past n (x ∷ rise) [] p q = refl
not_past n (x ∷ rise) (k ∷ counts) p q =
    λ i. le-ltb most_count (x + k) (omega (arith, p.0, q.0)) i || not_past n rise counts p.1 q.1 i

-- ---- the log against the entries, of all events

pub all_present_lem : (xs : List Entry) → present_of (λ e. true) xs ≡ length xs
all_present_lem = count_all

pub all_admissions : (log : List Happening) → admissions_of (λ e. true) log ≡ count_of 0 log
unfolding count_those
all_admissions [] = refl
all_admissions (was_admitted e ∷ log) = omega (arith, all_admissions log)
all_admissions (was_pushed_out e ∷ log) = omega (arith, all_admissions log)
all_admissions (has_aged e ∷ log) = omega (arith, all_admissions log)
all_admissions (was_cleared e ∷ log) = omega (arith, all_admissions log)
all_admissions (was_not_stored e ∷ log) = omega (arith, all_admissions log)

pub all_leavings : (log : List Happening)
    → leavings_of (λ e. true) log ≡ count_of 1 log + count_of 2 log + count_of 3 log
unfolding count_those
all_leavings [] = refl
all_leavings (was_admitted e ∷ log) = omega (arith, all_leavings log)
all_leavings (was_pushed_out e ∷ log) = omega (arith, all_leavings log)
all_leavings (has_aged e ∷ log) = omega (arith, all_leavings log)
all_leavings (was_cleared e ∷ log) = omega (arith, all_leavings log)
all_leavings (was_not_stored e ∷ log) = omega (arith, all_leavings log)

-- the numbers of entries before and after
pub all_accounts : (log : List Happening) (before after : List Entry) → Accounts (λ e. true) log before after
    → length after + (count_of 1 log + count_of 2 log + count_of 3 log) ≡ length before + count_of 0 log
all_accounts log before after q =
    omega (arith, q, all_present_lem before, all_present_lem after, all_admissions log, all_leavings log)
