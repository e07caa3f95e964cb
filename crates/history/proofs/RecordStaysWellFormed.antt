-- The clauses of "well formed" on an event's record hold of the fresh record, and whatever happens to the event keeps
-- them.
use mathlib.Core.Path.{◌≡◌, refl, ◌∙◌}
use mathlib.Core.Bool.{Bool, true, false, not, ◌&&◌, cond}
use mathlib.Core.List.{List, [], ◌∷◌}
use Prim.Native.Nat.{ℕ, suc, min, ◌≤◌, ◌<◌}
use native.Mathlib.Omega.{arith}
use lib.Dec.{T, leb, eqb}
use lib.ListN.{get_or}
use borrow.Author.Tests.{ltb-true, lt-ltb, le-leb, eqb-false}
use Rattle.history.specs.Words.{implies, same, holds}
use Rattle.history.specs.StatusByte.{test_failed, test_failed_this_operation_cycle, pending_dtc, confirmed_dtc}
use Rattle.history.specs.StatusByte.{test_not_completed_since_last_clear, test_failed_since_last_clear}
use Rattle.history.specs.StatusByte.{test_not_completed_this_operation_cycle, warning_indicator_requested, Status}
use Rattle.history.specs.StatusByte.{EventRecord, Limits, fresh_record, on_passed, on_failed, on_start, on_stop}
use Rattle.history.specs.StatusByte.{set_bits, clear_bits, set_bits_if, clear_bits_if, confirms, clean_cycle}
use Rattle.history.specs.StatusByte.{counts_for_healing, counts_for_ageing, heals, ages_at_stop}
use Rattle.history.specs.WellFormed.{untested_is_fresh, faulty_has_failed, failed_is_pending, well_formed_record}
use Rattle.history.specs.History.{Token, passed, failed, start, stop, clear, History, step, record_after, Allowed}
use Rattle.history.proofs.Truth.{Law, always, truth, implied, same_eq, so, yes_so}
use Rattle.history.proofs.WordsLaws.{part, parts, and_left}
use Rattle.history.proofs.StatusByteLaws.{eight, row_of}

-- ---- the four clauses on the bits alone, for an indicator i

abbrev bits_clauses : Bool → Status → List Bool
bits_clauses i s =
    untested_is_fresh s ∷ faulty_has_failed s ∷ failed_is_pending s
    ∷ implies (s warning_indicator_requested) (s confirmed_dtc && i) ∷ []

abbrev bits_ok : Bool → Status → Bool
bits_ok i s = holds (bits_clauses i s)

abbrev copied : Status → Status
copied s =
    eight (s test_failed) (s test_failed_this_operation_cycle) (s pending_dtc) (s confirmed_dtc)
    (s test_not_completed_since_last_clear) (s test_failed_since_last_clear) (s test_not_completed_this_operation_cycle)
    (s warning_indicator_requested)

-- f keeps them, whatever the indicator and two tests are: by the table
module _ (f : Bool → Bool → Bool → Status → Status) where
  abbrev keeping : Law 11
  keeping i x y b0 b1 b2 b3 b4 b5 b6 b7 =
      implies (bits_ok i (eight b0 b1 b2 b3 b4 b5 b6 b7)) (bits_ok i (f i x y (eight b0 b1 b2 b3 b4 b5 b6 b7)))

  bits_kept : T (always 11 keeping) → (i x y : Bool) (s : Status) → bits_ok i s ≡ true
      → bits_ok i (f i x y (copied s)) ≡ true
  bits_kept t i x y s e =
      yes_so _
      (implied (bits_ok i s) (bits_ok i (f i x y (copied s))) (truth 11 keeping t (i, (x, (y, row_of s))))
      (so (bits_ok i s) e))

-- ---- the clauses on the counts

-- a count that rises by one and falls to 0 at its limit stays below it
risen_below : (N c : ℕ) (on : Bool) → 1 ≤ N → c < N → cond (on && eqb (suc c) N) 0 (cond on (suc c) c) < N
risen_below N c true p q = go (eqb (suc c) N) refl
  where
    go : (b : Bool) → eqb (suc c) N ≡ b → cond b 0 (suc c) < N
    go true e = p
    go false e = omega (arith, eqb-false (suc c) N e)
risen_below N c false p q = q

-- a count that runs only while its bit is set, where the stop heals, ages, or counts
zero_without : (age heal counts bit : Bool) (c : ℕ) → implies (not bit) (eqb c 0) ≡ true
    → implies (not (cond age false (cond heal false bit)))
    (eqb (cond age 0 (cond heal 0 (cond (counts && bit) (suc c) c))) 0)
    ≡ true
zero_without true heal counts bit c e = refl
zero_without false true counts bit c e = refl
zero_without false false counts true c e = refl
zero_without false false true false c e = e
zero_without false false false false c e = e

same_refl : (b : Bool) → same b b ≡ true
same_refl true = refl
same_refl false = refl

implied_by : (a b : Bool) → implies a b ≡ true → a ≡ true → b ≡ true
implied_by true b e k = e
implied_by false b e k = cc

or_true : (b : Bool) → implies b true ≡ true
or_true true = refl
or_true false = refl

-- ---- what the clauses give, and what gives them

record Tells (n : Limits) (r : EventRecord) : Type 0 where
  bits : bits_ok n.indicator r.status ≡ true
  cycles : leb 1 r.K ≡ r.status pending_dtc
  h_below : r.h < n.H
  h_warned : implies (not (r.status warning_indicator_requested)) (eqb r.h 0) ≡ true
  g_below : r.g < n.A
  g_confirmed : implies (not (r.status confirmed_dtc)) (eqb r.g 0) ≡ true

module _ (n : Limits) (r : EventRecord) where
  tells : well_formed_record n r ≡ true → Tells n r
  unfolding well_formed_record
  tells w = record {
    bits = parts (bits_clauses n.indicator r.status) (part _ w 0, (part _ w 1, (part _ w 2, (part _ w 3, tt))));
    cycles = same_eq _ _ (so _ (part _ w 4));
    h_below = ltb-true r.h n.H (part _ w 5);
    h_warned = part _ w 6;
    g_below = ltb-true r.g n.A (part _ w 7);
    g_confirmed = part _ w 8;
  }

  told : Tells n r → well_formed_record n r ≡ true
  unfolding well_formed_record
  told t =
      parts _ (
        bit 0,
        (
          bit 1,
          (
            bit 2,
            (
              bit 3,
              (
                rw t.cycles (same_refl (r.status pending_dtc)),
                (
                  lt-ltb r.h n.H t.h_below,
                  (t.h_warned, (lt-ltb r.g n.A t.g_below, (t.g_confirmed, tt))),
                ),
              ),
            ),
          ),
        ),
      )
    where
      bit : (i : ℕ) → get_or (bits_clauses n.indicator r.status) i true ≡ true
      bit i = part (bits_clauses n.indicator r.status) t.bits i

module _ (n : Limits) (a : Allowed n) where
  fresh_tells : Tells n fresh_record
  unfolding holds
  fresh_tells =
      record {
        bits = refl;
        cycles = refl;
        h_below = a.H_least;
        h_warned = refl;
        g_below = a.A_least;
        g_confirmed = refl;
      }

  passed_tells : (r : EventRecord) → Tells n r → Tells n (on_passed r)
  unfolding holds
  passed_tells r t = record {
    bits =
        bits_kept
        (λ i x y s. clear_bits (test_failed ∷ test_not_completed_since_last_clear ∷ test_not_completed_this_operation_cycle ∷ []) s)
        tt n.indicator true true r.status t.bits;
    cycles = t.cycles;
    h_below = t.h_below;
    h_warned = t.h_warned;
    g_below = t.g_below;
    g_confirmed = t.g_confirmed;
  }

  start_tells : (r : EventRecord) → Tells n r → Tells n (on_start r)
  unfolding holds
  start_tells r t = record {
    bits =
        bits_kept
        (λ i x y s. set_bits (test_not_completed_this_operation_cycle ∷ []) (clear_bits (test_failed_this_operation_cycle ∷ []) s))
        tt n.indicator true true r.status t.bits;
    cycles = t.cycles;
    h_below = t.h_below;
    h_warned = t.h_warned;
    g_below = t.g_below;
    g_confirmed = t.g_confirmed;
  }

  failed_tells : (r : EventRecord) → Tells n r → Tells n (on_failed n r)
  unfolding holds
  failed_tells r t = record {
    bits =
        bits_kept
        (λ i x y s. set_bits_if x (confirmed_dtc ∷ [])
        (set_bits_if (i && x) (warning_indicator_requested ∷ [])
        (clear_bits (test_not_completed_since_last_clear ∷ test_not_completed_this_operation_cycle ∷ [])
        (set_bits (test_failed ∷ test_failed_this_operation_cycle ∷ pending_dtc ∷ test_failed_since_last_clear ∷ []) s))))
        tt n.indicator (confirms n r) true r.status t.bits;
    cycles = rise (r.status test_failed_this_operation_cycle) refl;
    h_below = a.H_least;
    h_warned = or_true (not ((on_failed n r).status warning_indicator_requested));
    g_below = a.A_least;
    g_confirmed = or_true (not ((on_failed n r).status confirmed_dtc));
  }
    where
      -- a cycle that has failed before is pending already
      rise : (b : Bool) → r.status test_failed_this_operation_cycle ≡ b
          → leb 1 (cond b r.K (min 255 (suc r.K))) ≡ true
      rise true e =
          t.cycles
          ∙ and_left (r.status pending_dtc) (not (r.status test_not_completed_this_operation_cycle))
          (implied_by (r.status test_failed_this_operation_cycle)
          (r.status pending_dtc && not (r.status test_not_completed_this_operation_cycle))
          (part (bits_clauses n.indicator r.status) t.bits 2) e)
      rise false e = le-leb 1 (min 255 (suc r.K)) (omega arith)

  stop_tells : (r : EventRecord) → Tells n r → Tells n (on_stop n r)
  unfolding holds
  stop_tells r t = record {
    bits =
        bits_kept
        (λ i x y s. clear_bits_if y (confirmed_dtc ∷ warning_indicator_requested ∷ [])
        (clear_bits_if x (warning_indicator_requested ∷ []) (clear_bits_if (clean_cycle s) (pending_dtc ∷ []) s)))
        tt n.indicator (heals n r) (ages_at_stop n r) r.status t.bits;
    cycles = fall (clean_cycle r.status);
    h_below = below (ages_at_stop n r);
    h_warned =
        zero_without (ages_at_stop n r) (heals n r) (counts_for_healing r.status) (r.status warning_indicator_requested)
        r.h t.h_warned;
    g_below =
        risen_below n.A r.g (counts_for_ageing r.status && r.status confirmed_dtc) a.A_least t.g_below;
    g_confirmed =
        zero_without (ages_at_stop n r) false (counts_for_ageing r.status) (r.status confirmed_dtc) r.g
        t.g_confirmed;
  }
    where
      fall : (b : Bool) → leb 1 (cond b 0 r.K) ≡ cond b false (r.status pending_dtc)
      fall true = refl
      fall false = t.cycles

      below : (b : Bool)
          → cond b 0
          (cond (heals n r) 0
          (cond (counts_for_healing r.status && r.status warning_indicator_requested) (suc r.h) r.h))
          < n.H
      below true = a.H_least
      below false =
          risen_below n.H r.h (counts_for_healing r.status && r.status warning_indicator_requested) a.H_least
          t.h_below

  -- ---- the theorem

  pub fresh_well_formed : well_formed_record n fresh_record ≡ true
  fresh_well_formed = told n fresh_record fresh_tells

  pub step_well_formed : (t : Token) (r : EventRecord) → well_formed_record n r ≡ true
      → well_formed_record n (step n t r) ≡ true
  step_well_formed passed r w = told n (on_passed r) (passed_tells r (tells n r w))
  step_well_formed failed r w = told n (on_failed n r) (failed_tells r (tells n r w))
  step_well_formed start r w = told n (on_start r) (start_tells r (tells n r w))
  step_well_formed stop r w = told n (on_stop n r) (stop_tells r (tells n r w))
  step_well_formed clear r w = fresh_well_formed

  pub record_well_formed : (l : History) → well_formed_record n (record_after n l) ≡ true
  unfolding record_after
  record_well_formed [] = fresh_well_formed
  record_well_formed (t ∷ l) = step_well_formed t (record_after n l) (record_well_formed l)
