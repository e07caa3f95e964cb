-- Document 02, W10, "Count, for each of the four cycles and each of the eight bits, the events of that cycle with the
-- bit set": the table's count of a cycle and a bit is the number of events below n whose row names that cycle and whose
-- status byte, at 4e of the records, has that bit set; and under an accepted configuration the four counts of a bit add
-- up to the number of events with the bit set.
use mathlib.Core.Path.{◌≡◌, refl, ◌∙◌}
use mathlib.Core.Bool.{Bool, true, false, ◌&&◌, cond}
use Prim.Native.Nat.{ℕ, zero, suc, ◌+◌, ◌*◌, ◌/◌, ◌%◌, ◌≤◌, ◌<◌}
use native.Mathlib.Omega.{arith}
use lib.Dec.{eqb}
use lib.ListN.{length, get_or}
use Rattle.history.specs.StatusByte.{Bit, weight}
use Rattle.manual.specs.Words.{count_below, those}
use Rattle.manual.specs.Configuration.{Configuration, events, cycle_of, config_ok}
use Rattle.manual.specs.State.{State, record_width, stored_at, record_of}
use Rattle.manual.specs.Replies.{rising}
use Rattle.manual.specs.Untested.{place_in, count_of, table}
use Rattle.manual.proofs.ConfigurationLaws.{config_tells}
use Rattle.manual.proofs.RepliesLaws.{count_is}
use Rattle.manual.proofs.UntestedLaws.{count_at}

module _ (cfg : Configuration) (s : State) where
  -- event by event
  pub counts_are_of_records : (c : ℕ) → c < 4 → (b : Bit)
      → get_or (table cfg s) (place_in c b) 0
      ≡ length
      (those (λ e. eqb (cycle_of cfg e) c && eqb (get_or s.records (record_width * e) 0 / weight b % 2) 1)
      (rising (events cfg)))
  unfolding count_of stored_at
  counts_are_of_records c h b = count_at cfg s c h b ∙ count_is _ (events cfg)

-- a number that rises in one of four places
one_of_four : (a b c d t m : ℕ) (p : Bool) → m ≤ 3 → a + (b + (c + d)) ≡ t
    → cond (eqb m 0 && p) (suc a) a
    + (cond (eqb m 1 && p) (suc b) b + (cond (eqb m 2 && p) (suc c) c + cond (eqb m 3 && p) (suc d) d))
    ≡ cond p (suc t) t
one_of_four a b c d t zero true h e = omega arith
one_of_four a b c d t (suc zero) true h e = omega arith
one_of_four a b c d t (suc (suc zero)) true h e = omega arith
one_of_four a b c d t (suc (suc (suc zero))) true h e = omega arith
one_of_four a b c d t (suc (suc (suc (suc m)))) true h e = absurd (omega arith)
one_of_four a b c d t zero false h e = e
one_of_four a b c d t (suc zero) false h e = e
one_of_four a b c d t (suc (suc zero)) false h e = e
one_of_four a b c d t (suc (suc (suc zero))) false h e = e
one_of_four a b c d t (suc (suc (suc (suc m)))) false h e = absurd (omega arith)

module _ (cycle : ℕ → ℕ) (p : ℕ → Bool) where
  abbrev in_cycle : ℕ → ℕ → ℕ
  in_cycle c n = count_below n (λ e. eqb (cycle e) c && p e)

  in_one_cycle : (n : ℕ) → ((e : ℕ) → e < n → cycle e ≤ 3)
      → in_cycle 0 n + (in_cycle 1 n + (in_cycle 2 n + in_cycle 3 n)) ≡ count_below n p
  unfolding count_below
  in_one_cycle zero h = refl
  in_one_cycle (suc n) h =
      one_of_four (in_cycle 0 n) (in_cycle 1 n) (in_cycle 2 n) (in_cycle 3 n) (count_below n p) (cycle n) (p n)
      (h n (omega arith)) (in_one_cycle n (λ e l. h e (omega (arith, l))))

module _ (cfg : Configuration) (s : State) (ok : config_ok cfg ≡ true) (b : Bit) where
  abbrev at_cycle : ℕ → ℕ
  at_cycle c = get_or (table cfg s) (place_in c b) 0

  -- each event in one cycle
  pub each_counted_once : at_cycle 0 + (at_cycle 1 + (at_cycle 2 + at_cycle 3))
      ≡ count_below (events cfg) (λ e. (record_of s e).status b)
  unfolding count_of
  each_counted_once =
      rw (
        count_at cfg s 0 (omega arith) b,
        count_at cfg s 1 (omega arith) b,
        count_at cfg s 2 (omega arith) b,
        count_at cfg s 3 (omega arith) b,
      )
      (in_one_cycle (cycle_of cfg) (λ e. (record_of s e).status b) (events cfg)
      (λ e h. ((config_tells cfg ok).row e h).cycle_most))
