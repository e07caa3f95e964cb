-- After a legal history bits 3 and 7 of the record are those of the reading; g and h count what the newest stretch
-- counts, where the bit is set.
use mathlib.Core.Path.{◌≡◌, refl, sym, ap, ◌∙◌}
use mathlib.Core.Bool.{Bool, true, false, not, ◌&&◌, ◌||◌, cond, true≢false}
use mathlib.Core.List.{List, [], ◌∷◌}
use Prim.Native.Nat.{ℕ, suc, min, ◌≤◌}
use native.Mathlib.Omega.{arith}
use lib.Dec.{T, leb, eqb}
use borrow.Author.Tests.{leb-true, leb-false, le-leb, lt-leb, eq-eqb, ne_eqb, not-true}
use Rattle.history.specs.Words.{count_of}
use Rattle.history.specs.StatusByte.{confirmed_dtc, warning_indicator_requested, Limits, confirms}
use Rattle.history.specs.History.{passed, failed, start, stop, clear, History, record_after, Moment, moments}
use Rattle.history.specs.History.{since_l, failure_free, clean, since_clean_stop, confirming, counted_for_ageing}
use Rattle.history.specs.History.{counted_for_healing, not_aged, not_healed, standing, reading, Allowed}
use Rattle.history.specs.Legal.{legal}
use Rattle.history.proofs.WordsLaws.{and_true, and_false, and_assoc}
use Rattle.history.proofs.Runs.{moment, healing_is, ageing_is, failed_runs_now, legal_before, K_is}
use Rattle.history.proofs.Standing.{newest, standing_newest, standing_failed, standing_stop}
use Rattle.history.proofs.Standing.{standing_passed, standing_start}

-- ---- counts and limits

-- K's cap hides no confirmation
leb_cap : (C r : ℕ) → C ≤ 255 → leb C (min 255 r) ≡ leb C r
leb_cap C r c = go (leb C r) refl
  where
    go : (b : Bool) → leb C r ≡ b → leb C (min 255 r) ≡ b
    go true e = le-leb C (min 255 r) (omega (arith, leb-true C r e))
    go false e = lt-leb C (min 255 r) (omega (arith, leb-false C r e))

-- a count below its limit that rises is at the limit exactly where it is no longer below it
at_limit : (N c : ℕ) → leb N c ≡ false → eqb (suc c) N ≡ leb N (suc c)
at_limit N c below = go (leb N (suc c)) refl
  where
    go : (b : Bool) → leb N (suc c) ≡ b → eqb (suc c) N ≡ b
    go true e = eq-eqb (suc c) N (omega (arith, leb-true N (suc c) e, leb-false N c below))
    go false e = ne_eqb (suc c) N (λ q. omega (arith, leb-false N (suc c) e))

-- a longer stretch holds no fewer
few_mono : (n c : ℕ) (b : Bool) → not (leb n (cond b (suc c) c)) ≡ not (leb n (cond b (suc c) c)) && not (leb n c)
few_mono n c true = go (leb n c) refl
  where
    go : (x : Bool) → leb n c ≡ x → not (leb n (suc c)) ≡ not (leb n (suc c)) && not x
    go true e = rw (le-leb n (suc c) (omega (arith, leb-true n c e)))
    go false e = sym (and_true (not (leb n (suc c))))
few_mono n c false = table (leb n c)
  where
    table : (x : Bool) → not x ≡ not x && not x
    table true = refl
    table false = refl

both_mono : (a a' b b' : Bool) → a ≡ a && a' → b ≡ b && b' → a && b ≡ (a && b) && (a' && b')
both_mono true true true b' e k = k
both_mono true true false b' e k = refl
both_mono true false b b' e k = cc
both_mono false a' b b' e k = refl

-- ---- what a stop does to bits 3 and 7, g and h, over the readings:
-- f and c say that it counts for ageing and for healing; r and q are bits 3 and 7 before it; fs and cs are what the
-- newest stretch counts

either : {X : Type 0} (b : Bool) (x : X) → cond b x x ≡ x
either true x = refl
either false x = refl

left_true : (u v : Bool) → true ≡ u && v → u ≡ true
left_true true v e = refl
left_true false v e = sym e

-- "at N", for a count that runs while the bit r is set and the stop counts, f
at_n : (N c : ℕ) (f r : Bool) → r ≡ r && not (leb N c)
    → (f && r) && eqb (suc (cond r c 0)) N ≡ (f && r) && leb N (suc c)
at_n N c true true e = at_limit N c (not-true (leb N c) (sym e))
at_n N c true false e = refl
at_n N c false r e = refl

module _ (A fs : ℕ) where
  stop_bit3 : (f r : Bool) → r ≡ r && not (leb A fs)
      → cond ((f && r) && leb A (suc fs)) false r ≡ r && not (leb A (cond f (suc fs) fs))
  stop_bit3 true true e = flip (leb A (suc fs))
    where
      flip : (b : Bool) → cond b false true ≡ not b
      flip true = refl
      flip false = refl
  stop_bit3 true false e = refl
  stop_bit3 false true e = e
  stop_bit3 false false e = refl

  stop_g : (f r : Bool) → r ≡ r && not (leb A fs)
      → cond ((f && r) && leb A (suc fs)) 0 (cond (f && r) (suc (cond r fs 0)) (cond r fs 0))
      ≡ cond (r && not (leb A (cond f (suc fs) fs))) (cond f (suc fs) fs) 0
  stop_g true true e = flip (leb A (suc fs))
    where
      flip : (b : Bool) → cond b 0 (suc fs) ≡ cond (not b) (suc fs) 0
      flip true = refl
      flip false = refl
  stop_g true false e = refl
  stop_g false true e = rw (← e)
  stop_g false false e = refl

  module _ (H cs : ℕ) where
    stop_bit7 : (f c q r : Bool) → c ≡ c && f → q ≡ q && r → q ≡ q && (not (leb H cs) && not (leb A fs))
        → cond ((f && r) && leb A (suc fs)) false (cond ((c && q) && leb H (suc cs)) false q)
        ≡ q && (not (leb H (cond c (suc cs) cs)) && not (leb A (cond f (suc fs) fs)))
    stop_bit7 f true false r x y e = either ((f && r) && leb A (suc fs)) false
    stop_bit7 f false false r x y e = either ((f && r) && leb A (suc fs)) false
    stop_bit7 f c true false x y e = cc
    stop_bit7 true true true true x y e = table (leb A (suc fs)) (leb H (suc cs))
      where
        table : (a b : Bool) → cond a false (cond b false true) ≡ not b && not a
        table true true = refl
        table true false = refl
        table false true = refl
        table false false = refl
    stop_bit7 true false true true x y e = rw (left_true (not (leb H cs)) (not (leb A fs)) e) (flip (leb A (suc fs)))
      where
        flip : (b : Bool) → cond b false true ≡ not b
        flip true = refl
        flip false = refl
    stop_bit7 false true true true x y e = cc
    stop_bit7 false false true true x y e = e

    stop_h : (f c q r : Bool) → c ≡ c && f → q ≡ q && r → q ≡ q && (not (leb H cs) && not (leb A fs))
        → cond ((f && r) && leb A (suc fs)) 0
        (cond ((c && q) && leb H (suc cs)) 0 (cond (c && q) (suc (cond q cs 0)) (cond q cs 0)))
        ≡ cond (q && (not (leb H (cond c (suc cs) cs)) && not (leb A (cond f (suc fs) fs)))) (cond c (suc cs) cs) 0
    stop_h f true false r x y e = either ((f && r) && leb A (suc fs)) 0
    stop_h f false false r x y e = either ((f && r) && leb A (suc fs)) 0
    stop_h f c true false x y e = absurd (true≢false y)
    stop_h true true true true x y e = table (leb A (suc fs)) (leb H (suc cs))
      where
        table : (a b : Bool) → cond a 0 (cond b 0 (suc cs)) ≡ cond (not b && not a) (suc cs) 0
        table true true = refl
        table true false = refl
        table false true = refl
        table false false = refl
    stop_h true false true true x y e = rw (left_true (not (leb H cs)) (not (leb A fs)) e) (flip (leb A (suc fs)))
      where
        flip : (b : Bool) → cond b 0 cs ≡ cond (not b) cs 0
        flip true = refl
        flip false = refl
    stop_h false true true true x y e = absurd (true≢false x)
    stop_h false false true true x y e = rw (← e)

-- a stop that counts for healing counts for ageing
healing_ages : (l : History)
    → counted_for_healing (moment stop l) ≡ counted_for_healing (moment stop l) && counted_for_ageing (moment stop l)
healing_ages l = table (clean (moment stop l))
  where
    table : (c : Bool) → c ≡ c && c
    table true = refl
    table false = refl

module _ (n : Limits) (a : Allowed n) where
  -- the two tests of a stretch
  not_aged_mono : (m : Moment) (s : List Moment) → not_aged n (m ∷ s) ≡ not_aged n (m ∷ s) && not_aged n s
  not_aged_mono m s = few_mono n.A (count_of counted_for_ageing s) (counted_for_ageing m)

  not_aged_empty : not_aged n [] ≡ true
  not_aged_empty = rw (lt-leb n.A 0 a.A_least)

  lasting : List Moment → Bool
  lasting s = not_healed n s && not_aged n s

  lasting_mono : (m : Moment) (s : List Moment) → lasting (m ∷ s) ≡ lasting (m ∷ s) && lasting s
  unfolding lasting
  lasting_mono m s =
      both_mono (not_healed n (m ∷ s)) (not_healed n s) (not_aged n (m ∷ s)) (not_aged n s)
      (few_mono n.H (count_of counted_for_healing s) (counted_for_healing m)) (not_aged_mono m s)

  lasting_empty : lasting [] ≡ true
  unfolding lasting
  lasting_empty = rw (lt-leb n.H 0 a.H_least, lt-leb n.A 0 a.A_least)

  -- what the newest stretch counts
  aged_by : History → ℕ
  aged_by l = count_of counted_for_ageing (newest l)

  healed_by : History → ℕ
  healed_by l = count_of counted_for_healing (newest l)

  abbrev r3 : History → Bool
  r3 l = reading n l confirmed_dtc

  abbrev r7 : History → Bool
  r7 l = reading n l warning_indicator_requested

  confirming_now : History → Bool
  confirming_now l = confirming n.C (moment failed l)

  -- the rules confirm exactly at a confirming result
  confirms_is : (l : History) → T (legal (failed ∷ l)) → confirms n (record_after n l) ≡ confirming_now l
  unfolding confirming_now confirming record_after failed_runs_now since_clean_stop moments clean failure_free
  confirms_is l t = rw (K_is n (failed ∷ l) t) (leb_cap n.C (failed_runs_now (failed ∷ l)) a.C_most)

  -- ---- bit 3 of the reading, one thing after the other

  r3_newest : (l : History) → r3 l ≡ r3 l && not (leb n.A (aged_by l))
  unfolding reading aged_by
  r3_newest l = standing_newest n.C (not_aged n) not_aged_empty not_aged_mono l

  r3_failed : (l : History) → r3 (failed ∷ l) ≡ confirming_now l || r3 l
  unfolding reading confirming_now
  r3_failed l = standing_failed n.C (not_aged n) not_aged_empty not_aged_mono l

  r3_stop : (l : History)
      → r3 (stop ∷ l) ≡ r3 l && not (leb n.A (cond (counted_for_ageing (moment stop l)) (suc (aged_by l)) (aged_by l)))
  unfolding reading aged_by
  r3_stop l = standing_stop n.C (not_aged n) not_aged_empty not_aged_mono l

  r3_passed : (l : History) → r3 (passed ∷ l) ≡ r3 l
  unfolding reading failure_free clean
  r3_passed l = standing_passed n.C (not_aged n) not_aged_empty not_aged_mono l (λ s. refl)

  r3_start : (l : History) → r3 (start ∷ l) ≡ r3 l
  unfolding reading failure_free clean
  r3_start l = standing_start n.C (not_aged n) not_aged_empty not_aged_mono l (λ s. refl)

  r3_none : r3 [] ≡ false
  unfolding reading standing since_l moments
  r3_none = refl

  r3_clear : (l : History) → r3 (clear ∷ l) ≡ false
  unfolding reading standing since_l moments
  r3_clear l = refl

  -- ---- bit 7 of the reading

  with_indicator : {x y : Bool} → x ≡ y → n.indicator && x ≡ n.indicator && y
  with_indicator e = ap (λ t. n.indicator && t) e

  r7_newest : (l : History) → r7 l ≡ r7 l && (not (leb n.H (healed_by l)) && not (leb n.A (aged_by l)))
  unfolding reading aged_by healed_by lasting
  r7_newest l =
      with_indicator (standing_newest n.C lasting lasting_empty lasting_mono l)
      ∙ and_assoc n.indicator (standing n.C lasting l) (lasting (newest l))

  r7_failed : (l : History) → r7 (failed ∷ l) ≡ (n.indicator && confirming_now l) || r7 l
  unfolding reading confirming_now lasting
  r7_failed l =
      with_indicator (standing_failed n.C lasting lasting_empty lasting_mono l)
      ∙ table n.indicator (confirming_now l) (standing n.C lasting l)
    where
      table : (a b c : Bool) → a && (b || c) ≡ (a && b) || (a && c)
      table true b c = refl
      table false b c = refl

  r7_stop : (l : History) → r7 (stop ∷ l)
      ≡ r7 l
      && (not (leb n.H (cond (counted_for_healing (moment stop l)) (suc (healed_by l)) (healed_by l)))
      && not (leb n.A (cond (counted_for_ageing (moment stop l)) (suc (aged_by l)) (aged_by l))))
  unfolding reading aged_by healed_by lasting
  r7_stop l =
      with_indicator (standing_stop n.C lasting lasting_empty lasting_mono l)
      ∙ and_assoc n.indicator (standing n.C lasting l) (lasting (moment stop l ∷ newest l))

  r7_passed : (l : History) → r7 (passed ∷ l) ≡ r7 l
  unfolding reading failure_free clean lasting
  r7_passed l = with_indicator (standing_passed n.C lasting lasting_empty lasting_mono l (λ s. refl))

  r7_start : (l : History) → r7 (start ∷ l) ≡ r7 l
  unfolding reading failure_free clean lasting
  r7_start l = with_indicator (standing_start n.C lasting lasting_empty lasting_mono l (λ s. refl))

  r7_none : r7 [] ≡ false
  unfolding reading standing since_l moments
  r7_none = and_false n.indicator

  r7_clear : (l : History) → r7 (clear ∷ l) ≡ false
  unfolding reading standing since_l moments
  r7_clear l = and_false n.indicator

  -- ---- what is known of the record after a history

  record Known (l : History) : Type 0 where
    at3 : (record_after n l).status confirmed_dtc ≡ r3 l
    atg : (record_after n l).g ≡ cond (r3 l) (aged_by l) 0
    at7 : (record_after n l).status warning_indicator_requested ≡ r7 l
    ath : (record_after n l).h ≡ cond (r7 l) (healed_by l) 0
    -- bit 7 only with bit 3
    only : r7 l ≡ r7 l && r3 l

  known_none : Known []
  unfolding record_after
  known_none = record { at3 = rw r3_none; atg = rw r3_none; at7 = rw r7_none; ath = rw r7_none; only = rw r7_none }

  known_clear : (l : History) → Known (clear ∷ l)
  unfolding record_after
  known_clear l =
      record {
        at3 = rw (r3_clear l);
        atg = rw (r3_clear l);
        at7 = rw (r7_clear l);
        ath = rw (r7_clear l);
        only = rw (r7_clear l);
      }

  known_passed : (l : History) → Known l → Known (passed ∷ l)
  unfolding record_after aged_by healed_by since_l moments clean failure_free
  known_passed l k =
      record {
        at3 = rw (r3_passed l) k.at3;
        atg = rw (r3_passed l) k.atg;
        at7 = rw (r7_passed l) k.at7;
        ath = rw (r7_passed l) k.ath;
        only = rw (r7_passed l, r3_passed l) k.only;
      }

  known_start : (l : History) → Known l → Known (start ∷ l)
  unfolding record_after aged_by healed_by since_l moments clean failure_free
  known_start l k =
      record {
        at3 = rw (r3_start l) k.at3;
        atg = rw (r3_start l) k.atg;
        at7 = rw (r7_start l) k.at7;
        ath = rw (r7_start l) k.ath;
        only = rw (r7_start l, r3_start l) k.only;
      }

  known_failed : (l : History) → T (legal (failed ∷ l)) → Known l → Known (failed ∷ l)
  unfolding record_after aged_by healed_by since_l moments
  known_failed l t k = record {
    at3 = rw (r3_failed l, k.at3, confirms_is l t);
    atg = sym (either (r3 (failed ∷ l)) 0);
    at7 = rw (r7_failed l, k.at7, confirms_is l t);
    ath = sym (either (r7 (failed ∷ l)) 0);
    only = rw (r7_failed l, r3_failed l) (table n.indicator (confirming_now l) (r7 l) (r3 l) k.only);
  }
    where
      table : (i c q r : Bool) → q ≡ q && r → (i && c) || q ≡ ((i && c) || q) && (c || r)
      table true true q r e = refl
      table true false q r e = e
      table false true q r e = sym (and_true q)
      table false false q r e = e

  known_stop : (l : History) → Known l → Known (stop ∷ l)
  unfolding record_after aged_by healed_by since_l moments
  known_stop l k = record {
    at3 = rw (r3_stop l, ageing_is n l, k.at3, k.atg, at_a) (stop_bit3 n.A (aged_by l) ages (r3 l) (r3_newest l));
    atg = rw (r3_stop l, ageing_is n l, k.at3, k.atg, at_a) (stop_g n.A (aged_by l) ages (r3 l) (r3_newest l));
    at7 =
        rw (r7_stop l, healing_is n l, k.at3, k.atg, k.at7, k.ath, at_a, at_h)
        (stop_bit7 n.A (aged_by l) n.H (healed_by l) ages heals (r7 l) (r3 l) (healing_ages l) k.only
        (r7_newest l));
    ath =
        rw (r7_stop l, healing_is n l, k.at3, k.atg, k.at7, k.ath, at_a, at_h)
        (stop_h n.A (aged_by l) n.H (healed_by l) ages heals (r7 l) (r3 l) (healing_ages l)
        k.only (r7_newest l));
    only =
        rw (r7_stop l, r3_stop l)
        (table (r7 l) (r3 l) (not (leb n.H (cond heals (suc (healed_by l)) (healed_by l))))
        (not (leb n.A (cond ages (suc (aged_by l)) (aged_by l)))) k.only);
  }
    where
      ages : Bool
      ages = counted_for_ageing (moment stop l)

      heals : Bool
      heals = counted_for_healing (moment stop l)

      at_a : (ages && r3 l) && eqb (suc (cond (r3 l) (aged_by l) 0)) n.A
          ≡ (ages && r3 l) && leb n.A (suc (aged_by l))
      at_a = at_n n.A (aged_by l) ages (r3 l) (r3_newest l)

      first : (q x y : Bool) → q ≡ q && (x && y) → q ≡ q && x
      first true true y e = refl
      first true false y e = e
      first false x y e = refl

      at_h : (heals && r7 l) && eqb (suc (cond (r7 l) (healed_by l) 0)) n.H
          ≡ (heals && r7 l) && leb n.H (suc (healed_by l))
      at_h =
          at_n n.H (healed_by l) heals (r7 l)
          (first (r7 l) (not (leb n.H (healed_by l))) (not (leb n.A (aged_by l))) (r7_newest l))

      table : (q r u v : Bool) → q ≡ q && r → q && (u && v) ≡ (q && (u && v)) && (r && v)
      table true true true true e = refl
      table true true true false e = refl
      table true true false v e = refl
      table true false u v e = cc
      table false r u v e = refl

  known : (l : History) → T (legal l) → Known l
  known [] t = known_none
  known (passed ∷ l) t = known_passed l (known l (legal_before passed l t))
  known (failed ∷ l) t = known_failed l t (known l (legal_before failed l t))
  known (start ∷ l) t = known_start l (known l (legal_before start l t))
  known (stop ∷ l) t = known_stop l (known l (legal_before stop l t))
  known (clear ∷ l) t = known_clear l

  pub bit3 : (l : History) → T (legal l) → (record_after n l).status confirmed_dtc ≡ reading n l confirmed_dtc
  bit3 l t = (known l t).at3

  pub bit7 : (l : History) → T (legal l)
      → (record_after n l).status warning_indicator_requested ≡ reading n l warning_indicator_requested
  bit7 l t = (known l t).at7
