-- At a store only the entry that the rule names leaves; all others keep their order and their bytes, and the stored
-- event's entry stands at the end.
use mathlib.Core.Path.{◌≡◌, sym, ap, subst, ◌∙◌}
use mathlib.Core.Logic.{◌≢◌, ◌⊎◌, inl, inr, ⊎_elim}
use mathlib.Core.Bool.{Bool, true, false}
use mathlib.Core.List.Memᴰ
use mathlib.Core.List.{List, [], ◌∷◌, Memᴰ}
use Prim.Native.Nat.{ℕ, zero, suc, ◌+◌, ◌≤◌, ◌<◌, min}
use native.Mathlib.Nat.{eq-or-lt_of_le}
use native.Mathlib.Omega.{arith}
use lib.Dec.{eqb, ltb}
use lib.ListN.{length, length-append}
use borrow.Author.Tests.{eqb-true, eqb-false, eq-eqb, leb-true, le-leb, ltb-true, lt-ltb}
use Rattle.history.specs.Words.{any_of}
use Rattle.history.proofs.WordsLaws.{and_left, and_right, both}
use Rattle.manual.specs.Memory.{Entry, event_of, entry_of, payload_of, renewed_payload}
use Rattle.manual.specs.Memory.{is_of, no_twice, Kept, outranked, resting, store}
use Rattle.manual.specs.Words.{All}
use Rattle.manual.specs.Displacement as Displacement
use Rattle.manual.specs.Displacement.{renews, adds, replaces, loses, greatest, oldest}
use Rattle.manual.proofs.WordsLaws.{clash, all_map, all_both, all_of_test, test_of_all, all_front}
use Rattle.manual.proofs.WordsLaws.{bounded, none_pass, First, others_in, as_long}
use Rattle.manual.proofs.MemoryLaws.{store_cases}

-- M places; each event's priority number; whether an event has bit 0 clear; a fresh failure of e with a frame; the
-- entries, the oldest first
module _ (M : ℕ) (priority : ℕ → ℕ) (quiet : ℕ → Bool) (e : ℕ) (frame : List ℕ) (xs : List Entry) where
  abbrev priority_of : Entry → ℕ
  priority_of = Displacement.priority_of M priority quiet e frame xs

  abbrev Rests : Entry → Type 0
  Rests = Displacement.Rests M priority quiet e frame xs

  abbrev Victim : List Entry → Entry → Type 0
  Victim = Displacement.Victim M priority quiet e frame xs

  abbrev TakenOut : Entry → Type 0
  TakenOut = Displacement.TakenOut M priority quiet e frame xs

  abbrev Ruled : Kept → Type 0
  Ruled = Displacement.Ruled M priority quiet e frame xs

  -- ---- the tests that find the victim

  abbrev top : Entry → Bool
  top = outranked M priority quiet e frame xs

  abbrev rests : Entry → Bool
  rests = resting M priority quiet e frame

  is_top : (x : Entry) → priority e < priority_of x → All (λ y. priority_of y ≤ priority_of x) xs → top x ≡ true
  is_top x h a = both _ _ (lt-ltb _ _ h) (test_of_all (λ y. priority_of y ≤ priority_of x) _ (λ y. le-leb _ _) xs a)

  -- where no entry is the greatest of those greater than e, none is greater: a bound on all falls to e's
  lowered : All (λ x. top x ≡ false) xs → (k : ℕ) → All (λ x. priority_of x ≤ k + priority e) xs
      → All (λ x. priority_of x ≤ priority e) xs
  lowered n zero a = all_map _ _ (λ x h. omega arith) xs a
  lowered n (suc k) a = lowered n k (all_both _ _ _ lower xs a n)
    where
      lower : (x : Entry) → priority_of x ≤ suc k + priority e → top x ≡ false → priority_of x ≤ k + priority e
      lower x h o =
          ⊎_elim (λ q. clash (top x) (is_top x (omega arith) (rw q a)) o) (λ l. omega arith) (eq-or-lt_of_le h)

  none_greater : any_of top xs ≡ false → All (λ x. priority_of x ≤ priority e) xs
  none_greater n =
      let (k, a) = bounded priority_of xs in lowered (none_pass top xs n) k (all_map _ _ (λ x h. omega arith) xs a)

  none_rests : (ys : List Entry) → All (λ x. rests x ≡ false) ys → All (λ x. ¬ Rests x) ys
  none_rests ys a = all_map _ _ (λ x h r. clash (rests x) (both _ _ (eq-eqb _ _ r.0) r.1) h) ys a

  greatest_is : (v : Entry) (f : First top xs v) → Victim f.older v
  greatest_is v f =
      greatest greater highest
      (all_both _ _ _ lower f.older (all_front _ f.older (v ∷ f.newer) (rw f.there at highest))
      f.none_older)
    where
      greater : priority e < priority_of v
      greater = ltb-true _ _ (and_left _ _ f.passes)

      highest : All (λ x. priority_of x ≤ priority_of v) xs
      highest =
          all_map _ _ (λ x. leb-true _ _) xs
          (all_of_test _ xs (and_right (ltb (priority e) (priority_of v)) _ f.passes))

      lower : (x : Entry) → priority_of x ≤ priority_of v → top x ≡ false → priority_of x < priority_of v
      lower x h o = ⊎_elim (λ q. clash (top x) (is_top x (rw q greater) (rw q highest)) o) (λ l. l) (eq-or-lt_of_le h)

  oldest_is : (v : Entry) (f : First rests xs v) → All (λ x. priority_of x ≤ priority e) xs → Victim f.older v
  oldest_is v f n =
      oldest n (eqb-true _ _ (and_left _ _ f.passes), and_right (eqb (priority_of v) (priority e)) _ f.passes)
      (none_rests f.older f.none_older)

  -- ---- the theorem

  pub store_is_ruled : no_twice xs ≡ true → Ruled (store M priority quiet e frame xs)
  store_is_ruled o = store_cases M priority quiet e frame xs o Ruled
      (λ x f. renews f.older x f.newer f.there (eqb-true _ _ f.passes))
      (λ n l. adds (others n) l)
      (λ n l v f. replaces v (taken n l f (greatest_is v f)))
      (λ n l t v f. replaces v (taken n l f (oldest_is v f (none_greater t))))
      (λ n l t r. loses (others n) l (none_greater t) (none_rests xs (none_pass rests xs r)))
    where
      others : any_of (is_of e) xs ≡ false → All (λ x. event_of x ≢ e) xs
      others n = all_map _ _ (λ x. eqb-false _ _) xs (none_pass (is_of e) xs n)

      taken : {p : Entry → Bool} {v : Entry} → any_of (is_of e) xs ≡ false → M ≤ length xs → (f : First p xs v)
          → Victim f.older v → TakenOut v
      taken n l f h =
          record { without_entry = others n; full = l; older = f.older; newer = f.newer; there = f.there; is_victim = h }

  -- an entry of another event stays as it is, but for the one that rule 3 takes out
  pub others_stay : no_twice xs ≡ true → (x : Entry) → Memᴰ x xs → event_of x ≢ e
      → Memᴰ x (store M priority quiet e frame xs).entries ⊎ TakenOut x
  others_stay o x m d = go (store M priority quiet e frame xs) (store_is_ruled o)
    where
      go : (k : Kept) → Ruled k → Memᴰ x k.entries ⊎ TakenOut x
      go _ (renews older y newer s t) =
          ⊎_elim (λ q. absurd (d (ap event_of q ∙ t))) inl (others_in xs older y newer s x _ m)
      go _ (adds n l) = inl (Memᴰ.append_left _ m)
      go _ (replaces v t) =
          ⊎_elim (λ q. inr (subst TakenOut (sym q) t)) inl (others_in xs t.older v t.newer t.there x _ m)
      go _ (loses n l g r) = inl m

  pub never_fewer : no_twice xs ≡ true → length xs ≤ length (store M priority quiet e frame xs).entries
  never_fewer o = go (store M priority quiet e frame xs) (store_is_ruled o)
    where
      go : (k : Kept) → Ruled k → length xs ≤ length k.entries
      go _ (renews older x newer s t) =
          omega
          (arith, as_long xs older x newer s (entry_of e (min 255 (suc x.count)) (renewed_payload x.payload frame)))
      go _ (adds n l) = omega (arith, length-append xs (entry_of e 1 (payload_of frame) ∷ []))
      go _ (replaces v t) = omega (arith, as_long xs t.older v t.newer t.there (entry_of e 1 (payload_of frame)))
      go _ (loses n l g r) = omega arith
