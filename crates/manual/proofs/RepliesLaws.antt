-- Laws of specs/Replies.antt and of the replies of specs/Diagnostics.antt: the same lists, built by joining and by
-- leaving out; and what an accepted request tells.
use mathlib.Core.Path.{◌≡◌, refl, sym, ap, ◌∙◌}
use mathlib.Core.Logic.{⊎_elim}
use mathlib.Core.Bool.{Bool, true, false, not, ◌&&◌, cond}
use mathlib.Core.List.{List, [], ◌∷◌, ◌++◌, map, flat_map, append_assoc, append-nil}
use Prim.Native.Nat.{ℕ, zero, suc, ◌+◌, ◌*◌, ◌<◌}
use native.Mathlib.Nat.{eq-or-lt_of_le, le_of_suc-le-suc, not-suc-le-zero}
use native.Mathlib.Omega.{arith}
use lib.ListN.{length, get_or, length-append, take-append-drop, get_or-append}
use lib.Seq.{get_or_at}
use lib.Dec.{eqb}
use borrow.Author.Tests.{not-true, not-false, ltb-false, eqb-true, eqb-false, le-ltb, ne_eqb}
use Rattle.history.proofs.WordsLaws.{and_left, and_right}
use Rattle.manual.specs.Words.{count_below, join_below, those, three_at}
use Rattle.manual.specs.Configuration.{Configuration, frame_bytes}
use Rattle.manual.specs.Memory.{Entry, first_frame, latest_frame}
use Rattle.manual.specs.State.{State}
use Rattle.manual.specs.WellFormed.{well_formed}
use Rattle.manual.specs.Answers.{Beside, with_counts, Outcome, first_that_applies}
use Rattle.manual.specs.Counts.{rise_of, raised, carries_past, counts_fit}
use Rattle.manual.specs.Calls.{unknown_code, clear_log}
use Rattle.manual.specs.Diagnostics.{asks_clear, counts_after, served_by, sent, replied, request_rules, request_reply}
use Rattle.manual.specs.Replies.{rising, fours, Clearing, Accepted}
use Rattle.manual.proofs.AnswersLaws.{none_applies, three_passed, accepted, goes_through}

-- ---- the events that pass, and their lists

module _ {A : Type 0} where
  pub those_append : (p : A → Bool) (xs ys : List A) → those p (xs ++ ys) ≡ those p xs ++ those p ys
  unfolding those
  those_append p [] ys = refl
  those_append p (x ∷ xs) ys = go (p x) _ _ (those_append p xs ys)
    where
      go : (t : Bool) (l m : List A) → l ≡ m ++ those p ys → cond t (x ∷ l) l ≡ cond t (x ∷ m) m ++ those p ys
      go true l m ih = ap (λ (l : List A). x ∷ l) ih
      go false l m ih = ih

  pub those_every : (xs : List A) → those (λ x. true) xs ≡ xs
  unfolding those
  those_every [] = refl
  those_every (x ∷ xs) = ap (λ (l : List A). x ∷ l) (those_every xs)

flat_append : (f : ℕ → List ℕ) (xs ys : List ℕ) → flat_map f (xs ++ ys) ≡ flat_map f xs ++ flat_map f ys
unfolding flat_map
flat_append f [] ys = refl
flat_append f (x ∷ xs) ys =
    ap (λ (l : List ℕ). f x ++ l) (flat_append f xs ys) ∙ sym (append_assoc (f x) (flat_map f xs) (flat_map f ys))

-- how many pass
pub count_is : (p : ℕ → Bool) (n : ℕ) → count_below n p ≡ length (those p (rising n))
unfolding count_below rising those
count_is p zero = refl
count_is p (suc n) =
    go (p n) _ _ (count_is p n)
    ∙ sym (ap length (those_append p (rising n) (n ∷ [])) ∙ length-append (those p (rising n)) (those p (n ∷ [])))
  where
    go : (t : Bool) (k m : ℕ) → k ≡ m → cond t (suc k) k ≡ m + length (cond t (n ∷ []) [])
    go true k m ih = omega arith
    go false k m ih = omega arith

-- the lists of those that pass
pub join_is : (p : ℕ → Bool) (f : ℕ → List ℕ) (n : ℕ)
    → join_below n (λ e. cond (p e) (f e) []) ≡ flat_map f (those p (rising n))
unfolding join_below rising those flat_map
join_is p f zero = refl
join_is p f (suc n) =
    (λ i. join_is p f n i ++ last (p n) i)
    ∙ sym (ap (flat_map f) (those_append p (rising n) (n ∷ []))
    ∙ flat_append f (those p (rising n)) (those p (n ∷ [])))
  where
    last : (t : Bool) → cond t (f n) [] ≡ flat_map f (cond t (n ∷ []) [])
    last true = sym (append-nil (f n))
    last false = refl

-- ---- the numbers below n, and lists cut into fours

pub rising_length : (n : ℕ) → length (rising n) ≡ n
unfolding rising
rising_length zero = refl
rising_length (suc n) = length-append (rising n) (n ∷ []) ∙ (let h = rising_length n in omega arith)

pub rising_at : (n e : ℕ) → e < n → get_or (rising n) e 0 ≡ e
unfolding rising
rising_at zero e h = absurd (not-suc-le-zero h)
rising_at (suc n) e h =
    ⊎_elim last (λ q. earlier q ∙ rising_at n e q) (eq-or-lt_of_le (le_of_suc-le-suc h))
  where
    earlier : e < n → get_or (rising n ++ (n ∷ [])) e 0 ≡ get_or (rising n) e 0
    earlier q = get_or-append (rising n) (n ∷ []) 0 e (rw (rising_length n) q)

    last : e ≡ n → get_or (rising n ++ (n ∷ [])) e 0 ≡ e
    last q = get_or_at (rising n) n [] 0 e (rising_length n ∙ sym q) ∙ sym q

-- lists of four, one after the other
module _ (f : ℕ → List ℕ) where
  pub fours_flat : ((x : ℕ) (l : List ℕ) → fours (f x ++ l) ≡ f x ∷ fours l)
      → (xs : List ℕ) → fours (flat_map f xs) ≡ map f xs
  unfolding fours flat_map
  fours_flat cut [] = refl
  fours_flat cut (x ∷ xs) = cut x (flat_map f xs) ∙ ap (λ (l : List (List ℕ)). f x ∷ l) (fours_flat cut xs)

  pub flat_length : (k : ℕ) → ((x : ℕ) → length (f x) ≡ k) → (xs : List ℕ) → length (flat_map f xs) ≡ k * length xs
  unfolding flat_map
  flat_length k each [] = omega arith
  flat_length k each (x ∷ xs) =
      length-append (f x) (flat_map f xs) ∙ (let h = flat_length k each xs in let e = each x in omega arith)

  pub map_at : (xs : List ℕ) (i : ℕ) → i < length xs → get_or (map f xs) i [] ≡ f (get_or xs i 0)
  map_at [] i h = absurd (not-suc-le-zero h)
  map_at (x ∷ xs) zero h = refl
  map_at (x ∷ xs) (suc i) h = map_at xs i (le_of_suc-le-suc h)

  -- leaving out after or before
  pub those_map : (p : List ℕ → Bool) (xs : List ℕ) → those p (map f xs) ≡ map f (those (λ x. p (f x)) xs)
  unfolding those
  those_map p [] = refl
  those_map p (x ∷ xs) = go (p (f x)) _ _ (those_map p xs)
    where
      go : (t : Bool) (l : List (List ℕ)) (m : List ℕ) → l ≡ map f m → cond t (f x ∷ l) l ≡ map f (cond t (x ∷ m) m)
      go true l m ih = ap (λ (l : List (List ℕ)). f x ∷ l) ih
      go false l m ih = ih

-- ---- an entry's frames

-- "first, then latest" is how an entry stores them
pub as_stored : (cfg : Configuration) (x : Entry)
    → first_frame (frame_bytes cfg) x.payload ++ latest_frame (frame_bytes cfg) x.payload ≡ x.payload
as_stored cfg x = take-append-drop (frame_bytes cfg) x.payload

-- ---- an accepted request

module _ (cfg : Configuration) (request : List ℕ) (b : Beside) (s : State) where
  pub asks_clear_lem : Clearing cfg request s → asks_clear cfg request ≡ true
  asks_clear_lem (a, l, k) = rw (a, l, k)

  pub clearing : asks_clear cfg request ≡ true → Clearing cfg request s
  clearing t =
      let front = and_left (is14 && four) known t in (
        eqb-true _ _ (and_left is14 four front),
        eqb-true _ _ (and_right is14 four front),
        not-true _ (and_right (is14 && four) known t),
      )
    where
      is14 : Bool
      is14 = eqb (get_or request 0 0) 0x14

      four : Bool
      four = eqb (length request) 4

      known : Bool
      known = not (unknown_code cfg (three_at 1 request))

  -- the counts that a request leaves
  pub counts_rise : asks_clear cfg request ≡ true
      → counts_after cfg request b s ≡ raised (rise_of (clear_log cfg (three_at 1 request) s)) b.counts
  unfolding counts_after
  counts_rise t = rw t

  pub counts_stay : asks_clear cfg request ≡ false → counts_after cfg request b s ≡ b.counts
  unfolding counts_after
  counts_stay f = rw f

  pub accepted_tells : (request_reply cfg request b s).answer ≡ 0 → Accepted cfg request s b
  unfolding request_reply request_rules
  accepted_tells z =
      let none = none_applies _ (accepted _ b s _ z).0 refl in
      record {
        configuration = not-false _ (none 0);
        five_counts = (three_passed (counts_fit b.counts) (well_formed cfg s) (none 1)).0;
        formed = (three_passed (counts_fit b.counts) (well_formed cfg s) (none 1)).1;
        room_least = ltb-false _ _ (none 2);
        some_bytes = eqb-false _ _ (none 3);
        not_past = λ c. rw (asks_clear_lem c) at (none 4);
      }

  pub accepted_is : (request_reply cfg request b s).answer ≡ 0
      → request_reply cfg request b s
      ≡ replied cfg (get_or request 0 0) (with_counts (counts_after cfg request b s) b)
      (served_by cfg request (length b.room) s)
  unfolding request_reply
  accepted_is z = (accepted _ b s _ z).1

  pub accepted_told : Accepted cfg request s b → (request_reply cfg request b s).answer ≡ 0
  unfolding request_reply request_rules sent first_that_applies
  accepted_told a =
      let none_first : first_that_applies (request_rules cfg request b s) ≡ 0 =
      rw (
        a.configuration,
        a.five_counts,
        a.formed,
        le-ltb _ _ a.room_least,
        ne_eqb _ _ a.some_bytes,
        below (asks_clear cfg request) refl,
      ) in
      ap (λ (o : Outcome). o.answer) (goes_through _ b s _ none_first)
    where
      past_limit : Bool
      past_limit = carries_past (clear_log cfg (three_at 1 request) s) b.counts

      below : (t : Bool) → asks_clear cfg request ≡ t → asks_clear cfg request && past_limit ≡ false
      below true q = rw q (a.not_past (clearing q))
      below false q = rw q
