-- Laws of specs/Judgement.antt: its loops turn by turn, the bytes in use as a part of the block, and that it is the
-- manual's judgement.
use mathlib.Core.Path.{◌≡◌, refl, sym, ap, ◌∙◌}
use mathlib.Core.Bool.{Bool, true, false, ◌&&◌}
use mathlib.Core.List.{List, [], ◌∷◌, ◌++◌}
use Prim.Native.Nat.{ℕ, zero, suc, ◌+◌, ◌-◌, ◌*◌, ◌≤◌, ◌<◌, zero-le}
use native.Mathlib.Nat.{mul-suc, mul_comm}
use native.Mathlib.Numerals.{add-one}
use native.Mathlib.Omega.{arith}
use lib.ListN.{length, get_or, take, drop, length-drop, drop_of_length-le, take-append-drop, get_or-append}
use lib.Seq.{drop-cons, take-append-le, drop-append-le, drop_at, take_all, length-take-le, get_or-take}
use borrow.Author.Tests.{eq-eqb, ne_eqb, le-leb, lt-leb}
use Rattle.history.specs.Words.{holds, all_of}
use Rattle.history.proofs.WordsLaws.{and_true, and_false, and_assoc}
use Rattle.manual.specs.Memory.{Entry, entry_width, entry_at, memory_length, entry_count}
use Rattle.manual.specs.Memory.{bytes_in_use, entries_from, entries_of, no_twice}
use Rattle.memory.specs.Judgement.{sound_entry, zeros, used_ok, block_ok}
use Rattle.memory.proofs.PlacesLaws.{starts_rise}

-- ---- loops over a list: one that stops at the first that decides, one that gathers

module _ {A : Type 0} (d : A) (q : A → Bool) (l : List A) (i : ℕ) where
  next : i < length l → drop i l ≡ get_or l i d ∷ drop (i + 1) l
  next h = drop-cons l i d h ∙ ap (λ (k : ℕ). get_or l i d ∷ drop k l) (sym (add-one i))

  pub all_ends : i < length l → q (get_or l i d) ≡ false → all_of q (drop i l) ≡ false
  all_ends h e = ap (all_of q) (next h) ∙ rw e refl

  pub all_goes_on : i < length l → q (get_or l i d) ≡ true → all_of q (drop i l) ≡ all_of q (drop (i + 1) l)
  all_goes_on h e = ap (all_of q) (next h) ∙ rw e refl

  -- a loop that gathers the test of each
  pub all_gathered : (b : Bool) → i < length l
      → (b && q (get_or l i d)) && all_of q (drop (i + 1) l) ≡ b && all_of q (drop i l)
  all_gathered b h =
      let turn : all_of q (drop i l) ≡ q (get_or l i d) && all_of q (drop (i + 1) l) = ap (all_of q) (next h) in
      sym (ap (λ (t : Bool). b && t) turn ∙ and_assoc b (q (get_or l i d)) (all_of q (drop (i + 1) l)))

  pub all_through : length l ≤ i → all_of q (drop i l) ≡ true
  all_through h = ap (all_of q) (drop_of_length-le l {i = i} h)

-- ---- the bytes in use

-- what follows the bytes of some entries is not read
entry_front : (F : ℕ) (a t : List ℕ) → entry_width F ≤ length a → entry_at F (a ++ t) ≡ entry_at F a
entry_front F [] t h = absurd (omega arith)
entry_front F (x ∷ []) t h = absurd (omega arith)
entry_front F (x ∷ y ∷ []) t h = absurd (omega arith)
entry_front F (x ∷ y ∷ z ∷ a) t h =
    ap (λ (l : List ℕ). record { high = x; low = y; count = z; payload = l }) (take-append-le F a t (omega arith))

entries_front : (F k : ℕ) (a t : List ℕ) → entry_width F * k ≤ length a → entries_from F k (a ++ t) ≡ entries_from F k a
unfolding entries_from
entries_front F zero a t h = refl
entries_front F (suc k) a t h =
    let w : entry_width F ≤ length a = omega (arith, mul-suc (entry_width F) k) in
    (λ i. entry_front F a t w i ∷ entries_from F k (drop-append-le (entry_width F) a t w i))
    ∙ ap (λ (l : List Entry). entry_at F a ∷ l)
    (entries_front F k (drop (entry_width F) a) t
    (omega (arith, length-drop (entry_width F) a, mul-suc (entry_width F) k)))

module _ (F : ℕ) (used t : List ℕ) (h : length used ≡ bytes_in_use F (entry_count used)) where
  pub count_in_front : entry_count (used ++ t) ≡ entry_count used
  count_in_front = get_or-append used t 0 0 (omega arith)

  pub entries_in_front : entries_of F (used ++ t) ≡ entries_of F used
  unfolding entries_of
  entries_in_front =
      ap (λ (k : ℕ). entries_from F k (drop 1 (used ++ t))) count_in_front
      ∙ ap (entries_from F (entry_count used)) (drop-append-le 1 used t (omega arith))
      ∙ entries_front F (entry_count used) (drop 1 used) t (omega (arith, length-drop 1 used))

-- ---- the tests in the code's order

module _ (n M F : ℕ) (records : List ℕ) where
  module _ (used : List ℕ) where
    pub used_many : M < entry_count used → used_ok n M F records used ≡ false
    unfolding used_ok holds
    used_many h = simp (lt-leb (entry_count used) M h)

    pub used_other_length : entry_count used ≤ M → (length used ≡ bytes_in_use F (entry_count used) → ⊥)
        → used_ok n M F records used ≡ false
    unfolding used_ok holds
    used_other_length h e = simp (le-leb (entry_count used) M h, ne_eqb (length used) (bytes_in_use F (entry_count used)) e)

    pub used_rest : entry_count used ≤ M → length used ≡ bytes_in_use F (entry_count used)
        → used_ok n M F records used ≡ all_of (sound_entry n records) (entries_of F used) && no_twice (entries_of F used)
    unfolding used_ok holds
    used_rest h e =
        simp (le-leb (entry_count used) M h, eq-eqb (length used) (bytes_in_use F (entry_count used)) e, and_true)

  -- no byte is not even a number of entries
  pub used_empty : (used : List ℕ) → length used ≡ 0 → used_ok n M F records used ≡ false
  used_empty [] h = used_other_length [] (zero-le) (λ e. omega arith)
  used_empty (x ∷ used) h = absurd (omega arith)

  module _ (m : List ℕ) where
    pub block_other_length : (length m ≡ memory_length M F → ⊥) → block_ok n M F records m ≡ false
    unfolding block_ok holds
    block_other_length e = simp (ne_eqb (length m) (memory_length M F) e)

    pub block_many : M < entry_count m → block_ok n M F records m ≡ false
    unfolding block_ok holds
    block_many h = simp (lt-leb (entry_count m) M h, and_false)

  -- the block is well formed where the bytes in use are and those behind them are 0
  pub block_rest : (used t : List ℕ) → length used ≡ bytes_in_use F (entry_count used)
      → length (used ++ t) ≡ memory_length M F → entry_count used ≤ M
      → block_ok n M F records (used ++ t) ≡ used_ok n M F records used && zeros t
  unfolding block_ok holds
  block_rest used t e l h =
      let c = count_in_front F used t e in
      let d : drop (bytes_in_use F (entry_count (used ++ t))) (used ++ t) ≡ t =
      ap (λ (k : ℕ). drop (bytes_in_use F k) (used ++ t)) c ∙ drop_at used t _ e in
      let x : block_ok n M F records (used ++ t)
      ≡ all_of (sound_entry n records) (entries_of F (used ++ t))
      && (no_twice (entries_of F (used ++ t))
      && (zeros (drop (bytes_in_use F (entry_count (used ++ t))) (used ++ t)) && true))
      =
      simp (eq-eqb (length (used ++ t)) (memory_length M F) l, le-leb (entry_count (used ++ t)) M (omega arith)) in
      x
      ∙
      (λ i. all_of (sound_entry n records) (entries_in_front F used t e i)
      && (no_twice (entries_in_front F used t e i) && (zeros (d i) && true)))
      ∙ regroup (all_of (sound_entry n records) (entries_of F used)) (no_twice (entries_of F used)) (zeros t)
      ∙ ap (λ (b : Bool). b && zeros t) (sym (used_rest used h e))
    where
      regroup : (a b c : Bool) → a && (b && (c && true)) ≡ (a && b) && c
      regroup true true c = and_true c
      regroup true false c = refl
      regroup false b c = refl

-- ---- a block cut where its bytes in use end

module _ (M F : ℕ) (m : List ℕ) (l : length m ≡ memory_length M F) (h : entry_count m ≤ M) where
  abbrev end : ℕ
  end = bytes_in_use F (entry_count m)

  pub end_within : end ≤ length m
  end_within = omega (arith, starts_rise F (entry_count m) M h, mul_comm M (entry_width F))

  pub end_length : length (take end m) ≡ end
  end_length = length-take-le end m end_within

  count_taken : entry_count (take end m) ≡ entry_count m
  count_taken = get_or-take end m 0 0 (omega arith)

pub block_parts : (n M F : ℕ) (records m : List ℕ) → length m ≡ memory_length M F → entry_count m ≤ M
    → used_ok n M F records (take (bytes_in_use F (entry_count m)) m)
    && zeros (take (length m - bytes_in_use F (entry_count m)) (drop (bytes_in_use F (entry_count m)) m))
    ≡ block_ok n M F records m
block_parts n M F records m l h =
    let k = bytes_in_use F (entry_count m) in
    let c = count_taken M F m l h in
    ap (λ (t : List ℕ). used_ok n M F records (take k m) && zeros t)
    (take_all (length m - k) (drop k m) (omega (arith, length-drop k m)))
    ∙ sym
    (block_rest n M F records (take k m) (drop k m) (end_length M F m l h ∙ ap (bytes_in_use F) (sym c))
    (ap length (take-append-drop k m) ∙ l) (omega arith))
    ∙ ap (block_ok n M F records) (take-append-drop k m)
