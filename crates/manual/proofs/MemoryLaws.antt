-- Laws of specs/Memory.antt, in its order: entries and their block are read off each other, one entry leaves and the
-- others keep their order, and good entries stay good at a store.
use mathlib.Core.Path.{◌≡◌, refl, sym, ap, subst, ◌∙◌}
use mathlib.Core.Logic.{◌≢◌}
use mathlib.Core.Bool.{Bool, true, false, not, cond}
use mathlib.Core.List.{List, [], ◌∷◌, ◌++◌, append_assoc}
use mathlib.Core.Option.{Option, none, some}
use Prim.Native.Nat.{ℕ, zero, suc, ◌+◌, ◌-◌, ◌*◌, ◌≤◌, ◌<◌, min}
use native.Mathlib.Nat.{mul-suc, mul-zero, mul-add, mul_comm, mul-le-mul, add_comm, le_refl}
use native.Mathlib.Numerals.{one-add}
use native.Mathlib.Omega.{arith}
use lib.Dec.{ltb}
use lib.ListN.{length, take, drop, replicate, length-append, length-replicate, length-drop, take-append-drop}
use lib.Seq.{take_at, drop_at, take-add, length-take-le}
use borrow.Author.Tests.{eqb-true, eqb-false, eq-eqb, ne_eqb, ltb-true, ltb-false, not-true}
use Rattle.history.specs.Words.{any_of}
use Rattle.history.proofs.WordsLaws.{and_left, and_right}
use Rattle.manual.specs.declared.StoreAnswer.{StoreAnswer}
use Rattle.manual.specs.declared.StoreAnswer.TheVariants.{Renewed, Added, NotStored}
use Rattle.manual.specs.Words.{All, first_of, or_else, those}
use Rattle.manual.specs.Configuration.{Configuration, most_places, most_payload, frame_bytes, entry_frames}
use Rattle.manual.specs.Memory.{Entry, event_of, entry_of, payload_of, renewed_payload, entry_width, entry_bytes}
use Rattle.manual.specs.Memory.{entry_at, memory_length, most_memory, entry_count, bytes_in_use, entries_from, entries_of}
use Rattle.manual.specs.Memory.{entries_bytes, memory_of, is_of, without, no_twice, Kept, kept, displacing, outranked}
use Rattle.manual.specs.Memory.{resting, victim, pushed_out, admitted, renewed, store}
use Rattle.manual.proofs.WordsLaws.{by, neither, all_map, all_append, none_at, any_of_append, First, first_is}
use Rattle.manual.proofs.FirstAndLatest.{new_long, repeat_long}
use Rattle.manual.proofs.WordsLaws.{first_none, all_those, those_le, those_all, any_of_those, as_long}

-- ---- an entry

pub event_is : (e c : ℕ) (f : List ℕ) → event_of (entry_of e c f) ≡ e
event_is e c f = omega arith

-- three bytes and the payload
width_is : (F : ℕ) → entry_width F ≡ suc (suc (suc F))
width_is F = omega arith

entry_bytes_lem : (F : ℕ) (m : List ℕ) → entry_width F ≤ length m → entry_bytes (entry_at F m) ≡ take (entry_width F) m
entry_bytes_lem F [] h = absurd (omega arith)
entry_bytes_lem F (x ∷ []) h = absurd (omega arith)
entry_bytes_lem F (x ∷ y ∷ []) h = absurd (omega arith)
entry_bytes_lem F (x ∷ y ∷ z ∷ m) h = rw (width_is F)

-- its payload has F bytes
abbrev pub Framed : ℕ → Entry → Type 0
Framed F x = length x.payload ≡ F

-- ---- the longest block

pub used_most : (F k : ℕ) → F ≤ most_payload → k ≤ most_places → bytes_in_use F k ≤ most_memory
used_most F k h q =
    let w : entry_width F ≤ entry_width most_payload = omega arith in
    let m : entry_width F * k ≤ entry_width most_payload * most_places = mul-le-mul w q in
    omega arith

pub memory_most : (M F : ℕ) → M ≤ most_places → F ≤ most_payload → memory_length M F ≤ most_memory
memory_most M F h k = omega (arith, mul_comm M (entry_width F), used_most F M k h)

-- ---- the entries of some bytes

pub entries_length : (F k : ℕ) (m : List ℕ) → length (entries_from F k m) ≡ k
unfolding entries_from
entries_length F zero m = refl
entries_length F (suc k) m = ap suc (entries_length F k (drop (entry_width F) m))

pub entries_framed : (F k : ℕ) (m : List ℕ) → entry_width F * k ≤ length m → All (Framed F) (entries_from F k m)
unfolding entries_from
entries_framed F zero m h = tt
entries_framed F (suc k) m h = (
  length-take-le F (drop 3 m) (omega (arith, length-drop 3 m, mul-suc (entry_width F) k)),
  entries_framed F k (drop (entry_width F) m) (omega (arith, length-drop (entry_width F) m, mul-suc (entry_width F) k)),
)

-- ---- the bytes of some entries

pub bytes_length : (F : ℕ) (xs : List Entry) → All (Framed F) xs → length (entries_bytes xs) ≡ entry_width F * length xs
unfolding entries_bytes
bytes_length F [] a = sym (mul-zero (entry_width F))
bytes_length F (x ∷ xs) a =
    let h = a.0 in omega
    (arith, length-append x.payload (entries_bytes xs), bytes_length F xs a.1, mul-suc (entry_width F) (length xs))

pub entries_bytes_lem : (F k : ℕ) (m : List ℕ) → entry_width F * k ≤ length m
    → entries_bytes (entries_from F k m) ≡ take (entry_width F * k) m
unfolding entries_from entries_bytes
entries_bytes_lem F zero m h = rw (mul-zero (entry_width F))
entries_bytes_lem F (suc k) m h =
    rw (
      mul-suc (entry_width F) k,
      add_comm (entry_width F * k) (entry_width F),
      take-add (entry_width F) (entry_width F * k) m,
    )
    (λ i. entry_bytes_lem F m (omega (arith, mul-suc (entry_width F) k)) i
    ++ entries_bytes_lem F k (drop (entry_width F) m)
    (omega (arith, length-drop (entry_width F) m, mul-suc (entry_width F) k)) i)

-- the entries of the bytes of some entries, whatever follows
entries_back : (F : ℕ) (xs : List Entry) (t : List ℕ) → All (Framed F) xs
    → entries_from F (length xs) (entries_bytes xs ++ t) ≡ xs
unfolding entries_from entries_bytes
entries_back F [] t a = refl
entries_back F (x ∷ xs) t a =
    rw (
      append_assoc x.payload (entries_bytes xs) t,
      width_is F,
      take_at x.payload (entries_bytes xs ++ t) F a.0,
      drop_at x.payload (entries_bytes xs ++ t) F a.0,
    )
    (ap (λ (l : List Entry). x ∷ l) (entries_back F xs t a.1))

-- ---- the block of some entries

module _ (M F : ℕ) (xs : List Entry) (a : All (Framed F) xs) where
  pub memory_count : entry_count (memory_of M F xs) ≡ length xs
  unfolding memory_of
  memory_count = refl

  pub memory_entries : entries_of F (memory_of M F xs) ≡ xs
  unfolding entries_of memory_of
  memory_entries = entries_back F xs _ a

  pub memory_length_lem : length xs ≤ M → length (memory_of M F xs) ≡ memory_length M F
  unfolding memory_of
  memory_length_lem h = simp (length-append, length-replicate, bytes_length F xs a) (omega (arith, parts))
    where
      parts : entry_width F * length xs + entry_width F * (M - length xs) ≡ M * entry_width F
      parts =
          rw (← (mul-add (entry_width F) (length xs) (M - length xs)), mul_comm (entry_width F))
          (ap (λ (j : ℕ). j * entry_width F) (omega arith))

  pub memory_tail : drop (bytes_in_use F (length xs)) (memory_of M F xs) ≡ replicate (entry_width F * (M - length xs)) 0
  unfolding memory_of
  memory_tail = rw one-add (drop_at (entries_bytes xs) _ (entry_width F * length xs) (bytes_length F xs a))

-- a block whose bytes after the last entry are 0 is the block of its entries
pub block_is : (M F : ℕ) (m : List ℕ) → bytes_in_use F (entry_count m) ≤ length m
    → drop (bytes_in_use F (entry_count m)) m ≡ replicate (entry_width F * (M - entry_count m)) 0
    → m ≡ memory_of M F (entries_of F m)
unfolding memory_of entries_of
block_is M F [] h t = absurd (omega arith)
block_is M F (c ∷ m) h t =
    rw (
      entries_length F c m,
      entries_bytes_lem F c m (omega arith),
      ← t,
      one-add (entry_width F * c),
      take-append-drop (entry_width F * c) m,
    )

-- ---- an event's entry leaves

-- none of the event is left
pub without_gone : (e : ℕ) (xs : List Entry) → any_of (is_of e) (without e xs) ≡ false
unfolding without those
without_gone e [] = refl
without_gone e (x ∷ xs) = go (is_of e x) refl (without_gone e xs)
  where
    go : (b : Bool) → is_of e x ≡ b → any_of (is_of e) (without e xs) ≡ false
        → any_of (is_of e) (cond (not b) (x ∷ without e xs) (without e xs)) ≡ false
    go true h ih = ih
    go false h ih = rw h ih

without_still : (e k : ℕ) (xs : List Entry) → any_of (is_of e) xs ≡ false → any_of (is_of e) (without k xs) ≡ false
unfolding without
without_still e k xs h = any_of_those (is_of e) (λ x. not (is_of k x)) xs h

-- the event of an entry is not that of any after it
once_first : (x : Entry) (xs : List Entry) → no_twice (x ∷ xs) ≡ true → any_of (is_of (event_of x)) xs ≡ false
unfolding no_twice
once_first x xs o = not-true _ (and_left _ _ o)

once_rest : (x : Entry) (xs : List Entry) → no_twice (x ∷ xs) ≡ true → no_twice xs ≡ true
unfolding no_twice
once_rest x xs o = and_right (not (any_of (is_of (event_of x)) xs)) (no_twice xs) o

once_cons : (x : Entry) (xs : List Entry) → any_of (is_of (event_of x)) xs ≡ false → no_twice xs ≡ true
    → no_twice (x ∷ xs) ≡ true
unfolding no_twice
once_cons x xs h o = rw (h, o)

once_those : (q : Entry → Bool) (xs : List Entry) → no_twice xs ≡ true → no_twice (those q xs) ≡ true
unfolding those
once_those q [] o = o
once_those q (x ∷ xs) o = go (once_those q xs (once_rest x xs o))
  where
    go : no_twice (those q xs) ≡ true → no_twice (cond (q x) (x ∷ those q xs) (those q xs)) ≡ true
    go ih =
        by (q x) (λ l. no_twice l ≡ true)
        (λ u. once_cons x (those q xs) (any_of_those (is_of (event_of x)) q xs (once_first x xs o)) ih) (λ u. ih)

-- an entry of an event that has none, at the end
once_append : (e c : ℕ) (f : List ℕ) (xs : List Entry) → any_of (is_of e) xs ≡ false → no_twice xs ≡ true
    → no_twice (xs ++ (entry_of e c f ∷ [])) ≡ true
once_append e c f [] h o = unfold no_twice in refl
once_append e c f (x ∷ xs) h o =
    let n = neither (is_of e x) (any_of (is_of e) xs) h in
    once_cons x (xs ++ (entry_of e c f ∷ []))
    (rw (
      any_of_append (is_of (event_of x)) xs (entry_of e c f ∷ []),
      once_first x xs o,
      ne_eqb (event_of (entry_of e c f)) (event_of x) (λ p. eqb-false _ _ n.0 (sym p ∙ event_is e c f)),
    ))
    (once_append e c f xs n.1 (once_rest x xs o))

-- "Removal closes the gap and keeps the order.": the entry that leaves is the only one of its event
closes : (older : List Entry) (v : Entry) (newer : List Entry) → no_twice (older ++ v ∷ newer) ≡ true
    → without (event_of v) (older ++ v ∷ newer) ≡ older ++ newer
unfolding without those
closes [] v newer o =
    rw (eq-eqb (event_of v) (event_of v) refl) (those_all (is_of (event_of v)) newer (once_first v newer o))
closes (y ∷ older) v newer o =
    let other = none_at (is_of (event_of y)) older v newer (once_first y (older ++ v ∷ newer) o) in
    rw (ne_eqb (event_of y) (event_of v) (λ q. eqb-false _ _ other (sym q)))
    (ap (λ (l : List Entry). y ∷ l) (closes older v newer (once_rest y (older ++ v ∷ newer) o)))

pub without_is : (xs older : List Entry) (v : Entry) (newer : List Entry) → xs ≡ older ++ v ∷ newer → no_twice xs ≡ true
    → without (event_of v) xs ≡ older ++ newer
without_is xs older v newer s o = rw s (closes older v newer (rw s at o))

-- ---- good entries: B says of each event whether bit 5 is set

-- "event numbers below n …, occurrence ≥ 1, each entry's event has bit 5 set"
pub record EntryGood (n F : ℕ) (B : ℕ → Bool) (x : Entry) : Type 0 where
  pub below : event_of x < n
  pub occurred : 1 ≤ x.count
  pub framed : length x.payload ≡ F
  pub failed : B (event_of x) ≡ true

-- "at most M entries, … no two equal"
pub record Good (n M F : ℕ) (B : ℕ → Bool) (xs : List Entry) : Type 0 where
  pub few : length xs ≤ M
  pub each : All (EntryGood n F B) xs
  pub once : no_twice xs ≡ true

pub frames : (n F : ℕ) (B : ℕ → Bool) (xs : List Entry) → All (EntryGood n F B) xs → All (Framed F) xs
frames n F B xs a = all_map _ _ (λ x g. g.framed) xs a

-- other bits, no worse
entry_bits : (n F : ℕ) (B B' : ℕ → Bool) (x : Entry) → (B (event_of x) ≡ true → B' (event_of x) ≡ true)
    → EntryGood n F B x → EntryGood n F B' x
entry_bits n F B B' x f g =
    record { below = g.below; occurred = g.occurred; framed = g.framed; failed = f g.failed }

module _ (n M F : ℕ) where
  pub good_bits : (B B' : ℕ → Bool) (xs : List Entry) → ((e : ℕ) → e < n → B e ≡ true → B' e ≡ true) → Good n M F B xs
      → Good n M F B' xs
  good_bits B B' xs f g =
      record {
        few = g.few;
        each = all_map _ _ (λ x w. entry_bits n F B B' x (f (event_of x) w.below) w) xs g.each;
        once = g.once;
      }

  -- an entry leaves: the bit of its event is asked no more
  pub good_without : (B B' : ℕ → Bool) (k : ℕ) (xs : List Entry) → ((e : ℕ) → e < n → e ≢ k → B e ≡ true → B' e ≡ true)
      → Good n M F B xs → Good n M F B' (without k xs)
  unfolding without
  good_without B B' k xs f g = record {
    few = omega (arith, those_le (λ x. not (is_of k x)) xs, g.few);
    each =
        all_those _ _ (λ x. not (is_of k x))
        (λ x q w. entry_bits n F B B' x (f (event_of x) w.below (eqb-false _ _ (not-true _ q))) w) xs g.each;
    once = once_those (λ x. not (is_of k x)) xs g.once;
  }

-- ---- a fresh failure of e

-- what holds in each of its cases holds of store, where no event has two entries
module _ (M : ℕ) (priority : ℕ → ℕ) (quiet : ℕ → Bool) (e : ℕ) (frame : List ℕ) (xs : List Entry)
    (once : no_twice xs ≡ true) where
  abbrev top : Entry → Bool
  top = outranked M priority quiet e frame xs

  abbrev rests : Entry → Bool
  rests = resting M priority quiet e frame

  -- the first that passes a test leaves, e is appended
  abbrev instead : {p : Entry → Bool} {v : Entry} → StoreAnswer → ℕ → List ℕ → First p xs v → Kept
  instead did c payload f = kept did (f.older ++ f.newer ++ (entry_of e c payload ∷ []))

  pub store_cases : (P : Kept → Type 0)
      →
      ((x : Entry) (f : First (is_of e) xs x)
      → P (instead Renewed (min 255 (suc x.count)) (renewed_payload x.payload frame) f))
      → (any_of (is_of e) xs ≡ false → length xs < M → P (kept Added (xs ++ (entry_of e 1 (payload_of frame) ∷ []))))
      →
      (any_of (is_of e) xs ≡ false → M ≤ length xs → (v : Entry) (f : First top xs v)
      → P (instead (displacing v) 1 (payload_of frame) f))
      →
      (any_of (is_of e) xs ≡ false → M ≤ length xs → any_of top xs ≡ false → (v : Entry) (f : First rests xs v)
      → P (instead (displacing v) 1 (payload_of frame) f))
      →
      (any_of (is_of e) xs ≡ false → M ≤ length xs → any_of top xs ≡ false → any_of rests xs ≡ false
      → P (kept NotStored xs))
      → P (store M priority quiet e frame xs)
  unfolding store renewed admitted pushed_out victim
  store_cases P renews adds outranks rests-instead loses = stored (first_of (is_of e) xs) refl
    where
      leaves : {p : Entry → Bool} {v : Entry} (f : First p xs v) → without (event_of v) xs ≡ f.older ++ f.newer
      leaves {v} f = without_is xs f.older v f.newer f.there once

      pushed : any_of (is_of e) xs ≡ false → M ≤ length xs → (a b : Option Entry) → first_of top xs ≡ a
          → first_of rests xs ≡ b → P (pushed_out M priority quiet e frame (or_else a b) xs)
      pushed n l (some v) b p q = let f = first_is top xs v p in rw (leaves f) (outranks n l v f)
      pushed n l none (some v) p q =
          let f = first_is rests xs v q in rw (leaves f) (rests-instead n l (first_none top xs p) v f)
      pushed n l none none p q = loses n l (first_none top xs p) (first_none rests xs q)

      stored : (a : Option Entry) → first_of (is_of e) xs ≡ a → P (renewed M priority quiet e frame a xs)
      stored (some x) q =
          let f = first_is (is_of e) xs x q in rw (rw (eqb-true (event_of x) e f.passes) at (leaves f)) (renews x f)
      stored none q =
          let n = first_none (is_of e) xs q in
          by (ltb (length xs) M) P (λ t. adds n (ltb-true _ _ t)) (λ t. pushed n (ltb-false _ _ t) _ _ refl refl)

module _ (n M F : ℕ) (B : ℕ → Bool) (e : ℕ) (below : e < n) (failed : B e ≡ true) (payload : List ℕ)
    (framed : length payload ≡ F) where
  good_appended : (c : ℕ) (xs : List Entry) → 1 ≤ c → length xs < M → any_of (is_of e) xs ≡ false → Good n M F B xs
      → Good n M F B (xs ++ (entry_of e c payload ∷ []))
  good_appended c xs k l h g = record {
    few = omega (arith, length-append xs (entry_of e c payload ∷ []));
    each =
        all_append _ xs _ g.each
        (record { below = rw event_is below; occurred = k; framed = framed; failed = rw event_is failed }, tt);
    once = once_append e c payload xs h g.once;
  }

  -- the entry that leaves makes room
  good_instead : {p : Entry → Bool} {v : Entry} (c : ℕ) (xs : List Entry) (f : First p xs v) → 1 ≤ c
      → any_of (is_of e) (without (event_of v) xs) ≡ false
      → Good n M F B xs → Good n M F B (f.older ++ f.newer ++ (entry_of e c payload ∷ []))
  good_instead {v} c xs f k h g =
      let w = without_is xs f.older v f.newer f.there g.once in
      let l = length-append (f.older ++ f.newer) (v ∷ []) in
      good_appended c (f.older ++ f.newer) k
      (omega (arith, l, as_long xs f.older v f.newer f.there v, g.few)) (rw w at h)
      (rw w at (good_without n M F B B (event_of v) xs (λ j l d t. t) g))

-- the one that stands between these
between_these : (P : Entry → Type 0) (older : List Entry) (x : Entry) (newer : List Entry) → All P (older ++ x ∷ newer)
    → P x
between_these P [] x newer a = a.0
between_these P (y ∷ older) x newer a = between_these P older x newer a.1

-- what is stored of a lent frame fills an entry of F payload bytes
pub record Fills (F : ℕ) (frame : List ℕ) : Type 0 where
  pub new : length (payload_of frame) ≡ F
  pub renewal : (old : List ℕ) → length old ≡ F → length (renewed_payload old frame) ≡ F

pub fills : (cfg : Configuration) (frame : List ℕ) → length frame ≡ frame_bytes cfg → Fills (entry_frames cfg) frame
fills cfg frame h =
    record { new = new_long (frame_bytes cfg) frame h; renewal = repeat_long (frame_bytes cfg) frame h }

module _ (n M F : ℕ) (B : ℕ → Bool) (priority : ℕ → ℕ) (quiet : ℕ → Bool) (e : ℕ) (frame : List ℕ) (below : e < n)
    (failed : B e ≡ true)
    (framed : Fills F frame) where
  pub good_store : (xs : List Entry) → Good n M F B xs → Good n M F B (store M priority quiet e frame xs).entries
  good_store xs g = store_cases M priority quiet e frame xs g.once (λ k. Good n M F B k.entries)
      (λ x f. good_instead n M F B e below failed _ (framed.renewal x.payload (own f).framed)
      (min 255 (suc x.count)) xs f (omega arith)
      (rw (eqb-true (event_of x) e f.passes) (without_gone e xs)) g)
      (λ h l. good_appended n M F B e below failed _ framed.new 1 xs (le_refl 1) l h g)
      (λ h l v f. good_new f (without_still e (event_of v) xs h))
      (λ h l t v f. good_new f (without_still e (event_of v) xs h))
      (λ h l t r. g)
    where
      own : {p : Entry → Bool} {v : Entry} (f : First p xs v) → EntryGood n F B v
      own {v} f = between_these _ f.older v f.newer (subst (All (EntryGood n F B)) f.there g.each)

      good_new : {p : Entry → Bool} {v : Entry} (f : First p xs v) → any_of (is_of e) (without (event_of v) xs) ≡ false
          → Good n M F B (f.older ++ f.newer ++ (entry_of e 1 (payload_of frame) ∷ []))
      good_new f h = good_instead n M F B e below failed _ framed.new 1 xs f (le_refl 1) h g
