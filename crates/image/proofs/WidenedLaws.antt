-- Laws of specs/Widened.antt: the entries of an image of edition 1 written one after the other, each with both frames,
-- are the memory that the manual's `widened` makes.
use mathlib.Core.Path.{◌≡◌, refl, sym, ap, ◌∙◌}
use mathlib.Core.List.{List, [], ◌∷◌, ◌++◌, map, append_assoc}
use Prim.Native.Nat.{ℕ, zero, suc, ◌+◌, ◌-◌, ◌*◌, ◌≤◌, ◌<◌}
use native.Mathlib.Nat.{mul-suc, mul_comm, mul-sub}
use native.Mathlib.Omega.{arith}
use lib.ListN.{length, take, drop, replicate, length-append, length-drop}
use lib.Seq.{take_all, take_at, drop_at, length-take-le}
use borrow.Author.Tests.{eq-eqb, ne_eqb}
use Rattle.manual.specs.Words.{All}
use Rattle.manual.specs.Memory.{Entry, payload_of, entry_width, entry_bytes, entry_at, memory_length, entry_count, bytes_in_use}
use Rattle.manual.specs.Memory.{entries_from, entries_of, entries_bytes, memory_of}
use Rattle.manual.specs.Image.{with_both}
use Rattle.manual.proofs.MemoryLaws.{Framed, entries_length, entries_framed, bytes_length}
use Rattle.manual.proofs.WidenedLaws.{both_length}
use Rattle.writing.specs.Writing as writing
use Rattle.writing.specs.Writing.{written, append}
use Rattle.writing.proofs.WritingLaws.{append_none, append_then, append_next}
use Rattle.image.specs.Widened.{both_frames, widened_bytes, made_of}
use Rattle.image.specs.Ready.{Widenable}

-- ---- one entry

pub both_long : (bytes : List ℕ) → 3 ≤ length bytes → length (both_frames bytes) + 3 ≡ 2 * length bytes
unfolding payload_of
both_long bytes h =
    let a = length-append (take 3 bytes) (drop 3 bytes ++ drop 3 bytes) in
    let b = length-append (drop 3 bytes) (drop 3 bytes) in
    omega (arith, a, b, length-take-le 3 bytes h, length-drop 3 bytes)

both_bytes : (F : ℕ) (m : List ℕ) → entry_width F ≤ length m
    → entry_bytes (with_both (entry_at F m)) ≡ both_frames (take (entry_width F) m)
both_bytes F [] h = absurd (omega arith)
both_bytes F (x ∷ []) h = absurd (omega arith)
both_bytes F (x ∷ y ∷ []) h = absurd (omega arith)
both_bytes F (x ∷ y ∷ z ∷ m) h = let w : entry_width F ≡ suc (suc (suc F)) = omega arith in rw w

-- its head, its frame and its frame again
module _ (bytes : List ℕ) (h : 3 ≤ length bytes) where
  abbrev frame : List ℕ
  frame = take (length bytes - 3) (drop 3 bytes)

  pub head_long : length (take 3 bytes) ≡ 3
  head_long = length-take-le 3 bytes h

  frame_is : frame ≡ drop 3 bytes
  frame_is = take_all (length bytes - 3) (drop 3 bytes) (omega (arith, length-drop 3 bytes))

  pub frames_written : (w : writing.Written) {w₁ w₂ w₃ : writing.Written} → w₁ ≡ append (take 3 bytes) w
      → w₂ ≡ append frame w₁ → w₃ ≡ append frame w₂ → w₃ ≡ append (both_frames bytes) w
  unfolding payload_of
  frames_written w e₁ e₂ e₃ =
      append_then (take 3 bytes ++ frame) frame w (append_then (take 3 bytes) frame w e₁ e₂) e₃
      ∙ ap (λ (l : List ℕ). append l w) (append_assoc (take 3 bytes) frame frame)
      ∙ ap (λ (l : List ℕ). append (take 3 bytes ++ (l ++ l)) w) frame_is

-- ---- the loop over the entries

module _ (F : ℕ) where
  -- the bytes of the next entries, each with both frames
  abbrev pub next : ℕ → List ℕ → List ℕ
  next left m = entries_bytes (map with_both (entries_from F left m))

  next_is : (k : ℕ) (m : List ℕ) → entry_width F * suc k ≤ length m
      → next (suc k) m ≡ both_frames (take (entry_width F) m) ++ next k (drop (entry_width F) m)
  unfolding entries_from entries_bytes
  next_is k m h =
      ap (λ (l : List ℕ). l ++ next k (drop (entry_width F) m))
      (both_bytes F m (omega (arith, mul-suc (entry_width F) k)))

  -- with so many entries left: those, written behind what is written, make the whole
  pub record Going (whole : writing.Written) (before memory rest : List ℕ) (at left : ℕ) : Type 0 where
    pub read : length rest ≡ entry_width F * left
    pub room : at + entry_width (2 * F) * left ≤ length memory
    pub kept : length memory ≡ length before
    pub makes : append (next left rest) (written at memory) ≡ whole

  abbrev pub Turn : writing.Written → List ℕ → List ℕ → List ℕ → ℕ → Type 0
  Turn whole before memory rest at = (left : ℕ) × Going whole before memory rest at left

  -- the entry count is written
  pub begins : (used before : List ℕ) → Widenable F used before → {memory rest : List ℕ} {at : ℕ}
      → written at memory ≡ append (take 1 used) (written 0 before) → length memory ≡ length before
      → rest ≡ take (length used - 1) (drop 1 used)
      → Turn (append (widened_bytes F used) (written 0 before)) before memory rest at
  unfolding widened_bytes entries_of
  begins [] before r e k q = absurd (omega (arith, r.as_long))
  begins (count ∷ m) before r {memory} {rest} {at} e k q =
      let rest-is : rest ≡ m = q ∙ take_all (length (count ∷ m) - 1) m (omega arith) in (
        count,
        record {
          read = ap length rest-is ∙ omega (arith, r.as_long);
          room = omega (arith, append_next _ _ e, k, r.within);
          kept = k;
          makes =
              ap (λ (l : List ℕ). append (next count l) (written at memory)) rest-is
              ∙ append_then (count ∷ []) (next count m) (written 0 before) e refl;
        },
      )

  -- an entry more
  module _ (rest entry rest' : List ℕ) (s : rest ≡ entry ++ rest') (long : length entry ≡ entry_width F) where
    next_left : (k : ℕ) → length rest ≡ entry_width F * suc k → next (suc k) rest ≡ both_frames entry ++ next k rest'
    next_left k read =
        next_is k rest (omega (arith, read))
        ∙
        (λ i. both_frames ((ap (take (entry_width F)) s ∙ take_at entry rest' (entry_width F) long) i)
        ++ next k ((ap (drop (entry_width F)) s ∙ drop_at entry rest' (entry_width F) long) i))

    module _ {whole : writing.Written} {before memory : List ℕ} {at : ℕ} where
      pub goes_on : (left : ℕ) → Going whole before memory rest at left
          → {next-at : ℕ} {after : List ℕ} → length after ≡ length memory
          → written next-at after ≡ append (both_frames entry) (written at memory)
          → Turn whole before after rest' next-at
      goes_on zero g kept e = absurd (omega (arith, g.read, ap length s, length-append entry rest', long))
      goes_on (suc k) g kept e = (
        k,
        record {
          read = omega (arith, g.read, ap length s, length-append entry rest', long, mul-suc (entry_width F) k);
          room =
              omega (
                arith,
                g.room,
                mul-suc (entry_width (2 * F)) k,
                append_next _ _ e,
                both_long entry (omega (arith, long)),
                long,
                kept,
              );
          kept = kept ∙ g.kept;
          makes =
              append_then (both_frames entry) (next k rest') (written at memory) e refl
              ∙ ap (λ (l : List ℕ). append l (written at memory)) (sym (next_left k g.read))
              ∙ g.makes;
        },
      )

  -- none is left
  pub ends : {whole : writing.Written} {before memory rest : List ℕ} {at : ℕ} (left : ℕ)
      → Going whole before memory rest at left → length rest < entry_width F → written at memory ≡ whole
  unfolding entries_from entries_bytes
  ends {memory} {at} zero g h = sym (append_none (written at memory)) ∙ g.makes
  ends (suc k) g h = absurd (omega (arith, g.read, mul-suc (entry_width F) k))

-- ---- the whole

-- the edition tells what body 2 makes
pub made_of_1 : (number F : ℕ) (used : List ℕ) → number ≡ 1 → made_of number F used ≡ widened_bytes F used
unfolding made_of
made_of_1 number F used e = rw (eq-eqb number 1 e)

pub made_of_other : (number F : ℕ) (used : List ℕ) → (number ≡ 1 → ⊥) → made_of number F used ≡ used
unfolding made_of
made_of_other number F used n = rw (ne_eqb number 1 n)

module _ (F : ℕ) (used : List ℕ) (long : length used ≡ bytes_in_use F (entry_count used)) where
  abbrev xs : List Entry
  xs = map with_both (entries_of F used)

  both_framed : (l : List Entry) → All (Framed F) l → All (Framed (2 * F)) (map with_both l)
  unfolding payload_of
  both_framed [] a = tt
  both_framed (x ∷ l) a = (omega (arith, length-append x.payload x.payload, a.0), both_framed l a.1)

  framed : All (Framed (2 * F)) xs
  unfolding entries_of
  framed =
      both_framed (entries_of F used)
      (entries_framed F (entry_count used) (drop 1 used) (omega (arith, length-drop 1 used, long)))

  count_is : length xs ≡ entry_count used
  unfolding entries_of
  count_is = both_length (entries_of F used) ∙ entries_length F (entry_count used) (drop 1 used)

  pub widened_long : length (widened_bytes F used) ≡ bytes_in_use (2 * F) (entry_count used)
  unfolding widened_bytes
  widened_long =
      let w = ap (λ (k : ℕ). entry_width (2 * F) * k) count_is in omega (arith, bytes_length (2 * F) xs framed, w)

  -- with zeros behind them they are the memory of the entries with both frames
  pub widened_memory : (M : ℕ) (memory : List ℕ) → length memory ≡ memory_length M (2 * F)
      → widened_bytes F used ++ replicate (length memory - length (widened_bytes F used)) 0 ≡ memory_of M (2 * F) xs
  unfolding memory_of widened_bytes
  widened_memory M memory fits =
      let w = entry_width (2 * F) in
      let zeros : length memory - length (widened_bytes F used) ≡ w * (M - entry_count used) =
      omega (arith, fits, widened_long, mul-sub w M (entry_count used), mul_comm M w) in
      λ i. sym count_is i ∷ (entries_bytes xs ++ replicate ((zeros ∙ ap (λ (k : ℕ). w * (M - k)) (sym count_is)) i) 0)
