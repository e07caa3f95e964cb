-- Laws of specs/Beginning.antt: the numbers that were read so far, that one which cannot be read makes all unreadable,
-- and the rest of the buffer as found.
use mathlib.Core.Path.{◌≡◌, refl, sym, ap, ◌∙◌}
use mathlib.Core.Bool.{Bool, true, false, ◌&&◌, cond}
use mathlib.Core.List.{List, [], ◌∷◌, ◌++◌}
use Prim.Native.Nat.{ℕ, zero, suc, ◌+◌, ◌≤◌, ◌<◌, ◌^◌}
use native.Mathlib.Omega.{arith}
use lib.Dec.{T, leb, lit≤}
use lib.IntN.{ℤ, pos, negsuc, nat_abs}
use lib.ListN.{length, take, drop, length-take, length-append}
use lib.Seq.{length-take-le, drop-drop, take_at, drop_at}
use lib.Signed.{mag, lt_z, le_z, non_neg}
use mir.Syntax.{w32}
use mir.Val.{Fits}
use native.Mathlib.Nat.{lt_of_lt_of_le}
use borrow.Author.Tests.{leb-true, leb-false, le-leb}
use Rattle.history.proofs.WordsLaws.{and_left, and_right}
use Rattle.manual.specs.Words.{between, nat_of}
use Rattle.manual.proofs.WordsLaws.{clash}
use Rattle.manual.specs.Configuration.{most_numbers, config_ok}
use Rattle.writing.specs.Writing.{laid}
use Rattle.writing.proofs.PartlyWritten.{laid_front, laid_again, laid_over}
use Rattle.transcript.specs.declared.Cursor.{Cursor}
use Rattle.transcript.specs.declared.Word.{Word}
use Rattle.transcript.specs.declared.Word.TheVariants.{Number, End}
use Rattle.transcript.specs.Text.{next_read}
use Rattle.std.specs.Prelude.{Option, Some, None}
use Rattle.replay_step.specs.declared.Begun.{Begun}
use Rattle.replay_step.specs.declared.Begun.TheVariants.{Ready}
use Rattle.replay_step.specs.Beginning.{Read, read_to, unread, with_next, one_more, numbers_read, Beginning, ready}
use Rattle.replay_step.specs.Beginning.{refused, unreadable, judged_numbers, of_numbers, with_count, of_count}
use Rattle.replay_step.specs.Beginning.{beginning}
use Rattle.replay_step.specs.Beginning.{Leaving, leaving, cursor, numbers_left, beginning_left}

-- an argument has 32 bits
pub argument_fits : (z : ℤ) → mag z < 2 ^ 31 → lt_z z (pos 0) ≡ false → T (non_neg z) × Fits w32 (nat_abs z)
argument_fits (pos n) h t = (tt, record { fits = lt_of_lt_of_le h (lit≤ tt) })
argument_fits (negsuc n) h t = clash true refl t

-- one number more
pub more_read : (text : List ℕ) (at k : ℕ) {r : Read} → numbers_read k at text ≡ r
    → numbers_read (suc k) at text ≡ one_more text r
unfolding numbers_read
more_read text at k e = ap (one_more text) e

pub stays_unread : (text : List ℕ) (at k n : ℕ) {zs : List ℤ} → k ≤ n
    → numbers_read k at text ≡ unread zs → numbers_read n at text ≡ unread zs
stays_unread text at k zero h u = ap (λ (j : ℕ). numbers_read j at text) (let e : 0 ≡ k = omega arith in e) ∙ u
stays_unread text at k (suc n) {zs} h u = go (leb k n) refl (λ l. stays_unread text at k n l u)
  where
    go : (b : Bool) → leb k n ≡ b → (k ≤ n → numbers_read n at text ≡ unread zs)
        → numbers_read (suc n) at text ≡ unread zs
    go true q ih = more_read text at n (ih (leb-true k n q))
    go false q ih =
        ap (λ (j : ℕ). numbers_read j at text) (let l = leb-false k n q in let e : suc n ≡ k = omega arith in e) ∙ u

-- so many numbers are read, or fewer before one that cannot be
abbrev pub Counts : ℕ → Read → Type 0
Counts k (read_to zs at) = length zs ≡ k
Counts k (unread zs) = length zs ≤ k

next_counts : (k : ℕ) (zs : List ℤ) (w : Word) → length zs ≡ k → Counts (suc k) (with_next zs w)
next_counts k zs (Number r) h = let e = length-append zs (r.value ∷ []) in omega (arith, e, h)
next_counts k zs Word.Unreadable h = omega arith
next_counts k zs End h = omega arith

more_counts : (text : List ℕ) (k : ℕ) (r : Read) → Counts k r → Counts (suc k) (one_more text r)
more_counts text k (read_to zs at) h = next_counts k zs (next_read at text) h
more_counts text k (unread zs) h = omega arith

pub counts : (text : List ℕ) (at k : ℕ) → Counts k (numbers_read k at text)
unfolding numbers_read
counts text at zero = refl
counts text at (suc k) = more_counts text k (numbers_read k at text) (counts text at k)

-- ---- the buffer

abbrev is_read : Option Cursor → Bool
is_read (Some next) = true
is_read None = false

abbrev behind : Option Cursor → ℕ
behind (Some next) = next.at
behind None = 0

-- what the turn of the loop at a place leaves: `l` before the turn, `l'` after it, `m` before the loop
module _ (text : List ℕ) (at place : ℕ) (m l : List ℤ) {p : ℕ} (within : place < length l)
    (so_far : numbers_read place at text ≡ read_to (take place l) p) (rest : drop place l ≡ drop place m) where
  long : length (take place l) ≡ place
  long = length-take-le place l (omega arith)

  longer : (z : ℤ) → length (take place l ++ z ∷ []) ≡ suc place
  longer z = let e = length-append (take place l) (z ∷ []) in omega (arith, e, long)

  pub rest_kept : drop (suc place) l ≡ drop (suc place) m
  rest_kept = let e : suc place ≡ place + 1 = omega arith in
      rw e (sym (drop-drop 1 place l) ∙ ap (drop 1) rest ∙ drop-drop 1 place m)

  pub turn_read : {l' : List ℤ} {next : Cursor} (w : Word) → next_read p text ≡ w
      → leaving (Some next) l' ≡ numbers_left (with_next (take place l) w) l
      → (numbers_read (suc place) at text ≡ read_to (take (suc place) l') next.at) ×
      (drop (suc place) l' ≡ drop (suc place) m)
  unfolding laid
  turn_read {l'} {next} (Number r) q e =
      let b : l' ≡ laid (take place l ++ r.value ∷ []) l = ap (λ (x : Leaving (Option Cursor)). x.buffer) e in
      let t = ap (take (suc place)) b ∙ take_at (take place l ++ r.value ∷ []) _ (suc place) (longer r.value) in
      let d = ap (drop (suc place)) b ∙ drop_at (take place l ++ r.value ∷ []) _ (suc place) (longer r.value) in
      let a : r.next.at ≡ next.at = ap (λ (x : Leaving (Option Cursor)). behind x.answer) (sym e) in
      let zs = take place l ++ r.value ∷ [] in
      let n : with_next (take place l) (next_read p text) ≡ read_to zs r.next.at = ap (with_next (take place l)) q in
      let f : read_to zs r.next.at ≡ read_to (take (suc place) l') next.at = λ i. read_to (sym t i) (a i) in (
        more_read text at place so_far ∙ n ∙ f,
        d ∙ ap (λ (k : ℕ). drop k l) (longer r.value) ∙ rest_kept,
      )
  turn_read Word.Unreadable q e = clash true refl (ap (λ (x : Leaving (Option Cursor)). is_read x.answer) e)
  turn_read End q e = clash true refl (ap (λ (x : Leaving (Option Cursor)). is_read x.answer) e)

  stopped : {l' : List ℤ} (count : ℕ) → place < count
      → numbers_read (suc place) at text ≡ unread (take place l) → l' ≡ laid (take place l) l
      → leaving None l' ≡ numbers_left (numbers_read count at text) m
  stopped count h u b =
      ap (leaving None) (b ∙ laid_over (take place l) l m long rest)
      ∙ ap (λ (r : Read). numbers_left r m) (sym (stays_unread text at (suc place) count (omega arith) u))

  pub turn_unread : {l' : List ℤ} (count : ℕ) → place < count → (w : Word) → next_read p text ≡ w
      → leaving None l' ≡ numbers_left (with_next (take place l) w) l
      → leaving None l' ≡ numbers_left (numbers_read count at text) m
  turn_unread count h (Number r) q e = clash true refl (ap (λ (x : Leaving (Option Cursor)). is_read x.answer) (sym e))
  turn_unread count h Word.Unreadable q e =
      stopped count h (more_read text at place so_far ∙ ap (with_next (take place l)) q)
      (ap (λ (x : Leaving (Option Cursor)). x.buffer) e)
  turn_unread count h End q e =
      stopped count h (more_read text at place so_far ∙ ap (with_next (take place l)) q)
      (ap (λ (x : Leaving (Option Cursor)). x.buffer) e)

-- the loop at its end
pub all_read : (text : List ℕ) (at place : ℕ) (m : List ℤ) {l : List ℤ} {next : Cursor} → place ≤ length l
    → numbers_read place at text ≡ read_to (take place l) next.at → drop place l ≡ drop place m
    → leaving (Some next) l ≡ numbers_left (numbers_read place at text) m
all_read text at place m {l} {next} h e rest =
    ap (leaving (Some next))
    (sym (laid_front l place h) ∙ laid_over (take place l) l m (length-take-le place l h) rest)
    ∙ ap (λ (r : Read). numbers_left r m) (sym e)

-- ---- numbers that are read are judged

judged_over : (zs : List ℤ) (at : ℕ) (l m : List ℤ) → laid zs l ≡ laid zs m
    → beginning_left (judged_numbers zs at) l ≡ beginning_left (judged_numbers zs at) m
unfolding judged_numbers
judged_over zs at l m e = go (config_ok zs)
  where
    go : (b : Bool)
        → beginning_left (cond b (ready zs at) (refused zs)) l ≡ beginning_left (cond b (ready zs at) (refused zs)) m
    go true = ap (leaving (Ready (length zs) (cursor at))) e
    go false = ap (leaving Begun.Refused) e

pub read_judged : (count : ℕ) (r : Read) {next : Cursor} {b : Begun} {l : List ℤ} (m : List ℤ) → Counts count r
    → leaving (Some next) l ≡ numbers_left r m
    → leaving b l ≡ beginning_left (judged_numbers (take count l) next.at) l
    → leaving b l ≡ beginning_left (of_numbers r) m
unfolding laid
read_judged count (read_to zs at) {next} {b} {l} m n e j =
    let o : l ≡ laid zs m = ap (λ (x : Leaving (Option Cursor)). x.buffer) e in
    let t : take count l ≡ zs = ap (take count) o ∙ take_at zs _ count n in
    let a : next.at ≡ at = ap (λ (x : Leaving (Option Cursor)). behind x.answer) e in
    j ∙ (λ i. beginning_left (judged_numbers (t i) (a i)) l) ∙ judged_over zs at l m (ap (laid zs) o ∙ laid_again zs m)
read_judged count (unread zs) m n e j = clash true refl (ap (λ (x : Leaving (Option Cursor)). is_read x.answer) e)

pub unread_begins : (r : Read) {l : List ℤ} (m : List ℤ) → leaving None l ≡ numbers_left r m
    → leaving Begun.Unreadable l ≡ beginning_left (of_numbers r) m
unread_begins (read_to zs at) m e = clash true refl (ap (λ (x : Leaving (Option Cursor)). is_read x.answer) (sym e))
unread_begins (unread zs) m e = ap (λ (x : Leaving (Option Cursor)). leaving Begun.Unreadable x.buffer) e

-- an allowed count is one that the buffer has room for
pub count_small : (z : ℤ) → between (pos 0) (pos most_numbers) z ≡ true → nat_of z ≤ most_numbers
unfolding between
count_small (pos n) t = leb-true n most_numbers (and_right (le_z (pos 0) (pos n)) (le_z (pos n) (pos most_numbers)) t)
count_small (negsuc n) t = omega arith

pub length_of_front : {A : Type 0} (n : ℕ) (l : List A) → n ≤ length l → n ≡ length (take n l)
length_of_front n l h = let e = length-take n l in omega arith

-- ---- what a beginning tells

-- the configuration is accepted, and its numbers are no more than the buffer has room for
abbrev pub tells : Beginning → Bool
tells (ready numbers at) = leb (length numbers) most_numbers && config_ok numbers
tells (refused numbers) = true
tells (unreadable numbers) = true

judged_tells : (numbers : List ℤ) (at : ℕ) → length numbers ≤ most_numbers → tells (judged_numbers numbers at) ≡ true
unfolding judged_numbers
judged_tells numbers at h = go (config_ok numbers) refl
  where
    go : (b : Bool) → config_ok numbers ≡ b → tells (cond b (ready numbers at) (refused numbers)) ≡ true
    go true q = rw (le-leb (length numbers) most_numbers h, q)
    go false q = refl

numbers_tell : (count : ℕ) (r : Read) → Counts count r → count ≤ most_numbers → tells (of_numbers r) ≡ true
numbers_tell count (read_to numbers at) n h = judged_tells numbers at (omega (arith, n, h))
numbers_tell count (unread numbers) n h = refl

count_tells : (z : ℤ) (at : ℕ) (text : List ℕ) → tells (with_count z at text) ≡ true
unfolding with_count
count_tells z at text = go (between (pos 0) (pos most_numbers) z) refl
  where
    go : (b : Bool) → between (pos 0) (pos most_numbers) z ≡ b
        → tells (cond b (of_numbers (numbers_read (nat_of z) at text)) (unreadable [])) ≡ true
    go true q = numbers_tell (nat_of z) (numbers_read (nat_of z) at text) (counts text at (nat_of z)) (count_small z q)
    go false q = refl

word_tells : (text : List ℕ) (w : Word) → tells (of_count text w) ≡ true
word_tells text (Number r) = count_tells r.value r.next.at text
word_tells text Word.Unreadable = refl
word_tells text End = refl

beginning_tells : (longer : Bool) (text : List ℕ) → tells (beginning longer text) ≡ true
unfolding beginning
beginning_tells true text = refl
beginning_tells false text = word_tells text (next_read 0 text)

abbrev is_ready : Begun → Bool
is_ready (Ready count next) = true
is_ready Begun.Refused = false
is_ready Begun.Unreadable = false

abbrev count_of : Begun → ℕ
count_of (Ready count next) = count
count_of Begun.Refused = 0
count_of Begun.Unreadable = 0

abbrev behind_of : Begun → ℕ
behind_of (Ready count next) = next.at
behind_of Begun.Refused = 0
behind_of Begun.Unreadable = 0

counted_is : (zs : List ℤ) (at : ℕ) {count : ℕ} {next : Cursor} {l : List ℤ} (m : List ℤ)
    → leaving (Ready count next) l ≡ beginning_left (ready zs at) m → count ≡ length zs
counted_is zs at m e = ap (λ (x : Leaving Begun). count_of x.answer) e

front_is : (zs : List ℤ) (at : ℕ) {count : ℕ} {next : Cursor} {l : List ℤ} (m : List ℤ)
    → leaving (Ready count next) l ≡ beginning_left (ready zs at) m → take count l ≡ zs
unfolding laid
front_is zs at {count} m e =
    ap (take count) (ap (λ (x : Leaving Begun). x.buffer) e) ∙ take_at zs _ count (sym (counted_is zs at m e))

-- where the configuration is accepted, its numbers are those in front of the buffer
pub ready_is : (b : Beginning) {count : ℕ} {next : Cursor} {l : List ℤ} (m : List ℤ)
    → leaving (Ready count next) l ≡ beginning_left b m → b ≡ ready (take count l) next.at
ready_is (ready zs at) {next = next} m e =
    let front = front_is zs at m e in
    let a : next.at ≡ at = ap (λ (x : Leaving Begun). behind_of x.answer) e in λ i. ready (sym front i) (sym a i)
ready_is (refused zs) m e = clash true refl (ap (λ (x : Leaving Begun). is_ready x.answer) e)
ready_is (unreadable zs) m e = clash true refl (ap (λ (x : Leaving Begun). is_ready x.answer) e)

left_tells : (b : Beginning) {count : ℕ} {next : Cursor} {l : List ℤ} (m : List ℤ) → tells b ≡ true
    → leaving (Ready count next) l ≡ beginning_left b m → (count ≤ most_numbers) × (config_ok (take count l) ≡ true)
left_tells (ready zs at) m t e =
    let n = counted_is zs at m e in
    let small = leb-true (length zs) most_numbers (and_left (leb (length zs) most_numbers) (config_ok zs) t) in (
      omega (arith, n, small),
      ap config_ok (front_is zs at m e) ∙ and_right (leb (length zs) most_numbers) (config_ok zs) t,
    )
left_tells (refused zs) m t e = clash true refl (ap (λ (x : Leaving Begun). is_ready x.answer) e)
left_tells (unreadable zs) m t e = clash true refl (ap (λ (x : Leaving Begun). is_ready x.answer) e)

pub ready_tells : (longer : Bool) (text : List ℕ) (m : List ℤ) {count : ℕ} {next : Cursor} {l : List ℤ}
    → leaving (Ready count next) l ≡ beginning_left (beginning longer text) m
    → (count ≤ most_numbers) × (config_ok (take count l) ≡ true)
ready_tells longer text m e = left_tells (beginning longer text) m (beginning_tells longer text) e
