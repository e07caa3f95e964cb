-- Each number and each call that is read ends behind the place from which it was read, and within the text. So a text
-- has no more calls than bytes.
use mathlib.Core.Path.{◌≡◌, refl, subst}
use mathlib.Core.Bool.{Bool, true, false}
use mathlib.Core.List.{List}
use Prim.Native.Nat.{ℕ, zero, suc, ◌+◌, ◌≤◌, ◌<◌}
use native.Mathlib.Omega.{arith}
use lib.Dec.{eqb, ltb}
use lib.IntN.{ℤ, pos}
use lib.ListN.{length, drop}
use borrow.Author.Tests.{ltb-true, ltb-false}
use Rattle.manual.specs.Words.{between, nat_of}
use Rattle.manual.specs.Configuration.{most_numbers, config_ok}
use Rattle.manual.proofs.WordsLaws.{by}
use Rattle.transcript.specs.declared.Cursor.{Cursor}
use Rattle.transcript.specs.declared.Word.{Word}
use Rattle.transcript.specs.declared.Word.TheVariants.{Number, End}
use Rattle.transcript.specs.Text.{run, is_number, read_word, next_read}
use Rattle.transcript.proofs.TextLaws.{found, next_end, next_word}
use Rattle.std.specs.Prelude.{Some, None}
use Rattle.replay_step.specs.declared.Asked.{Asked}
use Rattle.replay_step.specs.declared.Asked.TheVariants.{Makes, Nothing}
use Rattle.replay_step.specs.Asked.{Argument, argument_of, argument_at, report_with, report_asked, call_with, call_from}
use Rattle.replay_step.specs.Asked.{Called, call_asked, asked_of, asked_by, asked_at}
use Rattle.replay_step.specs.Beginning.{Read, read_to, unread, with_next, one_more, numbers_read, Beginning, ready}
use Rattle.replay_step.specs.Beginning.{refused, unreadable, judged_numbers, of_numbers, with_count, of_count}
use Rattle.replay_step.specs.Beginning.{beginning}

-- behind `at`, and within the text
pub record Ahead (at : ℕ) (text : List ℕ) (next : ℕ) : Type 0 where
  pub behind : at < next
  pub within : next ≤ length text

further : {at next end : ℕ} {text : List ℕ} → Ahead at text next → Ahead next text end → Ahead at text end
further a b = record { behind = omega (arith, a.behind, b.behind); within = b.within }

-- ---- a word

abbrev WordAhead : ℕ → List ℕ → Word → Type 0
WordAhead at text (Number r) = Ahead at text r.next.at
WordAhead at text Word.Unreadable = Unit {0}
WordAhead at text End = Unit {0}

read_ahead : (at : ℕ) (text word : List ℕ) (end : ℕ) → Ahead at text end → WordAhead at text (read_word word end)
unfolding read_word
read_ahead at text word end a = by (is_number word) (WordAhead at text) (λ e. a) (λ e. tt)

word_ahead : (at : ℕ) (text : List ℕ) → WordAhead at text (next_read at text)
word_ahead at text = go (ltb start (length text)) refl
  where
    start : ℕ
    start = at + run true (drop at text)

    end : ℕ
    end = start + run false (drop start text)

    go : (b : Bool) → ltb start (length text) ≡ b → WordAhead at text (next_read at text)
    go true q =
        let f = found at text start end refl (ltb-true start (length text) q) refl in
        subst (WordAhead at text) (next_word at text start end f)
        (read_ahead at text _ end (record { behind = omega (arith, f.begins, f.longer); within = f.within }))
    go false q = subst (WordAhead at text) (next_end at text (ltb-false start (length text) q)) tt

-- ---- a call

abbrev ArgumentAhead : ℕ → List ℕ → Argument → Type 0
ArgumentAhead at text (Some (value, next)) = Ahead at text next.at
ArgumentAhead at text None = Unit {0}

argument_ahead : (at : ℕ) (text : List ℕ) → ArgumentAhead at text (argument_at at text)
unfolding argument_at
argument_ahead at text = go (next_read at text) (word_ahead at text)
  where
    go : (w : Word) → WordAhead at text w → ArgumentAhead at text (argument_of w)
    go (Number r) a = by r.minus (ArgumentAhead at text) (λ e. tt) (λ e. a)
    go Word.Unreadable a = tt
    go End a = tt

abbrev CalledAhead : ℕ → List ℕ → Called → Type 0
CalledAhead at text (Some (call, next)) = Ahead at text next.at
CalledAhead at text None = Unit {0}

called_further : {at next : ℕ} {text : List ℕ} → Ahead at text next → (c : Called) → CalledAhead next text c
    → CalledAhead at text c
called_further f (Some (call, next)) a = further f a
called_further f None a = tt

report_ahead : (event at : ℕ) (text : List ℕ) → CalledAhead at text (report_asked event at text)
unfolding report_asked
report_ahead event at text = go (argument_at at text) (argument_ahead at text)
  where
    go : (a : Argument) → ArgumentAhead at text a → CalledAhead at text (report_with event a)
    go (Some (code, next)) h = h
    go None h = tt

with_ahead : (number first at : ℕ) (next : Cursor) (text : List ℕ) → Ahead at text next.at
    → CalledAhead at text (call_with number first next text)
unfolding call_with
with_ahead number first at next text h =
    by (eqb number 1) (CalledAhead at text)
    (λ e. called_further h (report_asked first next.at text) (report_ahead first next.at text))
    (λ e. by (eqb number 2) (CalledAhead at text) (λ e. h)
    (λ e. by (eqb number 3) (CalledAhead at text) (λ e. h)
    (λ e. by (eqb number 4) (CalledAhead at text) (λ e. h)
    (λ e. by (eqb number 5) (CalledAhead at text) (λ e. h) (λ e. tt)))))

named_ahead : (number at : ℕ) (text : List ℕ) → CalledAhead at text (call_asked number at text)
unfolding call_asked
named_ahead number at text = go (argument_at at text) (argument_ahead at text)
  where
    go : (a : Argument) → ArgumentAhead at text a → CalledAhead at text (call_from number text a)
    go (Some (first, next)) h = with_ahead number first at next text h
    go None h = tt

abbrev pub AskedAhead : ℕ → List ℕ → Asked → Type 0
AskedAhead at text (Makes call next) = Ahead at text next.at
AskedAhead at text Nothing = Unit {0}
AskedAhead at text Asked.Unreadable = Unit {0}

asked_ahead : (at : ℕ) (text : List ℕ) (c : Called) → CalledAhead at text c → AskedAhead at text (asked_of c)
asked_ahead at text (Some (call, next)) a = a
asked_ahead at text None a = tt

pub call_ahead : (at : ℕ) (text : List ℕ) → AskedAhead at text (asked_at at text)
unfolding asked_at
call_ahead at text = go (next_read at text) (word_ahead at text)
  where
    go : (w : Word) → WordAhead at text w → AskedAhead at text (asked_by text w)
    go (Number r) h =
        let c = call_asked (nat_of r.value) r.next.at text in
        by r.minus (AskedAhead at text) (λ e. tt)
        (λ e. asked_ahead at text c (called_further h c (named_ahead (nat_of r.value) r.next.at text)))
    go Word.Unreadable h = tt
    go End h = tt

-- ---- the configuration

abbrev NumbersAhead : ℕ → List ℕ → Read → Type 0
NumbersAhead at text (read_to numbers next) = Ahead at text next
NumbersAhead at text (unread numbers) = Unit {0}

next_ahead : {at next : ℕ} {text : List ℕ} → Ahead at text next → (numbers : List ℤ) (w : Word)
    → WordAhead next text w → NumbersAhead at text (with_next numbers w)
next_ahead a numbers (Number r) h = further a h
next_ahead a numbers Word.Unreadable h = tt
next_ahead a numbers End h = tt

more_ahead : (at : ℕ) (text : List ℕ) (r : Read) → NumbersAhead at text r → NumbersAhead at text (one_more text r)
more_ahead at text (read_to numbers next) a = next_ahead a numbers (next_read next text) (word_ahead next text)
more_ahead at text (unread numbers) a = tt

numbers_ahead : (at : ℕ) (text : List ℕ) (count next : ℕ) → Ahead at text next
    → NumbersAhead at text (numbers_read count next text)
unfolding numbers_read
numbers_ahead at text zero next a = a
numbers_ahead at text (suc k) next a = more_ahead at text (numbers_read k next text) (numbers_ahead at text k next a)

abbrev pub BeginningAhead : List ℕ → Beginning → Type 0
BeginningAhead text (ready numbers at) = Ahead 0 text at
BeginningAhead text (refused numbers) = Unit {0}
BeginningAhead text (unreadable numbers) = Unit {0}

judged_ahead : (text : List ℕ) (numbers : List ℤ) (at : ℕ) → Ahead 0 text at
    → BeginningAhead text (judged_numbers numbers at)
unfolding judged_numbers
judged_ahead text numbers at a = by (config_ok numbers) (BeginningAhead text) (λ e. a) (λ e. tt)

of_numbers_ahead : (text : List ℕ) (r : Read) → NumbersAhead 0 text r → BeginningAhead text (of_numbers r)
of_numbers_ahead text (read_to numbers at) a = judged_ahead text numbers at a
of_numbers_ahead text (unread numbers) a = tt

count_ahead : (count : ℤ) (at : ℕ) (text : List ℕ) → Ahead 0 text at → BeginningAhead text (with_count count at text)
unfolding with_count
count_ahead count at text a =
    by (between (pos 0) (pos most_numbers) count) (BeginningAhead text)
    (λ e. of_numbers_ahead text (numbers_read (nat_of count) at text) (numbers_ahead 0 text (nat_of count) at a)) (λ e. tt)

word_begins_ahead : (text : List ℕ) (w : Word) → WordAhead 0 text w → BeginningAhead text (of_count text w)
word_begins_ahead text (Number r) a = count_ahead r.value r.next.at text a
word_begins_ahead text Word.Unreadable a = tt
word_begins_ahead text End a = tt

pub beginning_ahead : (longer : Bool) (text : List ℕ) → BeginningAhead text (beginning longer text)
unfolding beginning
beginning_ahead true text = tt
beginning_ahead false text = word_begins_ahead text (next_read 0 text) (word_ahead 0 text)
