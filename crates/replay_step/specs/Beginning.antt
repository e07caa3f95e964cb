-- Document 01, "Replay program": "The count of configuration numbers, those, then calls". Assumes nothing.
use Rattle.std.specs.Prelude.{Bool, cond, List, [], ◌∷◌, ◌++◌, ℕ, zero, suc, ℤ, pos, length, Option, Some, None}
use Rattle.manual.specs.Words.{between, nat_of}
use Rattle.manual.specs.Configuration.{most_numbers, config_ok}
use Rattle.writing.specs.Writing.{laid}
use Rattle.transcript.specs.declared.Cursor.{Cursor}
use Rattle.transcript.specs.declared.Word.{Word}
use Rattle.transcript.specs.declared.Word.TheVariants.{Number, End}
use Rattle.transcript.specs.Text.{next_read}
use Rattle.replay_step.specs.declared.Begun.{Begun}
use Rattle.replay_step.specs.declared.Begun.TheVariants.{Ready}

-- ---- the numbers

-- numbers that were read, and the place behind them; or those before one that could not be
pub data Read : Type 0 where
  read_to : List ℤ → ℕ → Read
  unread : List ℤ → Read

abbrev pub with_next : List ℤ → Word → Read
with_next numbers (Number r) = read_to (numbers ++ r.value ∷ []) r.next.at
with_next numbers Word.Unreadable = unread numbers
with_next numbers End = unread numbers

abbrev pub one_more : List ℕ → Read → Read
one_more text (read_to numbers at) = with_next numbers (next_read at text)
one_more text (unread numbers) = unread numbers

-- so many numbers of the text, from `at` on
unfoldable pub numbers_read : ℕ → ℕ → List ℕ → Read
numbers_read zero at text = read_to [] at
numbers_read (suc k) at text = one_more text (numbers_read k at text)

-- ---- the configuration

-- an accepted configuration, and the place behind it; a refused one; or what cannot be read, behind these numbers
pub data Beginning : Type 0 where
  ready : List ℤ → ℕ → Beginning
  refused : List ℤ → Beginning
  unreadable : List ℤ → Beginning

-- "Refused configuration: one line `2`."
unfoldable pub judged_numbers : List ℤ → ℕ → Beginning
judged_numbers numbers at = cond (config_ok numbers) (ready numbers at) (refused numbers)

abbrev pub of_numbers : Read → Beginning
of_numbers (read_to numbers at) = judged_numbers numbers at
of_numbers (unread numbers) = unreadable numbers

-- "a count outside 0 to 6,659: only the line `bad input`", with W5 "count up to 7,171"
unfoldable pub with_count : ℤ → ℕ → List ℕ → Beginning
with_count count at text =
    cond (between (pos 0) (pos most_numbers) count) (of_numbers (numbers_read (nat_of count) at text)) (unreadable [])

abbrev pub of_count : List ℕ → Word → Beginning
of_count text (Number r) = with_count r.value r.next.at text
of_count text Word.Unreadable = unreadable []
of_count text End = unreadable []

-- "Longer input, …: only the line `bad input`."
unfoldable pub beginning : Bool → List ℕ → Beginning
beginning longer text = cond longer (unreadable []) (of_count text (next_read 0 text))

-- ---- what the code answers, with the configuration buffer that it leaves

pub record Leaving (A : Type 0) : Type 0 where
  pub answer : A
  pub buffer : List ℤ

abbrev pub leaving : {A : Type 0} → A → List ℤ → Leaving A
leaving answer buffer = record { answer = answer; buffer = buffer }

abbrev pub cursor : ℕ → Cursor
cursor at = record { at = at }

-- the numbers that were read stand in front of the buffer, the rest of it as found
abbrev pub numbers_left : Read → List ℤ → Leaving (Option Cursor)
numbers_left (read_to numbers at) buffer = leaving (Some (cursor at)) (laid numbers buffer)
numbers_left (unread numbers) buffer = leaving None (laid numbers buffer)

abbrev pub beginning_left : Beginning → List ℤ → Leaving Begun
beginning_left (ready numbers at) buffer = leaving (Ready (length numbers) (cursor at)) (laid numbers buffer)
beginning_left (refused numbers) buffer = leaving Begun.Refused (laid numbers buffer)
beginning_left (unreadable numbers) buffer = leaving Begun.Unreadable (laid numbers buffer)
