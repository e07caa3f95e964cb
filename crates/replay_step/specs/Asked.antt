-- Document 01, "Replay program": the calls that the input asks for, "`1 event code`, `2 cycle` (start), `3 cycle`
-- (stop), `4 ms`, `5 code` (clear)". Assumes nothing.
use Rattle.std.specs.Prelude.{cond, List, ℕ, eqb, Option, Some, None}
use Rattle.manual.specs.Words.{nat_of}
use Rattle.transcript.specs.declared.Cursor.{Cursor}
use Rattle.transcript.specs.declared.Read.{Read}
use Rattle.transcript.specs.declared.Word.{Word}
use Rattle.transcript.specs.declared.Word.TheVariants.{Number, End}
use Rattle.transcript.specs.Text.{next_read}
use Rattle.replay_step.specs.declared.Call.{Call}
use Rattle.replay_step.specs.declared.Call.TheVariants.{Report, Start, Stop, Tick, Clear}
use Rattle.replay_step.specs.declared.Asked.{Asked}
use Rattle.replay_step.specs.declared.Asked.TheVariants.{Makes, Nothing}

-- an argument that can be read, with the cursor behind it
abbrev pub Argument : Type 0
Argument = Option (ℕ × Cursor)

-- a number without a minus: "At anything else unreadable, incomplete, or an argument with a minus: that line and stop."
abbrev pub argument_in : Read → Argument
argument_in r = cond r.minus None (Some (nat_of r.value, r.next))

abbrev pub argument_of : Word → Argument
argument_of (Number r) = argument_in r
argument_of Word.Unreadable = None
argument_of End = None

unfoldable pub argument_at : ℕ → List ℕ → Argument
argument_at at text = argument_of (next_read at text)

-- a call that can be read, with the cursor behind it
abbrev pub Called : Type 0
Called = Option (Call × Cursor)

-- "`1 event code`": its second argument, where the event is read
abbrev pub report_with : ℕ → Argument → Called
report_with event (Some (code, next)) = Some (Report (record { 0 = event }) code, next)
report_with event None = None

unfoldable pub report_asked : ℕ → ℕ → List ℕ → Called
report_asked event at text = report_with event (argument_at at text)

-- the call of this number, where its first argument is read, and the text goes on at the cursor
unfoldable pub call_with : ℕ → ℕ → Cursor → List ℕ → Called
call_with number first next text =
    cond (eqb number 1) (report_asked first next.at text)
    (cond (eqb number 2) (Some (Start first, next))
    (cond (eqb number 3) (Some (Stop first, next))
    (cond (eqb number 4) (Some (Tick first, next))
    (cond (eqb number 5) (Some (Clear first, next)) None))))

abbrev pub call_from : ℕ → List ℕ → Argument → Called
call_from number text (Some (first, next)) = call_with number first next text
call_from number text None = None

unfoldable pub call_asked : ℕ → ℕ → List ℕ → Called
call_asked number at text = call_from number text (argument_at at text)

abbrev pub asked_of : Called → Asked
asked_of (Some (call, next)) = Makes call next
asked_of None = Asked.Unreadable

-- the next call of the text from `at` on; where no word is left, nothing is asked
abbrev pub asked_by : List ℕ → Word → Asked
asked_by text (Number r) = cond r.minus Asked.Unreadable (asked_of (call_asked (nat_of r.value) r.next.at text))
asked_by text Word.Unreadable = Asked.Unreadable
asked_by text End = Nothing

unfoldable pub asked_at : ℕ → List ℕ → Asked
asked_at at text = asked_by text (next_read at text)
