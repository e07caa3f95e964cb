-- A signal in the page: "paint as colour and word, trouble code in hexadecimal, the set bits by name, fault detection
-- counter as a bar with its number, whether it has a memory entry, its occurrence count". A signal is what document 01
-- calls an event. Assumes nothing.
use Rattle.std.specs.Prelude.{Bool, cond, List, [], ◌++◌, ℕ, ◌-◌, ◌/◌, ◌%◌, eqb, ltb, length}
use Rattle.manual.specs.declared.Paint.{Paint}
use Rattle.manual.specs.declared.Paint.TheVariants.{Grey, Red, Live}
use Rattle.page_text.specs.Text.{text}
use Rattle.page_text.specs.Escape.{escaped}
use Rattle.page_text.specs.Numbers.{decimal, hex_byte, hex_code}

-- ---- which signal it is

-- "paint as colour and word": with it a row begins
abbrev pub paint_cell : Paint → List ℕ
paint_cell Grey = text "<tr><td><span class=\"paint grey\">grey</span></td>"
paint_cell Red = text "<tr><td><span class=\"paint red\">red</span></td>"
paint_cell Live = text "<tr><td><span class=\"paint live\">live</span></td>"

-- "events are shown by name beside the code; without one by code": a signal without a name by its event number too
unfoldable pub shown_name : ℕ → List ℕ → List ℕ
shown_name event name =
    cond (eqb (length name) 0) (text "event " ++ decimal event) (text "<bdi>" ++ escaped name ++ text "</bdi>")

-- "trouble code in hexadecimal"
unfoldable pub signal : Paint → ℕ → List ℕ → ℕ → List ℕ
signal paint event name code =
    paint_cell paint ++ text "<th scope=\"row\">" ++ shown_name event name ++ text "</th><td class=\"code\">"
    ++ hex_code code ++ text "</td>"

-- ---- what is told of it

-- why a signal is untested, by whether its cycle runs
unfoldable pub why : Bool → List ℕ
why runs =
    cond runs (text "<td>not tested since its cycle started</td>") (text "<td>its cycle is stopped</td>")

-- "whether it has a memory entry, its occurrence count": the count 0 stands for no entry
unfoldable pub stored : ℕ → List ℕ
stored count =
    cond (eqb count 0) (text "<td>not stored</td>")
    (cond (eqb count 1) (text "<td>stored, once</td>")
    (text "<td>stored, " ++ decimal count ++ text " times</td>"))

-- a number that is lowered by 128
unfoldable pub lowered : ℕ → List ℕ
lowered raised = cond (ltb raised 128) (text "&minus;" ++ decimal (128 - raised)) (decimal (raised - 128))

-- "fault detection counter as a bar with its number": of the counter raised by 128, 0 to 255
unfoldable pub near : ℕ → List ℕ
near raised =
    text "<td class=\"near\"><progress aria-hidden=\"true\" max=\"255\" value=\"" ++ decimal raised
    ++ text "\"></progress> " ++ lowered raised ++ text "</td>"

-- "the set bits by name": the names of ISO 14229-1, bit 0 first
abbrev pub is_set : ℕ → ℕ → Bool
is_set weight status = eqb (status / weight % 2) 1

unfoldable pub low_names : ℕ → List ℕ
low_names status =
    cond (is_set 1 status) (text " testFailed") [] ++ cond (is_set 2 status) (text " testFailedThisOperationCycle") []
    ++ cond (is_set 4 status) (text " pending") [] ++ cond (is_set 8 status) (text " confirmed") []

unfoldable pub high_names : ℕ → List ℕ
high_names status =
    cond (is_set 16 status) (text " testNotCompletedSinceLastClear") []
    ++ cond (is_set 32 status) (text " testFailedSinceLastClear") []
    ++ cond (is_set 64 status) (text " testNotCompletedThisOperationCycle") []
    ++ cond (is_set 128 status) (text " warningIndicatorRequested") []

unfoldable pub bits : ℕ → List ℕ
bits status =
    text "<td class=\"bits\">" ++ hex_byte status ++ cond (eqb status 0) (text " no bit is set") [] ++ low_names status
    ++ high_names status ++ text "</td>"

-- ---- its rows

-- of the list of the untested
unfoldable pub untested_row : Paint → ℕ → List ℕ → ℕ → Bool → List ℕ
untested_row paint event name code runs = signal paint event name code ++ why runs ++ text "</tr>\n"

-- of the list of the failed
unfoldable pub failed_row : Paint → ℕ → List ℕ → ℕ → ℕ → List ℕ
failed_row paint event name code count = signal paint event name code ++ stored count ++ text "</tr>\n"

-- of the table of all
unfoldable pub told : ℕ → ℕ → ℕ → ℕ → List ℕ
told cycle raised count status =
    text "<td class=\"n\">" ++ decimal cycle ++ text "</td>" ++ near raised ++ stored count ++ bits status

unfoldable pub signal_row : Paint → ℕ → List ℕ → ℕ → ℕ → ℕ → ℕ → ℕ → List ℕ
signal_row paint event name code cycle raised count status =
    signal paint event name code ++ told cycle raised count status ++ text "</tr>\n"
