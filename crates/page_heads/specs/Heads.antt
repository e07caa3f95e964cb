-- The parts of the page that tell of the whole machine. Assumes nothing.
use Rattle.std.specs.Prelude.{Bool, not, cond, ℕ, eqb, Option, None, Some}
use mathlib.Core.List.{List, [], ◌++◌, flat_map}
use Rattle.page_text.specs.Text.{text}
use Rattle.page_text.specs.Numbers.{decimal}
use Rattle.page_heads.specs.declared.Unused.{Unused}
use Rattle.page_heads.specs.declared.Unused.TheVariants.{Unreadable, TooLong}

-- ---- "At the top, in words: how many signals are untested, failed, live"

unfoldable pub summary : ℕ → ℕ → ℕ → List ℕ
summary untested failed live =
    decimal untested ++ text " untested, " ++ decimal failed ++ text " failed, " ++ decimal live ++ text " live"

unfoldable pub title : ℕ → ℕ → ℕ → List ℕ
title untested failed live = text "<title>" ++ summary untested failed live ++ text "</title>\n"

unfoldable pub headline : ℕ → ℕ → ℕ → ℕ → List ℕ
headline signals untested failed live =
    text "<h1>" ++ summary untested failed live ++ text ", of " ++ decimal signals ++ text "</h1>\n"

unfoldable pub tiles : ℕ → ℕ → ℕ → List ℕ
tiles untested failed live =
    text "<div class=\"tiles\">\n<div class=\"tile grey\"><b>" ++ decimal untested
    ++ text "</b> untested</div>\n<div class=\"tile red\"><b>" ++ decimal failed
    ++ text "</b> failed</div>\n<div class=\"tile live\"><b>" ++ decimal live ++ text "</b> live</div>\n</div>\n"

-- ---- "the table of four cycles by eight bits", "the cycles that run"

unfoldable pub number : ℕ → List ℕ
number n = text "<td class=\"n\">" ++ decimal n ++ text "</td>"

unfoldable pub cycle_head : ℕ → Bool → List ℕ
cycle_head cycle runs =
    text "<tr><th scope=\"row\">" ++ decimal cycle ++ cond runs (text " runs") []
    ++ cond (not runs) (text " is stopped") [] ++ text "</th>"

unfoldable pub cycle_row : ℕ → Bool → List ℕ → List ℕ
cycle_row cycle runs counts = cycle_head cycle runs ++ flat_map number counts ++ text "</tr>\n"

-- ---- memory, "overflow"

unfoldable pub overflowed : Bool → List ℕ
overflowed overflow =
    cond overflow (text "<strong>Overflow: a failure found no place.</strong></p>\n")
    (text "No overflow: no failure was left without a place since all was last cleared.</p>\n")

unfoldable pub memory : ℕ → ℕ → Bool → List ℕ
memory taken places overflow =
    text "<p>" ++ decimal taken ++ text " of " ++ decimal places ++ text " places are taken. "
    ++ overflowed overflow

-- ---- the log

-- how many calls were made, and how many of these were refused
unfoldable pub calls : ℕ → ℕ → List ℕ
calls made refused =
    text "<p>Calls in the log: " ++ decimal made ++ text ", refused: " ++ decimal refused ++ text ".</p>\n"

-- "unreadable calls: a page that says so in words (and shows the state up to there)": behind so many bytes
unfoldable pub unreadable : ℕ → List ℕ
unreadable behind =
    text "<p class=\"message\">Bad input: behind byte " ++ decimal behind
    ++ text " of the log there is no call that can be read. This page shows the state up to there.</p>\n"

abbrev pub unreadable_if : Option ℕ → List ℕ
unreadable_if None = []
unreadable_if (Some behind) = unreadable behind

-- what the last of the calls was answered with
unfoldable pub answered_with : ℕ → List ℕ
answered_with answer =
    text "<p>The last call was answered with " ++ decimal answer ++ cond (eqb answer 0) (text ", done") []
    ++ cond (not (eqb answer 0)) (text ", refused") [] ++ text ".</p>\n"

unfoldable pub last_answer : ℕ → ℕ → List ℕ
last_answer made answer = cond (eqb made 0) (text "<p>No call was made.</p>\n") (answered_with answer)

-- ---- "A bad line of that file is a clear message with its number on the page's top"

unfoldable pub bad_line : ℕ → List ℕ
bad_line line =
    text "<p class=\"message\">Line " ++ decimal line
    ++ text " of the names file is not a trouble code, a space and a name. It is passed over.</p>\n"

abbrev pub bad_name : Option ℕ → List ℕ
bad_name None = []
bad_name (Some line) = bad_line line

-- why no name is shown, by its number: 0 stands for no reason, 1 for a file that cannot be read, any other for one that
-- is too long
abbrev pub unused_numbered : ℕ → Option Unused
unused_numbered why = cond (eqb why 0) None (cond (eqb why 1) (Some Unreadable) (Some TooLong))

-- what is said of it
abbrev pub unused : Unused → List ℕ
unused Unreadable = text "<p class=\"message\">The names file cannot be read: signals have no names here.</p>\n"
unused TooLong =
    text "<p class=\"message\">The names file is longer than 65,535 bytes: signals have no names here.</p>\n"

abbrev pub names_unused : Option Unused → List ℕ
names_unused None = []
names_unused (Some why) = unused why
