-- The page below its style: every part of it over configuration, names and state, in their order. Assumes nothing.
use Rattle.std.specs.Prelude.{cond, List, ◌++◌, ℕ, eqb}
use Rattle.manual.specs.Words.{count_below, join_below}
use Rattle.manual.specs.Configuration.{Configuration, events, places}
use Rattle.manual.specs.State.{State, runs}
use Rattle.manual.specs.Memory.{entry_count}
use Rattle.manual.specs.Untested.{row}
use Rattle.page_text.specs.Text.{text}
use Rattle.page_heads.specs.Heads.{title, headline, tiles, cycle_row, memory, calls, last_answer, unreadable_if, bad_name}
use Rattle.page_heads.specs.Heads.{names_unused}
use Rattle.page_names.specs.Names.{first_bad}
use Rattle.page_rows.specs.declared.Listing.{Listing}
use Rattle.page_rows.specs.declared.Listing.TheVariants.{Untested, Failed, All}
use Rattle.page_rows.specs.Rows.{is_painted, part_of}
use Rattle.page_body.specs.declared.Log.{Log}

module _ (cfg : Configuration) (s : State) where
  -- ---- "At the top, in words: how many signals are untested, failed, live"

  unfoldable pub painted : ℕ → ℕ
  painted which = count_below (events cfg) (λ e. is_painted cfg s e which)

  unfoldable pub top : List ℕ
  top =
      title (painted 0) (painted 1) (painted 2) ++ headline (events cfg) (painted 0) (painted 1) (painted 2)
      ++ tiles (painted 0) (painted 1) (painted 2)

  -- ---- "then the table of four cycles by eight bits with the bits' names", "the cycles that run"

  unfoldable pub cycle_one : ℕ → List ℕ
  cycle_one c = cycle_row c (runs s.board c) (row cfg s c)

  unfoldable pub four_cycles : List ℕ
  four_cycles = cycle_one 0 ++ cycle_one 1 ++ cycle_one 2 ++ cycle_one 3

  -- ---- memory, "overflow"

  unfoldable pub memory_part : List ℕ
  memory_part = text "<h2>Memory</h2>\n" ++ memory (entry_count s.memory) (places cfg) s.board.overflow

unfoldable pub cycles_head : List ℕ
cycles_head =
    text "<h2>Cycles and status bits</h2>\n<div class=\"wide\"><table>\n<tr><th scope=\"col\">cycle</th>"
    ++ text "<th scope=\"col\" class=\"n\">testFailed</th>"
    ++ text "<th scope=\"col\" class=\"n\">testFailed<wbr>This<wbr>Operation<wbr>Cycle</th>"
    ++ text "<th scope=\"col\" class=\"n\">pending</th><th scope=\"col\" class=\"n\">confirmed</th>"

unfoldable pub cycles_head_end : List ℕ
cycles_head_end =
    text "<th scope=\"col\" class=\"n\">testNot<wbr>Completed<wbr>Since<wbr>Last<wbr>Clear</th>"
    ++ text "<th scope=\"col\" class=\"n\">testFailed<wbr>Since<wbr>Last<wbr>Clear</th>"
    ++ text "<th scope=\"col\" class=\"n\">testNot<wbr>Completed<wbr>This<wbr>Operation<wbr>Cycle</th>"
    ++ text "<th scope=\"col\" class=\"n\">warning<wbr>Indicator<wbr>Requested</th></tr>\n"

unfoldable pub table_end : List ℕ
table_end = text "</table></div>\n"

unfoldable pub cycles_part : Configuration → State → List ℕ
cycles_part cfg s = cycles_head ++ cycles_head_end ++ four_cycles cfg s ++ table_end

unfoldable pub all_head : List ℕ
all_head =
    text "<h2>All signals</h2>\n<div class=\"wide\"><table>\n<tr><th scope=\"col\">paint</th>"
    ++ text "<th scope=\"col\">signal</th><th scope=\"col\">code</th><th scope=\"col\" class=\"n\">cycle</th>"
    ++ text "<th scope=\"col\">how near a fault</th><th scope=\"col\">memory</th><th scope=\"col\">status</th></tr>\n"

-- ---- messages, the log

unfoldable pub messages : List ℕ → Log → List ℕ
messages names log = unreadable_if log.bad ++ names_unused log.unused ++ bad_name (first_bad names)

unfoldable pub log_part : Log → List ℕ
log_part log = text "<h2>The log</h2>\n" ++ calls log.made log.refused ++ last_answer log.made log.last

module _ (cfg : Configuration) (names : List ℕ) (s : State) where
  -- ---- "Then the untested ones by name, then the failed ones", "Empty parts say that they are empty"

  unfoldable pub rows_of : Listing → List ℕ
  rows_of listing = join_below (events cfg) (part_of listing cfg names s)

  unfoldable pub list_of : Listing → List ℕ
  list_of listing = text "<div class=\"wide\"><table>\n" ++ rows_of listing ++ table_end

  -- the rows of one paint, or the sentence that says there are none
  unfoldable pub paint_list : Listing → ℕ → List ℕ → List ℕ
  paint_list listing which none = cond (eqb (painted cfg s which) 0) none (list_of listing)

  -- that list below its heading
  unfoldable pub paint_section : List ℕ → Listing → ℕ → List ℕ → List ℕ
  paint_section heading listing which none = heading ++ paint_list listing which none

  unfoldable pub untested_list : List ℕ
  untested_list = paint_list Untested 0 (text "<p>None: every signal was tested since its cycle started.</p>\n")

  unfoldable pub untested_section : List ℕ
  untested_section = text "<h2>Untested: do not trust what the panel shows for these</h2>\n" ++ untested_list

  unfoldable pub failed_list : List ℕ
  failed_list = paint_list Failed 1 (text "<p>None: no tested signal failed its last test.</p>\n")

  unfoldable pub failed_section : List ℕ
  failed_section = text "<h2>Failed</h2>\n" ++ failed_list

  -- ---- "then every event"

  unfoldable pub all_section : List ℕ
  all_section = all_head ++ rows_of All ++ table_end

  -- ---- all of it

  unfoldable pub upper : Log → List ℕ
  upper log = top cfg s ++ messages names log ++ untested_section ++ failed_section

  unfoldable pub lower : Log → List ℕ
  lower log = cycles_part cfg s ++ all_section ++ memory_part cfg s ++ log_part log

  unfoldable pub body : Log → List ℕ
  body log = upper log ++ lower log
