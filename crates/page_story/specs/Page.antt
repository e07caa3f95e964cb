-- The page of a log: its head with the style, the page of the state after the last call, or why there is none. Assumes
-- nothing.
use Rattle.std.specs.Prelude.{Bool, cond, List, ◌++◌, ℕ, ◌+◌, ◌≤◌, length, Option, None, Some}
use Rattle.manual.specs.Configuration.{Configuration}
use Rattle.replay_step.specs.Beginning.{Beginning, ready, refused, unreadable, beginning}
use Rattle.page_text.specs.Text.{text}
use Rattle.page_names.specs.Names.{most_names}
use Rattle.page_heads.specs.declared.Unused.{Unused}
use Rattle.page_body.specs.declared.Log.{Log}
use Rattle.page_body.specs.Body.{body}
use Rattle.page_story.specs.Story.{Progress, played}

-- ---- its head

unfoldable pub meta_part : List ℕ
meta_part =
    text "<!doctype html>\n<html lang=\"en\">\n<meta charset=\"utf-8\">\n"
    ++ text "<meta name=\"viewport\" content=\"width=device-width, initial-scale=1\">\n<style>\n"
    ++ text ":root{color-scheme:light dark;--line:#8884;--grey:#5f6570;--red:#c62828;--live:#1b7f4d}\n"

unfoldable pub text_style : List ℕ
text_style =
    text "body{font:16px/1.45 system-ui,sans-serif;margin:0 auto;max-width:60rem;padding:1rem}\n"
    ++ text "h1{font-size:1.5rem;margin:.2rem 0 1rem}\nh2{font-size:1.05rem;margin:1.6rem 0 .5rem}\n"
    ++ text ".message{border-left:.3rem solid var(--red);padding:.2rem .8rem;font-weight:600}\n"
    ++ text ".code{font-family:ui-monospace,monospace;opacity:.75;white-space:nowrap}\n"
    ++ text ".bits{font-size:.85rem;opacity:.85}\nprogress{width:5rem;vertical-align:middle;accent-color:#b26a00}\n"

unfoldable pub paint_style : List ℕ
paint_style =
    text ".grey{background:var(--grey)}.red{background:var(--red)}.live{background:var(--live)}\n"
    ++ text ".tiles{display:flex;gap:.6rem}\n.tile{flex:1;border-radius:.5rem;padding:.6rem .9rem;color:#fff}\n"
    ++ text ".tile b{display:block;font-size:2rem;line-height:1.1}\n.paint{display:inline-block;min-width:3rem;"
    ++ text "text-align:center;border-radius:.3rem;color:#fff;padding:.05rem .4rem}\n"

unfoldable pub table_style : List ℕ
table_style =
    text ".wide{overflow-x:auto}\ntable{border-collapse:collapse;width:100%}\nth,td{padding:.35rem .5rem;"
    ++ text "border-bottom:1px solid var(--line);text-align:left;vertical-align:top}\nth{font-weight:600}\n"
    ++ text "td.n,th.n{text-align:right;font-variant-numeric:tabular-nums}\n.near{white-space:nowrap}\n"
    ++ text "th[scope=col]{font-size:.85rem}\ntd:first-child,th:first-child{width:1%;white-space:nowrap}\n"
    ++ text "@media print{html,body{font-size:11px;max-width:none}.wide{overflow:visible}.tile,.paint{color:#000;"
    ++ text "background:none;border:1px solid #000}}\n</style>\n"

unfoldable pub head : List ℕ
head = meta_part ++ text_style ++ paint_style ++ table_style

-- ---- a log with a state

-- what is told of it beside the state
abbrev pub log_of : Option Unused → Progress → Log
log_of unused p =
    record {
      made = p.made;
      refused = p.refused;
      last = p.last;
      bad = cond p.bad (Some p.at) None;
      unused = unused;
    }

unfoldable pub shown : Configuration → List ℕ → Option Unused → Progress → List ℕ
shown cfg names unused p = body cfg names p.state (log_of unused p)

-- ---- a log without a state: "over-long text, refused configuration, …: a page that says so in words"

unfoldable pub no_state : List ℕ → List ℕ
no_state why =
    text "<title>Bad input</title>\n<h1>Bad input</h1>\n<p class=\"message\">" ++ why
    ++ text " There is no state to show.</p>\n"

unfoldable pub refused_configuration : List ℕ
refused_configuration =
    no_state
    (text "The configuration of the log is refused, with answer 2: it breaks the table of allowed numbers.")

unfoldable pub unreadable_log : Bool → List ℕ
unreadable_log longer =
    cond longer (no_state (text "The log is longer than 32,768 bytes."))
    (no_state (text "The log does not begin with a count of configuration numbers, 7,171 at most, and so many numbers."))

-- ---- all of it

-- `longer` says that the log goes on behind these bytes, `unused` why there are no names
module _ (longer : Bool) (log names : List ℕ) (unused : Option Unused) where
  abbrev pub rest : Beginning → List ℕ
  rest (ready numbers at) = shown numbers names unused (played numbers log at)
  rest (refused numbers) = refused_configuration
  rest (unreadable numbers) = unreadable_log longer

  unfoldable pub page : List ℕ
  page = head ++ rest (beginning longer log) ++ text "</html>\n"

-- ---- what the code asks

-- the counts and places of a log are numbers of 16 bits; the program reads 32,768 bytes of it
abbrev pub most_log : ℕ
most_log = 65535

-- a log and names of which the code can tell, and a buffer with room for so many bytes from `at` on
pub record Room (log names : List ℕ) (at most : ℕ) (buffer : List ℕ) : Type 0 where
  pub log_short : length log ≤ most_log
  pub names_short : length names ≤ most_names
  pub for_page : at + most ≤ length buffer
