-- What the page tells of one signal: its values, read off configuration and state, and its rows with its name. A signal
-- is what document 01 calls an event. Assumes nothing.
use Rattle.std.specs.Prelude.{◌≡◌, Bool, true, cond, List, [], ℕ, ◌<◌, eqb, pos, ◌+ℤ◌}
use Rattle.std.proofs.Math.Option.{Option, none, some}
use Rattle.manual.specs.declared.Paint.{Paint}
use Rattle.manual.specs.declared.Paint.TheVariants.{Grey, Red, Live}
use Rattle.manual.specs.Words.{nat_of}
use Rattle.manual.specs.Configuration.{Configuration, events, code_of, cycle_of, config_ok}
use Rattle.manual.specs.State.{State, status_byte}
use Rattle.manual.specs.Memory.{Entry, entry_for}
use Rattle.manual.specs.WellFormed.{entries, well_formed}
use Rattle.manual.specs.Calls.{cycle_runs}
use Rattle.manual.specs.Counter.{counter_in}
use Rattle.manual.specs.Untested.{paint_of}
use Rattle.page_parts.specs.Signals.{untested_row, failed_row, signal_row}
use Rattle.page_names.specs.Names.{name_of}
use Rattle.page_parts.specs.declared.Signal.{Signal}
use Rattle.page_rows.specs.declared.Listing.{Listing}
use Rattle.page_rows.specs.declared.Listing.TheVariants.{Untested, Failed, All}

-- ---- its values

-- untested, failed, live
abbrev pub paint_number : Paint → ℕ
paint_number Grey = 0
paint_number Red = 1
paint_number Live = 2

-- "its occurrence count": 0 where it has no entry
abbrev pub count_in : Option Entry → ℕ
count_in (some x) = x.count
count_in none = 0

module _ (cfg : Configuration) (s : State) (e : ℕ) where
  unfoldable pub occurrences : ℕ
  occurrences = count_in (entry_for e (entries cfg s))

  -- the fault detection counter, raised by 128
  unfoldable pub raised_counter : ℕ
  raised_counter = nat_of (counter_in cfg s e +ℤ pos 128)

  unfoldable pub signal_of : Signal
  signal_of = record {
    paint = paint_of cfg s e;
    code = code_of cfg e;
    cycle = cycle_of cfg e;
    runs = cycle_runs cfg s.board e;
    raised = raised_counter;
    count = occurrences;
    status = status_byte s e;
  }

  -- it has this paint
  abbrev pub is_painted : ℕ → Bool
  is_painted which = eqb (paint_number (paint_of cfg s e)) which

-- ---- its rows

abbrev pub of_untested : ℕ → List ℕ → Signal → List ℕ
of_untested e name x = untested_row x.paint e name x.code x.runs

abbrev pub of_failed : ℕ → List ℕ → Signal → List ℕ
of_failed e name x = failed_row x.paint e name x.code x.count

abbrev pub of_all : ℕ → List ℕ → Signal → List ℕ
of_all e name x = signal_row x.paint e name x.code x.cycle x.raised x.count x.status

-- what a list has of a signal: "the untested ones by name", nothing of one that is tested; "then the failed ones"; "then
-- every event"
abbrev pub listed : Listing → ℕ → List ℕ → Signal → List ℕ
listed Untested e name x = cond (eqb (paint_number x.paint) 0) (of_untested e name x) []
listed Failed e name x = cond (eqb (paint_number x.paint) 1) (of_failed e name x) []
listed All e name x = of_all e name x

-- "events are shown by name beside the code": the name of its code
abbrev pub own_name : Configuration → List ℕ → ℕ → List ℕ
own_name cfg names e = name_of (code_of cfg e) names

unfoldable pub part_of : Listing → Configuration → List ℕ → State → ℕ → List ℕ
part_of listing cfg names s e = listed listing e (own_name cfg names e) (signal_of cfg s e)

-- ---- what the code asks: an accepted configuration and a well-formed state

pub record Shown (cfg : Configuration) (s : State) : Type 0 where
  pub accepted : config_ok cfg ≡ true
  pub formed : well_formed cfg s ≡ true

pub record OneOf (cfg : Configuration) (s : State) (e : ℕ) : Type 0 where
  pub shown : Shown cfg s
  pub below : e < events cfg
