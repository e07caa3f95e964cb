-- Laws of specs/Rows.antt: what the code may count on for one signal, and its values.
use mathlib.Core.Path.{◌≡◌, refl, sym, ap, subst, ◌∙◌}
use mathlib.Core.Bool.{Bool}
use mathlib.Core.List.{List}
use Prim.Native.Nat.{ℕ, ◌<◌}
use native.Mathlib.Omega.{arith}
use lib.IntN.{ℤ}
use mir.Syntax.{w8}
use mir.Val.{SFits}
use Rattle.manual.specs.declared.Board.{Board}
use Rattle.manual.specs.declared.Paint.{Paint}
use Rattle.manual.specs.declared.Place.{Place}
use Rattle.manual.specs.Configuration.{Configuration, most_events, code_of, cycle_of, entry_frames}
use Rattle.manual.specs.State.{State, lent, runs, status_byte}
use Rattle.manual.specs.Memory.{entries_of, is_of, entry_for}
use Rattle.manual.specs.Counter.{counter_in}
use Rattle.manual.specs.Untested.{is_grey, paint_of}
use Rattle.manual.proofs.ConfigurationLaws.{config_tells}
use Rattle.manual.proofs.CounterOfAState.{in_a_byte}
use Rattle.std.specs.Prelude.{Some, None}
use Rattle.memory.specs.Places.{at_place, place_of}
use Rattle.memory.specs.Fits.{EntriesFit, PlaceFits}
use Rattle.memory.proofs.PlacesLaws.{entries_fit, entries_are_count, found, found_nothing}
use Rattle.judgement.specs.Fits.{EventIn, RecordsFor}
use Rattle.queries.proofs.ReadingLaws.{small_fits}
use Rattle.untested.specs.Page.{holding, EventWithin}
use Rattle.untested.proofs.PageLaws.{judged_records, event_within}
use Rattle.page_parts.specs.declared.Signal.{Signal}
use Rattle.page_text.specs.declared.Page.{Page}
use Rattle.page_text.specs.Page.{Adds}
use Rattle.page_names.specs.Names.{name_of}
use Rattle.page_rows.specs.Rows.{count_in, occurrences, raised_counter, signal_of, own_name}
use Rattle.page_rows.specs.Rows.{Shown, OneOf}

-- ---- what may be counted on

pub codes_small : (cfg : Configuration) (e : ℕ) → EventIn cfg e → code_of cfg e < 4294967296
codes_small cfg e i = let m = ((config_tells cfg i.accepted).row e i.below).code_most in omega arith

pub cycles_small : (cfg : Configuration) (e : ℕ) → EventIn cfg e → cycle_of cfg e < 65536
cycles_small cfg e i = let m = ((config_tells cfg i.accepted).row e i.below).cycle_most in omega arith

pub in_most : (cfg : Configuration) (e : ℕ) → EventIn cfg e → e < most_events
in_most cfg e i = let m = (config_tells cfg i.accepted).n_most in omega (arith, i.below)

pub records_for : (cfg : Configuration) (s : State) → Shown cfg s → RecordsFor cfg s.records
records_for cfg s o = judged_records cfg s o.accepted o.formed

module _ (cfg : Configuration) (s : State) (e : ℕ) (o : OneOf cfg s e) where
  pub event_in_lem : EventIn cfg e
  event_in_lem = record { accepted = o.shown.accepted; below = o.below }

  pub event_most : e < most_events
  event_most = in_most cfg e event_in_lem

  pub in_blocks : EventWithin cfg s.records e
  in_blocks =
      event_within cfg s.records (records_for cfg s o.shown) e o.below

  pub entries_ok : EntriesFit (entry_frames cfg) s.memory
  entries_ok = entries_fit cfg s o.shown.accepted o.shown.formed

  pub counter_fits : SFits w8 (counter_in cfg s e)
  counter_fits = small_fits (counter_in cfg s e) (in_a_byte cfg s o.shown.accepted o.shown.formed e o.below)

-- ---- the occurrence count

module _ (W e : ℕ) (m : List ℕ) {W' : ℕ} (w : W' ≡ W) where
  pub place_fits : EntriesFit W m → (p : Place) → place_of e (entries_of W' m) ≡ Some p → PlaceFits W' m p.0
  place_fits fits p q =
      let inside = (found (is_of e) (entries_of W' m) p q).inside in
      record { entries = rw w fits; below = omega (arith, inside, entries_are_count W' m) }

  pub counts_at : (p : Place) {n : ℕ} → place_of e (entries_of W' m) ≡ Some p
      → n ≡ (at_place p.0 (entries_of W' m)).count
      → n ≡ count_in (entry_for e (entries_of W m))
  counts_at p q k =
      k ∙ sym (ap count_in (found (is_of e) (entries_of W' m) p q).first) ∙ (λ i. count_in (entry_for e (entries_of (w i) m)))

  pub counts_none : place_of e (entries_of W' m) ≡ None → 0 ≡ count_in (entry_for e (entries_of W m))
  counts_none q =
      sym (ap count_in (found_nothing (is_of e) (entries_of W' m) q)) ∙ (λ i. count_in (entry_for e (entries_of (w i) m)))

-- ---- all values

module _ (cfg : Configuration) (records : List ℕ) (debounce : List ℤ) (memory : List ℕ) (board : Board) (e : ℕ) where
  abbrev state : State
  state = lent records debounce memory board

  paint_in_lem : paint_of cfg (holding records board) e ≡ paint_of cfg state e
  unfolding paint_of is_grey
  paint_in_lem = refl

  pub signal_is : {paint : Paint} {code cycle raised count status : ℕ} {running : Bool}
      → paint ≡ paint_of cfg (holding records board) e
      → code ≡ code_of cfg e
      → cycle ≡ cycle_of cfg e
      → running ≡ runs board cycle
      → raised ≡ raised_counter cfg state e
      → count ≡ count_in (entry_for e (entries_of (entry_frames cfg) memory))
      → status ≡ status_byte state e
      → ◌≡◌ {A = Signal}
      (record {
        paint = paint;
        code = code;
        cycle = cycle;
        runs = running;
        raised = raised;
        count = count;
        status = status;
      })
      (signal_of cfg state e)
  unfolding signal_of occurrences
  signal_is p a c r f n b =
      let painted = p ∙ paint_in_lem in
      let going = r ∙ ap (runs board) c in
      λ i. record {
        paint = painted i;
        code = a i;
        cycle = c i;
        runs = going i;
        raised = f i;
        count = n i;
        status = b i;
      }

-- ---- its row

pub row_put : (cfg : Configuration) (names : List ℕ) (s : State) (e : ℕ) (row : List ℕ → Signal → List ℕ) {x : Signal}
    {name : List ℕ} {most : ℕ} {before after : Page}
    → x ≡ signal_of cfg s e
    → name ≡ name_of x.code names
    → Adds (row name x) most before after
    → Adds (row (own_name cfg names e) (signal_of cfg s e)) most before after
unfolding signal_of
row_put cfg names s e row {x} {name} {most} {before} {after} q k p =
    subst (λ (y : Signal). Adds (row (name_of y.code names) y) most before after) q
    (subst (λ (l : List ℕ). Adds (row l x) most before after) k p)
