-- What a step of the code leaves in the lent blocks is what the manual says of the state that they are.
use mathlib.Core.Path.{◌≡◌, refl, sym, ap, subst, ◌∙◌}
use mathlib.Core.Bool.{Bool, true, false, ◌||◌, cond}
use mathlib.Core.List.{List, [], ◌∷◌}
use Prim.Native.Nat.{ℕ, zero, suc, ◌+◌, ◌*◌, ◌≤◌, ◌<◌}
use native.Mathlib.Omega.{arith}
use lib.IntN.{ℤ, pos}
use lib.ListN.{length, get_or, set}
use Rattle.history.specs.StatusByte as status
use Rattle.history.specs.StatusByte.{fresh_record, fresh_failure, ages_at_stop}
use Rattle.history.specs.History.{Token, failed, stop, step}
use Rattle.manual.specs.declared.Board.{Board}
use Rattle.manual.specs.declared.StoreAnswer.{StoreAnswer}
use Rattle.manual.specs.declared.StoreAnswer.TheVariants.{Untold}
use Rattle.manual.specs.declared.Verdict.{Verdict}
use Rattle.manual.specs.Configuration.{Configuration, places, entry_frames, priority_of, limits_of}
use Rattle.manual.specs.State.{State, record_width, Stored, opened, stored, stored_at, with_stored, D, with_d}
use Rattle.manual.specs.State.{with_memory, lent}
use Rattle.manual.specs.Memory.{entries_of, memory_of, without, is_lost}
use Rattle.manual.specs.OneEvent.{happens, entry_leaves, keeps, stored_for, memory_told, fails, fails_did, stops, clears}
use Rattle.manual.specs.Debouncing.{Debounced, reported}
use Rattle.manual.specs.Calls.{applied, applied_did}
use Rattle.manual.specs.Counts.{raised}
use Rattle.manual.proofs.ConfigurationLaws.{config_tells}
use Rattle.config.specs.declared.Limits.{Limits}
use Rattle.config.specs.Rows.{limits_is}
use Rattle.debounce.specs.declared.Row.{Row}
use Rattle.debounce.specs.Rows.{RowOf, reported_by, ticked_by, SmallReport, SmallTick}
use Rattle.debounce.proofs.RowsLaws.{reported_is, ticked_is, small_report, small_tick}
use Rattle.status.specs.declared.Record.{Record}
use Rattle.status.specs.declared.AfterFailed.{AfterFailed}
use Rattle.status.specs.declared.AfterStop.{AfterStop}
use Rattle.status.specs.Records.{stored_is, record_is, limits, FailedIs, RoomToRise, StoppedIs, rests_at_stop}
use Rattle.status.proofs.RecordsLaws.{step_written, has_room}
use Rattle.status.proofs.RestsLaws.{rests}
use Rattle.memory.specs.Store.{quiet_in, Left, left_with, stores}
use Rattle.one_event.specs.Ready.{accepts, BlocksFit, RecordFits, Ready}
use Rattle.one_event.specs.Steps.{record_stopped, resetting, Stepped, stepped, tells_memory, failing, qualifying}
use Rattle.one_event.specs.Steps.{applying, reporting, ticking}

-- ---- what the functions of the crates below ask

pub record_within : {cfg : Configuration} {s : State} {e : ℕ} → BlocksFit cfg s e
    → record_width * e + record_width ≤ length s.records
record_within f = omega (arith, f.below, f.records_as_long)

pub may_stop : {cfg : Configuration} {records : List ℕ} {e : ℕ} → RecordFits cfg records e
    → (r : Record) → stored_is r ≡ stored_at e records → RoomToRise r
may_stop {cfg} {e = e} f r p =
    let t = (config_tells cfg f.configured).row e f.below in
    has_room (limits_of cfg e) r p t.heal_most t.age_most f.kept

-- ---- the record

module _ (cfg : Configuration) (e : ℕ) (records : List ℕ) where
  -- a record read, stepped and written back
  pub happens_is : (t : Token) {records' : List ℕ} (r r' : Record) → stored_is r ≡ stored_at e records
      → stored_is r' ≡ stored (step (limits_of cfg e) t (record_is r))
      → records' ≡ with_stored e (stored_is r') records → (d : List ℤ) (m : List ℕ) (b : Board)
      → lent records' d m b ≡ happens cfg t e (lent records d m b)
  unfolding happens
  happens_is t r r' p q w d m b =
      ap (λ (l : List ℕ). lent l d m b) (step_written (limits_of cfg e) t e records r r' p q w)

-- ---- the record at a stop

set_own : (l : List ℕ) (i : ℕ) → set l i (get_or l i 0) ≡ l
set_own [] i = refl
set_own (x ∷ l) zero = refl
set_own (x ∷ l) (suc i) = ap (λ (r : List ℕ). x ∷ r) (set_own l i)

-- a record written over itself
stored_own : (e : ℕ) (m : List ℕ) → with_stored e (stored_at e m) m ≡ m
unfolding with_stored stored_at
stored_own e m =
    let at = record_width * e in
    ap (λ (l : List ℕ). set (set (set l (at + 1) (get_or m (at + 1) 0)) (at + 2) (get_or m (at + 2) 0)) (at + 3)
    (get_or m (at + 3) 0)) (set_own m at)
    ∙ ap (λ (l : List ℕ). set (set l (at + 2) (get_or m (at + 2) 0)) (at + 3) (get_or m (at + 3) 0)) (set_own m (at + 1))
    ∙ ap (λ (l : List ℕ). set l (at + 3) (get_or m (at + 3) 0)) (set_own m (at + 2))
    ∙ set_own m (at + 3)

module _ (cfg : Configuration) (e : ℕ) (records : List ℕ) (r : Record) (p : stored_is r ≡ stored_at e records) where
  abbrev ageing : Bool
  ageing = ages_at_stop (limits_of cfg e) (opened (stored_at e records))

  aged_is : {f : AfterStop} → StoppedIs (limits_of cfg e) r f → f.aged ≡ ageing
  aged_is is = is.aged ∙ ap (λ (x : Stored). ages_at_stop (limits_of cfg e) (opened x)) p

  pub rests_there : r.status.0 < 256 → rests_at_stop (record_is r) ≡ true
      → (records ≡ record_stopped cfg e records) × (false ≡ ageing)
  rests_there b t =
      let is = rests (limits_of cfg e) r b t in (
        sym (stored_own e records)
            ∙ ap (λ (x : Stored). with_stored e x records)
            (sym p ∙ is.after ∙ ap (λ (x : Stored). stored (step (limits_of cfg e) stop (opened x))) p),
        aged_is is,
      )

  pub stopped_there : {records' : List ℕ} (l : Limits) (f : AfterStop) → limits_is l ≡ limits_of cfg e
      → ((C : ℕ) (i : Bool) → StoppedIs (limits C l.heal l.age i) r f)
      → records' ≡ with_stored e (stored_is f.«record») records
      → (records' ≡ record_stopped cfg e records) × (f.aged ≡ ageing)
  stopped_there l f q s w =
      let is : StoppedIs (limits_of cfg e) r f =
      subst (λ (n : status.Limits). StoppedIs n r f) q (s l.confirm l.indicator) in
      (step_written (limits_of cfg e) stop e records r f.«record» p is.after w, aged_is is)

-- ---- the entry

module _ (cfg : Configuration) (e : ℕ) (memory : List ℕ) where
  abbrev forgotten : List ℕ
  forgotten = memory_of (places cfg) (entry_frames cfg) (without e (entries_of (entry_frames cfg) memory))

  abbrev leaves_if : Bool → List ℕ → List ℤ → Board → State
  leaves_if test r d b = cond test (entry_leaves cfg e (lent r d memory b)) (lent r d memory b)

  pub leaves_where : {test : Bool} {memory' : List ℕ} → test ≡ true → memory' ≡ forgotten
      → (r : List ℕ) (d : List ℤ) (b : Board) → lent r d memory' b ≡ leaves_if test r d b
  unfolding entry_leaves
  leaves_where t p r d b = ap (λ (l : List ℕ). lent r d l b) p ∙ ap (λ (test : Bool). leaves_if test r d b) (sym t)

  pub stays_where : {test : Bool} → test ≡ false → (r : List ℕ) (d : List ℤ) (b : Board)
      → lent r d memory b ≡ leaves_if test r d b
  stays_where t r d b = ap (λ (test : Bool). leaves_if test r d b) (sym t)

-- ---- stop and clear

module _ (cfg : Configuration) (e : ℕ) (records : List ℕ) (debounce : List ℤ) (memory : List ℕ) {records' : List ℕ}
    {debounce' : List ℤ} {memory' : List ℕ}
    (d : debounce' ≡ set debounce e (pos 0)) where
  pub stops_is : {aged : Bool} → records' ≡ record_stopped cfg e records
      → aged ≡ ages_at_stop (limits_of cfg e) (opened (stored_at e records))
      → ((r : List ℕ) (d : List ℤ) (b : Board) → lent r d memory' b ≡ leaves_if cfg e memory aged r d b)
      → (b : Board) → lent records' debounce' memory' b ≡ stops cfg e (lent records debounce memory b)
  unfolding stops happens
  stops_is w q m b =
      let after : lent records' debounce memory b ≡ happens cfg stop e (lent records debounce memory b) =
      ap (λ (l : List ℕ). lent l debounce memory b) w in
      ap (λ (x : List ℤ). lent records' x memory' b) d
      ∙ ap (with_d e (pos 0)) (m records' debounce b ∙ (λ i. cond (q i) (entry_leaves cfg e (after i)) (after i)))

module _ (cfg : Configuration) (e : ℕ) (records : List ℕ) (debounce : List ℤ) {records' : List ℕ}
    {debounce' : List ℤ} where
  pub resets_is : (r : Record) → stored_is r ≡ stored fresh_record → records' ≡ with_stored e (stored_is r) records
      → debounce' ≡ set debounce e (pos 0)
      → (m : List ℕ) (b : Board) → lent records' debounce' m b ≡ resetting cfg e (lent records debounce m b)
  unfolding happens
  resets_is r p w d m b = λ i. lent ((w ∙ ap (λ (x : Stored). with_stored e x records) p) i) (d i) m b

  pub clears_is : (memory : List ℕ) {memory' : List ℕ}
      → ((m : List ℕ) (b : Board) → lent records' debounce' m b ≡ resetting cfg e (lent records debounce m b))
      → memory' ≡ forgotten cfg e memory
      → (b : Board) → lent records' debounce' memory' b ≡ clears cfg e (lent records debounce memory b)
  unfolding clears happens entry_leaves
  clears_is memory r m b =
      ap (λ (l : List ℕ). lent records' debounce' l b) m ∙ ap (with_memory (forgotten cfg e memory)) (r memory b)

-- ---- a failed result

module _ (cfg : Configuration) (e : ℕ) (frame records memory : List ℕ) (board : Board) where
  abbrev told : Left
  told =
      stores (places cfg) (entry_frames cfg) (priority_of cfg) (quiet_in records) e frame
      (entries_of (entry_frames cfg) memory)

  pub told_is : {memory' : List ℕ} (did : StoreAnswer) {lost : Bool} → left_with memory' did ≡ told → lost ≡ is_lost did
      → (d : List ℤ)
      → stepped (lent records d memory' (record { running = board.running; overflow = board.overflow || lost }))
      did
      ≡ tells_memory cfg frame e (lent records d memory board)
  unfolding memory_told keeps stores stored_at
  told_is did p q d =
      let lost-is = q ∙ ap (λ (x : Left). is_lost x.did) p in
      λ i. stepped
      (lent records d (p i).block (record { running = board.running; overflow = board.overflow || lost-is i }))
      (p i).did

  module _ {records' : List ℕ} (l : Limits) (r : Record) (f : AfterFailed) (p : limits_is l ≡ limits_of cfg e)
      (q : stored_is r ≡ stored_at e records)
      (s : (H A : ℕ) → FailedIs (limits l.confirm H A l.indicator) r f)
      (w : records' ≡ with_stored e (stored_is f.«record») records) where
    is : FailedIs (limits_of cfg e) r f
    is = subst (λ (n : status.Limits). FailedIs n r f) p (s l.heal l.age)

    fresh : f.fresh_failure ≡ fresh_failure (opened (stored_at e records))
    fresh = is.fresh ∙ ap (λ (x : Stored). fresh_failure (opened x)) q

    after : (d : List ℤ) → lent records' d memory board ≡ happens cfg failed e (lent records d memory board)
    after d = happens_is cfg e records failed r f.«record» q is.after w d memory board

    abbrev fails_by : Bool → State → Stepped State
    fails_by b u = stepped (cond b (memory_told cfg frame e u) u) (cond b (stored_for cfg frame e u).did Untold)

    fails_is : {b : Bool} → f.fresh_failure ≡ b → (d : List ℤ)
        → fails_by b (lent records' d memory board) ≡ failing cfg frame e (lent records d memory board)
    unfolding fails fails_did
    fails_is t d = λ i. fails_by ((sym t ∙ fresh) i) (after d i)

    pub fails_told : f.fresh_failure ≡ true → (d : List ℤ) {t : State} {did : StoreAnswer}
        → stepped t did ≡ tells_memory cfg frame e (lent records' d memory board)
        → stepped t did ≡ failing cfg frame e (lent records d memory board)
    fails_told t d m = m ∙ fails_is t d

    pub fails_untold : f.fresh_failure ≡ false → (d : List ℤ)
        → stepped (lent records' d memory board) Untold ≡ failing cfg frame e (lent records d memory board)
    fails_untold t d = fails_is t d

-- ---- a verdict, and a report or a tick

module _ (cfg : Configuration) (e : ℕ) (frame : List ℕ) {t : State} {did : StoreAnswer} where
  pub qualifies_by : (s : State) {verdict : Verdict} (v : Verdict) → verdict ≡ v
      → stepped t did ≡ qualifying cfg frame e v s → stepped t did ≡ qualifying cfg frame e verdict s
  qualifies_by s v p q = subst (λ v. stepped t did ≡ qualifying cfg frame e v s) (sym p) q

  pub applied_is : (records memory : List ℕ) (board : Board) (debounce : List ℤ) {debounce' : List ℤ} (x : Debounced)
      → debounce' ≡ set debounce e x.number
      → stepped t did ≡ qualifying cfg frame e x.verdict (lent records debounce' memory board)
      → stepped t did ≡ applying cfg frame e x (lent records debounce memory board)
  unfolding applied applied_did
  applied_is records memory board debounce x p q =
      q ∙ ap (λ (l : List ℤ). qualifying cfg frame e x.verdict (lent records l memory board)) p

module _ (cfg : Configuration) (e : ℕ) (s : State) where
  module _ (f : Ready cfg s e) (row : Row) (o : RowOf cfg e row) {n : ℤ} (p : n ≡ D s e) where
    pub may_report : SmallReport row n
    may_report =
        subst (SmallReport row) (sym p)
        (small_report cfg e row o f.event.configured f.event.blocks.below _ (D s e) f.number)

    pub may_tick : (ms : ℕ) → ms ≤ 60000 → SmallTick row ms n
    may_tick ms h =
        subst (SmallTick row ms) (sym p)
        (small_tick cfg e row o f.event.configured f.event.blocks.below _ (D s e) f.number ms h)

  module _ (frame : List ℕ) (row : Row) (o : RowOf cfg e row) {n : ℤ} (p : n ≡ D s e) (x : Debounced) {t : State}
      {did : StoreAnswer}
      (a : stepped t did ≡ applying cfg frame e x s) where
    by_row : {y : Debounced} → x ≡ y → stepped t did ≡ applying cfg frame e y s
    by_row q = a ∙ ap (λ (y : Debounced). applying cfg frame e y s) q

    pub reports_is : (code : ℕ) → x ≡ reported_by row code n
        → stepped (accepts x.verdict t) did ≡ reporting cfg frame e code s
    unfolding raised
    reports_is code q =
        let is : x ≡ reported cfg e code (D s e) =
        q ∙ ap (reported_by row code) p ∙ reported_is cfg e row o code (D s e) in
        λ i. stepped (accepts (is i).verdict (by_row is i).left) (by_row is i).did

    pub ticks_is : (ms : ℕ) → x ≡ ticked_by row ms n → stepped t did ≡ ticking cfg frame e ms s
    ticks_is ms q = by_row (q ∙ ap (ticked_by row ms) p ∙ ticked_is cfg e row o ms (D s e))
