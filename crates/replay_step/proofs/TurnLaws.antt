-- Laws of specs/Turn.antt: a call's promise gives its number and state, and the filled line makes the turn.
use mathlib.Core.Path.{◌≡◌, refl, ap, ◌∙◌}
use mathlib.Core.Bool.{Bool, true, false, cond}
use mathlib.Core.List.{List, [], ◌∷◌, ◌++◌}
use Prim.Native.Nat.{ℕ, zero, suc, ◌*◌, ◌≤◌}
use native.Mathlib.Omega.{arith}
use lib.IntN.{ℤ}
use lib.Dec.{eqb, leb}
use lib.ListN.{length, take, drop, replicate, length-append}
use borrow.Author.Tests.{leb-true, le-leb}
use Rattle.history.specs.History.{start}
use Rattle.manual.specs.Configuration.{Configuration, events, places, entry_frames}
use Rattle.manual.specs.State.{State, record_width, with_cycle}
use Rattle.manual.specs.Memory.{memory_length, most_memory}
use Rattle.manual.specs.Answers.{Beside, Outcome, Answered, done, refused, first_that_applies, judged, leaves}
use Rattle.manual.specs.OneEvent.{for_those, happens}
use Rattle.manual.specs.Calls.{of_cycle, start_rules, start_cycle}
use Rattle.manual.specs.Sequences.{outcome}
use Rattle.manual.proofs.ConfigurationLaws.{config_tells}
use Rattle.manual.proofs.MemoryLaws.{memory_most}
use Rattle.writing.specs.Writing.{Written, written, filled}
use Rattle.transcript.specs.declared.Cursor.{Cursor}
use Rattle.transcript.specs.Line.{status_bytes, line}
use Rattle.replay_step.specs.declared.Call.{Call}
use Rattle.replay_step.specs.declared.Asked.{Asked}
use Rattle.replay_step.specs.declared.Asked.TheVariants.{Makes, Nothing}
use Rattle.replay_step.specs.declared.Stepped.{Stepped}
use Rattle.replay_step.specs.declared.Stepped.TheVariants.{Line, End, BadInput}
use Rattle.replay_step.specs.Asked.{asked_at}
use Rattle.replay_step.specs.Turn.{lent_each, Made, made, made_by_call, call_is, Turned, turned, with_line}
use Rattle.replay_step.specs.Turn.{zero_frame, line_after, lined, turn_by, turn, Buffers}

pub made_by : {answer : ℕ} (a : Answered) {s : State} {o : Outcome} {x : Beside}
    → answer ≡ a.number → leaves a [] x s ≡ o → made answer s ≡ made_by_call o
made_by a {s} p e = ap (λ (n : ℕ). made n s) p ∙ ap made_by_call e

-- a start is not lent the counts: what it answers and makes of the state is the same whatever is lent beside
pub start_made : (cfg : Configuration) (c : ℕ) (b b' : Beside) (s : State)
    → made_by_call (start_cycle cfg c b s) ≡ made_by_call (start_cycle cfg c b' s)
unfolding start_cycle judged
start_made cfg c b b' s = go (eqb (first_that_applies (start_rules cfg c s)) 0)
  where
    number : ℕ
    number = first_that_applies (start_rules cfg c s)

    started : State
    started = with_cycle c true (for_those cfg (of_cycle cfg c) (happens cfg start) s)

    go : (t : Bool)
        → made_by_call (cond t (done b started) (refused number b s))
        ≡ made_by_call (cond t (done b' started) (refused number b' s))
    go true = refl
    go false = refl

module _ (cfg : Configuration) (call : Call) (next : Cursor) (buffer : List ℕ) (s : State) where
  pub line_made : {frame : List ℕ} {answer n size : ℕ} {buffer' : List ℕ} {s' : State} → frame ≡ zero_frame cfg
      → n ≡ events cfg
      → made answer s' ≡ made_by_call (outcome cfg (call_is frame call) lent_each s)
      → written size buffer' ≡ filled (line answer (status_bytes n s'.records)) buffer
      → turned (Line size answer next) buffer' s' ≡ turn_by cfg buffer s (Makes call next)
  unfolding lined
  line_made {answer = answer} {s' = s'} f p m w =
      ap (λ (x : Written). with_line answer next x s')
      (w ∙ ap (λ (k : ℕ). filled (line answer (status_bytes k s'.records)) buffer) p)
      ∙ ap (lined cfg next buffer) (m ∙ ap (λ (l : List ℕ). made_by_call (outcome cfg (call_is l call) lent_each s)) f)

-- the front of 32 zeros
pub zeros_front : (k : ℕ) (n : ℕ) {f : ℕ} → f ≡ n → n ≤ k → take {A = ℕ} f (replicate k 0) ≡ replicate n 0
zeros_front k n e h = ap (λ (j : ℕ). take {A = ℕ} j (replicate k 0)) e ∙ front k n h
  where
    front : (k n : ℕ) → n ≤ k → take {A = ℕ} n (replicate k 0) ≡ replicate n 0
    front k zero h = refl
    front zero (suc n) h = absurd (let w : ⊥ = omega arith in w)
    front (suc k) (suc n) h = ap (λ (l : List ℕ). 0 ∷ l) (front k n (omega arith))

-- ---- the line lies within the buffer

abbrev line_fits : Stepped → ℕ → Bool
line_fits (Line n answer next) size = leb n size
line_fits End size = true
line_fits BadInput size = true

abbrev fits : Turned → Bool
fits t = line_fits t.stepped (length t.buffer)

module _ (cfg : Configuration) (buffer : List ℕ) (s : State) where
  lined_fits : (next : Cursor) (m : Made) → fits (lined cfg next buffer m) ≡ true
  unfolding lined filled
  lined_fits next m =
      let l = line_after cfg m in
      let e = length-append l (drop (length l) buffer) in
      le-leb (length l) (length (l ++ drop (length l) buffer)) (omega arith)

  asked_fits : (a : Asked) → fits (turn_by cfg buffer s a) ≡ true
  asked_fits (Makes call next) = lined_fits next (made_by_call (outcome cfg (call_is (zero_frame cfg) call) lent_each s))
  asked_fits Nothing = refl
  asked_fits Asked.Unreadable = refl

  pub line_within : (at : ℕ) (text : List ℕ) {n answer : ℕ} {next : Cursor} {buffer' : List ℕ} {s' : State}
      → turned (Line n answer next) buffer' s' ≡ turn cfg at text buffer s → n ≤ length buffer'
  unfolding turn
  line_within at text {n} {buffer' = buffer'} e = leb-true n (length buffer') (ap fits e ∙ asked_fits (asked_at at text))

-- ---- the blocks are parts of the program's buffers

module _ (cfg : Configuration) {records : List ℕ} {debounce : List ℤ} {memory : List ℕ}
    (b : Buffers cfg records debounce memory) where
  -- so many bytes or numbers of each, as the code counts them
  pub record BlocksWithin (r d m : ℕ) : Type 0 where
    pub records_within : r ≤ length records
    pub numbers_within : d ≤ length debounce
    pub memory_within : m ≤ length memory

  pub blocks_within : {n m : ℕ} → n ≡ events cfg → m ≡ memory_length (places cfg) (entry_frames cfg)
      → BlocksWithin (record_width * n) n m
  blocks_within {n} {m} e q =
      let t = config_tells cfg b.accepted in
      let few = t.n_most in
      let most : m ≤ most_memory = rw q (memory_most (places cfg) (entry_frames cfg) t.M_most t.payload_most) in
      record {
        records_within = omega (arith, e, few, b.for_records);
        numbers_within = omega (arith, e, few, b.for_numbers);
        memory_within = omega (arith, most, b.for_memory);
      }
