-- Laws of specs/OneEvent.antt and of a debounced report: what is done to an event changes that event's record and D
-- alone.
use mathlib.Core.Path.{◌≡◌, refl, ap, ◌∙◌}
use mathlib.Core.Logic.{◌≢◌, ◌⊎◌, inl, inr}
use mathlib.Core.Bool.{Bool, true, false, cond}
use mathlib.Core.List.{List}
use Prim.Native.Nat.{ℕ, zero, suc, ◌*◌, ◌≤◌, ◌<◌}
use native.Mathlib.Nat.{eq-or-lt_of_le, le_of_suc-le-suc, not-suc-le-zero, le_refl}
use native.Mathlib.Omega.{arith}
use lib.Dec.{eqb}
use lib.ListN.{length, get_or, length-set}
use lib.Seq.{get_or-set_same, get_or-set_other}
use lib.IntN.{ℤ, pos}
use borrow.Author.Tests.{eqb-true, eqb-false}
use Rattle.history.specs.StatusByte.{fresh_failure, ages_at_stop}
use Rattle.history.specs.History.{Token, stop, clear, step}
use Rattle.manual.specs.declared.Verdict.{Verdict}
use Rattle.manual.specs.declared.Verdict.TheVariants.{None, Passed, Failed}
use Rattle.manual.specs.Words.{for_below}
use Rattle.manual.specs.Configuration.{Configuration, events, limits_of}
use Rattle.manual.specs.State.{State, record_width, Stored, opened, stored, stored_at}
use Rattle.manual.specs.State.{record_of, D, with_d, with_memory, with_overflow}
use Rattle.manual.specs.Debouncing.{Debounced}
use Rattle.manual.specs.OneEvent.{happens, entry_leaves, keeps, memory_told, fails}
use Rattle.manual.specs.OneEvent.{qualifies, stops, clears, for_those}
use Rattle.manual.specs.Calls.{applied, ticks}
use Rattle.manual.proofs.WordsLaws.{by, for_below_keeps}
use Rattle.manual.proofs.StateLaws.{stored_length, stored_same, stored_other}

-- what the blocks hold of one event
pub record View : Type 0 where
  pub stored : Stored
  pub number : ℤ

abbrev pub viewed : Stored → ℤ → View
viewed r d = record { stored = r; number = d }

abbrev pub view : State → ℕ → View
view s e = viewed (stored_at e s.records) (D s e)

-- the blocks have room for each event
pub record Sized (cfg : Configuration) (s : State) : Type 0 where
  pub records : length s.records ≡ record_width * events cfg
  pub debounce : length s.debounce ≡ events cfg

pub sized_same : {cfg : Configuration} (s t : State) → t.records ≡ s.records → t.debounce ≡ s.debounce → Sized cfg s
    → Sized cfg t
sized_same s t p q z = record { records = ap length p ∙ z.records; debounce = ap length q ∙ z.debounce }

-- `one k` does f k to event k, nothing to the others, and starts and stops no cycle
pub record Acts (cfg : Configuration) (one : ℕ → State → State) (f : ℕ → View → View) : Type 0 where
  pub sized : (k : ℕ) (s : State) → Sized cfg s → Sized cfg (one k s)
  pub own : (k : ℕ) (s : State) → Sized cfg s → k < events cfg → view (one k s) k ≡ f k (view s k)
  pub other : (k e : ℕ) (s : State) → e ≢ k → view (one k s) e ≡ view s e
  pub running : (k : ℕ) (s : State) → (one k s).board.running ≡ s.board.running

-- done for one event
pub one_own : {cfg : Configuration} {one : ℕ → State → State} {f : ℕ → View → View} → Acts cfg one f
    → (k : ℕ) (s : State) → Sized cfg s → (e : ℕ) → e < events cfg
    → view (one k s) e ≡ cond (eqb e k) (f e (view s e)) (view s e)
one_own {cfg} {one} {f} acts k s z e h = go (eqb e k) refl
  where
    go : (b : Bool) → eqb e k ≡ b → view (one k s) e ≡ cond b (f e (view s e)) (view s e)
    go true q = rw (← eqb-true e k q) (acts.own e s z h)
    go false q = acts.other k e s (eqb-false e k q)

-- ---- done for each event

module _ {cfg : Configuration} {one : ℕ → State → State} {f : ℕ → View → View} (acts : Acts cfg one f) where
  pub fold_sized : (n : ℕ) (s : State) → Sized cfg s → Sized cfg (for_below n one s)
  fold_sized n s z = for_below_keeps (Sized cfg) one n n (le_refl n) (λ k t h. acts.sized k t) s z

  pub fold_running : (n : ℕ) (s : State) → (for_below n one s).board.running ≡ s.board.running
  fold_running n s =
      for_below_keeps (λ t. t.board.running ≡ s.board.running) one n n (le_refl n)
      (λ k t h q. acts.running k t ∙ q) s refl

  pub fold_later : (n e : ℕ) (s : State) → n ≤ e → view (for_below n one s) e ≡ view s e
  fold_later n e s h =
      for_below_keeps (λ t. view t e ≡ view s e) one n n (le_refl n)
      (λ k t l q. acts.other k e t (λ (p : e ≡ k). omega arith) ∙ q) s refl

  pub fold_own : (n e : ℕ) (s : State) → Sized cfg s → n ≤ events cfg → e < n
      → view (for_below n one s) e ≡ f e (view s e)
  unfolding for_below
  fold_own zero e s z h l = absurd (not-suc-le-zero l)
  fold_own (suc n) e s z h l = go (eq-or-lt_of_le (le_of_suc-le-suc l)) (λ q. fold_own n e s z (omega arith) q)
    where
      go : (e ≡ n) ⊎ (e < n) → (e < n → view (for_below n one s) e ≡ f e (view s e))
          → view (one n (for_below n one s)) e ≡ f e (view s e)
      go (inl q) ih =
          rw q (acts.own n (for_below n one s) (fold_sized n s z) h ∙ ap (f n) (fold_later n n s (le_refl n)))
      go (inr q) ih = acts.other n e (for_below n one s) (λ (p : e ≡ n). omega arith) ∙ ih q

-- ---- steps made of steps

-- one after the other
pub acts_then : {cfg : Configuration} {one two : ℕ → State → State} {f g : ℕ → View → View} → Acts cfg one f
    → Acts cfg two g
    → Acts cfg (λ k s. two k (one k s)) (λ k v. g k (f k v))
acts_then {one = one} {g = g} a b = record {
  sized = λ k s z. b.sized k (one k s) (a.sized k s z);
  own = λ k s z h. b.own k (one k s) (a.sized k s z) h ∙ ap (g k) (a.own k s z h);
  other = λ k e s h. b.other k e (one k s) h ∙ a.other k e s h;
  running = λ k s. b.running k (one k s) ∙ a.running k s;
}

-- a step that goes by the event's own view
acts_given : {cfg : Configuration} (one : ℕ → View → ℕ → State → State) (f : ℕ → View → ℕ → View → View)
    → ((j : ℕ) (w : View) → Acts cfg (one j w) (f j w))
    → Acts cfg (λ k s. one k (view s k) k s) (λ k v. f k v k v)
acts_given one f a = record {
  sized = λ k s. (a k (view s k)).sized k s;
  own = λ k s. (a k (view s k)).own k s;
  other = λ k e s. (a k (view s k)).other k e s;
  running = λ k s. (a k (view s k)).running k s;
}

-- one of two, by a test of that view
acts_choice : {cfg : Configuration} {one two : ℕ → State → State} {f g : ℕ → View → View} (test : ℕ → View → Bool)
    → Acts cfg one f → Acts cfg two g
    → Acts cfg (λ k s. cond (test k (view s k)) (one k s) (two k s)) (λ k v. cond (test k v) (f k v) (g k v))
acts_choice {cfg} {one} {two} {f} {g} test a b =
    acts_given (λ j w k s. cond (test j w) (one k s) (two k s)) (λ j w k v. cond (test j w) (f k v) (g k v))
    (λ j w. go (test j w))
  where
    go : (t : Bool) → Acts cfg (λ k s. cond t (one k s) (two k s)) (λ k v. cond t (f k v) (g k v))
    go true = a
    go false = b

cond_same : {A : Type 0} (b : Bool) (x : A) → cond b x x ≡ x
cond_same true x = refl
cond_same false x = refl

-- one of two that do the same to it
acts_either : {cfg : Configuration} {one two : ℕ → State → State} {f : ℕ → View → View} (test : ℕ → View → Bool)
    → Acts cfg one f → Acts cfg two f
    → Acts cfg (λ k s. cond (test k (view s k)) (one k s) (two k s)) f
acts_either test a b = let c = acts_choice test a b in simp cond_same at c

-- what changes memory and the overflow flag alone
acts_aside : {cfg : Configuration} (memory : ℕ → State → List ℕ) (overflow : ℕ → State → Bool)
    → Acts cfg (λ k s. with_overflow (overflow k s) (with_memory (memory k s) s)) (λ k v. v)
acts_aside memory overflow =
    record {
      sized = λ k s. sized_same s _ refl refl;
      own = λ k s z h. refl;
      other = λ k e s h. refl;
      running = λ k s. refl;
    }

acts_not : {cfg : Configuration} → Acts cfg (λ k s. s) (λ k v. v)
acts_not = acts_aside _ _

-- only for those that pass a test
pub acts_cond : {cfg : Configuration} {one : ℕ → State → State} {f : ℕ → View → View} (p : ℕ → Bool) → Acts cfg one f
    → Acts cfg (λ k s. cond (p k) (one k s) s) (λ k v. cond (p k) (f k v) v)
acts_cond p a = acts_choice (λ k v. p k) a acts_not

module _ {cfg : Configuration} {one : ℕ → State → State} {f : ℕ → View → View} (acts : Acts cfg one f) (p : ℕ → Bool)
    (s : State) where
  pub those_sized : Sized cfg s → Sized cfg (for_those cfg p one s)
  unfolding for_those
  those_sized z = fold_sized (acts_cond p acts) (events cfg) s z

  pub those_running : (for_those cfg p one s).board.running ≡ s.board.running
  unfolding for_those
  those_running = fold_running (acts_cond p acts) (events cfg) s

  pub those_own : Sized cfg s → (e : ℕ) → e < events cfg
      → view (for_those cfg p one s) e ≡ cond (p e) (f e (view s e)) (view s e)
  unfolding for_those
  those_own z e h = fold_own (acts_cond p acts) (events cfg) e s z (le_refl (events cfg)) h

-- ---- what happens to an event

module _ (cfg : Configuration) where
  -- the bytes of a record after a token
  abbrev pub stored_after : Token → ℕ → Stored → Stored
  stored_after t k r = stored (step (limits_of cfg k) t (opened r))

  abbrev pub token_view : Token → ℕ → View → View
  token_view t k v = viewed (stored_after t k v.stored) v.number

  pub acts_happens : (t : Token) → Acts cfg (happens cfg t) (token_view t)
  unfolding happens
  acts_happens t = record {
    sized = λ k s z. record { records = stored_length k _ s.records ∙ z.records; debounce = z.debounce };
    own = λ k s z h. ap (λ (r : Stored). viewed r (D s k)) (stored_same k _ s.records (omega arith));
    other = λ k e s h. ap (λ (r : Stored). viewed r (D s e)) (stored_other k e _ s.records h);
    running = λ k s. refl;
  }

  -- D set to a number
  pub acts_d : (d : ℤ) → Acts cfg (λ k s. with_d k d s) (λ k v. viewed v.stored d)
  acts_d d = record {
    sized = λ k s z. record { records = z.records; debounce = length-set s.debounce k d ∙ z.debounce };
    own =
        λ k s z h. ap (λ (x : ℤ). viewed (stored_at k s.records) x)
        (get_or-set_same s.debounce k d (pos 0) (omega arith));
    other =
        λ k e s h. ap (λ (x : ℤ). viewed (stored_at e s.records) x) (get_or-set_other s.debounce k e d (pos 0) h);
    running = λ k s. refl;
  }

  pub acts_entry_leaves : Acts cfg (entry_leaves cfg) (λ k v. v)
  unfolding entry_leaves
  acts_entry_leaves = acts_aside _ _

  pub acts_memory_told : (frame : List ℕ) → Acts cfg (memory_told cfg frame) (λ k v. v)
  unfolding memory_told keeps
  acts_memory_told frame = acts_aside _ _

  pub acts_stops : Acts cfg (stops cfg) (λ k v. viewed (stored_after stop k v.stored) (pos 0))
  unfolding stops
  acts_stops =
      acts_then
      (acts_either (λ k v. ages_at_stop (limits_of cfg k) (opened v.stored))
      (acts_then (acts_happens stop) acts_entry_leaves) (acts_happens stop))
      (acts_d (pos 0))

  pub acts_clears : Acts cfg (clears cfg) (λ k v. viewed (stored_after clear k v.stored) (pos 0))
  unfolding clears
  acts_clears = acts_then (acts_then (acts_happens clear) acts_entry_leaves) (acts_d (pos 0))

-- ---- a verdict: every D stays, and no cycle starts or stops

-- t has the D of each event and the running cycles of s
pub record Beside (s t : State) : Type 0 where
  pub debounce : t.debounce ≡ s.debounce
  pub running : t.board.running ≡ s.board.running

module _ (cfg : Configuration) (frame : List ℕ) (k : ℕ) where
  beside_fails : (s : State) → Beside s (fails cfg frame k s)
  unfolding fails happens memory_told keeps
  beside_fails s =
      by (fresh_failure (record_of s k)) (Beside s) (λ q. record { debounce = refl; running = refl })
      (λ q. record { debounce = refl; running = refl })

  beside_qualifies : (w : Verdict) (s : State) → Beside s (qualifies cfg frame k w s)
  unfolding happens
  beside_qualifies None s = record { debounce = refl; running = refl }
  beside_qualifies Passed s = record { debounce = refl; running = refl }
  beside_qualifies Failed s = beside_fails s

  pub applied_running : (d : Debounced) (s : State) → (applied cfg frame k d s).board.running ≡ s.board.running
  unfolding applied
  applied_running d s = (beside_qualifies d.verdict (with_d k d.number s)).running

  pub applied_other_d : (d : Debounced) (s : State) (e : ℕ) → e ≢ k → D (applied cfg frame k d s) e ≡ D s e
  unfolding applied
  applied_other_d d s e h =
      ap (λ (l : List ℤ). get_or l e (pos 0)) (beside_qualifies d.verdict (with_d k d.number s)).debounce
      ∙ get_or-set_other s.debounce k e d.number (pos 0) h

pub ticks_running : (cfg : Configuration) (ms : ℕ) (frame : List ℕ) (p : ℕ → Bool) (s : State)
    → (for_those cfg p (ticks cfg ms frame) s).board.running ≡ s.board.running
unfolding for_those
ticks_running cfg ms frame p s =
    for_below_keeps (λ (t : State). t.board.running ≡ s.board.running)
    (λ k t. cond (p k) (ticks cfg ms frame k t) t) (events cfg) (events cfg) (le_refl (events cfg))
    (λ k t h q. by (p k) (λ (t : State). t.board.running ≡ s.board.running)
    (λ r. applied_running cfg frame k _ t ∙ q) (λ r. q))
    s refl
