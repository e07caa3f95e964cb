-- Laws of specs/Story.antt: a step of the replay program is a turn; turns in a row, what they count and how far they
-- reach; the fresh state.
use mathlib.Core.Path.{◌≡◌, refl, sym, ap, subst, ◌∙◌}
use mathlib.Core.Bool.{Bool, true, false, not, cond}
use mathlib.Core.List.{List, []}
use Prim.Native.Nat.{ℕ, zero, suc, ◌+◌, ◌*◌, ◌≤◌}
use native.Mathlib.Numerals.{add-one}
use native.Mathlib.Omega.{arith}
use lib.Dec.{eqb, leb}
use lib.IntN.{ℤ}
use lib.ListN.{length, take}
use borrow.Author.Tests.{leb-true, leb-false}
use Rattle.manual.specs.declared.Board.{Board}
use Rattle.manual.specs.Configuration.{Configuration, events, places, entry_frames}
use Rattle.manual.specs.State.{State, lent, record_width}
use Rattle.manual.specs.Memory.{memory_length}
use Rattle.manual.specs.WellFormed.{well_formed}
use Rattle.manual.specs.Answers.{Beside, Outcome, Answered, done, first_that_applies, leaves}
use Rattle.manual.specs.Calls.{fresh_state, fresh_rules, fresh}
use Rattle.manual.proofs.WordsLaws.{clash, by}
use Rattle.manual.proofs.AnswersLaws.{goes_through}
use Rattle.manual.proofs.WellFormedLaws.{lengths_told}
use Rattle.manual.proofs.StaysWellFormed.{stays_well_formed, fresh_makes_well_formed}
use Rattle.replay_step.specs.declared.Asked.{Asked}
use Rattle.replay_step.specs.declared.Asked.TheVariants.{Makes, Nothing}
use Rattle.replay_step.specs.declared.Stepped.{Stepped}
use Rattle.replay_step.specs.declared.Stepped.TheVariants.{Line, End, BadInput}
use Rattle.replay_step.specs.Asked.{asked_at}
use Rattle.replay_step.specs.Turn.{lent_each, made, Turned, turned, call_is, zero_frame, lined, turn_by, turn}
use Rattle.replay_step.specs.Turn.{Buffers}
use Rattle.replay_step.proofs.TurnLaws.{blocks_within}
use Rattle.replay_step.proofs.BeginningLaws.{length_of_front}
use Rattle.replay_step.proofs.EachCallTakesAByte.{AskedAhead, call_ahead}
use Rattle.page_story.specs.Story.{Progress, at_first, after_call, ended, makes, after_asked, one_turn, carries_on}
use Rattle.page_story.specs.Story.{turns, Blocks}

-- ---- a step of the replay program

abbrev pub by_stepped : Progress → Stepped → State → Progress
by_stepped p (Line size answer next) s = after_call p next (made answer s)
by_stepped p End s = ended p s false
by_stepped p BadInput s = ended p s true

module _ (cfg : Configuration) (log : List ℕ) where
  asked_turned : (p : Progress) (buffer : List ℕ) (a : Asked)
      → by_stepped p (turn_by cfg buffer p.state a).stepped (turn_by cfg buffer p.state a).state
      ≡ after_asked cfg log p a
  unfolding lined
  asked_turned p buffer (Makes call next) = refl
  asked_turned p buffer Nothing = refl
  asked_turned p buffer Asked.Unreadable = refl

  pub step_is_turn : (p : Progress) (buffer : List ℕ) (x : Stepped) {buffer' : List ℕ} {s' : State}
      → turned x buffer' s' ≡ turn cfg p.at log buffer p.state → by_stepped p x s' ≡ one_turn cfg log p
  unfolding turn one_turn
  step_is_turn p buffer x e =
      ap (λ (t : Turned). by_stepped p t.stepped t.state) e ∙ asked_turned p buffer (asked_at p.at log)

  -- ---- turns in a row

  pub one_more : (p : Progress) (k : ℕ) → (turns cfg log k p).more ≡ true
      → turns cfg log (suc k) p ≡ one_turn cfg log (turns cfg log k p)
  unfolding turns carries_on
  one_more p k m = ap (λ (b : Bool). cond b (one_turn cfg log (turns cfg log k p)) (turns cfg log k p)) m

  pub no_more : (p : Progress) (k n : ℕ) → k ≤ n → (turns cfg log k p).more ≡ false
      → turns cfg log n p ≡ turns cfg log k p
  unfolding turns carries_on
  no_more p k zero h m = ap (λ (j : ℕ). turns cfg log j p) (let e : 0 ≡ k = omega arith in e)
  no_more p k (suc n) h m = go (leb k n) refl (λ l. no_more p k n l m)
    where
      go : (b : Bool) → leb k n ≡ b → (k ≤ n → turns cfg log n p ≡ turns cfg log k p)
          → turns cfg log (suc n) p ≡ turns cfg log k p
      go true q ih = ap (carries_on cfg log) (ih (leb-true k n q)) ∙ rw m
      go false q ih =
          ap (λ (j : ℕ). turns cfg log j p)
          (let l = leb-false k n q in let e : suc n ≡ k = omega arith in e)

  pub none_yet : (p : Progress) → p ≡ turns cfg log 0 p
  unfolding turns
  none_yet p = refl

  pub turn_more : (p : Progress) (k : ℕ) {now next : Progress} → now ≡ turns cfg log k p → now.more ≡ true
      → next ≡ one_turn cfg log now → next ≡ turns cfg log (k + 1) p
  turn_more p k e m s =
      rw add-one (s ∙ ap (one_turn cfg log) e ∙ sym (one_more p k (sym (ap (λ (x : Progress). x.more) e) ∙ m)))

  pub turn_rest : (p : Progress) (k n : ℕ) {now : Progress} → k ≤ n → now ≡ turns cfg log k p → now.more ≡ false
      → now ≡ turns cfg log n p
  turn_rest p k n h e m = e ∙ sym (no_more p k n h (sym (ap (λ (x : Progress). x.more) e) ∙ m))

  -- ---- how many calls they make

  -- no more calls than turns, no more refused ones than calls
  pub record Counted (k : ℕ) (p : Progress) : Type 0 where
    pub made_few : p.made ≤ k
    pub refused_few : p.refused ≤ p.made

  turn_counts : {k : ℕ} {p : Progress} → Counted k p → (a : Asked) → Counted (suc k) (after_asked cfg log p a)
  turn_counts {p = p} r (Makes call next) =
      record {
        made_few = omega (arith, r.made_few);
        refused_few =
            by (not (eqb (makes cfg call p.state).answer 0))
            (λ (n : ℕ). n ≤ p.made + 1) (λ e. omega (arith, r.refused_few)) (λ e. omega (arith, r.refused_few));
      }
  turn_counts r Nothing = record { made_few = omega (arith, r.made_few); refused_few = r.refused_few }
  turn_counts r Asked.Unreadable = record { made_few = omega (arith, r.made_few); refused_few = r.refused_few }

  more_counts : {k : ℕ} (p : Progress) → Counted k p → Counted (suc k) (carries_on cfg log p)
  unfolding carries_on one_turn
  more_counts {k} p r =
      by p.more (Counted (suc k)) (λ m. turn_counts r (asked_at p.at log))
      (λ m. record { made_few = omega (arith, r.made_few); refused_few = r.refused_few })

  turns_count : (s : State) (at k : ℕ) → Counted k (turns cfg log k (at_first s at))
  unfolding turns
  turns_count s at zero = record { made_few = omega arith; refused_few = omega arith }
  turns_count s at (suc k) = more_counts (turns cfg log k (at_first s at)) (turns_count s at k)

  pub counted : (s : State) (at k : ℕ) {now : Progress} → now ≡ turns cfg log k (at_first s at) → Counted k now
  counted s at k e = subst (Counted k) (sym e) (turns_count s at k)

  -- ---- how far they reach

  -- after k turns from `at` on: a place within the log, k bytes further where a further call may follow
  pub record Reaches (at k : ℕ) (p : Progress) : Type 0 where
    pub within : p.at ≤ length log
    pub further : p.more ≡ true → at + k ≤ p.at

  turn_reaches : {at k : ℕ} {p : Progress} → Reaches at k p → p.more ≡ true → (a : Asked)
      → AskedAhead p.at log a → Reaches at (suc k) (after_asked cfg log p a)
  turn_reaches r m (Makes call next) h =
      record { within = h.within; further = λ e. omega (arith, r.further m, h.behind) }
  turn_reaches r m Nothing h = record { within = r.within; further = λ e. clash true refl (sym e) }
  turn_reaches r m Asked.Unreadable h = record { within = r.within; further = λ e. clash true refl (sym e) }

  more_reaches : {at k : ℕ} (p : Progress) → Reaches at k p → Reaches at (suc k) (carries_on cfg log p)
  unfolding carries_on one_turn
  more_reaches {at} {k} p r =
      by p.more (Reaches at (suc k)) (λ m. turn_reaches r m (asked_at p.at log) (call_ahead p.at log))
      (λ m. record { within = r.within; further = λ e. clash p.more e m })

  turns_reach : (s : State) (at k : ℕ) → at ≤ length log → Reaches at k (turns cfg log k (at_first s at))
  unfolding turns
  turns_reach s at zero h = record { within = h; further = λ e. omega arith }
  turns_reach s at (suc k) h = more_reaches (turns cfg log k (at_first s at)) (turns_reach s at k h)

  pub reached : (s : State) (at k : ℕ) {now : Progress} → now ≡ turns cfg log k (at_first s at) → at ≤ length log
      → Reaches at k now
  reached s at k e h = subst (Reaches at k) (sym e) (turns_reach s at k h)

  -- ---- the state stays well formed

  turn_formed : (p : Progress) (a : Asked) → well_formed cfg p.state ≡ true
      → well_formed cfg (after_asked cfg log p a).state ≡ true
  turn_formed p (Makes call next) w = stays_well_formed cfg (call_is (zero_frame cfg) call) lent_each p.state w
  turn_formed p Nothing w = w
  turn_formed p Asked.Unreadable w = w

  turns_formed : (s : State) (at k : ℕ) → well_formed cfg s ≡ true
      → well_formed cfg (turns cfg log k (at_first s at)).state ≡ true
  unfolding turns carries_on one_turn
  turns_formed s at zero w = w
  turns_formed s at (suc k) w = go (turns cfg log k (at_first s at)) (turns_formed s at k w)
    where
      go : (p : Progress) → well_formed cfg p.state ≡ true → well_formed cfg (carries_on cfg log p).state ≡ true
      go p f =
          by p.more (λ (x : Progress). well_formed cfg x.state ≡ true)
          (λ m. turn_formed p (asked_at p.at log) f) (λ m. f)

  pub formed : (s : State) (at k : ℕ) {now : Progress} → now ≡ turns cfg log k (at_first s at) → well_formed cfg s ≡ true
      → well_formed cfg now.state ≡ true
  formed s at k e w = subst (λ (p : Progress). well_formed cfg p.state ≡ true) (sym e) (turns_formed s at k w)

-- ---- the fresh state

-- the front parts of the program's buffers
pub front_blocks : (cfg : Configuration) {records : List ℕ} {debounce : List ℤ} {memory : List ℕ} {n m : ℕ}
    → Buffers cfg records debounce memory → n ≡ events cfg → m ≡ memory_length (places cfg) (entry_frames cfg)
    → Blocks cfg (take (record_width * n) records) (take n debounce) (take m memory)
front_blocks cfg b e q =
    let w = blocks_within cfg b e q in
    record {
      accepted = b.accepted;
      fit = λ board. lengths_told cfg _ (record {
        records = sym (length_of_front _ _ w.records_within) ∙ ap (λ (k : ℕ). record_width * k) e;
        debounce = sym (length_of_front _ _ w.numbers_within) ∙ e;
        memory = sym (length_of_front _ _ w.memory_within) ∙ q;
      });
    }

module _ (cfg : Configuration) {records : List ℕ} {debounce : List ℤ} {memory : List ℕ}
    (b : Blocks cfg records debounce memory) (board : Board) where
  fresh_accepts : first_that_applies (fresh_rules cfg lent_each (lent records debounce memory board)) ≡ 0
  unfolding fresh_rules first_that_applies
  fresh_accepts = rw (b.accepted, b.fit board)

  fresh_goes : fresh cfg lent_each (lent records debounce memory board) ≡ done lent_each (fresh_state cfg)
  unfolding fresh
  fresh_goes = goes_through _ _ _ _ fresh_accepts

  pub fresh_is : (a : Answered) {x : Beside} {s' : State}
      → leaves a [] x s' ≡ fresh cfg lent_each (lent records debounce memory board) → s' ≡ fresh_state cfg
  fresh_is a e = ap (λ (o : Outcome). o.state) (e ∙ fresh_goes)

  pub fresh_formed : well_formed cfg (fresh_state cfg) ≡ true
  fresh_formed =
      rw fresh_goes at
      (fresh_makes_well_formed cfg lent_each (lent records debounce memory board)
      (ap (λ (o : Outcome). o.answer) fresh_goes))
