-- After every call the stored record of each event is the record that its history makes.
use mathlib.Core.Path.{◌≡◌, refl, sym, ap, ◌∙◌}
use mathlib.Core.Logic.{◌⊎◌, inl, inr}
use mathlib.Core.Bool.{Bool, true, false, cond}
use mathlib.Core.List.{List, [], ◌∷◌, ◌++◌, append_assoc, append-nil}
use Prim.Native.Nat.{ℕ, zero, suc, ◌≤◌, ◌<◌}
use native.Mathlib.Nat.{eq-or-lt_of_le, not-suc-le-zero, le_of_suc-le-suc, le_refl}
use native.Mathlib.Omega.{arith}
use lib.Dec.{eqb}
use borrow.Author.Tests.{eqb-true, eq-eqb, ne_eqb}
use Rattle.history.specs.StatusByte.{fresh_failure}
use Rattle.history.specs.History.{Token, passed, failed, start, stop, clear, History, record_after}
use Rattle.manual.specs.declared.Verdict.{Verdict}
use Rattle.manual.specs.declared.Verdict.TheVariants.{None, Passed, Failed}
use Rattle.manual.specs.Configuration.{Configuration, events, limits_of}
use Rattle.manual.specs.State.{State, stored, stored_at, record_of, D, with_d}
use Rattle.manual.specs.Debouncing.{Debounced, reported, ticked}
use Rattle.manual.specs.Words.{for_below}
use Rattle.manual.specs.OneEvent.{happens, keeps, memory_told, fails, qualifies, for_those}
use Rattle.manual.specs.Calls.{fresh_state, applied, tick_moves, ticks, of_cycle, covers, cleared}
use Rattle.manual.specs.Answers.{Beside}
use Rattle.manual.specs.Sequences.{Call, result, only_if, outcome, tokens_at, carries_on}
use Rattle.manual.proofs.StateLaws.{opened_stored}
use Rattle.manual.proofs.WordsLaws.{by, for_below_keeps}
use Rattle.manual.proofs.OneEventLaws.{View, view, Sized, sized_same, Acts, one_own, those_sized, those_own}
use Rattle.manual.proofs.OneEventLaws.{token_view, acts_happens, acts_d, acts_stops, acts_clears, applied_other_d}
use Rattle.manual.proofs.FreshLaws.{fresh_sized, fresh_records_lem}
use Rattle.manual.proofs.SequencesLaws.{Histories, KeptWhenAccepted, call_keeps}

module _ (cfg : Configuration) where
  pub record Follows (s : State) (H : Histories) : Type 0 where
    pub sized : Sized cfg s
    pub records : (e : ℕ) → e < events cfg → stored_at e s.records ≡ stored (record_after (limits_of cfg e) (H e))

  -- the board and memory are no part of it
  follows_same : (s t : State) (H : Histories) → t.records ≡ s.records → t.debounce ≡ s.debounce → Follows s H
      → Follows t H
  follows_same s t H p q f =
      record { sized = sized_same s t p q f.sized; records = λ e h. ap (stored_at e) p ∙ f.records e h }

  -- f does to a record what the tokens of g do
  abbrev Counts : (ℕ → View → View) → (ℕ → View → List Token) → Type 0
  Counts f g =
      (e : ℕ) (v : View) (l : History) → v.stored ≡ stored (record_after (limits_of cfg e) l)
      → (f e v).stored ≡ stored (record_after (limits_of cfg e) (g e v ++ l))

  counts_token : (t : Token) → Counts (token_view cfg t) (λ e v. t ∷ [])
  unfolding record_after
  counts_token t e v l h = rw (h, opened_stored (record_after (limits_of cfg e) l))

  -- equal histories
  follows_equal : (s : State) (H K : Histories) → ((e : ℕ) → e < events cfg → K e ≡ H e) → Follows s H → Follows s K
  follows_equal s H K q f =
      record {
        sized = f.sized;
        records = λ e h. f.records e h ∙ ap (λ (l : History). stored (record_after (limits_of cfg e) l)) (sym (q e h));
      }

  module _ (s : State) (H : Histories) (follows : Follows s H) where
    -- a step on the events that pass a test
    follows_step : (p : ℕ → Bool) (f : ℕ → View → View) (g : ℕ → View → List Token) → Counts f g → (t : State)
        → Sized cfg t
        → ((e : ℕ) → e < events cfg → view t e ≡ cond (p e) (f e (view s e)) (view s e))
        → Follows t (λ e. only_if (p e) (g e (view s e)) ++ H e)
    follows_step p f g counts t z own =
        record { sized = z; records = λ e h. ap (λ (v : View). v.stored) (own e h) ∙ go (p e) e h }
      where
        go : (b : Bool) (e : ℕ) → e < events cfg
            → (cond b (f e (view s e)) (view s e)).stored
            ≡ stored (record_after (limits_of cfg e) (only_if b (g e (view s e)) ++ H e))
        go true e h = counts e (view s e) (H e) (follows.records e h)
        go false e h = follows.records e h

    follows_those : {one : ℕ → State → State} {f : ℕ → View → View} → Acts cfg one f → (g : ℕ → View → List Token)
        → Counts f g → (p : ℕ → Bool)
        → Follows (for_those cfg p one s) (λ e. only_if (p e) (g e (view s e)) ++ H e)
    follows_those {f = f} acts g counts p =
        follows_step p f g counts _ (those_sized acts p s follows.sized) (those_own acts p s follows.sized)

    follows_one : {one : ℕ → State → State} {f : ℕ → View → View} → Acts cfg one f → (g : ℕ → View → List Token)
        → Counts f g → (k : ℕ)
        → Follows (one k s) (λ e. only_if (eqb e k) (g e (view s e)) ++ H e)
    follows_one {f = f} acts g counts k =
        follows_step (λ e. eqb e k) f g counts _ (acts.sized k s follows.sized) (one_own acts k s follows.sized)

  -- ---- one part of a report or a tick

  -- the part of event k gives event e
  abbrev part_gives : ℕ → Verdict → ℕ → List Token
  part_gives k w e = only_if (eqb e k) (result w)

  nothing : (b : Bool) (l : History) → only_if b [] ++ l ≡ l
  nothing true l = refl
  nothing false l = refl

  module _ (frame : List ℕ) (k : ℕ) where
    token_follows : (t : Token) (s : State) (H : Histories) → Follows s H
        → Follows (happens cfg t k s) (λ e. only_if (eqb e k) (t ∷ []) ++ H e)
    token_follows t s H f = follows_one s H f (acts_happens cfg t) (λ e v. t ∷ []) (counts_token t) k

    fails_follows : (s : State) (H : Histories) → Follows s H
        → Follows (fails cfg frame k s) (λ e. part_gives k Failed e ++ H e)
    unfolding fails memory_told keeps
    fails_follows s H f =
        let f' = token_follows failed s H f in
        by (fresh_failure (record_of s k)) (λ (u : State). Follows u (λ e. part_gives k Failed e ++ H e))
        (λ q. follows_same _ _ _ refl refl f') (λ q. f')

    qualifies_follows : (w : Verdict) (s : State) (H : Histories) → Follows s H
        → Follows (qualifies cfg frame k w s) (λ e. part_gives k w e ++ H e)
    qualifies_follows None s H f = follows_equal s H _ (λ e h. nothing (eqb e k) (H e)) f
    qualifies_follows Passed s H f = token_follows passed s H f
    qualifies_follows Failed s H f = fails_follows s H f

    applied_follows : (d : Debounced) (s : State) (H : Histories) → Follows s H
        → Follows (applied cfg frame k d s) (λ e. part_gives k d.verdict e ++ H e)
    unfolding applied
    applied_follows d s H f =
        qualifies_follows d.verdict (with_d k d.number s) H
        (record { sized = (acts_d cfg d.number).sized k s f.sized; records = f.records })

  -- ---- the parts of a tick, one after the other

  module _ (ms : ℕ) (frame : List ℕ) (present : ℕ) (s : State) where
    abbrev moves_here : ℕ → Bool
    moves_here = tick_moves cfg present s.board

    abbrev ticked_below : ℕ → State
    ticked_below n = for_below n (λ e u. cond (moves_here e) (ticks cfg ms frame e u) u) s

    -- what the parts of the events below n give event e, the newest first
    unfoldable parts_below : ℕ → ℕ → List Token
    parts_below zero e = []
    parts_below (suc n) e =
        only_if (moves_here n) (part_gives n (ticked cfg n ms (D (ticked_below n) n)).verdict e) ++ parts_below n e

    below_follows : (H : Histories) → Follows s H → (n : ℕ) → Follows (ticked_below n) (λ e. parts_below n e ++ H e)
    unfolding for_below parts_below
    below_follows H f zero = f
    below_follows H f (suc n) = go (moves_here n) (below_follows H f n)
      where
        go : (b : Bool) → Follows (ticked_below n) (λ e. parts_below n e ++ H e)
            → Follows (cond b (ticks cfg ms frame n (ticked_below n)) (ticked_below n))
            (λ e. (only_if b (part_gives n (ticked cfg n ms (D (ticked_below n) n)).verdict e) ++ parts_below n e)
            ++ H e)
        go true ih =
            follows_equal _ _ _
            (λ e h. append_assoc (part_gives n (ticked cfg n ms (D (ticked_below n) n)).verdict e)
            (parts_below n e) (H e))
            (applied_follows frame n (ticked cfg n ms (D (ticked_below n) n)) (ticked_below n) _ ih)
        go false ih = ih

    -- no part of another event moves D
    number_waits : (n e : ℕ) → n ≤ e → D (ticked_below n) e ≡ D s e
    number_waits n e h =
        for_below_keeps (λ (u : State). D u e ≡ D s e) (λ e u. cond (moves_here e) (ticks cfg ms frame e u) u) n n
        (le_refl n)
        (λ k u l q. by (moves_here k) (λ (u : State). D u e ≡ D s e)
        (λ r. applied_other_d cfg frame k _ u e (λ (p : e ≡ k). omega arith) ∙ q) (λ r. q))
        s refl

    none_yet : (n e : ℕ) → n ≤ e → parts_below n e ≡ []
    unfolding parts_below
    none_yet zero e h = refl
    none_yet (suc n) e h =
        rw (ne_eqb e n (λ (p : e ≡ n). omega arith), none_yet n e (omega arith)) (nothing (moves_here n) [])

    -- so each event gets its own part's result, by its D at the start
    parts_are : (n e : ℕ) → e < n → parts_below n e ≡ only_if (moves_here e) (result (ticked cfg e ms (D s e)).verdict)
    unfolding parts_below
    parts_are zero e h = absurd (not-suc-le-zero h)
    parts_are (suc n) e h = go (eq-or-lt_of_le (le_of_suc-le-suc h)) (λ l. parts_are n e l)
      where
        go : (e ≡ n) ⊎ (e < n)
            → (e < n → parts_below n e ≡ only_if (moves_here e) (result (ticked cfg e ms (D s e)).verdict))
            → only_if (moves_here n) (part_gives n (ticked cfg n ms (D (ticked_below n) n)).verdict e) ++ parts_below n e
            ≡ only_if (moves_here e) (result (ticked cfg e ms (D s e)).verdict)
        go (inl q) ih = rw (q, eq-eqb n n refl, none_yet n n (le_refl n), number_waits n n (le_refl n)) (append-nil _)
        go (inr l) ih = rw (ne_eqb e n (λ (p : e ≡ n). omega arith)) (nothing (moves_here n) (parts_below n e) ∙ ih l)

  module _ (b : Beside) (s : State) (H : Histories) (follows : Follows s H) where
    follows_accepted : KeptWhenAccepted cfg Follows b s H
    unfolding cleared for_those
    follows_accepted = record {
      report =
          λ k code frame present z. follows_equal _ _ _ (λ e h. ap (λ (l : List Token). l ++ H e) (own_verdict k e code))
          (applied_follows frame k (reported cfg k code (D s k)) s H follows);
      tick =
          λ ms frame present z. follows_equal _ _ _
          (λ e h. ap (λ (l : List Token). l ++ H e) (sym (parts_are ms frame present s (events cfg) e h)))
          (below_follows ms frame present s H follows (events cfg));
      start =
          λ c z. follows_same _ _ _ refl refl
          (follows_those s H follows (acts_happens cfg start) (λ e v. start ∷ []) (counts_token start) (of_cycle cfg c));
      stop =
          λ c z. follows_same _ _ _ refl refl
          (follows_those s H follows (acts_stops cfg) (λ e v. stop ∷ []) (counts_token stop) (of_cycle cfg c));
      clear =
          λ code z. follows_same _ _ _ refl refl
          (follows_those s H follows (acts_clears cfg) (λ e v. clear ∷ []) (counts_token clear) (covers cfg code));
    }
      where
        own_verdict : (k e code : ℕ)
            → only_if (eqb e k) (result (reported cfg e code (D s e)).verdict)
            ≡ part_gives k (reported cfg k code (D s k)).verdict e
        own_verdict k e code = go (eqb e k) refl
          where
            go : (b : Bool) → eqb e k ≡ b
                → only_if b (result (reported cfg e code (D s e)).verdict)
                ≡ only_if b (result (reported cfg k code (D s k)).verdict)
            go true q = rw (eqb-true e k q)
            go false q = refl

  pub call_follows : (c : Call) (b : Beside) (s : State) (H : Histories) → carries_on cfg c b s ≡ true → Follows s H
      → Follows (outcome cfg c b s).state (λ e. tokens_at cfg c b s e ++ H e)
  call_follows c b s H g f = call_keeps cfg Follows b s H f (follows_accepted b s H f) c g

  pub fresh_follows : Follows (fresh_state cfg) (λ e. [])
  unfolding record_after
  fresh_follows = record { sized = fresh_sized cfg; records = fresh_records_lem cfg }
