-- The calls that the program makes leave the records block as long as they find it, and so does the fresh state in blocks
-- of the exact lengths.
use mathlib.Core.Path.{◌≡◌, refl, sym, ap, ◌∙◌}
use mathlib.Core.Logic.{inl, inr}
use mathlib.Core.Bool.{Bool, true, not, ◌&&◌}
use mathlib.Core.List.{List, [], ◌∷◌}
use Prim.Native.Nat.{ℕ, ◌*◌}
use lib.Dec.{eqb}
use lib.ListN.{length}
use Rattle.manual.specs.Configuration.{Configuration, events, config_ok}
use Rattle.manual.specs.State.{State, record_width}
use Rattle.manual.specs.WellFormed.{well_formed}
use Rattle.manual.specs.Answers.{Beside, Outcome, Answered, Rule, ◌if◌, first_that_applies, judged, leaves}
use Rattle.manual.specs.Calls.{fresh_rules, fresh}
use Rattle.manual.specs.Calls.{report_rules, tick_rules, start_rules, stop_rules, clear_rules}
use Rattle.manual.specs.Conditions.{all_present}
use Rattle.manual.specs.Sequences as sequences
use Rattle.manual.specs.Sequences.{outcome, carries_on}
use Rattle.manual.proofs.WordsLaws.{by}
use Rattle.manual.proofs.FreshLaws.{fresh_sized}
use Rattle.manual.proofs.AnswersLaws.{numbered, none_applies, three_passed}
use Rattle.manual.proofs.SequencesLaws.{Does, a_report, a_tick, a_start, a_stop, a_clear}
use Rattle.manual.proofs.SequencesLaws.{a_request, a_reading, Either, call_does}
use Rattle.manual.proofs.StaysWellFormed.{stays_well_formed}
use Rattle.manual.proofs.WellFormedLaws.{state_tells}
use Rattle.replay_step.specs.declared.Call.{Call}
use Rattle.replay_step.specs.declared.Call.TheVariants.{Report, Start, Stop, Tick, Clear}
use Rattle.replay_step.specs.Turn.{call_is, made, made_by_call, Made}

module _ (cfg : Configuration) where
  formed : (fits : Bool) (rules : List Rule) (s : State)
      → first_that_applies ((2 if not (config_ok cfg)) ∷ (3 if not (fits && well_formed cfg s)) ∷ rules) ≡ 0
      → numbered rules ≡ true → well_formed cfg s ≡ true
  formed fits rules s z n =
      (three_passed fits (well_formed cfg s)
      (none_applies ((2 if not (config_ok cfg)) ∷ (3 if not (fits && well_formed cfg s)) ∷ rules) z n 1)
      ).1

  same_length : (s t : State) → well_formed cfg s ≡ true → well_formed cfg t ≡ true
      → length t.records ≡ length s.records
  same_length s t w v = (state_tells cfg t v).lengths.records ∙ sym (state_tells cfg s w).lengths.records

  done_keeps : (c : sequences.Call) (b : Beside) (s t : State) → Does cfg b s c t
      → (well_formed cfg s ≡ true → well_formed cfg t ≡ true) → length t.records ≡ length s.records
  unfolding report_rules tick_rules start_rules stop_rules clear_rules
  done_keeps _ b s t (a_report k code frame present z) v = let w = formed _ _ s z refl in same_length s t w (v w)
  done_keeps _ b s t (a_tick ms frame present z) v = let w = formed _ _ s z refl in same_length s t w (v w)
  done_keeps _ b s t (a_start c z) v = let w = formed true _ s z refl in same_length s t w (v w)
  done_keeps _ b s t (a_stop c z) v = let w = formed _ _ s z refl in same_length s t w (v w)
  done_keeps _ b s t (a_clear code z) v = let w = formed _ _ s z refl in same_length s t w (v w)
  done_keeps _ b s t (a_request bytes a z) v = let w = formed _ _ s z refl in same_length s t w (v w)
  done_keeps _ b s t (a_reading c r) v = refl

  keeps_length : (c : sequences.Call) (b : Beside) (s : State) → carries_on cfg c b s ≡ true
      → length (outcome cfg c b s).state.records ≡ length s.records
  keeps_length c b s g = go (call_does cfg c b s g)
    where
      go : Either (Does cfg b s c) s (outcome cfg c b s) → length (outcome cfg c b s).state.records ≡ length s.records
      go (inl (n, p)) = ap (λ (t : State). length t.records) p
      go (inr (z, d)) = done_keeps c b s _ d (stays_well_formed cfg c b s)

  call_keeps : (frame : List ℕ) (call : Call) (b : Beside) (s : State)
      → length (outcome cfg (call_is frame call) b s).state.records ≡ length s.records
  call_keeps frame (Report e code) b s = keeps_length (sequences.Report e.0 code frame all_present) b s refl
  call_keeps frame (Start cycle) b s = keeps_length (sequences.Start cycle) b s refl
  call_keeps frame (Stop cycle) b s = keeps_length (sequences.Stop cycle) b s refl
  call_keeps frame (Tick ms) b s = keeps_length (sequences.Tick ms frame all_present) b s refl
  call_keeps frame (Clear code) b s = keeps_length (sequences.Clear code) b s refl

  pub made_keeps : (frame : List ℕ) (call : Call) (b : Beside) (s : State) {answer : ℕ} {t : State}
      → made answer t ≡ made_by_call (outcome cfg (call_is frame call) b s) → length t.records ≡ length s.records
  made_keeps frame call b s e = ap (λ (m : Made). length m.state.records) e ∙ call_keeps frame call b s

  fresh_length : (b : Beside) (s : State) → length s.records ≡ record_width * events cfg
      → length (fresh cfg b s).state.records ≡ record_width * events cfg
  unfolding fresh judged
  fresh_length b s h =
      by (eqb (first_that_applies (fresh_rules cfg b s)) 0)
      (λ (o : Outcome). length o.state.records ≡ record_width * events cfg)
      (λ e. (fresh_sized cfg).records) (λ e. h)

  pub fresh_keeps : (a : Answered) (b x : Beside) (s t : State) → leaves a [] x t ≡ fresh cfg b s
      → length s.records ≡ record_width * events cfg → length t.records ≡ record_width * events cfg
  fresh_keeps a b x s t e h = ap (λ (o : Outcome). length o.state.records) e ∙ fresh_length b s h
