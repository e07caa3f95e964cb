-- Condition 3's sequences, where each call is lent the counts that the one before left, are among the tallied ones,
-- each with its own state.
use mathlib.Core.Path.{◌≡◌, refl, sym, subst}
use mathlib.Core.Bool.{true, false}
use mathlib.Core.List.{List, ◌++◌}
use Prim.Native.Nat.{ℕ, ◌+◌}
use lib.ListN.{length, get_or}
use Rattle.manual.specs.Configuration.{Configuration}
use Rattle.manual.specs.State.{State}
use Rattle.manual.specs.WellFormed.{entries}
use Rattle.manual.specs.Answers.{Beside, lent_both}
use Rattle.manual.specs.Image.{save}
use Rattle.manual.specs.Sequences.{Call, Fresh, Restore, saved_image, outcome, log_at, carries_on, Reached}
use Rattle.manual.specs.Tallies.{Tally, tally_of, counting, aside, after, Tallied, begun, called, passed_by}
use Rattle.manual.specs.Tallies.{Leaves, begun_fresh, after_call, after_aside, after_restore}
use Rattle.manual.proofs.SequencesLaws.{Histories}
use Rattle.manual.proofs.AdmittedIsPresentAndLeft.{admitted_is_present_and_left}

module _ (cfg : Configuration) where
  -- it is tallied, and of the state that the sequence leads to
  pub record Among (s : State) (t : Tally) : Type 0 where
    pub tallied : Tallied cfg t
    pub state : t.state ≡ s

  goes : (c : Call) (b : Beside) (s : State) (t : Tally) → carries_on cfg c b s ≡ true → b.counts ≡ t.counts → Among s t
      → Among (outcome cfg c b s).state (tally_of (outcome cfg c b s) (log_at cfg c b s ++ t.log))
  goes c b s t g left a = record { tallied = rw g at next; state = refl }
    where
      next : Tallied cfg (after cfg c b s t.log)
      next =
          subst (λ (u : State). Tallied cfg (after cfg c b u t.log)) a.state
          (subst (λ (l : List ℕ). Tallied cfg (after cfg c (lent_both b.room l) t.state t.log)) (sym left)
          (called a.tallied c b.room))

  goes_aside : (c : Call) (b : Beside) (s : State) (t : Tally) → counting cfg c b s ≡ false → Among s t
      → Among (outcome cfg c b s).state (aside cfg c b s t)
  goes_aside c b s t f a = record { tallied = next (sym a.state) f; state = refl }
    where
      next : {u : State} → u ≡ t.state → counting cfg c b u ≡ false → Tallied cfg (aside cfg c b u t)
      next q h =
          subst (λ (v : State). Tallied cfg (aside cfg c b v t)) (sym q)
          (passed_by a.tallied c b (subst (λ (v : State). counting cfg c b v ≡ false) q h))

  pub sequences_are_tallied : {s : State} {H : Histories} {r : Reached cfg s H} {t : Tally} → Leaves cfg s H r t
      → Among s t
  sequences_are_tallied (begun_fresh b s z) = record { tallied = begun Fresh b s (rw z); state = refl }
  sequences_are_tallied (after_call {s} {t = t} l c b g left) = goes c b s t g left (sequences_are_tallied l)
  sequences_are_tallied (after_aside {s} {t = t} l c b g f) = goes_aside c b s t f (sequences_are_tallied l)
  sequences_are_tallied (after_restore {s} l b z b' s' a) =
      record { tallied = begun (Restore (saved_image (save cfg b s))) b' s' (rw a); state = refl }

  -- "Over condition 3's sequences, admitted equals entries present plus pushed out plus aged plus cleared", of the
  -- sequence's own state
  pub admitted_in_sequence : {s : State} {H : Histories} {r : Reached cfg s H} {t : Tally} → Leaves cfg s H r t
      → get_or t.counts 0 0
      ≡ length (entries cfg s) + get_or t.counts 1 0 + get_or t.counts 2 0 + get_or t.counts 3 0
  admitted_in_sequence {t = t} l =
      let a = sequences_are_tallied l in
      subst
      (λ (u : State). get_or t.counts 0 0
      ≡ length (entries cfg u) + get_or t.counts 1 0 + get_or t.counts 2 0 + get_or t.counts 3 0)
      a.state (admitted_is_present_and_left cfg a.tallied)
