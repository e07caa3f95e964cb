-- A diagnostic request is accepted exactly where the configuration and the state are good, five counts are lent, the
-- room holds 3 bytes, the request is not empty and, where it clears, carries no count past the limit. In a room of
-- fewer than 3 bytes it is refused with 7, also where it is empty; an empty one in a room of 3 bytes with 1. None but
-- a clearing one is refused with 12.
use mathlib.Core.Path.{◌≡◌, refl, sym, ◌∙◌}
use mathlib.Core.Logic.{◌≢◌, ◌↔◌}
use mathlib.Core.Bool.{Bool, true, false}
use mathlib.Core.List.{List, [], ◌∷◌}
use Prim.Native.Nat.{ℕ, ◌≤◌, ◌<◌}
use native.Mathlib.Omega.{arith}
use lib.ListN.{length}
use borrow.Author.Tests.{lt-ltb, le-ltb}
use Rattle.manual.specs.Configuration.{Configuration, config_ok}
use Rattle.manual.specs.State.{State}
use Rattle.manual.specs.WellFormed.{well_formed}
use Rattle.manual.specs.Answers.{Beside, ◌if◌, first_that_applies}
use Rattle.manual.specs.Counts.{counts_fit}
use Rattle.manual.specs.Sequences.{Request}
use Rattle.manual.specs.Diagnostics.{asks_clear, request_rules, request_reply}
use Rattle.manual.specs.Replies.{Clearing, Accepted}
use Rattle.manual.proofs.AnswerIsFirstThatApplies.{answer_is}
use Rattle.manual.proofs.RepliesLaws.{clearing, accepted_tells, accepted_told}

no_twelve : (a b c d : Bool)
    → first_that_applies ((2 if a) ∷ (3 if b) ∷ (7 if c) ∷ (1 if d) ∷ (12 if false) ∷ []) ≢ 12
unfolding first_that_applies
no_twelve true b c d e = omega arith
no_twelve false true c d e = omega arith
no_twelve false false true d e = omega arith
no_twelve false false false true e = omega arith
no_twelve false false false false e = omega arith

module _ (cfg : Configuration) (request : List ℕ) (b : Beside) (s : State) where
  pub accepted_exactly : ((request_reply cfg request b s).answer ≡ 0) ↔ Accepted cfg request s b
  accepted_exactly = (accepted_tells cfg request b s, accepted_told cfg request b s)

  module _ (configured : config_ok cfg ≡ true) (formed : well_formed cfg s ≡ true)
      (five : counts_fit b.counts ≡ true) where
    seven : length b.room < 3 → first_that_applies (request_rules cfg request b s) ≡ 7
    unfolding request_rules first_that_applies
    seven h = rw (configured, five, formed, lt-ltb _ _ h)

    one : 3 ≤ length b.room → length request ≡ 0 → first_that_applies (request_rules cfg request b s) ≡ 1
    unfolding request_rules first_that_applies
    one h e = rw (configured, five, formed, le-ltb _ _ h, e)

    pub room_first : length b.room < 3 → (request_reply cfg request b s).answer ≡ 7
    room_first h = answer_is cfg (Request request) b s ∙ seven h

    pub then_empty : 3 ≤ length b.room → length request ≡ 0 → (request_reply cfg request b s).answer ≡ 1
    then_empty h e = answer_is cfg (Request request) b s ∙ one h e

  no_clearing : asks_clear cfg request ≡ false → first_that_applies (request_rules cfg request b s) ≢ 12
  unfolding request_rules
  no_clearing f = rw f (no_twelve _ _ _ _)

  -- document 02, W7: 12 of a "clearing diagnostic request" alone
  pub twelve_is_of_a_clearing : (request_reply cfg request b s).answer ≡ 12 → Clearing cfg request s
  twelve_is_of_a_clearing e = go (asks_clear cfg request) refl
    where
      go : (t : Bool) → asks_clear cfg request ≡ t → Clearing cfg request s
      go true t = clearing cfg request b s t
      go false f = absurd (no_clearing f (sym (answer_is cfg (Request request) b s) ∙ e))
