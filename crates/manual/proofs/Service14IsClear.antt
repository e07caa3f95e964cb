-- Service 14 of a diagnostic request has the effect and the tokens of the clear call, wherever both are accepted, and
-- leaves the counts that the clear leaves of the same ones; and with these it is refused with 12 exactly where the
-- clear is.
use mathlib.Core.Path.{◌≡◌, refl, sym, ap, ◌∙◌}
use mathlib.Core.Bool.{true, false, ◌&&◌}
use mathlib.Core.List.{List, ◌∷◌}
use Prim.Native.Nat.{ℕ, ◌<◌}
use native.Mathlib.Omega.{arith}
use lib.Dec.{ltb}
use lib.ListN.{length, get_or}
use Rattle.manual.specs.Words.{three, three_at}
use Rattle.manual.specs.Configuration.{Configuration, config_ok}
use Rattle.manual.specs.State.{State}
use Rattle.manual.specs.WellFormed.{well_formed}
use Rattle.manual.specs.Answers.{Beside, lent_both, Outcome, first_that_applies}
use Rattle.manual.specs.Calls.{unknown_code, cleared, clear_log, clear_rules, clear_code}
use Rattle.manual.specs.Counts.{rise_of, raised, counts_fit}
use Rattle.manual.specs.Diagnostics.{asks_clear, service14, served_by, sent, request_rules, request_reply}
use Rattle.manual.specs.Sequences.{Clear, Request, tokens, tokens_at}
use Rattle.manual.proofs.AnswersLaws.{none_applies, accepted}
use Rattle.manual.proofs.AnswerIsFirstThatApplies.{answer_is}
use Rattle.manual.proofs.RepliesLaws.{counts_rise}

-- the three bytes of a trouble code are read back as the code
pub code_back : (code : ℕ) → code < 16777216 → three_at 1 (0x14 ∷ three code) ≡ code
code_back code h = omega arith

module _ (cfg : Configuration) (bytes : List ℕ) (b b' : Beside) (s : State) (is14 : get_or bytes 0 0 ≡ 0x14)
    (four : length bytes ≡ 4) where
  abbrev code : ℕ
  code = three_at 1 bytes

  -- where 2, 3, 7 and 4 do not apply, and 1 does not as there are four bytes: with the same counts the request is
  -- refused with W7's 12 exactly where the clear is, as it answers what the clear answers
  pub same_answer : config_ok cfg ≡ true → (counts_fit b.counts && well_formed cfg s) ≡ true
      → ltb (length b.room) 3 ≡ false → unknown_code cfg code ≡ false → b.counts ≡ b'.counts
      → (request_reply cfg bytes b s).answer ≡ (clear_code cfg code b' s).answer
  unfolding request_rules clear_rules first_that_applies
  same_answer config formed room known q =
      answer_is cfg (Request bytes) b s
      ∙ here
      ∙ ap (λ (l : List ℕ). first_that_applies (clear_rules cfg code (lent_both b.room l) s)) q
      ∙ sym (answer_is cfg (Clear code) b' s)
    where
      here : first_that_applies (request_rules cfg bytes b s) ≡ first_that_applies (clear_rules cfg code b s)
      here = rw (config, formed, room, is14, four, known)

  module _ (clears : (clear_code cfg code b' s).answer ≡ 0) (replies : (request_reply cfg bytes b s).answer ≡ 0) where
    known : unknown_code cfg code ≡ false
    unfolding clear_code clear_rules
    known = none_applies _ (accepted _ b' s _ clears).0 refl 2

    served_clears : (served_by cfg bytes (length b.room) s).state ≡ cleared cfg code s
    unfolding served_by service14
    served_clears = rw (is14, four, known)

    pub same_effect : (request_reply cfg bytes b s).state ≡ (clear_code cfg code b' s).state
    unfolding request_reply clear_code sent
    same_effect =
        ap (λ (o : Outcome). o.state) (accepted _ b s _ replies).1
        ∙ served_clears
        ∙ sym (ap (λ (o : Outcome). o.state) (accepted _ b' s _ clears).1)

    asks : asks_clear cfg bytes ≡ true
    asks = rw (is14, four, known)

    pub same_counts : b.counts ≡ b'.counts
        → (request_reply cfg bytes b s).beside.counts ≡ (clear_code cfg code b' s).beside.counts
    unfolding request_reply clear_code sent
    same_counts q =
        ap (λ (o : Outcome). o.beside.counts) (accepted _ b s _ replies).1
        ∙ counts_rise cfg bytes b s asks
        ∙ ap (raised (rise_of (clear_log cfg code s))) q
        ∙ sym (ap (λ (o : Outcome). o.beside.counts) (accepted _ b' s _ clears).1)

    pub same_tokens : (e : ℕ) → tokens_at cfg (Request bytes) b s e ≡ tokens_at cfg (Clear code) b' s e
    unfolding tokens
    same_tokens e = rw (replies, clears, is14, four, known)
