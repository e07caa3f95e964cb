-- Each negative code is given exactly where a sentence of document 01 gives it, as the three bytes 7F, the request's
-- first byte and the code; the answer is 0, the state stays, and so does the rest of the room. No other reply begins
-- with 7F. FFFFFFh is an unknown code in `19 04` and `19 06`.
use mathlib.Core.Path.{◌≡◌, refl, sym, ap, subst, ◌∙◌}
use mathlib.Core.Logic.{◌≢◌, ◌↔◌}
use mathlib.Core.Bool.{true}
use mathlib.Core.List.{List, ◌++◌}
use Prim.Native.Nat.{ℕ}
use native.Mathlib.Omega.{arith}
use lib.ListN.{get_or, drop, length}
use Rattle.manual.specs.Configuration.{Configuration, config_ok}
use Rattle.manual.specs.State.{State}
use Rattle.manual.specs.Answers.{Beside, Outcome}
use Rattle.manual.specs.Diagnostics.{request_reply}
use Rattle.manual.specs.Replies.{Asks, Negative, Replies, refused_with, numbered_by_mask, listed_by_mask}
use Rattle.manual.specs.Replies.{list_all, listed_near, frame_of_entry, details_of_entry, frame_without_entry}
use Rattle.manual.specs.Replies.{details_without_entry, asked_code, AsksForUnknown, code_unknown, negative}
use Rattle.manual.specs.Replies.{suppressed, positive, clears}
use Rattle.manual.proofs.ConfigurationLaws.{config_tells}
use Rattle.manual.proofs.RepliesFollowTheSentences.{reply_said, reply_is}

module _ (cfg : Configuration) (request : List ℕ) (b : Beside) (s : State) where
  abbrev outcome : Outcome
  outcome = request_reply cfg request b s

  abbrev Given : ℕ → Type 0
  Given = Negative cfg request s b

  abbrev negative_reply : ℕ → Outcome
  negative_reply = refused_with cfg request s b

  abbrev first_byte : Outcome → ℕ
  first_byte o = get_or o.beside.room 0 0

  -- a positive reply of service 19 begins with 59
  begins_59 : {bytes : List ℕ} → Asks cfg request s bytes → (rest : List ℕ) → get_or (bytes ++ rest) 0 0 ≡ 0x59
  begins_59 (numbered_by_mask e) rest = refl
  begins_59 (listed_by_mask e) rest = refl
  begins_59 (list_all e) rest = refl
  begins_59 (listed_near e) rest = refl
  begins_59 (frame_of_entry n e h x q) rest = refl
  begins_59 (details_of_entry n e h x q) rest = refl
  begins_59 (frame_without_entry n e h q) rest = refl
  begins_59 (details_without_entry n e h q) rest = refl

  begins_7f : (o : Outcome) → Replies cfg request s b o → o.value ≢ 0 → first_byte o ≡ 0x7F
      → (code : ℕ) × Given code × (o ≡ negative_reply code)
  begins_7f _ (negative code n) v f = (code, n, refl)
  begins_7f _ (suppressed q) v f = absurd (v refl)
  begins_7f _ (positive bytes n p l) v f =
      let e : get_or (bytes ++ drop (length bytes) b.room) 0 0 ≡ 0x59 =
      begins_59 n.asks (drop (length bytes) b.room) in
      absurd (let z : ⊥ = omega arith in z)
  begins_7f _ (clears a l k) v f = absurd (let z : ⊥ = omega arith in z)

  -- document 02, W4: "FFFFFFh is an unknown code here.", under every accepted configuration
  pub all_codes_is_unknown : config_ok cfg ≡ true → asked_code cfg request s ≡ 0xFFFFFF → AsksForUnknown cfg request s
  all_codes_is_unknown ok q =
      code_unknown (λ e h c. let most = ((config_tells cfg ok).row e h).code_most in omega arith)

  module _ (answered : outcome.answer ≡ 0) where
    pub only_negative_begins_7f : outcome.value ≢ 0 → first_byte outcome ≡ 0x7F
        → (code : ℕ) × Given code × (outcome ≡ negative_reply code)
    only_negative_begins_7f = begins_7f outcome (reply_said cfg request b s answered)

    told : (code : ℕ) → outcome ≡ negative_reply code → Given code
    told code e =
        let (k, n, is) = only_negative_begins_7f (rw e (λ z. omega arith)) (rw e) in
        subst Given (ap (λ (o : Outcome). get_or o.beside.room 2 0) (sym is ∙ e)) n

    pub negative_exactly : (code : ℕ) → (outcome ≡ negative_reply code) ↔ Given code
    negative_exactly code = (told code, λ n. reply_is cfg request b s answered _ (negative code n))
