-- A reply has length 0 exactly where it would be positive and the top bit of the request's second byte is set; then the
-- room and the state are as found.
use mathlib.Core.Path.{◌≡◌, ap}
use mathlib.Core.Logic.{◌↔◌}
use mathlib.Core.List.{List, []}
use Prim.Native.Nat.{ℕ, ◌≤◌}
use native.Mathlib.Omega.{arith}
use lib.ListN.{length}
use Rattle.manual.specs.Configuration.{Configuration}
use Rattle.manual.specs.State.{State}
use Rattle.manual.specs.Answers.{Beside, Outcome}
use Rattle.manual.specs.Diagnostics.{request_reply}
use Rattle.manual.specs.Replies.{Asks, Suppressed, sends, Replies, numbered_by_mask, listed_by_mask}
use Rattle.manual.specs.Replies.{list_all, listed_near, frame_of_entry, details_of_entry, frame_without_entry}
use Rattle.manual.specs.Replies.{details_without_entry, negative, suppressed, positive, clears}
use Rattle.manual.proofs.RepliesFollowTheSentences.{reply_said, reply_is}

module _ (cfg : Configuration) (request : List ℕ) (b : Beside) (s : State) where
  abbrev outcome : Outcome
  outcome = request_reply cfg request b s

  -- no positive reply is empty
  some_bytes : {bytes : List ℕ} → Asks cfg request s bytes → 2 ≤ length bytes
  some_bytes (numbered_by_mask e) = omega arith
  some_bytes (listed_by_mask e) = omega arith
  some_bytes (list_all e) = omega arith
  some_bytes (listed_near e) = omega arith
  some_bytes (frame_of_entry n e h x q) = omega arith
  some_bytes (details_of_entry n e h x q) = omega arith
  some_bytes (frame_without_entry n e h q) = omega arith
  some_bytes (details_without_entry n e h q) = omega arith

  silent_is : (o : Outcome) → Replies cfg request s b o → o.value ≡ 0 → Suppressed cfg request s
  silent_is _ (negative code n) z = absurd (let w : ⊥ = omega arith in w)
  silent_is _ (suppressed q) z = q
  silent_is _ (positive bytes n p l) z = absurd (let h = some_bytes n.asks in let w : ⊥ = omega arith in w)
  silent_is _ (clears a l k) z = absurd (let w : ⊥ = omega arith in w)

  module _ (answered : outcome.answer ≡ 0) where
    silent : Suppressed cfg request s → outcome ≡ sends cfg request s b [] s
    silent q = reply_is cfg request b s answered _ (suppressed q)

    told : outcome.value ≡ 0 → Suppressed cfg request s
    told = silent_is _ (reply_said cfg request b s answered)

    pub suppressed_exactly : (outcome.value ≡ 0) ↔ Suppressed cfg request s
    suppressed_exactly = (told, λ q. ap (λ (o : Outcome). o.value) (silent q))

    pub suppressed_leaves_all : outcome.value ≡ 0 → (outcome.beside ≡ b) × (outcome.state ≡ s)
    suppressed_leaves_all z =
        let e = silent (told z) in (ap (λ (o : Outcome). o.beside) e, ap (λ (o : Outcome). o.state) e)
