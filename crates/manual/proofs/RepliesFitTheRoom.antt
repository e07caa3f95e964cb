-- No reply is longer than its room, the bytes past it stay, and the room stays as long as it was. A reply other than
-- code 14 is given the same in every room that holds it, also in one that it fills.
use mathlib.Core.Path.{◌≡◌, refl, sym, ◌∙◌}
use mathlib.Core.Logic.{◌≢◌}
use mathlib.Core.List.{List, [], ◌∷◌, ◌++◌}
use Prim.Native.Nat.{ℕ, ◌≤◌}
use native.Mathlib.Omega.{arith}
use lib.ListN.{length, drop, length-append, length-drop}
use lib.Seq.{take_at, drop_at}
use Rattle.manual.specs.Configuration.{Configuration}
use Rattle.manual.specs.State.{State}
use Rattle.manual.specs.Answers.{Beside, with_counts, Outcome}
use Rattle.manual.specs.Diagnostics.{request_reply}
use Rattle.manual.specs.Replies.{SameReply, sends, refused_with, Negative, Replies, other_service, alone}
use Rattle.manual.specs.Replies.{no_sub_function, other_length, unknown_in_04, unknown_in_06, too_long, not_four}
use Rattle.manual.specs.Replies.{unknown, negative, suppressed, positive, clears}
use Rattle.manual.proofs.RepliesLaws.{accepted_tells}
use Rattle.manual.proofs.RepliesFollowTheSentences.{reply_said, reply_is}

module _ (cfg : Configuration) (request : List ℕ) (s : State) where
  abbrev outcome : Beside → Outcome
  outcome b = request_reply cfg request b s

  -- ---- one room

  record Sent (b : Beside) (o : Outcome) : Type 0 where
    bytes : List ℕ
    counts : List ℕ
    after : State
    is : o ≡ sends cfg request s (with_counts counts b) bytes after
    fits : length bytes ≤ length b.room

  sent_in : (b : Beside) → 3 ≤ length b.room → (o : Outcome) → Replies cfg request s b o → Sent b o
  sent_in b h _ (negative code n) =
      record { bytes = 0x7F ∷ _ ∷ code ∷ []; counts = b.counts; after = s; is = refl; fits = h }
  sent_in b h _ (suppressed q) = record { bytes = []; counts = b.counts; after = s; is = refl; fits = omega arith }
  sent_in b h _ (positive bytes n p l) =
      record { bytes = bytes; counts = b.counts; after = s; is = refl; fits = l }
  sent_in b h _ (clears a l k) =
      record { bytes = 0x54 ∷ []; counts = _; after = _; is = refl; fits = omega arith }

  as_long : (bytes room : List ℕ) → length bytes ≤ length room
      → length (bytes ++ drop (length bytes) room) ≡ length room
  as_long bytes room h = simp (length-append, length-drop) (omega arith)

  module _ (b : Beside) (answered : (outcome b).answer ≡ 0) where
    sent_here : Sent b (outcome b)
    sent_here =
        sent_in b (accepted_tells cfg request b s answered).room_least _ (reply_said cfg request b s answered)

    pub never_longer : (outcome b).value ≤ length b.room
    never_longer = let h = sent_here in rw h.is h.fits

    -- "Bytes past the reply stay."
    pub rest_stays : drop (outcome b).value (outcome b).beside.room ≡ drop (outcome b).value b.room
    rest_stays = let h = sent_here in rw h.is (drop_at h.bytes _ _ refl)

    pub room_as_long : length (outcome b).beside.room ≡ length b.room
    room_as_long = let h = sent_here in rw h.is (as_long h.bytes b.room h.fits)

  -- ---- two rooms

  module _ (b b' : Beside) (fits : ¬ Negative cfg request s b 0x14) where
    -- a negative code other than 14 has nothing to do with the room
    negative_again : (code : ℕ) → Negative cfg request s b code → Negative cfg request s b' code
    negative_again _ (other_service a b) = other_service a b
    negative_again _ (alone a l) = alone a l
    negative_again _ (no_sub_function a m p q r t u v) = no_sub_function a m p q r t u v
    negative_again _ (other_length size n l) = other_length size n l
    negative_again _ (unknown_in_04 z n u) = unknown_in_04 z n u
    negative_again _ (unknown_in_06 z n u) = unknown_in_06 z n u
    negative_again _ (too_long bytes n p l) = absurd (fits (too_long bytes n p l))
    negative_again _ (not_four a l) = not_four a l
    negative_again _ (unknown a l u) = unknown a l u

    record Again (o : Outcome) : Type 0 where
      bytes : List ℕ
      counts : List ℕ
      counts' : List ℕ
      after : State
      is : o ≡ sends cfg request s (with_counts counts b) bytes after
      too : Replies cfg request s b' (sends cfg request s (with_counts counts' b') bytes after)

    again : (o : Outcome) → Replies cfg request s b o → o.value ≤ length b'.room → Again o
    again _ (negative code n) h =
        record {
          bytes = 0x7F ∷ _ ∷ code ∷ [];
          counts = b.counts;
          counts' = b'.counts;
          after = s;
          is = refl;
          too = negative code (negative_again code n);
        }
    again _ (suppressed q) h =
        record {
          bytes = [];
          counts = b.counts;
          counts' = b'.counts;
          after = s;
          is = refl;
          too = suppressed q;
        }
    again _ (positive bytes n p l) h =
        record {
          bytes = bytes;
          counts = b.counts;
          counts' = b'.counts;
          after = s;
          is = refl;
          too = positive bytes n p h;
        }
    again _ (clears a l k) h =
        record { bytes = 0x54 ∷ []; counts = _; counts' = _; after = _; is = refl; too = clears a l k }

  module _ (b b' : Beside) (answered : (outcome b).answer ≡ 0) (answered' : (outcome b').answer ≡ 0) where
    is_14 : Negative cfg request s b 0x14 → outcome b ≡ refused_with cfg request s b 0x14
    is_14 k = reply_is cfg request b s answered _ (negative 0x14 k)

    pub same_in_any_room : outcome b ≢ refused_with cfg request s b 0x14 → (outcome b).value ≤ length b'.room
        → SameReply (outcome b) (outcome b')
    same_in_any_room n h =
        let a = again b b' (λ k. n (is_14 k)) _ (reply_said cfg request b s answered) h in
        rw (a.is, reply_is cfg request b' s answered' _ a.too) (record {
          value = refl;
          bytes = take_at a.bytes _ _ refl ∙ sym (take_at a.bytes _ _ refl);
          state = refl;
        })
