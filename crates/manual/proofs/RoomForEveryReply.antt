-- In a room of at least 3 + 4n, 7 + 2F and 11 bytes no reply is refused with code 14: so long are the replies to `19
-- 0A`, and to `19 04` and `19 06` where the event has an entry. The frames in the reply to `19 04` have 2F bytes.
use mathlib.Core.Path.{◌≡◌, refl, subst}
use mathlib.Core.Logic.{◌≢◌}
use mathlib.Core.Bool.{Bool, true}
use mathlib.Core.List.{List, flat_map}
use Prim.Native.Nat.{ℕ, ◌+◌, ◌*◌, ◌≤◌}
use native.Mathlib.Omega.{arith}
use lib.ListN.{length}
use lib.IntN.{pos}
use Rattle.manual.specs.Words.{All, those, between}
use Rattle.manual.specs.Configuration.{Configuration, events, entry_frames}
use Rattle.manual.specs.State.{State, status_byte}
use Rattle.manual.specs.Memory.{Entry, is_of}
use Rattle.manual.specs.WellFormed.{entries, well_formed}
use Rattle.manual.specs.Answers.{Beside}
use Rattle.manual.specs.Counter.{counter_in}
use Rattle.manual.specs.Diagnostics.{request_reply}
use Rattle.manual.specs.Replies.{rising, refused_with, HasEntry, Asks, Negative, numbered_by_mask, listed_by_mask}
use Rattle.manual.specs.Replies.{list_all, listed_near, frame_of_entry, details_of_entry, frame_without_entry}
use Rattle.manual.specs.Replies.{details_without_entry, line_of, counter_line, other_service, alone}
use Rattle.manual.specs.Replies.{no_sub_function, other_length, unknown_in_04, unknown_in_06, too_long, not_four}
use Rattle.manual.specs.Replies.{unknown, shares_bit, mask}
use Rattle.manual.proofs.WordsLaws.{those_le, first_is, all_middle}
use Rattle.manual.proofs.MemoryLaws.{Framed, frames}
use Rattle.manual.proofs.MemoryStaysGood.{has_failed_bit}
use Rattle.manual.proofs.SoundStates.{sound}
use Rattle.manual.proofs.RepliesLaws.{rising_length, flat_length, as_stored, accepted_tells}
use Rattle.manual.proofs.NegativeRepliesExactly.{negative_exactly}

module _ (cfg : Configuration) (request : List ℕ) (s : State) where
  -- the lines of those that pass
  lines_most : (p : ℕ → Bool) (line : ℕ → List ℕ) → ((e : ℕ) → length (line e) ≡ 4)
      → length (flat_map line (those p (rising (events cfg)))) ≤ 4 * events cfg
  lines_most p line four =
      let a = flat_length line 4 four (those p (rising (events cfg))) in
      let b = those_le p (rising (events cfg)) in
      let c = rising_length (events cfg) in
      omega arith

  all_lines : length (flat_map (line_of cfg request s) (rising (events cfg))) ≡ 4 * events cfg
  all_lines =
      let a = flat_length (line_of cfg request s) 4 (λ e. refl) (rising (events cfg)) in
      let b = rising_length (events cfg) in
      omega arith

  module _ (formed : well_formed cfg s ≡ true) where
    -- "first, then latest", F bytes each
    pub frames_have_2f_bytes : (e : ℕ) (x : Entry) → HasEntry cfg request s e x → length x.payload ≡ entry_frames cfg
    frames_have_2f_bytes e x q =
        let f = first_is (is_of e) (entries cfg s) x q in
        let each : All (Framed (entry_frames cfg)) (entries cfg s) =
        frames (events cfg) (entry_frames cfg) (has_failed_bit cfg s) (entries cfg s)
        (sound cfg s formed).memory.good.each in
        all_middle (Framed (entry_frames cfg)) f.older x f.newer
        (subst (All (Framed (entry_frames cfg))) f.there each)

    module _ (room : ℕ) (all : 3 + 4 * events cfg ≤ room) (frame : 7 + entry_frames cfg ≤ room)
        (details : 11 ≤ room) where
      holds : {bytes : List ℕ} → Asks cfg request s bytes → length bytes ≤ room
      holds (numbered_by_mask n) = omega arith
      holds (listed_by_mask n) =
          omega (
            arith,
            lines_most (λ e. shares_bit (status_byte s e) (mask cfg request s)) (line_of cfg request s) (λ e. refl),
          )
      holds (list_all n) = let l = all_lines in omega arith
      holds (listed_near n) =
          omega (
            arith,
            lines_most (λ e. between (pos 1) (pos 126) (counter_in cfg s e)) (counter_line cfg request s) (λ e. refl),
          )
      holds (frame_of_entry n e h x q) = rw (as_stored cfg x) (let l = frames_have_2f_bytes e x q in omega arith)
      holds (details_of_entry n e h x q) = omega arith
      holds (frame_without_entry n e h q) = omega arith
      holds (details_without_entry n e h q) = omega arith

  module _ (b : Beside) (all : 3 + 4 * events cfg ≤ length b.room) (frame : 7 + entry_frames cfg ≤ length b.room)
      (details : 11 ≤ length b.room) (answered : (request_reply cfg request b s).answer ≡ 0) where
    not_14 : (code : ℕ) → Negative cfg request s b code → code ≢ 0x14
    not_14 _ (other_service a b) e = omega arith
    not_14 _ (alone a l) e = omega arith
    not_14 _ (no_sub_function a m p q r t u v) e = omega arith
    not_14 _ (other_length size n l) e = omega arith
    not_14 _ (unknown_in_04 z n u) e = omega arith
    not_14 _ (unknown_in_06 z n u) e = omega arith
    not_14 _ (too_long bytes n p l) e =
        let h = holds (accepted_tells cfg request b s answered).formed _ all frame details n.asks in omega arith
    not_14 _ (not_four a l) e = omega arith
    not_14 _ (unknown a l u) e = omega arith

    pub room_for_every_reply : request_reply cfg request b s ≢ refused_with cfg request s b 0x14
    room_for_every_reply e = not_14 0x14 ((negative_exactly cfg request b s answered 0x14).0 e) refl
