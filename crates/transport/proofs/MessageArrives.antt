-- "What a receiver puts together from an undisturbed sender is the message sent, for every length 1 to 4,095 that its
-- room holds and every block size." Assumes nothing.
use mathlib.Core.Path.{◌≡◌, refl, sym, ap, ◌∙◌}
use mathlib.Core.Bool.{Bool, true, false, ◌&&◌, cond}
use mathlib.Core.List.{List, ◌++◌}
use Prim.Native.Nat.{ℕ, zero, suc, ◌+◌, ◌-◌, ◌/◌, ◌%◌, ◌≤◌, ◌<◌, min}
use native.Mathlib.Nat.{zero-add, add-zero, add-suc}
use native.Mathlib.Numerals.{add-one, one-add}
use native.Mathlib.Omega.{arith}
use lib.ListN.{length, take, drop}
use lib.Seq.{sets, take-length}
use lib.Dec.{leb, eqb}
use borrow.Author.Tests.{le-leb, lt-leb, lt-ltb, eq-eqb, ne_eqb, leb-true, leb-false}
use Rattle.transport.specs.declared.Sender.{Sender}
use Rattle.transport.specs.declared.Sender.TheVariants.{Waiting, Running}
use Rattle.transport.specs.declared.Receiver.{Receiver}
use Rattle.transport.specs.declared.Receiver.TheVariants.{Collecting}
use Rattle.transport.specs.declared.Stage.TheVariants.{Coming, Arrived, Failed}
use Rattle.transport.specs.Frames.{padded, byte, single, first, place, consecutive}
use Rattle.transport.specs.Frames.{last_number, longest, has, control}
use Rattle.transport.specs.Sending.{allowed, start, flow, controlled, waiting, carries_on, sent, running}
use Rattle.transport.specs.Receiving.{took, going, asks, announced, takes_single, takes_first, takes_next}
use Rattle.transport.specs.Receiving.{beginning, awaits, received, collecting}
use Rattle.transport.specs.Segments.{frame_count}
use Rattle.transport.specs.Exchange.{Exchange, on_line, exchange, waited, offered, asked, told_by, told}
use Rattle.transport.specs.Exchange.{answered_by, answered, turn, begun, turns, ended_at, ended, looped_back}
use Rattle.transport.proofs.FramesLaws.{has_so, mixed, length_mixed, mixed_more}
use Rattle.transport.proofs.ReceiverRefuses.{above_room_refused, single_above_room_refused}
use Rattle.transport.proofs.FramesLaws.{single_length, first_byte, single_body, first_body, consecutive_body}

-- waits change nothing
pub waits_change_nothing : (n k : ℕ) → has longest k ≡ true → waited n (Waiting k) ≡ Waiting k
unfolding waited waiting controlled padded
waits_change_nothing zero k h = refl
waits_change_nothing (suc n) k h = rw h (waits_change_nothing n k h)

-- frame k is on the line, and both ends count the same frames of a block
abbrev at : List ℕ → ℕ → ℕ → List ℕ → Exchange
at m k left room = exchange (sent (length m) k left) (Collecting (length m) k left) (Coming (consecutive m k)) room

-- the message stands at the front of the room, what follows it is as found, and both ends are idle
abbrev pub arrived_whole : List ℕ → List ℕ → Exchange
arrived_whole m room = exchange Sender.Idle Receiver.Idle (Arrived (length m)) (m ++ drop (length m) room)

-- how far the room is filled once frame k is taken
abbrev reach : List ℕ → ℕ → ℕ
reach m k = place k + min 7 (length m - place k)

-- a receiver reads the length that a first frame tells
length_read : (m : List ℕ) → length m ≤ longest → announced (first m) ≡ length m
unfolding padded
length_read m most = omega arith

-- ---- a turn

module _ (block separation waits : ℕ) (m room : List ℕ)
    (fits : length m ≤ length room) (most : length m ≤ longest) where
  abbrev last : ℕ
  last = last_number (length m)

  abbrev turned : Exchange → Exchange
  turned x = turn block separation waits m x

  -- a message of up to 7 bytes
  module _ (least : 1 ≤ length m) (short : length m ≤ 7) where
    single_due : takes_single (length room) (single m) ≡ true
    unfolding takes_single padded
    single_due = rw (le-leb 1 (length m) least, le-leb (length m) 7 short, le-leb (length m) (length room) fits)

    single_turn : turned (exchange Sender.Idle Receiver.Idle (Coming (single m)) room) ≡ arrived_whole m room
    unfolding turn beginning answered_by
    single_turn =
        rw (single_due, single_length m, single_body m short)
        (ap (exchange Sender.Idle Receiver.Idle (Arrived (length m))) stored)
      where
        stored : sets room 0 m ≡ m ++ drop (length m) room
        stored =
            ap (sets room 0) (sym (take-length m)) ∙ mixed_more m room fits 0 (length m) (omega arith)
            ∙ rw (zero-add, take-length m)

  module _ (least : 8 ≤ length m) where
    -- both ends are in step
    runs : (k left : ℕ) → has (length m) k ≡ true → (room' : List ℕ)
        → on_line (asked m (Running k left) (Collecting (length m) k left)) room'
        ≡ at m k left room'
    unfolding running offered
    runs k left h room' = rw h

    in_step : (a b : Bool) (l k : ℕ) → 1 ≤ k → k ≤ last → (room' : List ℕ)
        → answered separation m waits (cond a (Running k 0) (cond b (Waiting k) (Running k l)))
        (took (cond a (going (Collecting (length m) k 0))
        (cond b (asks block separation (Collecting (length m) k block)) (going (Collecting (length m) k l)))) room')
        ≡ at m k (cond a 0 (cond b block l)) room'
    unfolding answered_by told_by waiting controlled padded
    in_step true b l k low high room' = runs k 0 (has_so (length m) k least most low high) room'
    in_step false true l k low high room' =
        let due = has_so longest k (omega arith) (omega arith) low (omega arith) in
        let collects = Collecting (length m) k block in
        ap (λ (s : Sender). on_line (told separation m (flow s (control block separation)) collects) room')
        (waits_change_nothing waits k due)
        ∙ rw (due, eq-eqb separation separation refl) (runs k block (has_so (length m) k least most low high) room')
    in_step false false l k low high room' = runs k l (has_so (length m) k least most low high) room'

    -- the first frame of a longer one
    not_single : takes_single (length room) (first m) ≡ false
    unfolding takes_single padded
    not_single = rw (le-leb 1 (0x10 + length m / 256) (omega arith), lt-leb (0x10 + length m / 256) 7 (omega arith))

    first_due : takes_first (length room) (first m) ≡ true
    unfolding takes_first
    first_due =
        rw (
          length_read m most,
          le-leb 8 (length m) least,
          le-leb (length m) (length room) fits,
          first_byte m,
          le-leb 0x10 (0x10 + length m / 256) (omega arith),
          lt-ltb (0x10 + length m / 256) 0x20 (omega arith),
        )

    first_turn : turned (exchange (Waiting 1) Receiver.Idle (Coming (first m)) room) ≡ at m 1 block (mixed 6 m room)
    unfolding turn beginning
    first_turn =
        rw (not_single, first_due, length_read m most)
        (ap (λ (r : List ℕ). answered separation m waits (Waiting 1)
        (took (asks block separation (Collecting (length m) 1 block)) r)) stored
        ∙ in_step false true 0 1 (omega arith) (omega arith) (mixed 6 m room))
      where
        stored : sets room 0 (take 6 (drop 2 (first m).bytes)) ≡ mixed 6 m room
        stored = ap (sets room 0) (first_body m (omega arith)) ∙ mixed_more m room fits 0 6 (omega arith)

    -- frame k
    module _ (k left : ℕ) (low : 1 ≤ k) (high : k ≤ last) where
      due : takes_next (length (mixed (place k) m room)) (length m) k (consecutive m k) ≡ true
      unfolding takes_next padded
      due =
          rw (
            has_so (length m) k least most low high,
            length_mixed m room fits (place k) (omega arith),
            le-leb (length m) (length room) fits,
          )
          (eq-eqb (0x20 + k % 16) (0x20 + k % 16) refl)

      taken_in : collecting block separation (length m) k left (mixed (place k) m room) (consecutive m k)
          ≡ took (received block separation (length m) k left) (mixed (reach m k) m room)
      unfolding collecting
      taken_in =
          rw (due, consecutive_body m k)
          (ap (took (received block separation (length m) k left))
          (mixed_more m room fits (place k) (min 7 (length m - place k)) (omega arith)))

      turn_is : turned (at m k left (mixed (place k) m room))
          ≡ answered separation m waits (sent (length m) k left)
          (took (received block separation (length m) k left) (mixed (reach m k) m room))
      unfolding turn
      turn_is = ap (answered separation m waits (sent (length m) k left)) taken_in

      last_turn : k ≡ last → turned (at m k left (mixed (place k) m room)) ≡ arrived_whole m room
      unfolding sent received answered_by
      last_turn e =
          let whole : reach m k ≡ length m = omega arith in
          turn_is ∙ rw (eq-eqb k last e, whole, take-length m)

      next_turn : k < last
          → (left' : ℕ)
          × (turned (at m k left (mixed (place k) m room)) ≡ at m (k + 1) left' (mixed (place (k + 1)) m room))
      unfolding sent received carries_on awaits
      next_turn h =
          let full : reach m k ≡ place (k + 1) = omega arith in
          let more : eqb k last ≡ false = ne_eqb k last (omega arith) in
          let filled = mixed (place (k + 1)) m room in (
            cond (eqb left 0) 0 (cond (eqb left 1) block (left - 1)),
            turn_is ∙ rw (more, full)
                (in_step (eqb left 0) (eqb left 1) (left - 1) (k + 1) (omega arith) (omega arith) filled),
          )

-- ---- all turns

module _ (blocks separations waits : ℕ → ℕ) (m room : List ℕ) where
  abbrev after : ℕ → Exchange
  after n = turns blocks separations waits m n (begun m room)

  abbrev once : ℕ → Exchange → Exchange
  once n x = turn (blocks n) (separations n) (waits n) m x

  arrived_stays : (n more : ℕ) → after n ≡ arrived_whole m room → after (n + more) ≡ arrived_whole m room
  unfolding turns turn
  arrived_stays n zero e = rw (add-zero n) e
  arrived_stays n (suc more) e = rw (add-suc n more) (ap (once (n + more)) (arrived_stays n more e))

  failed_stays : (s : Sender) (n more : ℕ) → after n ≡ exchange s Receiver.Idle Failed room
      → after (n + more) ≡ exchange s Receiver.Idle Failed room
  unfolding turns turn
  failed_stays s n zero e = rw (add-zero n) e
  failed_stays s n (suc more) e = rw (add-suc n more) (ap (once (n + more)) (failed_stays s n more e))

  -- ---- the start

  module _ (least : 1 ≤ length m) (most : length m ≤ longest) where
    begins_single : length m ≤ 7 → begun m room ≡ exchange Sender.Idle Receiver.Idle (Coming (single m)) room
    unfolding begun start
    begins_single h = rw (le-leb 1 (length m) least, le-leb (length m) longest most, le-leb (length m) 7 h)

    begins_first : 7 < length m → begun m room ≡ exchange (Waiting 1) Receiver.Idle (Coming (first m)) room
    unfolding begun start
    begins_first h = rw (le-leb 1 (length m) least, le-leb (length m) longest most, lt-leb (length m) 7 h)

  -- ---- a message that the room holds

  module _ (fits : length m ≤ length room) (most : length m ≤ longest) where
    short_arrives : 1 ≤ length m → length m ≤ 7 → after 1 ≡ arrived_whole m room
    unfolding turns
    short_arrives least short =
        ap (once 0) (begins_single least most short)
        ∙ single_turn (blocks 0) (separations 0) (waits 0) m room fits most least short

    module _ (least : 8 ≤ length m) where
      -- frame n is on the line after n turns
      frame_by_frame : (n : ℕ) → suc n ≤ last_number (length m)
          → (left : ℕ) × (after (suc n) ≡ at m (suc n) left (mixed (place (suc n)) m room))
      unfolding turns
      frame_by_frame zero h = (
        blocks 0,
        ap (once 0) (begins_first (omega arith) most (omega arith))
            ∙ first_turn (blocks 0) (separations 0) (waits 0) m room fits most least,
      )
      frame_by_frame (suc n) h =
          let before = frame_by_frame n (omega arith) in
          let next =
          next_turn (blocks (suc n)) (separations (suc n)) (waits (suc n)) m room fits most least (suc n) before.0
          (omega arith) (omega arith) (omega arith) in (
            next.0,
            ap (once (suc n)) before.1 ∙ next.1
                ∙ ap (λ (k : ℕ). at m k next.0 (mixed (place k) m room)) (add-one (suc n)),
          )

      long_arrives : (n : ℕ) → n ≡ last_number (length m) → after (suc n) ≡ arrived_whole m room
      unfolding turns
      long_arrives zero e = let z : ⊥ = omega arith in absurd z
      long_arrives (suc n) e =
          let before = frame_by_frame n (omega arith) in
          ap (once (suc n)) before.1
          ∙ last_turn (blocks (suc n)) (separations (suc n)) (waits (suc n)) m room fits most least (suc n) before.0
          (omega arith) (omega arith) e

    arrives : 1 ≤ length m → after (frame_count (length m)) ≡ arrived_whole m room
    unfolding frame_count
    arrives least = go (leb (length m) 7) refl
      where
        go : (b : Bool) → leb (length m) 7 ≡ b → after (cond b 1 (1 + last_number (length m))) ≡ arrived_whole m room
        go true e = short_arrives least (leb-true (length m) 7 e)
        go false e =
            rw (one-add (last_number (length m)))
            (long_arrives (leb-false (length m) 7 e) (last_number (length m)) refl)

  -- ---- any other message: nothing is written

  module _ (none : begun m room ≡ exchange Sender.Idle Receiver.Idle Failed room) where
    none_begins : (n : ℕ) → after n ≡ exchange Sender.Idle Receiver.Idle Failed room
    unfolding turns
    none_begins n = rw (sym (zero-add n)) (failed_stays Sender.Idle 0 n none)

  module _ (least : 1 ≤ length m) (most : length m ≤ longest) (over : length room < length m) where
    too_long : (s : Sender) × (after 1 ≡ exchange s Receiver.Idle Failed room)
    unfolding turns turn answered_by
    too_long = go (leb (length m) 7) refl
      where
        go : (b : Bool) → leb (length m) 7 ≡ b → (s : Sender) × (after 1 ≡ exchange s Receiver.Idle Failed room)
        go true e =
            let short = leb-true (length m) 7 e in
            let low : byte (single m) 0 < 0x10 = rw (single_length m) (omega arith) in
            let above : length room < byte (single m) 0 = rw (single_length m) over in (
              Sender.Idle,
              ap (once 0) (begins_single least most short)
                  ∙ rw (single_above_room_refused (blocks 0) (separations 0) room (single m) low above),
            )
        go false e =
            let long = leb-false (length m) 7 e in
            let low : 0x10 ≤ byte (first m) 0 = rw (first_byte m) (omega arith) in
            let high : byte (first m) 0 < 0x20 = rw (first_byte m) (omega arith) in
            let above : length room < announced (first m) = rw (length_read m most) over in (
              Waiting 1,
              ap (once 0) (begins_first least most long)
                  ∙ rw (above_room_refused (blocks 0) (separations 0) room (first m) low high above),
            )

-- ---- the theorem

-- With any block size and separation time at each frame, and any number of waits before each flow control: after as
-- many turns as the message has frames, or more, it is complete and stands at the front of the room, what follows it is
-- as found, and both ends are idle. No frame was refused on the way, since what is refused never arrives; that a wait is
-- taken, and changes nothing, is `wait_changes_nothing`.
pub message_arrives : (blocks separations waits : ℕ → ℕ) (m room : List ℕ) (n : ℕ) → frame_count (length m) ≤ n
    → 1 ≤ length m → length m ≤ longest → length m ≤ length room
    → turns blocks separations waits m n (begun m room)
    ≡ exchange Sender.Idle Receiver.Idle (Arrived (length m)) (m ++ drop (length m) room)
message_arrives blocks separations waits m room n enough least most fits =
    let e : frame_count (length m) + (n - frame_count (length m)) ≡ n = omega arith in
    rw (← e)
    (arrived_stays blocks separations waits m room (frame_count (length m)) (n - frame_count (length m))
    (arrives blocks separations waits m room fits most least))

refused_begins : (m room : List ℕ) → allowed (length m) ≡ false
    → begun m room ≡ exchange Sender.Idle Receiver.Idle Failed room
unfolding begun start
refused_begins m room h = rw h

one_frame : (size : ℕ) → 1 ≤ frame_count size
unfolding frame_count
one_frame size = go (leb size 7)
  where
    go : (b : Bool) → 1 ≤ cond b 1 (1 + last_number size)
    go true = omega arith
    go false = omega arith

-- The same of every message whatever: what the room cannot hold, or no sender starts, fails, and the room is as found.
pub looped_back_lem : (blocks separations waits : ℕ → ℕ) (m room : List ℕ) (n : ℕ) → frame_count (length m) ≤ n
    → ended (turns blocks separations waits m n (begun m room)) ≡ looped_back m room
unfolding looped_back
looped_back_lem blocks separations waits m room n enough = go (leb 1 (length m)) (leb (length m) longest) refl refl
  where
    whole : Exchange
    whole = turns blocks separations waits m n (begun m room)

    holds : 1 ≤ length m → length m ≤ longest → (b : Bool) → leb (length m) (length room) ≡ b
        → ended whole ≡ cond b (ended_at (Arrived (length m)) (m ++ drop (length m) room))
        (ended_at Failed room)
    holds least most true e =
        let fits = leb-true (length m) (length room) e in
        ap ended (message_arrives blocks separations waits m room n enough least most fits)
    holds least most false e =
        let over = leb-false (length m) (length room) e in
        let t = too_long blocks separations waits m room least most over in
        let some = one_frame (length m) in
        let sum : 1 + (n - 1) ≡ n = omega arith in
        rw (← sum) (ap ended (failed_stays blocks separations waits m room t.0 1 (n - 1) t.1))

    go : (a b : Bool) → leb 1 (length m) ≡ a → leb (length m) longest ≡ b
        → ended whole ≡ cond (a && b && leb (length m) (length room))
        (ended_at (Arrived (length m)) (m ++ drop (length m) room))
        (ended_at Failed room)
    go true true e g =
        holds (leb-true 1 (length m) e) (leb-true (length m) longest g) (leb (length m) (length room)) refl
    go true false e g = ap ended (none_begins blocks separations waits m room (refused_begins m room (rw (e, g))) n)
    go false b e g = ap ended (none_begins blocks separations waits m room (refused_begins m room (rw e)) n)
