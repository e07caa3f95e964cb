-- Laws of specs/Showing.antt and of the manual's replies to `19 04` and `19 06`, by the steps that the code takes.
use mathlib.Core.Path.{◌≡◌, refl, sym, ap, ◌∙◌}
use mathlib.Core.Logic.{◌≢◌}
use mathlib.Core.Bool.{Bool, true, false, not}
use mathlib.Core.List.{List, [], ◌∷◌, ◌++◌}
use mathlib.Core.Option.{Option, none, some, none-ne-some}
use Prim.Native.Nat.{ℕ, ◌+◌, ◌≤◌, ◌<◌}
use native.Mathlib.Omega.{arith}
use lib.Dec.{eqb, ltb}
use lib.ListN.{length, get_or, drop, length-drop}
use lib.Seq.{length-take-le}
use borrow.Author.Tests.{eq-eqb, ne_eqb}
use Rattle.manual.specs.declared.Place.{Place}
use Rattle.manual.specs.Words.{three_at}
use Rattle.manual.specs.Configuration.{Configuration, most_payload, events, entry_frames, config_ok, first_with_code}
use Rattle.manual.specs.State.{State, stored_at, status_byte}
use Rattle.manual.specs.Memory.{Entry, bytes_in_use, entries_of, is_of, entry_for}
use Rattle.manual.specs.WellFormed.{well_formed}
use Rattle.manual.specs.Answers.{Outcome}
use Rattle.manual.specs.Diagnostics.{positive, negative, SubFunction, sub_function, fitted, line, is_record, shown_event}
use Rattle.manual.specs.Diagnostics.{event_asked, details_told, behind_status, shown_bytes, showing, suppresses}
use Rattle.manual.specs.Diagnostics.{sub_function_reply}
use Rattle.manual.proofs.WordsLaws.{by}
use Rattle.manual.proofs.ConfigurationLaws.{config_tells, found_tells}
use Rattle.manual.proofs.WellFormedLaws.{state_tells}
use Rattle.status.specs.declared.Record.{Record}
use Rattle.status.specs.Records.{stored_is}
use Rattle.std.specs.Prelude.{Some, None}
use Rattle.memory.specs.Places.{Find}
use Rattle.memory.specs.Fits.{PlaceFits}
use Rattle.memory.specs.Places.{at_place, place_of}
use Rattle.memory.proofs.PlacesLaws.{entries_fit, entry_within, entries_are_count, frame_is_at, found, found_nothing}
use Rattle.writing.specs.Writing.{Written, append}
use Rattle.writing.proofs.WritingLaws.{append_none, append_then}
use Rattle.diagnostics.specs.declared.Turn.{Turn}
use Rattle.diagnostics.specs.declared.Told.{Told}
use Rattle.diagnostics.specs.declared.Told.TheVariants.{Frame, Details}
use Rattle.diagnostics.specs.Replies.{turn_is, TurnBy}
use Rattle.diagnostics.specs.Showing.{remembering, number_of, tells, told_length, shown_length, shows_one, Within}
use Rattle.diagnostics.proofs.RepliesLaws.{Sends, by_reply, by_turn}

-- ---- what an accepted request lends

pub may_read : (cfg : Configuration) (s : State) → config_ok cfg ≡ true → well_formed cfg s ≡ true
    → Within cfg s.records s.memory
may_read cfg s ok formed = record {
  config = ok;
  records_as_long = (state_tells cfg s formed).lengths.records;
  entries_fit = entries_fit cfg s ok formed;
}

-- ---- the event that the request asks for

module _ (cfg : Configuration) (request : List ℕ) (s : State) where
  module _ {number : ℕ} (n : number ≡ get_or request 5 0) where
    pub asked_by_code : is_record cfg number ≡ true → {code : ℕ} → code ≡ three_at 2 request → {o : Option ℕ}
        → o ≡ first_with_code cfg code → o ≡ event_asked cfg request s
    unfolding event_asked shown_event
    asked_by_code t c e = rw (← n, t, ← c) e

    pub asked_for_nothing : is_record cfg number ≡ false → none ≡ event_asked cfg request s
    unfolding event_asked
    asked_for_nothing f = rw (← n, f) refl

  pub asked_below : (e : ℕ) → some e ≡ event_asked cfg request s → e < events cfg
  unfolding event_asked shown_event
  asked_below e =
      by (is_record cfg (get_or request 5 0)) (λ (o : Option ℕ). some e ≡ o → e < events cfg)
      (λ t q. (found_tells cfg _ e (sym q)).below) (λ f q. absurd (none-ne-some e (sym q)))

-- ---- what is told of an entry

-- bytes that were written are those that are meant
pub append_these : (w : Written) {xs ys : List ℕ} {u : Written} → u ≡ append xs w → xs ≡ ys → u ≡ append ys w
append_these w e q = e ∙ ap (λ (l : List ℕ). append l w) q

payload_length : (F p : ℕ) (m : List ℕ) → PlaceFits F m p → length (at_place p (entries_of F m)).payload ≡ F
payload_length F p m f =
    ap length (frame_is_at F m p f.below)
    ∙ length-take-le F (drop (bytes_in_use F p + 3) m)
    (omega (arith, entry_within F p m f, length-drop (bytes_in_use F p + 3) m))

module _ (cfg : Configuration) where
  pub told_most : config_ok cfg ≡ true → (told : Told) → told_length cfg told ≤ most_payload
  told_most ok Frame = (config_tells cfg ok).payload_most
  told_most ok Details = omega arith

  module _ (records memory : List ℕ) (e p : ℕ) where
    abbrev entry_here : Entry
    entry_here = at_place p (entries_of (entry_frames cfg) memory)

    abbrev told_here : Told → List ℕ
    told_here told = tells cfg told (remembering records memory) e entry_here

    pub told_length_is : (told : Told) → PlaceFits (entry_frames cfg) memory p
        → length (told_here told) ≡ told_length cfg told
    told_length_is Frame f = payload_length (entry_frames cfg) p memory f
    told_length_is Details f = refl

    pub details_told_lem : {told : Told} → told ≡ Details
        → details_told cfg (remembering records memory) e entry_here ≡ told_here told
    details_told_lem q = ap told_here (sym q)

    -- where the code has read the width of a payload
    module _ {w : ℕ} (width : w ≡ entry_frames cfg) where
      pub place_again : PlaceFits (entry_frames cfg) memory p → PlaceFits w memory p
      place_again f = rw width f

      pub details_are : {count : ℕ} (r : Record) → count ≡ (at_place p (entries_of w memory)).count
          → stored_is r ≡ stored_at e records
          → count ∷ r.k ∷ r.h ∷ r.g ∷ [] ≡ details_told cfg (remembering records memory) e entry_here
      details_are r c q =
          let count_is = c ∙ ap (λ (k : ℕ). (at_place p (entries_of k memory)).count) width in
          λ i. count_is i ∷ (q i).K ∷ (q i).h ∷ (q i).g ∷ []

      module _ {told : Told} (q : told ≡ Frame) {bytes : List ℕ} (is : bytes ≡ (at_place p (entries_of w memory)).payload)
        where
          pub frame_told_lem : bytes ≡ told_here told
          frame_told_lem = is ∙ ap (λ (k : ℕ). (at_place p (entries_of k memory)).payload) width ∙ ap told_here (sym q)

          pub frame_fits : (at room : ℕ) → PlaceFits (entry_frames cfg) memory p → at + told_length cfg told ≤ room
              → at + length bytes ≤ room
          frame_fits at room f h = omega (arith, ap length frame_told_lem, told_length_is told f)

pub details_fit : (cfg : Configuration) {told : Told} → told ≡ Details → (at room : ℕ)
    → at + told_length cfg told ≤ room → at + 4 ≤ room
details_fit cfg q at room h = rw q at h

-- ---- what stands behind the status, by where the event's entry was found

module _ (cfg : Configuration) (records memory : List ℕ) (e : ℕ) {own : Find}
    (is : own ≡ place_of e (entries_of (entry_frames cfg) memory)) where
  abbrev entries_here : List Entry
  entries_here = entries_of (entry_frames cfg) memory

  pub entry_there : (p : Place) → own ≡ Some p → entry_for e entries_here ≡ some (at_place p.0 entries_here)
  entry_there p q = (found (is_of e) entries_here p (sym is ∙ q)).first

  place_there : (p : Place) → own ≡ Some p → p.0 < length entries_here
  place_there p q = (found (is_of e) entries_here p (sym is ∙ q)).inside

  pub place_fits : Within cfg records memory → (p : Place) → own ≡ Some p
      → PlaceFits (entry_frames cfg) memory p.0
  place_fits within p q = record {
    entries = within.entries_fit;
    below = omega (arith, place_there p q, entries_are_count (entry_frames cfg) memory);
  }

  pub without_entry : own ≡ None → entry_for e entries_here ≡ none
  without_entry q = found_nothing (is_of e) entries_here (sym is ∙ q)

  module _ (told : Entry → List ℕ) (w : Written) where
    pub behind_entry : (p : Place) → own ≡ Some p → {v u : Written} → v ≡ append (0x01 ∷ []) w
        → u ≡ append (told (at_place p.0 entries_here)) v
        → u ≡ append (behind_status cfg told (entry_for e entries_here)) w
    unfolding behind_status
    behind_entry p q a b = rw (entry_there p q) (append_then (0x01 ∷ []) (told (at_place p.0 entries_here)) w a b)

    pub behind_none : own ≡ None → w ≡ append (behind_status cfg told (entry_for e entries_here)) w
    unfolding behind_status
    behind_none q = rw (without_entry q) (sym (append_none w))

-- ---- the whole reply

module _ (cfg : Configuration) (told : Told) where
  pub shown_least : (own : Find) → 6 ≤ shown_length cfg told own
  shown_least (Some p) = omega arith
  shown_least None = omega arith

  pub entry_fits : (p : Place) {own : Find} → own ≡ Some p → (room : ℕ) → shown_length cfg told own ≤ room
      → 7 + told_length cfg told ≤ room
  entry_fits p q room h = rw q at h

module _ (cfg : Configuration) (told : Told) (e : ℕ) where
  -- it reads nothing but records and memory
  pub shown_in : (s : State)
      → shown_bytes cfg (number_of told) (tells cfg told) e s
      ≡ shown_bytes cfg (number_of told) (tells cfg told) e (remembering s.records s.memory)
  unfolding shown_bytes
  shown_in s = go told
    where
      go : (t : Told)
          → 0x59 ∷ number_of told ∷ (line cfg (status_byte s) e
          ++ behind_status cfg (tells cfg t s e) (entry_for e (entries_of (entry_frames cfg) s.memory)))
          ≡ 0x59 ∷ number_of told ∷ (line cfg (status_byte (remembering s.records s.memory)) e
          ++ behind_status cfg (tells cfg t (remembering s.records s.memory) e)
          (entry_for e (entries_of (entry_frames cfg) s.memory)))
      go Frame = refl
      go Details = refl

  module _ (records memory : List ℕ) where
    abbrev here : State
    here = remembering records memory

    pub shown_written : (w : Written) {number status : ℕ} {v₁ v₂ u : Written} → number ≡ number_of told
        → status ≡ (stored_at e records).status → v₁ ≡ append (0x59 ∷ number ∷ []) w
        → v₂ ≡ append (line cfg (λ k. status) e) v₁
        → u ≡ append (behind_status cfg (tells cfg told here e) (entry_for e (entries_of (entry_frames cfg) memory))) v₂
        → u ≡ append (shown_bytes cfg (number_of told) (tells cfg told) e here) w
    unfolding shown_bytes
    shown_written w {number} {status} n q a b c =
        append_these w (append_then (0x59 ∷ number ∷ []) _ w a (append_then (line cfg (λ k. status) e) _ _ b c))
        (λ i. 0x59 ∷ n i ∷ (line cfg (λ k. q i) e
        ++ behind_status cfg (tells cfg told here e) (entry_for e (entries_of (entry_frames cfg) memory))))

    pub shown_length_is : {own : Find} → Within cfg records memory
        → own ≡ place_of e (entries_of (entry_frames cfg) memory)
        → length (shown_bytes cfg (number_of told) (tells cfg told) e here) ≡ shown_length cfg told own
    unfolding shown_bytes behind_status
    shown_length_is {own} within is = go own refl
      where
        go : (f : Find) → own ≡ f
            → length (shown_bytes cfg (number_of told) (tells cfg told) e here) ≡ shown_length cfg told f
        go (Some p) q =
            let fits = place_fits cfg records memory e is within p q in
            rw (entry_there cfg records memory e is p q)
            (omega (arith, told_length_is cfg records memory e p.0 told fits))
        go None q = rw (without_entry cfg records memory e is q) refl

  -- in any state, with the entry sought in payloads of w bytes: the length that the code compares
  module _ (s : State) {w : ℕ} (width : w ≡ entry_frames cfg) {own : Find}
      (sought : own ≡ place_of e (entries_of w s.memory)) where
    pub own_is : own ≡ place_of e (entries_of (entry_frames cfg) s.memory)
    own_is = sought ∙ ap (λ (k : ℕ). place_of e (entries_of k s.memory)) width

    pub size_is : {size : ℕ} → Within cfg s.records s.memory → size ≡ shown_length cfg told own
        → size ≡ length (shown_bytes cfg (number_of told) (tells cfg told) e s)
    size_is within z =
        z ∙ sym (ap length (shown_in s) ∙ shown_length_is s.records s.memory within own_is)

-- ---- the reply as the request and the room let it go

module _ (cfg : Configuration) (room : List ℕ) (s : State) (request : List ℕ) where
  -- a sub-function whose request has the right length, whatever that is
  abbrev sized : List ℕ → SubFunction
  sized bytes = sub_function 0 (length request) (λ r u. positive bytes)

  same : eqb (length request) (length request) ≡ true
  same = eq-eqb (length request) (length request) refl

  sized_reply : (bytes : List ℕ)
      → sub_function_reply cfg (some (sized bytes)) request (length room) s
      ≡ fitted (suppresses cfg request) (length room) (positive bytes)
  unfolding sub_function_reply
  sized_reply bytes = rw same

  pub fitted_by_turn : (bytes : List ℕ) {o : Outcome} {suppressed long : Bool} {turn taken : Turn}
      → TurnBy false suppressed long turn → turn ≡ taken → suppressed ≡ suppresses cfg request
      → long ≡ ltb (length room) (length bytes) → Sends cfg room s o (turn_is taken bytes)
      → Sends cfg room s o (fitted (suppresses cfg request) (length room) (positive bytes))
  fitted_by_turn bytes t e p l q =
      by_reply cfg room s (sized_reply bytes)
      (by_turn cfg room s (sized bytes) request bytes t e
      (record { length_is = sym (ap not same); suppressed_is = p; bytes_are = refl; long_is = l }) q)

  -- "Check order after length: unknown code or record 31, then 14."
  module _ (told : Told) where
    abbrev SendsOne : Outcome → Type 0
    SendsOne u = Sends cfg room s u (sub_function_reply cfg (some (shows_one cfg told)) request (length room) s)

    module _ {o : Outcome} where
      pub shows_13 : length request ≢ 6 → Sends cfg room s o (negative 0x13) → SendsOne o
      unfolding sub_function_reply
      shows_13 n q = rw (ne_eqb _ _ n) q

      pub shows_31 : length request ≡ 6 → none ≡ event_asked cfg request s → Sends cfg room s o (negative 0x31)
          → SendsOne o
      unfolding sub_function_reply showing fitted
      shows_31 l e q = rw (eq-eqb _ _ l, ← e) q

      pub shows_event : length request ≡ 6 → (e : ℕ) → some e ≡ event_asked cfg request s
          → Sends cfg room s o
          (fitted (suppresses cfg request) (length room)
          (positive (shown_bytes cfg (number_of told) (tells cfg told) e s)))
          → SendsOne o
      unfolding sub_function_reply showing
      shows_event l e q p = rw (eq-eqb _ _ l, ← q) p
