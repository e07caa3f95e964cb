-- Laws of the manual's replies, and of specs/Replies.antt.
use mathlib.Core.Path.{◌≡◌, refl, sym, ap, ◌∙◌}
use mathlib.Core.Logic.{◌≢◌}
use mathlib.Core.Bool.{Bool, true, false, not, cond}
use mathlib.Core.List.{List, [], ◌∷◌, ◌++◌}
use mathlib.Core.Option.{some}
use Prim.Native.Nat.{ℕ, ◌+◌, ◌*◌, ◌%◌, ◌≤◌}
use native.Mathlib.Nat.{zero-add}
use native.Mathlib.Omega.{arith}
use lib.Dec.{eqb, ltb}
use lib.ListN.{length, get_or, drop, length-append}
use lib.Seq.{sets, sets-eq}
use borrow.Author.Tests.{eq-eqb, ne_eqb}
use Rattle.manual.specs.Words.{count_below, first_of, two}
use Rattle.manual.specs.Configuration.{Configuration, events, config_ok}
use Rattle.manual.specs.State.{State}
use Rattle.manual.specs.Answers.{lent_room, Outcome}
use Rattle.manual.specs.Diagnostics.{Reply, positive, negative, reply_bytes, SubFunction, sub_function}
use Rattle.manual.specs.Counter.{counter_in}
use Rattle.manual.specs.Diagnostics.{fitted, line, lines, mask_of, number_by_mask, list_by_mask, list_events}
use Rattle.manual.specs.Diagnostics.{is_near, counter_byte, list_near}
use Rattle.manual.specs.Diagnostics.{sub_functions, suppresses, sub_function_reply, service19, sent}
use Rattle.manual.proofs.ConfigurationLaws.{config_tells}
use Rattle.manual.proofs.BelowLaws.{count_most, join_length}
use Rattle.writing.specs.Writing.{written, append}
use Rattle.diagnostics.specs.declared.Asked.{Asked}
use Rattle.diagnostics.specs.declared.Asked.TheVariants.{All, Matching, Near}
use Rattle.diagnostics.specs.declared.Turn.{Turn}
use Rattle.diagnostics.specs.declared.Turn.TheVariants.{Write, Suppressed}
use Rattle.diagnostics.specs.Replies.{holding, sent_is, asks, shows, lines_asked, listing, Tests, turn_is, TurnBy}

-- ---- bytes written from the front of the room are sent

module _ (cfg : Configuration) (bytes room : List ℕ) (s : State) where
  pub written_is_sent : {size : ℕ} {after : List ℕ} → length bytes ≤ length room
      → written size after ≡ append bytes (written 0 room) → sent_is size after s ≡ sent cfg bytes (lent_room room) s
  unfolding append sent
  written_is_sent h e =
      let front : sets room 0 bytes ≡ bytes ++ drop (length bytes) room =
      sets-eq bytes room 0 (omega arith) ∙ ap (λ k. bytes ++ drop k room) (zero-add (length bytes)) in
      ap (λ w. sent_is w.next w.room s) e ∙ (λ i. sent_is (zero-add (length bytes) i) (front i) s)

-- a reply of length 0 leaves the room
pub nothing_is_sent : (cfg : Configuration) (room : List ℕ) (s : State)
    → sent_is 0 room s ≡ sent cfg [] (lent_room room) s
unfolding sent
nothing_is_sent cfg room s = refl

-- ---- the turn of a sub-function, by the tests that the code makes

negative_writes_not : (code : ℕ) → Turn.Negative code ≢ Write
negative_writes_not code e = let z : ◌≡◌ {A = ℕ} 0 1 = cc in omega arith

module _ {wrong suppressed long : Bool} where
  by_tests : {cfg : Configuration} {f : SubFunction} {request : List ℕ} {room : ℕ} {s : State} {bytes : List ℕ}
      → Tests cfg f request room s bytes wrong suppressed long
      → cond wrong (negative 0x13) (cond suppressed (positive []) (cond long (negative 0x14) (positive bytes)))
      ≡ sub_function_reply cfg (some f) request room s
  unfolding sub_function_reply fitted
  by_tests t = rw (t.bytes_are, t.length_is, t.suppressed_is, t.long_is)

  pub turn_13 : wrong ≡ true → TurnBy wrong suppressed long (Turn.Negative 0x13)
  turn_13 w =
      record {
        replies = λ cfg f request room s bytes t. rw w at (by_tests t);
        fits = λ e. absurd
            (negative_writes_not 0x13 e);
      }

  pub turn_suppressed : wrong ≡ false → suppressed ≡ true → TurnBy wrong suppressed long Suppressed
  turn_suppressed w p =
      record {
        replies = λ cfg f request room s bytes t. rw (w, p) at (by_tests t);
        fits = λ e. absurd (let z : ◌≡◌ {A = ℕ} 0 1 = cc in omega arith);
      }

  pub turn_14 : wrong ≡ false → suppressed ≡ false → long ≡ true → TurnBy wrong suppressed long (Turn.Negative 0x14)
  turn_14 w p l =
      record {
        replies = λ cfg f request room s bytes t. rw (w, p, l) at (by_tests t);
        fits = λ e. absurd (negative_writes_not 0x14 e);
      }

  pub turn_write : wrong ≡ false → suppressed ≡ false → long ≡ false → TurnBy wrong suppressed long Write
  turn_write w p l = record { replies = λ cfg f request room s bytes t. rw (w, p, l) at (by_tests t); fits = λ e. l }

-- ---- service 19

module _ (cfg : Configuration) (room : List ℕ) (s : State) where
  -- this outcome is that of sending this reply
  abbrev pub Sends : Outcome → Reply → Type 0
  Sends o reply = o ≡ sent cfg (reply_bytes 0x19 reply) (lent_room room) s

  pub by_reply : {given wanted : Reply} {o : Outcome} → given ≡ wanted → Sends o given → Sends o wanted
  by_reply e p = p ∙ ap (λ r. sent cfg (reply_bytes 0x19 r) (lent_room room) s) e

  -- a sub-function, by the turn that its tests give
  pub by_turn : (f : SubFunction) (request bytes : List ℕ) {o : Outcome} {wrong suppressed long : Bool}
      {turn taken : Turn}
      → TurnBy wrong suppressed long turn
      → turn ≡ taken
      → Tests cfg f request (length room) s bytes wrong suppressed long
      → Sends o (turn_is taken bytes)
      → Sends o (sub_function_reply cfg (some f) request (length room) s)
  by_turn f request bytes t e tests p =
      by_reply (ap (λ k. turn_is k bytes) (sym e) ∙ t.replies cfg f request (length room) s bytes tests) p

  -- the service, by the sub-function's number
  module _ (request : List ℕ) {o : Outcome} where
    pub of_length_1 : length request ≡ 1 → Sends o (negative 0x13) → Sends o (service19 cfg request (length room) s)
    unfolding service19
    of_length_1 e p = rw (eq-eqb _ _ e) p

    pub of_number : {k : ℕ} → length request ≢ 1 → k ≡ get_or request 1 0 % 128
        → Sends o (sub_function_reply cfg (first_of (λ f. eqb f.number k) (sub_functions cfg)) request (length room) s)
        → Sends o (service19 cfg request (length room) s)
    unfolding service19
    of_number n e p = rw (ne_eqb _ _ n, ← e) p

    pub no_such_number : {k : ℕ} → k ≢ 0x01 → k ≢ 0x02 → k ≢ 0x0A → k ≢ 0x14 → k ≢ 0x04 → k ≢ 0x06
        → Sends o (negative 0x12)
        → Sends o (sub_function_reply cfg (first_of (λ f. eqb f.number k) (sub_functions cfg)) request (length room) s)
    unfolding first_of sub_function_reply
    no_such_number {k} a b c d f g p =
        rw (
          ne_eqb 0x01 k (λ e. a (sym e)),
          ne_eqb 0x02 k (λ e. b (sym e)),
          ne_eqb 0x0A k (λ e. c (sym e)),
          ne_eqb 0x14 k (λ e. d (sym e)),
          ne_eqb 0x04 k (λ e. f (sym e)),
          ne_eqb 0x06 k (λ e. g (sym e)),
        )
        p

-- ---- the events that are asked for

module _ (cfg : Configuration) where
  pub lines_length : (asked : Asked) (s : State)
      → length (lines_asked cfg asked s) ≡ 4 * count_below (events cfg) (asks cfg asked s)
  unfolding lines
  lines_length asked s = join_length (line cfg (shows cfg asked s)) (asks cfg asked s) 4 (λ e. refl) (events cfg)

  pub number_most : config_ok cfg ≡ true → (f : ℕ → Bool) {number : ℕ} → number ≡ count_below (events cfg) f
      → number ≤ 512
  number_most ok f e = let t = config_tells cfg ok in omega (arith, count_most f (events cfg))

  -- they are read off the records and the debounce numbers alone
  module _ (s : State) where
    abbrev read : State
    read = holding s.records s.debounce

    pub number_in : (asked : Asked)
        → count_below (events cfg) (asks cfg asked s) ≡ count_below (events cfg) (asks cfg asked read)
    unfolding is_near counter_in
    number_in All = refl
    number_in (Matching mask) = refl
    number_in Near = refl

    pub lines_in_lem : (asked : Asked) → lines_asked cfg asked s ≡ lines_asked cfg asked read
    unfolding lines is_near counter_byte counter_in
    lines_in_lem All = refl
    lines_in_lem (Matching mask) = refl
    lines_in_lem Near = refl

    number_reply : (request : List ℕ) {mask number : ℕ} → mask ≡ mask_of cfg request
        → number ≡ count_below (events cfg) (asks cfg (Matching mask) read)
        → number_by_mask cfg request s ≡ positive (0x59 ∷ 0x01 ∷ 0xFF ∷ 0x01 ∷ two number)
    unfolding number_by_mask
    number_reply request m e =
        ap (λ k. positive (0x59 ∷ 0x01 ∷ 0xFF ∷ 0x01 ∷ two k))
        (number_in (Matching (mask_of cfg request))
        ∙ sym (e ∙ ap (λ k. count_below (events cfg) (asks cfg (Matching k) read)) m))

    pub list_length : (head : List ℕ) (asked : Asked)
        → length (head ++ lines_asked cfg asked s)
        ≡ length head + 4 * count_below (events cfg) (asks cfg asked read)
    list_length head asked =
        let l = lines_length asked s ∙ ap (λ k. 4 * k) (number_in asked) in
        omega (arith, length-append head (lines_asked cfg asked s))

    -- the tests of 01, and of a sub-function that lists
    module _ (request : List ℕ) (room : ℕ) {suppressed : Bool} (p : suppressed ≡ suppresses cfg request) where
      pub number_tests : {mask number : ℕ} → mask ≡ mask_of cfg request
          → number ≡ count_below (events cfg) (asks cfg (Matching mask) read)
          → Tests cfg (sub_function 0x01 3 (number_by_mask cfg)) request room s (0x59 ∷ 0x01 ∷ 0xFF ∷ 0x01 ∷ two number)
          (not (eqb (length request) 3)) suppressed (ltb room 6)
      number_tests m e =
          record { length_is = refl; suppressed_is = p; bytes_are = number_reply request m e; long_is = refl }

      pub list_tests : (head : List ℕ) (size : ℕ) (asked : Asked) {long : Bool}
          → long ≡ ltb room (length head + 4 * count_below (events cfg) (asks cfg asked read))
          → Tests cfg (listing cfg head size asked) request room s (head ++ lines_asked cfg asked s)
          (not (eqb (length request) size)) suppressed long
      list_tests head size asked e = record {
        length_is = refl;
        suppressed_is = p;
        bytes_are = refl;
        long_is = e ∙ ap (ltb room) (sym (list_length head asked));
      }

  -- the sub-functions that list
  pub list_by_mask_is : (request : List ℕ) (s : State) (room : ℕ) {mask : ℕ} → mask ≡ mask_of cfg request
      → sub_function_reply cfg (some (listing cfg (0x59 ∷ 0x02 ∷ 0xFF ∷ []) 3 (Matching mask))) request room s
      ≡ sub_function_reply cfg (some (sub_function 0x02 3 (list_by_mask cfg))) request room s
  unfolding sub_function_reply list_by_mask
  list_by_mask_is request s room m = rw m

  pub list_all_is : (request : List ℕ) (s : State) (room : ℕ)
      → sub_function_reply cfg (some (listing cfg (0x59 ∷ 0x0A ∷ 0xFF ∷ []) 2 All)) request room s
      ≡ sub_function_reply cfg (some (sub_function 0x0A 2 (list_events cfg))) request room s
  unfolding sub_function_reply list_events
  list_all_is request s room = refl

  pub list_near_is : (request : List ℕ) (s : State) (room : ℕ)
      → sub_function_reply cfg (some (listing cfg (0x59 ∷ 0x14 ∷ []) 2 Near)) request room s
      ≡ sub_function_reply cfg (some (sub_function 0x14 2 (list_near cfg))) request room s
  unfolding sub_function_reply list_near
  list_near_is request s room = refl
