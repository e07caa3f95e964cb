-- An accepted request has the outcome that the sentences of the documents give it, and no other: the bytes that it is
-- sent, the answer 0, the rest of the room as found, and the state that it leaves.
use mathlib.Core.Path.{◌≡◌, refl, sym, ap, subst, ◌∙◌}
use mathlib.Core.Logic.{◌≢◌, ◌↔◌, ◌⊎◌, inl, inr, ⊎_elim}
use mathlib.Core.Bool.{Bool, true, false, not, cond}
use mathlib.Core.List.{List, [], ◌∷◌, ◌++◌, flat_map}
use mathlib.Core.Option.{Option, none, some, none-ne-some}
use Prim.Native.Nat.{ℕ}
use lib.Dec.{eqb, ltb, leb}
use lib.ListN.{length}
use borrow.Author.Tests.{eqb-true, eqb-false, eq-eqb, ne_eqb, ltb-true, ltb-false, lt-ltb}
use borrow.Author.Tests.{le-ltb, leb-true, leb-false, le-leb, lt-leb, not-true, not-false}
use Rattle.manual.specs.Words.{first_of, two}
use Rattle.manual.specs.Configuration.{Configuration, events}
use Rattle.manual.specs.State.{State}
use Rattle.manual.specs.Memory.{Entry, entry_for}
use Rattle.manual.specs.WellFormed.{entries}
use Rattle.manual.specs.Answers.{Beside, with_counts, Outcome}
use Rattle.manual.specs.Calls.{unknown_code, cleared}
use Rattle.manual.specs.Diagnostics.{Reply, Served, served, SubFunction, sub_function, fitted, lines, number_by_mask}
use Rattle.manual.specs.Diagnostics.{list_by_mask, list_events, list_near, is_near, counter_byte}
use Rattle.manual.specs.Diagnostics.{is_record, shown_event, event_asked, frame_told, details_told}
use Rattle.manual.specs.Diagnostics.{behind_status, shown_bytes, showing, show_frame, show_details}
use Rattle.manual.specs.Diagnostics.{sub_function_of, sub_function_reply, service19}
use Rattle.manual.specs.Diagnostics.{asks_clear, counts_after, service14, served_by, sent, replied, request_reply}
use Rattle.manual.specs.Replies as Replies
use Rattle.manual.specs.Replies.{rising, length_of_01, length_of_02, length_of_0a, length_of_14, length_of_04}
use Rattle.manual.specs.Replies.{length_of_06, numbered_by_mask, listed_by_mask, list_all, listed_near, frame_of_entry}
use Rattle.manual.specs.Replies.{details_of_entry, frame_without_entry, details_without_entry, code_unknown}
use Rattle.manual.specs.Replies.{unknown_record, other_service, alone, no_sub_function, other_length}
use Rattle.manual.specs.Replies.{unknown_in_04, unknown_in_06, too_long, not_four, unknown, negative, suppressed}
use Rattle.manual.specs.Replies.{positive, clears}
use Rattle.manual.proofs.WordsLaws.{clash, by, neither, either}
use Rattle.manual.proofs.ConfigurationLaws.{found_tells, found_is, nothing_tells, nothing_is}
use Rattle.manual.proofs.RepliesLaws.{those_every, count_is, join_is, as_stored, asks_clear_lem, clearing}
use Rattle.manual.proofs.RepliesLaws.{counts_rise, counts_stay, accepted_is}

module _ (cfg : Configuration) (request : List ℕ) (b : Beside) (s : State) where
  abbrev service : ℕ
  service = Replies.service cfg request s

  abbrev second : ℕ
  second = Replies.second_byte cfg request s

  abbrev number : ℕ
  number = Replies.number cfg request s

  abbrev matching : List ℕ
  matching = Replies.matching cfg request s

  abbrev line_of : ℕ → List ℕ
  line_of = Replies.line_of cfg request s

  abbrev nearing : List ℕ
  nearing = Replies.nearing cfg request s

  abbrev counter_line : ℕ → List ℕ
  counter_line = Replies.counter_line cfg request s

  abbrev trouble_code : ℕ
  trouble_code = Replies.trouble_code cfg request s

  abbrev Shown : ℕ → Type 0
  Shown = Replies.Shown cfg request s

  abbrev AsksForUnknown : Type 0
  AsksForUnknown = Replies.AsksForUnknown cfg request s

  abbrev MustHave : ℕ → Type 0
  MustHave = Replies.MustHave cfg request s

  abbrev Asks : List ℕ → Type 0
  Asks = Replies.Asks cfg request s

  abbrev Names : ℕ → Type 0
  Names = Replies.Names cfg request s

  abbrev Sized : Type 0
  Sized = Replies.Sized cfg request s

  abbrev Due : List ℕ → Type 0
  Due = Replies.Due cfg request s

  abbrev Negative : ℕ → Type 0
  Negative = Replies.Negative cfg request s b

  abbrev Said : Outcome → Type 0
  Said = Replies.Replies cfg request s b

  abbrev here : Served
  here = served_by cfg request (length b.room) s

  -- what is lent beside the state, with the counts that the request leaves
  abbrev left : Beside
  left = with_counts (counts_after cfg request b s) b

  -- a reply as the request and the room let it go
  abbrev fitting : Reply → Reply
  fitting reply = fitted (leb 128 second) (length b.room) reply

  -- ---- the definitions' positive replies are the sentences' ones

  number_is : number_by_mask cfg request s ≡ Reply.positive (0x59 ∷ 0x01 ∷ 0xFF ∷ 0x01 ∷ two (length matching))
  unfolding number_by_mask
  number_is = ap (λ (k : ℕ). Reply.positive (0x59 ∷ 0x01 ∷ 0xFF ∷ 0x01 ∷ two k)) (count_is _ (events cfg))

  list_is : list_by_mask cfg request s ≡ Reply.positive (0x59 ∷ 0x02 ∷ 0xFF ∷ flat_map line_of matching)
  unfolding list_by_mask lines
  list_is = ap (λ (l : List ℕ). Reply.positive (0x59 ∷ 0x02 ∷ 0xFF ∷ l)) (join_is _ line_of (events cfg))

  all_is : list_events cfg request s ≡ Reply.positive (0x59 ∷ 0x0A ∷ 0xFF ∷ flat_map line_of (rising (events cfg)))
  unfolding list_events lines
  all_is =
      ap (λ (l : List ℕ). Reply.positive (0x59 ∷ 0x0A ∷ 0xFF ∷ l))
      (join_is (λ e. true) line_of (events cfg) ∙ ap (flat_map line_of) (those_every (rising (events cfg))))

  near_is : list_near cfg request s ≡ Reply.positive (0x59 ∷ 0x14 ∷ flat_map counter_line nearing)
  unfolding list_near lines is_near counter_byte
  near_is = ap (λ (l : List ℕ). Reply.positive (0x59 ∷ 0x14 ∷ l)) (join_is _ counter_line (events cfg))

  -- ---- the event that a request asks for, or none

  record_known : is_record cfg (Replies.asked_record cfg request s) ≡ true → Replies.KnownRecord cfg request s
  record_known t = ⊎_elim (λ p. inl (eqb-true _ _ p)) (λ p. inr (eqb-true _ _ p)) (either _ _ t)

  known_record : Replies.KnownRecord cfg request s → is_record cfg (Replies.asked_record cfg request s) ≡ true
  known_record (inl e) = rw e
  known_record (inr e) = rw e

  record_unknown : is_record cfg (Replies.asked_record cfg request s) ≡ false → AsksForUnknown
  record_unknown f = let n = neither _ _ f in unknown_record (eqb-false _ _ n.0) (eqb-false _ _ n.1)

  shown_is : (e : ℕ) → event_asked cfg request s ≡ some e → Shown e
  unfolding event_asked shown_event
  shown_is e =
      by (is_record cfg (Replies.asked_record cfg request s)) (λ (o : Option ℕ). o ≡ some e → Shown e)
      (λ t q. record { known_record = record_known t; of_code = found_tells cfg _ e q })
      (λ f q. absurd (none-ne-some e q))

  is_shown : (e : ℕ) → Shown e → event_asked cfg request s ≡ some e
  unfolding event_asked shown_event
  is_shown e h = rw (known_record h.known_record) (found_is cfg _ e h.of_code)

  unknown_is : event_asked cfg request s ≡ none → AsksForUnknown
  unfolding event_asked shown_event
  unknown_is =
      by (is_record cfg (Replies.asked_record cfg request s)) (λ (o : Option ℕ). o ≡ none → AsksForUnknown)
      (λ t q. code_unknown (nothing_tells cfg _ q))
      (λ f q. record_unknown f)

  is_unknown : AsksForUnknown → event_asked cfg request s ≡ none
  unfolding event_asked shown_event
  is_unknown (code_unknown n) =
      by (is_record cfg (Replies.asked_record cfg request s)) (λ (o : Option ℕ). o ≡ none)
      (λ t. nothing_is cfg _ n) (λ f. refl)
  is_unknown (unknown_record a b) = rw (ne_eqb _ _ a, ne_eqb _ _ b)

  -- ---- the definitions follow the sentences

  -- what this leaves is said
  abbrev SaidOf : Served → Type 0
  SaidOf r = Said (replied cfg service b r)

  abbrev Said19 : Reply → Type 0
  Said19 reply = SaidOf (served reply s)

  fitted_said : (bytes : List ℕ) → Due bytes → Said19 (fitting (Reply.positive bytes))
  unfolding fitted sent
  fitted_said bytes n =
      by (leb 128 second) Said19 (λ t. suppressed (bytes, n, leb-true _ _ t)) (λ f.
      by (ltb (length b.room) (length bytes)) Said19
      (λ t. negative 0x14 (too_long bytes n (leb-false _ _ f) (ltb-true _ _ t)))
      (λ g. positive bytes n (leb-false _ _ f) (ltb-false _ _ g)))

  -- a request that has its length
  module _ (z : Sized) where
    due_said : (bytes : List ℕ) → Asks bytes → Said19 (fitting (Reply.positive bytes))
    due_said bytes a = fitted_said bytes (record { sized = z; asks = a })

    -- of one that asks for the event of a code, and what is told of its entry
    module _ (k : ℕ) (told : State → ℕ → Entry → List ℕ)
        (of_entry : (e : ℕ) → Shown e → (x : Entry) → entry_for e (entries cfg s) ≡ some x
        → Asks (0x59 ∷ k ∷ (line_of e ++ (0x01 ∷ told s e x))))
        (without : (e : ℕ) → Shown e → entry_for e (entries cfg s) ≡ none → Asks (0x59 ∷ k ∷ line_of e)) where
      shown_asks : (e : ℕ) → Shown e → Asks (shown_bytes cfg k told e s)
      unfolding shown_bytes behind_status
      shown_asks e h = go (entry_for e (entries cfg s)) refl
        where
          go : (x : Option Entry) → entry_for e (entries cfg s) ≡ x
              → Asks (0x59 ∷ k ∷ (line_of e ++ behind_status cfg (told s e) x))
          go (some x) q = of_entry e h x q
          go none q = without e h q

      showing_said : (AsksForUnknown → Negative 0x31)
          → Said19 (fitting (showing cfg k told (event_asked cfg request s) s))
      unfolding showing fitted sent
      showing_said to31 = go (event_asked cfg request s) refl
        where
          go : (o : Option ℕ) → event_asked cfg request s ≡ o → Said19 (fitting (showing cfg k told o s))
          go (some e) q = due_said _ (shown_asks e (shown_is e q))
          go none q = negative 0x31 (to31 (unknown_is q))

    frame_said : number ≡ 0x04 → Said19 (fitting (showing cfg 0x04 (frame_told cfg) (event_asked cfg request s) s))
    frame_said n =
        showing_said 0x04 (frame_told cfg)
        (λ e h x q. subst (λ (l : List ℕ). Asks (0x59 ∷ 0x04 ∷ (line_of e ++ (0x01 ∷ l)))) (as_stored cfg x)
        (frame_of_entry n e h x q))
        (frame_without_entry n) (unknown_in_04 z n)

    details_said : number ≡ 0x06 → Said19 (fitting (showing cfg 0x06 (details_told cfg) (event_asked cfg request s) s))
    details_said n =
        showing_said 0x06 (details_told cfg) (details_of_entry n) (details_without_entry n) (unknown_in_06 z n)

  sub_said : (k size : ℕ) (reply : List ℕ → State → Reply) → Names size
      → (Sized → Said19 (fitting (reply request s)))
      → Said19 (sub_function_reply cfg (some (sub_function k size reply)) request (length b.room) s)
  unfolding sub_function_reply sent
  sub_said k size reply n said =
      by (not (eqb (length request) size)) Said19
      (λ t. negative 0x13 (other_length size n (eqb-false _ _ (not-true _ t))))
      (λ f. let l : length request ≡ size = eqb-true _ _ (not-false _ f) in said (rw l n))

  module _ (is19 : service ≡ 0x19) (more : length request ≢ 1) where
    named : {size : ℕ} → MustHave size → Names size
    named m = record { service_19 = is19; more = more; must_have = m }

    abbrev SaidSub : Option SubFunction → Type 0
    SaidSub f = Said19 (sub_function_reply cfg f request (length b.room) s)

    none_said : number ≢ 0x01 → number ≢ 0x02 → number ≢ 0x0A → number ≢ 0x14 → number ≢ 0x04 → number ≢ 0x06
        → SaidSub none
    unfolding sub_function_reply sent
    none_said a b c d e f = negative 0x12 (no_sub_function is19 more a b c d e f)

    -- each sub-function
    said_01 : number ≡ 0x01 → SaidSub (some (sub_function 0x01 3 (number_by_mask cfg)))
    said_01 n =
        sub_said 0x01 3 _ (named (length_of_01 n)) (λ z. rw number_is (due_said z _ (numbered_by_mask n)))

    said_02 : number ≡ 0x02 → SaidSub (some (sub_function 0x02 3 (list_by_mask cfg)))
    said_02 n = sub_said 0x02 3 _ (named (length_of_02 n)) (λ z. rw list_is (due_said z _ (listed_by_mask n)))

    said_0a : number ≡ 0x0A → SaidSub (some (sub_function 0x0A 2 (list_events cfg)))
    said_0a n = sub_said 0x0A 2 _ (named (length_of_0a n)) (λ z. rw all_is (due_said z _ (list_all n)))

    said_14 : number ≡ 0x14 → SaidSub (some (sub_function 0x14 2 (list_near cfg)))
    said_14 n = sub_said 0x14 2 _ (named (length_of_14 n)) (λ z. rw near_is (due_said z _ (listed_near n)))

    said_04 : number ≡ 0x04 → SaidSub (some (sub_function 0x04 6 (show_frame cfg)))
    said_04 n = sub_said 0x04 6 _ (named (length_of_04 n)) (λ z. frame_said z n)

    said_06 : number ≡ 0x06 → SaidSub (some (sub_function 0x06 6 (show_details cfg)))
    said_06 n = sub_said 0x06 6 _ (named (length_of_06 n)) (λ z. details_said z n)

    subs_said : SaidSub (sub_function_of cfg request)
    unfolding first_of
    subs_said =
        by (eqb 0x01 number) SaidSub (λ t. said_01 (this t)) (λ not-01.
        by (eqb 0x02 number) SaidSub (λ t. said_02 (this t)) (λ not-02.
        by (eqb 0x0A number) SaidSub (λ t. said_0a (this t)) (λ not-0A.
        by (eqb 0x14 number) SaidSub (λ t. said_14 (this t)) (λ not_14.
        by (eqb 0x04 number) SaidSub (λ t. said_04 (this t)) (λ not-04.
        by (eqb 0x06 number) SaidSub (λ t. said_06 (this t)) (λ not-06.
        none_said (other not-01) (other not-02) (other not-0A) (other not_14) (other not-04) (other not-06)))))))
      where
        this : {k : ℕ} → eqb k number ≡ true → number ≡ k
        this t = sym (eqb-true _ _ t)

        other : {k : ℕ} → eqb k number ≡ false → number ≢ k
        other f e = eqb-false _ _ f (sym e)

  service19_said : service ≡ 0x19 → Said19 (service19 cfg request (length b.room) s)
  unfolding service19 sent
  service19_said is19 =
      by (eqb (length request) 1) Said19 (λ t. negative 0x13 (alone is19 (eqb-true _ _ t)))
      (λ f. subs_said is19 (eqb-false _ _ f))

  -- a request that asks for no clear leaves the counts

  service14_said : asks_clear cfg request ≡ false → service ≡ 0x14 → SaidOf (service14 cfg request s)
  unfolding service14 sent
  service14_said keeps is14 =
      by (not (eqb (length request) 4)) SaidOf (λ t. negative 0x13 (not_four is14 (eqb-false _ _ (not-true _ t))))
      (λ f. let four : length request ≡ 4 = eqb-true (length request) 4 (not-false _ f) in
      by (unknown_code cfg trouble_code) SaidOf (λ t. negative 0x31 (unknown is14 four t))
      (λ g. clash (asks_clear cfg request) (asks_clear_lem cfg request b s (is14, four, g)) keeps))

  kept_said : asks_clear cfg request ≡ false → SaidOf here
  unfolding served_by sent
  kept_said keeps =
      by (eqb service 0x19) SaidOf (λ t. service19_said (eqb-true _ _ t)) (λ not-19.
      by (eqb service 0x14) SaidOf (λ t. service14_said keeps (eqb-true _ _ t))
      (λ not_14. negative 0x11 (other_service (eqb-false _ _ not-19) (eqb-false _ _ not_14))))

  -- ---- the sentences give nothing else

  -- the sub-function that a request asks for, in the definitions' table
  record Found (size : ℕ) : Type 0 where
    its_number : ℕ
    its_reply : List ℕ → State → Reply
    there : sub_function_of cfg request ≡ some (sub_function its_number size its_reply)

  found : {size : ℕ} → MustHave size → Found size
  unfolding first_of
  found (length_of_01 e) = record { its_number = 0x01; its_reply = number_by_mask cfg; there = rw e }
  found (length_of_02 e) = record { its_number = 0x02; its_reply = list_by_mask cfg; there = rw e }
  found (length_of_0a e) = record { its_number = 0x0A; its_reply = list_events cfg; there = rw e }
  found (length_of_14 e) = record { its_number = 0x14; its_reply = list_near cfg; there = rw e }
  found (length_of_04 e) = record { its_number = 0x04; its_reply = show_frame cfg; there = rw e }
  found (length_of_06 e) = record { its_number = 0x06; its_reply = show_details cfg; there = rw e }

  -- and its reply
  abbrev reply_of : Option SubFunction → Reply
  reply_of none = Reply.negative 0x12
  reply_of (some f) = f.reply request s

  abbrev the_reply : Reply
  the_reply = reply_of (sub_function_of cfg request)

  shows_entry : (k : ℕ) (told : State → ℕ → Entry → List ℕ) (e : ℕ) → Shown e
      → (x : Option Entry) → entry_for e (entries cfg s) ≡ x
      → showing cfg k told (event_asked cfg request s) s
      ≡ Reply.positive (0x59 ∷ k ∷ (line_of e ++ behind_status cfg (told s e) x))
  unfolding showing shown_bytes
  shows_entry k told e h x q = rw (is_shown e h, q)

  shows_unknown : (k : ℕ) (told : State → ℕ → Entry → List ℕ) → AsksForUnknown
      → showing cfg k told (event_asked cfg request s) s ≡ Reply.negative 0x31
  unfolding showing
  shows_unknown k told u = rw (is_unknown u)

  asks_is : {bytes : List ℕ} → Asks bytes → the_reply ≡ Reply.positive bytes
  unfolding first_of behind_status
  asks_is (numbered_by_mask e) = rw e number_is
  asks_is (listed_by_mask e) = rw e list_is
  asks_is (list_all e) = rw e all_is
  asks_is (listed_near e) = rw e near_is
  asks_is (frame_of_entry n e h x q) = rw (as_stored cfg x) (rw n (shows_entry 0x04 (frame_told cfg) e h (some x) q))
  asks_is (details_of_entry n e h x q) = rw n (shows_entry 0x06 (details_told cfg) e h (some x) q)
  asks_is (frame_without_entry n e h q) = rw n (shows_entry 0x04 (frame_told cfg) e h none q)
  asks_is (details_without_entry n e h q) = rw n (shows_entry 0x06 (details_told cfg) e h none q)

  unknown_reply : (number ≡ 0x04) ⊎ (number ≡ 0x06) → AsksForUnknown → the_reply ≡ Reply.negative 0x31
  unfolding first_of
  unknown_reply (inl n) u = rw n (shows_unknown 0x04 (frame_told cfg) u)
  unknown_reply (inr n) u = rw n (shows_unknown 0x06 (details_told cfg) u)

  named_served : {size : ℕ} → Names size
      → here ≡ served (cond (not (eqb (length request) size)) (Reply.negative 0x13) (fitting the_reply)) s
  unfolding served_by service19 sub_function_reply
  named_served n = let f = found n.must_have in rw (n.service_19, ne_eqb _ _ n.more, f.there)

  sized_served : Sized → here ≡ served (fitting the_reply) s
  sized_served z = named_served z ∙ rw (eq-eqb (length request) (length request) refl)

  due_served : {bytes : List ℕ} → Due bytes → here ≡ served (fitting (Reply.positive bytes)) s
  due_served n = sized_served n.sized ∙ ap (λ (r : Reply). served (fitting r) s) (asks_is n.asks)

  unknown_served : Sized → (number ≡ 0x04) ⊎ (number ≡ 0x06) → AsksForUnknown
      → here ≡ served (Reply.negative 0x31) s
  unfolding fitted
  unknown_served z n u = sized_served z ∙ ap (λ (r : Reply). served (fitting r) s) (unknown_reply n u)

  other : {k : ℕ} → number ≢ k → eqb k number ≡ false
  other n = ne_eqb _ _ (λ e. n (sym e))

  negative_served : (k : ℕ) → Negative k → here ≡ served (Reply.negative k) s
  unfolding served_by service19 sub_function_reply service14 first_of fitted
  negative_served _ (other_service a b) = rw (ne_eqb _ _ a, ne_eqb _ _ b)
  negative_served _ (alone a l) = rw (a, l)
  negative_served _ (no_sub_function a m p q r t u v) =
      rw (a, ne_eqb _ _ m, other p, other q, other r, other t, other u, other v)
  negative_served _ (other_length size n l) = named_served n ∙ rw (ne_eqb _ _ l)
  negative_served _ (unknown_in_04 z n u) = unknown_served z (inl n) u
  negative_served _ (unknown_in_06 z n u) = unknown_served z (inr n) u
  negative_served _ (too_long bytes n p l) = due_served n ∙ rw (lt-leb _ _ p, lt-ltb _ _ l)
  negative_served _ (not_four a l) = rw (a, ne_eqb _ _ l)
  negative_served _ (unknown a l u) = rw (a, l, u)

  -- only a clearing request changes the counts
  negative_keeps : (k : ℕ) → Negative k → asks_clear cfg request ≡ false
  negative_keeps _ (other_service a b) = rw (ne_eqb _ _ b)
  negative_keeps _ (alone a l) = rw a
  negative_keeps _ (no_sub_function a m p q r t u v) = rw a
  negative_keeps _ (other_length size n l) = rw n.service_19
  negative_keeps _ (unknown_in_04 z n u) = rw z.service_19
  negative_keeps _ (unknown_in_06 z n u) = rw z.service_19
  negative_keeps _ (too_long bytes n p l) = rw n.sized.service_19
  negative_keeps _ (not_four a l) = rw (a, ne_eqb _ _ l)
  negative_keeps _ (unknown a l u) = rw (a, l, u)

  due_keeps : {bytes : List ℕ} → Due bytes → asks_clear cfg request ≡ false
  due_keeps n = rw n.sized.service_19

  clears_served : service ≡ 0x14 → length request ≡ 4 → unknown_code cfg trouble_code ≡ false
      → here ≡ served (Reply.positive (0x54 ∷ [])) (cleared cfg trouble_code s)
  unfolding served_by service14
  clears_served a l k = rw (a, l, k)

  -- what is served and what is sent
  said_served : (o : Outcome) → Said o → replied cfg service left here ≡ o
  unfolding sent fitted
  said_served _ (negative k n) = rw (counts_stay cfg request b s (negative_keeps k n), negative_served k n)
  said_served _ (suppressed q) =
      rw (counts_stay cfg request b s (due_keeps q.1), due_served q.1, le-leb _ _ q.2)
  said_served _ (positive bytes n p l) =
      rw (counts_stay cfg request b s (due_keeps n), due_served n, lt-leb _ _ p, le-ltb _ _ l)
  said_served _ (clears a l k) =
      rw (counts_rise cfg request b s (asks_clear_lem cfg request b s (a, l, k)), clears_served a l k)

  served_said : Said (replied cfg service left here)
  unfolding sent
  served_said = go (asks_clear cfg request) refl
    where
      go : (t : Bool) → asks_clear cfg request ≡ t → Said (replied cfg service left here)
      go true t =
          let (a, l, k) = clearing cfg request b s t in
          rw (counts_rise cfg request b s t, clears_served a l k) (clears a l k)
      go false f = rw (counts_stay cfg request b s f) (kept_said f)

  -- ---- the theorem

  module _ (answered : (request_reply cfg request b s).answer ≡ 0) where
    pub reply_said : Said (request_reply cfg request b s)
    reply_said = rw (accepted_is cfg request b s answered) served_said

    pub reply_is : (o : Outcome) → Said o → request_reply cfg request b s ≡ o
    reply_is o h = accepted_is cfg request b s answered ∙ said_served o h

    -- exactly when
    pub reply_exactly : (o : Outcome) → (request_reply cfg request b s ≡ o) ↔ Said o
    reply_exactly o = (λ e. subst Said e reply_said, reply_is o)
