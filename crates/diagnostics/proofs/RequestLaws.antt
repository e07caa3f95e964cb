-- Laws of the manual's service 14, of the choice of a service by the tests that the code makes, and of the call.
use mathlib.Core.Path.{◌≡◌, refl, sym, ap, ◌∙◌}
use mathlib.Core.Logic.{◌≢◌}
use mathlib.Core.Bool.{Bool, true, false, cond}
use mathlib.Core.List.{List, [], ◌∷◌}
use mathlib.Core.Option.{Option, none, some, some-injective, none-ne-some}
use Prim.Native.Nat.{ℕ, ◌≤◌}
use native.Mathlib.Omega.{arith}
use lib.Dec.{eqb, ltb}
use lib.ListN.{length, get_or}
use borrow.Author.Tests.{eq-eqb, ne_eqb, ltb-false, not-false}
use Rattle.manual.specs.declared.Refusal.{Refusal}
use Rattle.manual.specs.Words.{three_at}
use Rattle.manual.specs.Configuration.{Configuration, config_ok}
use Rattle.manual.specs.State.{State}
use Rattle.manual.specs.WellFormed.{well_formed}
use Rattle.manual.specs.Answers.{lent_room, lent_both, with_counts, Outcome, Rule, ◌if◌, first_that_applies, number_of}
use Rattle.manual.specs.Counts.{rise_of, raised, past, carries_past, counts_fit}
use Rattle.manual.specs.Calls.{begins, unknown_code, cleared, clear_log}
use Rattle.manual.specs.Diagnostics.{positive, negative, reply_bytes, served, service19}
use Rattle.manual.specs.Diagnostics.{service14, served_by, sent, replied, asks_clear, counts_after, request_rules}
use Rattle.manual.proofs.AnswersLaws.{none_applies, three_passed}
use Rattle.writing.specs.Writing.{written, append}
use Rattle.writing.proofs.WritingLaws.{append_next}
use Rattle.counts.specs.Near.{AreFive}
use Rattle.counts.proofs.NearLaws.{are_five}
use Rattle.std.specs.Prelude.{Result, Ok, Err, ⊤}
use Rattle.judgement.specs.Checks.{check_number}
use Rattle.judgement.proofs.JudgedLaws.{passed_by}
use Rattle.rehearsal.proofs.LastLaws.{last_judged, stopped_before}
use Rattle.diagnostics.specs.Replies.{sent_is, service_is, clears14, code_where, clears_past, MayAnswer, answered}
use Rattle.diagnostics.specs.declared.Service.{Service}
use Rattle.diagnostics.specs.declared.Service.TheVariants.{Replied, Clear}
use Rattle.diagnostics.proofs.RepliesLaws.{written_is_sent}

-- ---- service 14

module _ (cfg : Configuration) (request : List ℕ) (s : State) where
  pub clear_wrong_length : length request ≢ 4 → served (negative 0x13) s ≡ service14 cfg request s
  unfolding service14
  clear_wrong_length n = rw (ne_eqb _ _ n)

  module _ {code : ℕ} (four : length request ≡ 4) (c : code ≡ three_at 1 request) where
    pub clear_unknown : unknown_code cfg code ≡ true → served (negative 0x31) s ≡ service14 cfg request s
    unfolding service14
    clear_unknown u = rw (eq-eqb _ _ four, ← c, u)

    pub clear_known : unknown_code cfg code ≡ false
        → served (positive (0x54 ∷ [])) (cleared cfg code s) ≡ service14 cfg request s
    unfolding service14
    clear_known u = rw (eq-eqb _ _ four, ← c, u)

-- its reply, and the state after it
module _ (cfg : Configuration) (request room : List ℕ) (s : State) where
  pub replies_54 : (code : ℕ) {size : ℕ} {after : List ℕ} → 3 ≤ length room
      → written size after ≡ append (0x54 ∷ []) (written 0 room)
      → served (positive (0x54 ∷ [])) (cleared cfg code s) ≡ service14 cfg request s
      → sent_is 1 after (cleared cfg code s) ≡ replied cfg 0x14 (lent_room room) (service14 cfg request s)
  replies_54 code {after} h e p =
      ap (λ k. sent_is k after (cleared cfg code s)) (sym (append_next (0x54 ∷ []) (written 0 room) e))
      ∙ written_is_sent cfg (0x54 ∷ []) room (cleared cfg code s) (omega arith) e
      ∙ ap (replied cfg 0x14 (lent_room room)) p

  pub replies_negative : (code : ℕ) {o : Outcome} → o ≡ sent cfg (reply_bytes 0x14 (negative code)) (lent_room room) s
      → served (negative code) s ≡ service14 cfg request s
      → o ≡ replied cfg 0x14 (lent_room room) (service14 cfg request s)
  replies_negative code e p = e ∙ ap (replied cfg 0x14 (lent_room room)) p

-- ---- the service

module _ (cfg : Configuration) (request room : List ℕ) (s : State) where
  -- this outcome is that of serving the request
  abbrev pub Serves : Outcome → Type 0
  Serves o = o ≡ replied cfg (get_or request 0 0) (lent_room room) (served_by cfg request (length room) s)

  module _ {o : Outcome} {service : ℕ} (first : service ≡ get_or request 0 0) where
    pub serves_19 : service ≡ 0x19
        → o ≡ replied cfg 0x19 (lent_room room) (served (service19 cfg request (length room) s) s) → Serves o
    unfolding served_by
    serves_19 e p = rw (← first, e) p

    pub serves_14 : service ≡ 0x14 → o ≡ replied cfg 0x14 (lent_room room) (service14 cfg request s) → Serves o
    unfolding served_by
    serves_14 e p = rw (← first, e) p

    pub serves_no_other : service ≢ 0x19 → service ≢ 0x14
        → o ≡ sent cfg (reply_bytes service (negative 0x11)) (lent_room room) s → Serves o
    unfolding served_by
    serves_no_other a b p = rw (← first, ne_eqb _ _ a, ne_eqb _ _ b) p

-- ---- the clear that a request asks for

module _ (cfg : Configuration) (request : List ℕ) where
  -- that of service 14
  abbrev pub Clears14 : Option ℕ → Type 0
  Clears14 code = code ≡ code_where cfg (clears14 cfg request) request

  pub no_clear_of_length : length request ≢ 4 → Clears14 none
  no_clear_of_length n = rw (ne_eqb _ _ n)

  module _ {code : ℕ} (four : length request ≡ 4) (c : code ≡ three_at 1 request) where
    pub no_clear_of_code : unknown_code cfg code ≡ true → Clears14 none
    no_clear_of_code u = rw (eq-eqb _ _ four, ← c, u)

    pub clear_of_code : unknown_code cfg code ≡ false → Clears14 (some code)
    clear_of_code u = rw (eq-eqb _ _ four, ← c, u)

  -- that of any request
  abbrev pub Asks : Option ℕ → Type 0
  Asks code = code ≡ code_where cfg (asks_clear cfg request) request

  module _ {service : ℕ} (first : service ≡ get_or request 0 0) where
    pub asks_14 : service ≡ 0x14 → {code : Option ℕ} → Clears14 code → Asks code
    asks_14 e p = rw (← first, e) p

    pub asks_none : service ≢ 0x14 → Asks none
    asks_none n = rw (← first, ne_eqb _ _ n)

  -- what the answer says of the request: that it asks for no clear, or for this one
  asked_none : (b : Bool) (code : ℕ) → none ≡ cond b (some code) none → b ≡ false
  asked_none true code e = absurd (none-ne-some code e)
  asked_none false code e = refl

  asked_some : (b : Bool) (code code' : ℕ) → some code ≡ cond b (some code') none → (b ≡ true) × (code ≡ code')
  asked_some true code code' e = (refl, some-injective code code' e)
  asked_some false code code' e = absurd (none-ne-some code (sym e))

  module _ (counts : List ℕ) (s : State) where
    module _ (p : Asks none) where
      not_asked : asks_clear cfg request ≡ false
      not_asked = asked_none (asks_clear cfg request) (three_at 1 request) p

      pub counts_stay : (room : List ℕ) → counts ≡ counts_after cfg request (lent_both room counts) s
      unfolding counts_after
      counts_stay room = rw not_asked

      -- it is never 12
      pub no_limit : 0 ≡ first_that_applies ((12 if clears_past cfg request counts s) ∷ [])
      unfolding first_that_applies
      no_limit = rw not_asked

    module _ {code : ℕ} (p : Asks (some code)) where
      asked : asks_clear cfg request ≡ true
      asked = (asked_some (asks_clear cfg request) code (three_at 1 request) p).0

      is_code : code ≡ three_at 1 request
      is_code = (asked_some (asks_clear cfg request) code (three_at 1 request) p).1

      past_is : carries_past (clear_log cfg code s) counts ≡ clears_past cfg request counts s
      past_is = rw asked (ap (λ (k : ℕ). carries_past (clear_log cfg k s) counts) is_code)

      pub limit_is : {past : Bool} → past ≡ carries_past (clear_log cfg code s) counts → {number : ℕ}
          → number ≡ first_that_applies ((12 if past) ∷ [])
          → number ≡ first_that_applies ((12 if clears_past cfg request counts s) ∷ [])
      limit_is q n = n ∙ ap (λ (b : Bool). first_that_applies ((12 if b) ∷ [])) (q ∙ past_is)

      module _ {rise : List ℕ} (q : rise ≡ rise_of (clear_log cfg code s)) where
        pub may_raise : AreFive counts → clears_past cfg request counts s ≡ false
            → AreFive counts × (past (raised rise counts) ≡ false)
        may_raise five z = (five, ap (λ (l : List ℕ). past (raised l counts)) q ∙ past_is ∙ z)

        pub counts_rise : (room : List ℕ) {after : List ℕ} → after ≡ raised rise counts
            → after ≡ counts_after cfg request (lent_both room counts) s
        unfolding counts_after
        counts_rise room h =
            rw asked
            (h ∙ ap (λ (l : List ℕ). raised l counts) (q ∙ ap (λ (k : ℕ). rise_of (clear_log cfg k s)) is_code))

-- ---- the call

-- an outcome beside which these counts are lent
abbrev counting : List ℕ → Outcome → Outcome
counting counts o = record {
  answer = o.answer;
  verdict = o.verdict;
  value = o.value;
  part = o.part;
  beside = with_counts counts o.beside;
  state = o.state;
}

module _ (cfg : Configuration) (request room : List ℕ) (s : State) where
  -- a reply does not see the counts
  sent_counting : (counts bytes : List ℕ) (t : State)
      → counting counts (sent cfg bytes (lent_room room) t) ≡ sent cfg bytes (lent_both room counts) t
  unfolding sent
  sent_counting counts bytes t = refl

  pub with_counts_lem : (counts : List ℕ) {o : Outcome} {after : List ℕ}
      → after ≡ counts_after cfg request (lent_both room counts) s → Serves cfg request room s o
      → counting after o ≡ answered cfg request room counts s
  with_counts_lem counts {after} q p =
      ap (counting after) p
      ∙ sent_counting after (reply_bytes (get_or request 0 0) (served_by cfg request (length room) s).reply)
      (served_by cfg request (length room) s).state
      ∙ (λ i. replied cfg (get_or request 0 0) (lent_both room (q i)) (served_by cfg request (length room) s))

  -- a request that nothing refuses: its reply
  pub replied_is : {after : List ℕ} (size : ℕ) {service : Service} → service ≡ Replied size
      → Serves cfg request room s (service_is cfg service after s)
      → Serves cfg request room s (sent_is size after s)
  replied_is {after} size e p = ap (λ (k : Service). service_is cfg k after s) (sym e) ∙ p

  -- and the clear that service 14 asks for
  pub cleared_is : {after : List ℕ} (code : ℕ) {service : Service} {t : State} → service ≡ Clear code
      → t ≡ cleared cfg code s → Serves cfg request room s (service_is cfg service after s)
      → Serves cfg request room s (sent_is 1 after t)
  cleared_is {after} code e q p = ap (sent_is 1 after) q ∙ ap (λ (k : Service). service_is cfg k after s) (sym e) ∙ p

-- ---- the judge: 2, 3, 7, 1, then 12

module _ (cfg : Configuration) (request room counts : List ℕ) (s : State) where
  abbrev sizes : List Rule
  sizes = (7 if ltb (length room) 3) ∷ (1 if eqb (length request) 0) ∷ []

  abbrev before : List Rule
  before = begins cfg s (counts_fit counts) sizes

  abbrev last : List Rule
  last = (12 if clears_past cfg request counts s) ∷ []

  module _ {fits : Bool} (f : fits ≡ counts_fit counts) where
    as_found : {number : ℕ} → number ≡ first_that_applies (begins cfg s fits sizes) → number ≡ first_that_applies before
    as_found e = e ∙ (λ i. first_that_applies (begins cfg s (f i) sizes))

    module _ {check : Result ⊤ Refusal} (e : check_number check ≡ first_that_applies (begins cfg s fits sizes)) where
      pub may_be_limited : check ≡ Ok tt → ((config_ok cfg ≡ true) × (well_formed cfg s ≡ true)) × AreFive counts
      may_be_limited g =
          let z = passed_by before (as_found e) g in
          let three = three_passed (counts_fit counts) (well_formed cfg s) (none_applies before z refl 1) in
          ((not-false (config_ok cfg) (none_applies before z refl 0), three.1), are_five counts three.0)

      pub then_limit : check ≡ Ok tt → {number : ℕ} → number ≡ first_that_applies last
          → number ≡ first_that_applies (request_rules cfg request (lent_both room counts) s)
      unfolding request_rules
      then_limit g n = last_judged before last refl (as_found e) g n

      pub not_so_far : (r : Refusal) → check ≡ Err r
          → number_of r ≡ first_that_applies (request_rules cfg request (lent_both room counts) s)
      unfolding request_rules
      not_so_far r g = stopped_before before last refl (as_found e) r g

  -- what a request that nothing refuses may count on
  pub may_answer : first_that_applies (request_rules cfg request (lent_both room counts) s) ≡ 0
      → MayAnswer cfg request room counts s
  unfolding request_rules
  may_answer z =
      let three = three_passed (counts_fit counts) (well_formed cfg s) (none_applies _ z refl 1) in record {
        accepted = record {
          config = not-false (config_ok cfg) (none_applies _ z refl 0);
          room_least = ltb-false (length room) 3 (none_applies _ z refl 2);
        };
        formed = three.1;
        five = are_five counts three.0;
        not_past = none_applies _ z refl 4;
      }
