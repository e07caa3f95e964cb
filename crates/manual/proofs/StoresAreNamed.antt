-- W7: "entries admitted, pushed out, aged, cleared, and failures not stored": the log of one part of a report or a tick
-- names each event's entry by what became of it. An event is named as admitted exactly where it had no entry before and
-- has one after, as pushed out exactly where it had one before and has none after; nothing ages or is cleared there;
-- and the failing event alone is named as not stored, exactly by rule 4. A renewal so names nothing.
use mathlib.Core.Path.{◌≡◌, refl, sym, ap, subst, ◌∙◌}
use mathlib.Core.Bool.{Bool, true, false, not, ◌&&◌, ◌||◌, cond}
use mathlib.Core.List.{List, [], ◌∷◌, ◌++◌}
use Prim.Native.Nat.{ℕ, ◌<◌, min, suc}
use native.Mathlib.Omega.{arith}
use lib.Dec.{eqb}
use lib.ListN.{length}
use borrow.Author.Tests.{eqb-true}
use Rattle.history.specs.Words.{any_of}
use Rattle.history.specs.StatusByte.{fresh_failure}
use Rattle.history.specs.History.{failed}
use Rattle.manual.specs.declared.Verdict.{Verdict}
use Rattle.manual.specs.declared.Verdict.TheVariants.{None, Passed, Failed}
use Rattle.manual.specs.declared.StoreAnswer.{StoreAnswer}
use Rattle.manual.specs.declared.StoreAnswer.TheVariants.{Untold, Renewed, Added, NotStored}
use Rattle.manual.specs.Configuration.{Configuration, events, places, frame_bytes, priority_of, config_ok}
use Rattle.manual.specs.State.{State, record_of, D, with_d}
use Rattle.manual.specs.Debouncing.{Debounced, ticked}
use Rattle.manual.specs.Memory.{Entry, Kept, event_of, entry_of, payload_of, renewed_payload, is_of, is_lost}
use Rattle.manual.specs.Memory.{displacing, without, no_twice, store}
use Rattle.manual.specs.WellFormed.{entries, well_formed}
use Rattle.manual.specs.OneEvent.{has_entry, happens, is_quiet, stored_for, memory_told}
use Rattle.manual.specs.OneEvent.{fails, fails_did, qualifies, qualifies_did}
use Rattle.manual.specs.Calls.{applied, applied_did, debounced_by, report_did, report_log, ticks, ticks_did}
use Rattle.manual.specs.Counts.{Happening, event_in, place_of, of_store}
use Rattle.manual.proofs.WordsLaws.{clash, First, any_of_append}
use Rattle.manual.proofs.MemoryLaws.{event_is, without_is, without_gone, store_cases}
use Rattle.manual.proofs.MemoryStaysGood.{MemoryGood, good_d}
use Rattle.manual.proofs.SoundStates.{sound}
use Rattle.manual.proofs.ConfigurationLaws.{config_tells}
use Rattle.manual.proofs.StaysWellFormed.{below_going, ticks_keep}
use Rattle.manual.proofs.EntriesInACallLaws.{told_entries}
use Rattle.manual.proofs.NothingAgesInAReportOrTick.{up_to}

-- the log names event k, among those of the count in this place
abbrev pub names : ℕ → ℕ → List Happening → Bool
names place k log = any_of (λ h. eqb (place_of h) place && eqb (event_in h) k) log

-- what the log of a part says of event k, that had an entry before or not, and has one after or not, where the part is
-- of e and memory did this
pub record Named (log : List Happening) (e : ℕ) (did : StoreAnswer) (k : ℕ) (before after : Bool) : Type 0 where
  pub admitted : names 0 k log ≡ (not before && after)
  pub pushed_out_lem : names 1 k log ≡ (before && not after)
  pub aged : names 2 k log ≡ false
  pub cleared : names 3 k log ≡ false
  pub not_stored : names 4 k log ≡ (is_lost did && eqb e k)

-- of the part's own log
abbrev pub PartNamed : ℕ → StoreAnswer → ℕ → Bool → Bool → Type 0
PartNamed e did k before after = Named (of_store e did) e did k before after

-- ---- truth tables

not_gained : (b : Bool) → false ≡ (not b && b)
not_gained true = refl
not_gained false = refl

not_lost : (b : Bool) → false ≡ (b && not b)
not_lost true = refl
not_lost false = refl

-- the victim's entry, another's, the failing event's
gained : (v w f : Bool) → (f ≡ true → v || w ≡ false) → (f || false) ≡ (not (v || w) && (w || (f || false)))
gained true w true h = clash true refl (h refl)
gained true w false h = refl
gained false true true h = clash true refl (h refl)
gained false true false h = refl
gained false false f h = refl

lost : (v w f : Bool) → (v ≡ true → w ≡ false) → (f ≡ true → v || w ≡ false)
    → (v || false) ≡ ((v || w) && not (w || (f || false)))
lost true true f g h = clash true refl (g refl)
lost true false true g h = clash true refl (h refl)
lost true false false g h = refl
lost false true f g h = refl
lost false false f g h = refl

or_none_lem : (b : Bool) → (b || false) ≡ b
or_none_lem true = refl
or_none_lem false = refl

between : (a v b : Bool) → (a || (v || b)) ≡ (v || (a || b))
between true true b = refl
between true false b = refl
between false v b = refl

-- ---- a store

module _ (M : ℕ) (priority : ℕ → ℕ) (quiet : ℕ → Bool) (e : ℕ) (frame : List ℕ) (xs : List Entry)
    (once : no_twice xs ≡ true) (k : ℕ) where
  abbrev has : List Entry → Bool
  has l = any_of (is_of k) l

  own : (c : ℕ) (payload : List ℕ) → has (entry_of e c payload ∷ []) ≡ (eqb e k || false)
  own c payload = ap (λ (j : ℕ). eqb j k || false) (event_is e c payload)

  appended : (l : List Entry) (c : ℕ) (payload : List ℕ)
      → has (l ++ (entry_of e c payload ∷ [])) ≡ (has l || (eqb e k || false))
  appended l c payload =
      any_of_append (is_of k) l (entry_of e c payload ∷ []) ∙ ap (λ (b : Bool). has l || b) (own c payload)

  -- the entries with the one taken out
  split : {p : Entry → Bool} {v : Entry} (f : First p xs v)
      → has xs ≡ (eqb (event_of v) k || has (f.older ++ f.newer))
  split {v = v} f =
      ap has f.there ∙ any_of_append (is_of k) f.older (v ∷ f.newer)
      ∙ between (has f.older) (eqb (event_of v) k) (has f.newer)
      ∙ ap (λ (b : Bool). eqb (event_of v) k || b) (sym (any_of_append (is_of k) f.older f.newer))

  swapped : {p : Entry → Bool} {v : Entry} (f : First p xs v) (c : ℕ) (payload : List ℕ)
      → has (f.older ++ f.newer ++ (entry_of e c payload ∷ []))
      ≡ (has (f.older ++ f.newer) || (eqb e k || false))
  swapped f c payload = appended (f.older ++ f.newer) c payload

  gone : {p : Entry → Bool} {v : Entry} (f : First p xs v) → eqb (event_of v) k ≡ true
      → has (f.older ++ f.newer) ≡ false
  gone {v = v} f t =
      ap has (sym (without_is xs f.older v f.newer f.there once))
      ∙ subst (λ (j : ℕ). any_of (is_of j) (without (event_of v) xs) ≡ false) (eqb-true (event_of v) k t)
      (without_gone (event_of v) xs)

  absent : any_of (is_of e) xs ≡ false → eqb e k ≡ true → has xs ≡ false
  absent n t = subst (λ (j : ℕ). any_of (is_of j) xs ≡ false) (eqb-true e k t) n

  by_rule_1 : (x : Entry) (f : First (is_of e) xs x) (c : ℕ) (payload : List ℕ)
      → PartNamed e Renewed k (has xs) (has (f.older ++ f.newer ++ (entry_of e c payload ∷ [])))
  by_rule_1 x f c payload =
      subst (PartNamed e Renewed k (has xs))
      (split f ∙ ap (λ (j : ℕ). eqb j k || has (f.older ++ f.newer)) (eqb-true (event_of x) e f.passes)
      ∙ turned (eqb e k) (has (f.older ++ f.newer)) ∙ sym (swapped f c payload))
      (record {
        admitted = not_gained (has xs);
        pushed_out_lem = not_lost (has xs);
        aged = refl;
        cleared = refl;
        not_stored = refl;
      })
    where
      turned : (v w : Bool) → (v || w) ≡ (w || (v || false))
      turned true true = refl
      turned true false = refl
      turned false true = refl
      turned false false = refl

  by_rule_2 : any_of (is_of e) xs ≡ false
      → PartNamed e Added k (has xs) (has (xs ++ (entry_of e 1 (payload_of frame) ∷ [])))
  by_rule_2 n =
      subst (PartNamed e Added k (has xs)) (sym (appended xs 1 (payload_of frame)))
      (record {
        admitted = gained false (has xs) (eqb e k) (absent n);
        pushed_out_lem = lost false (has xs) (eqb e k) (λ t. clash true refl (sym t)) (absent n);
        aged = refl;
        cleared = refl;
        not_stored = refl;
      })

  by_rule_3 : any_of (is_of e) xs ≡ false → {p : Entry → Bool} (v : Entry) (f : First p xs v)
      → PartNamed e (displacing v) k (has xs) (has (f.older ++ f.newer ++ (entry_of e 1 (payload_of frame) ∷ [])))
  by_rule_3 n v f =
      subst
      (λ (b : Bool). PartNamed e (displacing v) k b
      (has (f.older ++ f.newer ++ (entry_of e 1 (payload_of frame) ∷ []))))
      (sym (split f))
      (subst (PartNamed e (displacing v) k (eqb (event_of v) k || has (f.older ++ f.newer)))
      (sym (swapped f 1 (payload_of frame)))
      (record {
        admitted = gained (eqb (event_of v) k) (has (f.older ++ f.newer)) (eqb e k) none;
        pushed_out_lem = lost (eqb (event_of v) k) (has (f.older ++ f.newer)) (eqb e k) (gone f) none;
        aged = refl;
        cleared = refl;
        not_stored = refl;
      }))
    where
      none : eqb e k ≡ true → (eqb (event_of v) k || has (f.older ++ f.newer)) ≡ false
      none t = sym (split f) ∙ absent n t

  by_rule_4 : PartNamed e NotStored k (has xs) (has xs)
  by_rule_4 = record {
    admitted = not_gained (has xs);
    pushed_out_lem = not_lost (has xs);
    aged = refl;
    cleared = refl;
    not_stored = or_none_lem (eqb e k);
  }

  pub store_named : PartNamed e (store M priority quiet e frame xs).did k (has xs)
      (has (store M priority quiet e frame xs).entries)
  store_named =
      store_cases M priority quiet e frame xs once (λ (r : Kept). PartNamed e r.did k (has xs) (has r.entries))
      (λ x f. by_rule_1 x f (min 255 (suc x.count)) (renewed_payload x.payload frame))
      (λ n l. by_rule_2 n)
      (λ n l v f. by_rule_3 n v f)
      (λ n l t v f. by_rule_3 n v f)
      (λ n l t r. by_rule_4)

-- ---- one part of a report or a tick, and a whole report

untold_named : (e k : ℕ) (b : Bool) → PartNamed e Untold k b b
untold_named e k b = record {
  admitted = not_gained b;
  pushed_out_lem = not_lost b;
  aged = refl;
  cleared = refl;
  not_stored = refl;
}

module _ (cfg : Configuration) (frame : List ℕ) (framed : length frame ≡ frame_bytes cfg) (e : ℕ)
    (below : e < events cfg) (k : ℕ) where
  pub part_named : (d : Debounced) (u : State) → MemoryGood cfg u
      → PartNamed e (applied_did cfg frame e d u) k (has_entry cfg u k) (has_entry cfg (applied cfg frame e d u) k)
  unfolding applied applied_did fails fails_did happens
  part_named d u m = go d.verdict
    where
      u' : State
      u' = with_d e d.number u

      did : StoreAnswer
      did = (stored_for cfg frame e (happens cfg failed e u')).did

      afresh : (b : Bool)
          → PartNamed e (cond b did Untold) k (has_entry cfg u k)
          (has_entry cfg (cond b (memory_told cfg frame e (happens cfg failed e u')) (happens cfg failed e u')) k)
      afresh true =
          subst (λ (l : List Entry). PartNamed e did k (has_entry cfg u k) (any_of (is_of k) l))
          (sym (told_entries cfg frame e framed below u' (good_d cfg e d.number u m)))
          (store_named (places cfg) (priority_of cfg) (is_quiet cfg (happens cfg failed e u)) e frame (entries cfg u)
          m.good.once k)
      afresh false = untold_named e k (has_entry cfg u k)

      go : (v : Verdict)
          → PartNamed e (qualifies_did cfg frame e v u') k (has_entry cfg u k)
          (has_entry cfg (qualifies cfg frame e v u') k)
      go None = untold_named e k (has_entry cfg u k)
      go Passed = untold_named e k (has_entry cfg u k)
      go Failed = afresh (fresh_failure (record_of u e))

  -- the part of a whole report, whose log is `report_log`
  pub report_named : (code : ℕ) (s : State) → well_formed cfg s ≡ true
      → Named (report_log cfg e code frame s) e (report_did cfg e code frame s) k (has_entry cfg s k)
      (has_entry cfg (applied cfg frame e (debounced_by cfg e code s) s) k)
  unfolding report_log
  report_named code s formed = part_named (debounced_by cfg e code s) s (sound cfg s formed).memory

  -- the part of event e in a tick, on the state that the parts of the events below it left
  pub tick_part_named : (ms present : ℕ) (s : State) → config_ok cfg ≡ true → well_formed cfg s ≡ true
      → PartNamed e (ticks_did cfg ms frame e (up_to cfg ms frame present s e)) k
      (has_entry cfg (up_to cfg ms frame present s e) k)
      (has_entry cfg (ticks cfg ms frame e (up_to cfg ms frame present s e)) k)
  tick_part_named ms present s configured formed =
      let u = up_to cfg ms frame present s e in
      part_named (ticked cfg e ms (D u e)) u
      (below_going cfg (ticks_keep cfg (config_tells cfg configured) ms frame present framed s) (sound cfg s formed) e
      (omega arith)).sound.memory
