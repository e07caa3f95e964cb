-- Laws of specs/EntriesInACall.antt: what one part of a call, and all its parts one after the other, leave of the
-- entries.
use mathlib.Core.Path.{◌≡◌, refl, sym, ap, subst, ◌∙◌}
use mathlib.Core.Logic.{◌≢◌, ◌⊎◌, inl, inr, ⊎_elim}
use mathlib.Core.Bool.{Bool, true, false, not, ◌&&◌, cond}
use mathlib.Core.List.Memᴰ
use mathlib.Core.List.{List, [], ◌∷◌, ◌++◌, Memᴰ}
use Prim.Native.Nat.{ℕ, zero, suc, ◌≤◌, ◌<◌, min}
use native.Mathlib.Nat.{le_refl}
use native.Mathlib.Omega.{arith}
use lib.Dec.{eqb, ltb}
use lib.ListN.{length}
use lib.IntN.{pos}
use borrow.Author.Tests.{eqb-true, eqb-false, ltb-true, ltb-false, lt-ltb, le-ltb}
use Rattle.history.specs.StatusByte.{fresh_failure, ages_at_stop}
use Rattle.history.specs.History.{Token, failed, stop, clear}
use Rattle.manual.specs.declared.Verdict.{Verdict}
use Rattle.manual.specs.declared.Verdict.TheVariants.{None, Passed, Failed}
use Rattle.manual.specs.Words.{for_below, those}
use Rattle.manual.specs.Configuration.{Configuration, events, places, frame_bytes}
use Rattle.manual.specs.Configuration.{entry_frames, priority_of, limits_of}
use Rattle.manual.specs.State.{State, opened, record_of, with_d}
use Rattle.manual.specs.Debouncing.{Debounced}
use Rattle.manual.specs.Memory.{Entry, event_of, entry_of, payload_of, renewed_payload}
use Rattle.manual.specs.Memory.{is_of, without, no_twice, Kept, store}
use Rattle.manual.specs.WellFormed.{entries}
use Rattle.manual.specs.OneEvent.{happens, is_quiet, entry_leaves, keeps, memory_told}
use Rattle.manual.specs.OneEvent.{fails, qualifies, stops, clears, for_those}
use Rattle.manual.specs.Displacement.{TakenOut, Ruled, renews, adds, replaces, loses}
use Rattle.manual.specs.Calls.{applied}
use Rattle.manual.specs.EntriesInACall.{renewed_entry}
use Rattle.history.proofs.WordsLaws.{and_true}
use Rattle.manual.proofs.WordsLaws.{by, all_map, all_those, those_those, those_alike}
use Rattle.manual.proofs.WordsLaws.{those_each, all_so, others_in, one_in, those_in}
use Rattle.manual.proofs.MemoryLaws.{EntryGood, frames, memory_entries, fills, good_store}
use Rattle.manual.proofs.MemoryStaysGood.{has_failed_bit, MemoryGood, entries_are, good_happens, good_d, bit_own}
use Rattle.manual.proofs.OneEventLaws.{View, view, Acts, acts_cond, fold_later}
use Rattle.manual.proofs.SoundStates.{Sound}
use Rattle.manual.proofs.StaysWellFormed.{Keeps, below_going}
use Rattle.manual.proofs.OnlyTheNamedEntryLeaves.{store_is_ruled}

-- ---- one store

module _ (M : ℕ) (priority : ℕ → ℕ) (quiet : ℕ → Bool) (e : ℕ) (frame : List ℕ) (xs : List Entry) where
  -- what a store makes of an entry: it stays, it is e's own and renewed, or it is the victim
  abbrev pub StoreFate : List Entry → Entry → Type 0
  StoreFate after x =
      Memᴰ x after ⊎
      (((event_of x ≡ e) × Memᴰ (renewed_entry frame x) after) ⊎ TakenOut M priority quiet e frame xs x)

  -- where an entry comes from: it was there, it is e's own, renewed, or e's new one
  abbrev pub StoreOrigin : Entry → Type 0
  StoreOrigin y =
      Memᴰ y xs ⊎
      (((x : Entry) × Memᴰ x xs × (event_of x ≡ e) × (y ≡ renewed_entry frame x)) ⊎
      (y ≡ entry_of e 1 (payload_of frame)))

  module _ (once : no_twice xs ≡ true) where
    pub store_fate : (x : Entry) → Memᴰ x xs → StoreFate (store M priority quiet e frame xs).entries x
    store_fate x m = go (store M priority quiet e frame xs) (store_is_ruled M priority quiet e frame xs once)
      where
        own : (older newer : List Entry) (y : Entry) → event_of y ≡ e → x ≡ y
            → StoreFate
            (older ++ newer ++ (entry_of e (min 255 (suc y.count)) (renewed_payload y.payload frame) ∷ [])) x
        own older newer y t q =
            let e_is : event_of x ≡ e = ap event_of q ∙ t in
            inr
            (inl (
              e_is,
              Memᴰ.append_right (older ++ newer)
                  (Memᴰ.head
                  (λ i. entry_of (e_is i) (min 255 (suc (q i).count)) (renewed_payload (q i).payload frame))),
            ))

        go : (k : Kept) → Ruled M priority quiet e frame xs k → StoreFate k.entries x
        go _ (renews older y newer s t) = ⊎_elim (own older newer y t) inl (others_in xs older y newer s x _ m)
        go _ (adds n l) = inl (Memᴰ.append_left _ m)
        go _ (replaces v t) =
            ⊎_elim (λ q. inr (inr (subst (TakenOut M priority quiet e frame xs) (sym q) t))) inl
            (others_in xs t.older v t.newer t.there x _ m)
        go _ (loses n l g r) = inl m

    pub store_origin : (y : Entry) → Memᴰ y (store M priority quiet e frame xs).entries → StoreOrigin y
    store_origin y = go (store M priority quiet e frame xs) (store_is_ruled M priority quiet e frame xs once)
      where
        go : (k : Kept) → Ruled M priority quiet e frame xs k → Memᴰ y k.entries → StoreOrigin y
        go _ (renews older v newer s t) m =
            ⊎_elim (λ a. inl (those_in xs older v newer s y a))
            (λ b. inr
            (inl (
              v,
              one_in xs older v newer s,
              t,
              Memᴰ.eq_of_singleton b
                  ∙ ap (λ (k : ℕ). entry_of k (min 255 (suc v.count)) (renewed_payload v.payload frame)) (sym t),
            )))
            (Memᴰ.append_cases (older ++ newer) m)
        go _ (adds n l) m = ⊎_elim inl (λ b. inr (inr (Memᴰ.eq_of_singleton b))) (Memᴰ.append_cases xs m)
        go _ (replaces v t) m =
            ⊎_elim (λ a. inl (those_in xs t.older v t.newer t.there y a))
            (λ b. inr (inr (Memᴰ.eq_of_singleton b)))
            (Memᴰ.append_cases (t.older ++ t.newer) m)
        go _ (loses n l g r) m = inl m

-- ---- one part of a report or a tick

module _ (cfg : Configuration) (frame : List ℕ) (k : ℕ) where
  -- the entries after a fresh failure of k in state u
  abbrev pub entries_told : State → List Entry
  entries_told u =
      (store (places cfg) (priority_of cfg) (is_quiet cfg (happens cfg failed k u)) k frame (entries cfg u)).entries

  module _ (framed : length frame ≡ frame_bytes cfg) (below : k < events cfg) where
    pub told_entries : (u : State) → MemoryGood cfg u
        → entries cfg (memory_told cfg frame k (happens cfg failed k u)) ≡ entries_told u
    unfolding memory_told keeps happens
    told_entries u m =
        entries_are cfg (happens cfg failed k u) (entries_told u)
        (good_store (events cfg) (places cfg) (entry_frames cfg) (has_failed_bit cfg (happens cfg failed k u))
        (priority_of cfg) _ k frame below
        (bit_own cfg failed k u m.sized below) (fills cfg frame framed) (entries cfg u)
        (good_happens cfg failed (λ n r e. refl) k u below m).good)

    -- where the verdict is a fresh failure the entries are those of the store, else as they were
    pub data PartEntries (d : Debounced) (u : State) (after : List Entry) : Type 0 where
      untold : after ≡ entries cfg u → PartEntries d u after
      told : d.verdict ≡ Failed → fresh_failure (record_of u k) ≡ true → after ≡ entries_told u → PartEntries d u after

    pub part_entries : (d : Debounced) (u : State) → MemoryGood cfg u
        → PartEntries d u (entries cfg (applied cfg frame k d u))
    unfolding applied fails happens
    part_entries d u m = go d.verdict refl
      where
        u' : State
        u' = with_d k d.number u

        go : (v : Verdict) → d.verdict ≡ v → PartEntries d u (entries cfg (qualifies cfg frame k v u'))
        go None q = untold refl
        go Passed q = untold refl
        go Failed q =
            by (fresh_failure (record_of u k)) (λ (t : State). PartEntries d u (entries cfg t))
            (λ f. told q f (told_entries u' (good_d cfg k d.number u m))) (λ f. untold refl)

-- ---- the parts of a call that only lets entries leave, one after the other

-- an entry of event e stays when the events below i have had their part, and those for which `out` holds lose their
-- entry
abbrev stays_below : (ℕ → Bool) → ℕ → ℕ → Bool
stays_below out i e = not (ltb e i && out e)

ltb_next : (e i : ℕ) → e ≢ i → ltb e (suc i) ≡ ltb e i
ltb_next e i d = go (ltb e i) refl
  where
    go : (b : Bool) → ltb e i ≡ b → ltb e (suc i) ≡ b
    go true q = lt-ltb e (suc i) (let h = ltb-true e i q in omega arith)
    go false q = le-ltb e (suc i) (let h = ltb-false e i q in omega arith)

all_at_first : (out : ℕ → Bool) (e : ℕ) → stays_below out 0 e ≡ true
all_at_first out e = rw (le-ltb e 0 (omega arith))

module _ (out : ℕ → Bool) (i e : ℕ) where
  stays_where_out : out i ≡ true → stays_below out i e && not (eqb e i) ≡ stays_below out (suc i) e
  stays_where_out o = go (eqb e i) refl
    where
      go : (b : Bool) → eqb e i ≡ b → stays_below out i e && not b ≡ stays_below out (suc i) e
      go true q = rw (eqb-true e i q, o, le-ltb i i (le_refl i), lt-ltb i (suc i) (le_refl (suc i)))
      go false q = rw (ltb_next e i (eqb-false e i q)) (and_true _)

  stays_where_in : out i ≡ false → stays_below out i e ≡ stays_below out (suc i) e
  stays_where_in o = go (eqb e i) refl
    where
      go : (b : Bool) → eqb e i ≡ b → stays_below out i e ≡ stays_below out (suc i) e
      go true q = rw (eqb-true e i q, o, le-ltb i i (le_refl i), lt-ltb i (suc i) (le_refl (suc i)))
      go false q = rw (ltb_next e i (eqb-false e i q))

module _ (cfg : Configuration) {p : ℕ → Bool} {one : ℕ → State → State} {f : ℕ → View → View} (acts : Acts cfg one f)
    (gone : ℕ → View → Bool)
    (leaving : (k : ℕ) (u : State) → MemoryGood cfg u
    → entries cfg (one k u) ≡ cond (gone k (view u k)) (without k (entries cfg u)) (entries cfg u))
    (s : State) (keeps : Keeps cfg p one s) (o : Sound cfg s) where
  -- event e loses its entry
  abbrev out : ℕ → Bool
  out e = p e && gone e (view s e)

  abbrev up_to : ℕ → State
  up_to i = for_below i (λ e u. cond (p e) (one e u) u) s

  next_entries : (i : ℕ) → i ≤ events cfg
      → entries cfg (cond (p i) (one i (up_to i)) (up_to i))
      ≡ cond (out i) (without i (entries cfg (up_to i))) (entries cfg (up_to i))
  next_entries i h = go (p i)
    where
      as_found : view (up_to i) i ≡ view s i
      as_found = fold_later (acts_cond p acts) i i s (le_refl i)

      go : (b : Bool)
          → entries cfg (cond b (one i (up_to i)) (up_to i))
          ≡ cond (b && gone i (view s i)) (without i (entries cfg (up_to i))) (entries cfg (up_to i))
      go true = rw (← as_found) (leaving i (up_to i) (below_going cfg keeps o i h).sound.memory)
      go false = refl

  below_stay : (i : ℕ) → i ≤ events cfg
      → entries cfg (up_to i) ≡ those (λ x. stays_below out i (event_of x)) (entries cfg s)
  unfolding for_below without
  below_stay zero h = sym (those_each _ (entries cfg s) (all_so _ (λ x. all_at_first out (event_of x)) (entries cfg s)))
  below_stay (suc i) h = next_entries i (omega arith) ∙ rw (below_stay i (omega arith)) (go (out i) refl)
    where
      xs : List Entry
      xs = entries cfg s

      go : (b : Bool) → out i ≡ b
          → cond b (without i (those (λ x. stays_below out i (event_of x)) xs))
          (those (λ x. stays_below out i (event_of x)) xs)
          ≡ those (λ x. stays_below out (suc i) (event_of x)) xs
      go true q = those_those _ _ xs ∙ those_alike _ _ xs (all_so _ (λ x. stays_where_out out i (event_of x) q) xs)
      go false q = those_alike _ _ xs (all_so _ (λ x. stays_where_in out i (event_of x) q) xs)

  -- the entries afterwards are those, in their order, whose event does not lose its entry
  pub those_stay : entries cfg (for_those cfg p one s) ≡ those (λ x. not (out (event_of x))) (entries cfg s)
  unfolding for_those
  those_stay =
      below_stay (events cfg) (le_refl (events cfg))
      ∙ those_alike _ _ (entries cfg s)
      (all_map (EntryGood (events cfg) (entry_frames cfg) (has_failed_bit cfg s)) _ at_last (entries cfg s)
      o.memory.good.each)
    where
      at_last : (x : Entry) → EntryGood (events cfg) (entry_frames cfg) (has_failed_bit cfg s) x
          → stays_below out (events cfg) (event_of x) ≡ not (out (event_of x))
      at_last x g = rw (lt-ltb (event_of x) (events cfg) g.below)

-- its entry leaves, after something happened to the event
module _ (cfg : Configuration) (t : Token) (k : ℕ) (u : State) (m : MemoryGood cfg u) where
  left_entries : entries cfg (entry_leaves cfg k (happens cfg t k u)) ≡ without k (entries cfg u)
  unfolding entry_leaves happens without
  left_entries =
      memory_entries (places cfg) (entry_frames cfg) (without k (entries cfg u))
      (all_those _ _ (λ x. not (is_of k x)) (λ x q f. f) (entries cfg u)
      (frames (events cfg) (entry_frames cfg) (has_failed_bit cfg u) (entries cfg u) m.good.each))

module _ (cfg : Configuration) where
  -- event e ages at a stop, by what the blocks hold of it
  abbrev pub ages_by : ℕ → View → Bool
  ages_by e v = ages_at_stop (limits_of cfg e) (opened v.stored)

  pub stops_entries : (k : ℕ) (u : State) → MemoryGood cfg u
      → entries cfg (stops cfg k u) ≡ cond (ages_by k (view u k)) (without k (entries cfg u)) (entries cfg u)
  unfolding stops happens
  stops_entries k u m = go (ages_at_stop (limits_of cfg k) (record_of u k))
    where
      go : (b : Bool)
          → entries cfg (with_d k (pos 0) (cond b (entry_leaves cfg k (happens cfg stop k u)) (happens cfg stop k u)))
          ≡ cond b (without k (entries cfg u)) (entries cfg u)
      go true = left_entries cfg stop k u m
      go false = refl

  pub clears_entries : (k : ℕ) (u : State) → MemoryGood cfg u → entries cfg (clears cfg k u) ≡ without k (entries cfg u)
  unfolding clears
  clears_entries k u m = left_entries cfg clear k u m
