-- What a removal and a store do to the bytes is what the rules say of the entries, rule by rule.
use mathlib.Core.Path.{◌≡◌, refl, sym, ap, subst, ◌∙◌}
use mathlib.Core.Bool.{Bool, true, false, cond}
use mathlib.Core.List.{List, [], ◌∷◌, ◌++◌}
use mathlib.Core.Option.{Option, none, some}
use Prim.Native.Nat.{ℕ, suc, ◌+◌, ◌≤◌, ◌<◌, min}
use native.Mathlib.Omega.{arith}
use lib.Dec.{ltb}
use lib.ListN.{length, drop}
use borrow.Author.Tests.{eqb-true, ltb-true, lt-ltb, le-ltb}
use Rattle.manual.specs.declared.Place.{Place}
use Rattle.manual.specs.declared.StoreAnswer.TheVariants.{Renewed, Added, NotStored}
use Rattle.manual.specs.Configuration.{Configuration, most_places, most_payload, events, places, entry_frames, priority_of}
use Rattle.manual.specs.Memory.{Entry, event_of, entry_of, payload_of, renewed_payload, entry_count, entries_of, memory_of}
use Rattle.manual.specs.Memory.{bytes_in_use}
use Rattle.manual.specs.Memory.{is_of, without, kept, displacing, victim, pushed_out, admitted, renewed, store}
use Rattle.manual.proofs.MemoryLaws.{Fills, fills}
use Rattle.std.specs.Prelude.{Some, None}
use Rattle.memory.specs.Block.{removed, added, replaced, renewed_at}
use Rattle.memory.specs.Places.{at_place, place_of, victim_place}
use Rattle.memory.specs.Fits.{EntriesFit, PlaceFits, RoomAt, EventsFit}
use Rattle.memory.specs.InOrder.{InOrder}
use Rattle.memory.specs.Store.{MayStore, quiet_in, Left, left_with, left_by, admits, stores}
use Rattle.memory.proofs.PlacesLaws.{entries_are_count, found, found_nothing, all_places, at_each_place}
use Rattle.memory.proofs.SurgeryLaws.{entries_fit, room_at_end, added_at, place_framed, replaced_at}
use Rattle.memory.proofs.SurgeryLaws.{place_fits, front, front_in_order, front_entries, forgotten_in_front, forgotten_at}
use Rattle.memory.proofs.SurgeryLaws.{forgotten_nothing}
use Rattle.memory.proofs.VictimLaws.{entry_in, victim_entry, victim_inside}

-- ---- event e's entry leaves: F was read from the configuration, whose entries have payloads of F₀ bytes

module _ (n M F₀ F : ℕ) (m : List ℕ) (o₀ : InOrder n M F₀ m) (f : F ≡ F₀) (e : ℕ) where
  ordered : InOrder n M F m
  ordered = subst (λ (k : ℕ). InOrder n M k m) (sym f) o₀

  pub may_seek : EntriesFit F m
  may_seek = entries_fit n M F m ordered

  pub may_use : (0 < length m) × ((entry_count m ≤ most_places) × (F ≤ most_payload))
  may_use = (
    omega (arith, ordered.sized),
    (omega (arith, ordered.few, ordered.places_most), ordered.payload_most),
  )

  pub used_within : {used : ℕ} → used ≡ bytes_in_use F (entry_count m) → used ≤ length m
  used_within u = omega (arith, may_seek.within, u)

  pub may_remove : (p : Place) → place_of e (entries_of F m) ≡ Some p → PlaceFits F m p.0
  may_remove p h = place_fits n M F m ordered (is_of e) p h

  pub may_remove_in_front : (p : Place) → place_of e (entries_of F m) ≡ Some p → PlaceFits F (front F m) p.0
  may_remove_in_front p h =
      place_fits n (entry_count m) F (front F m) (front_in_order n M F m ordered) (is_of e) p
      (ap (place_of e) (front_entries n M F m ordered) ∙ h)

  abbrev forgot : ℕ → List ℕ
  forgot k = memory_of M k (without e (entries_of k m))

  pub forgets : (p : Place) → place_of e (entries_of F m) ≡ Some p → removed F p.0 m ≡ forgot F₀
  forgets p h = forgotten_at n M F m ordered e p h ∙ ap forgot f

  pub forgets_in_front : (p : Place) → place_of e (entries_of F m) ≡ Some p
      → removed F p.0 (front F m) ++ drop (bytes_in_use F (entry_count m)) m ≡ forgot F₀
  forgets_in_front p h = forgotten_in_front n M F m ordered e p h ∙ ap forgot f

  pub forgets_nothing : place_of e (entries_of F m) ≡ None → m ≡ forgot F₀
  forgets_nothing h = forgotten_nothing n M F m ordered e h ∙ ap forgot f

-- ---- a store into a memory block in order

module _ (n M F : ℕ) (m : List ℕ) (o : InOrder n M F m) (priority : ℕ → ℕ) (quiet : ℕ → Bool) (e : ℕ) (frame : List ℕ)
    (fits : Fills F frame) where
  abbrev xs : List Entry
  xs = entries_of F m

  abbrev admits_all : Left
  admits_all = admits M F priority quiet e frame xs

  abbrev stores_all : Left
  stores_all = stores M F priority quiet e frame xs

  events_fit : EventsFit F m
  events_fit = record {
    entries = entries_fit n M F m o;
    below = all_places (λ x. ltb (event_of x) 512) xs (λ k h.
        let l = ltb-true (event_of (at_place k xs)) n (at_each_place (λ x. ltb (event_of x) n) xs o.below k h) in
        lt-ltb (event_of (at_place k xs)) 512 (omega (arith, o.events_most)));
  }

  -- rule 1: "e has an entry: count up by one, at most 255; frame replaced; the entry moves to the end (newest)."
  rule_1 : (p : Place) → place_of e xs ≡ Some p → left_with (renewed_at F p.0 e frame m) Renewed ≡ stores_all
  unfolding stores store renewed
  rule_1 p h =
      let f = found (is_of e) xs p h in
      let below = (place_fits n M F m o (is_of e) p h).below in
      let x = at_place p.0 xs in
      let c = min 255 (suc x.count) in
      let payload = renewed_payload x.payload frame in
      ap (λ (b : List ℕ). left_with b Renewed)
      (replaced_at n M F m o p.0 below e c payload (fits.renewal x.payload (place_framed n M F m o p.0 below))
      ∙ ap (λ (k : ℕ). memory_of M F (without k xs ++ (entry_of e c payload ∷ []))) (eqb-true _ _ f.passes))
      ∙ ap (λ (y : Option Entry). left_by M F priority quiet e frame (renewed M priority quiet e frame y xs))
      (sym f.first)

  -- rules 2 to 4: e has no entry
  rules_2_to_4 : place_of e xs ≡ None → admits_all ≡ stores_all
  unfolding admits stores store renewed
  rules_2_to_4 h =
      ap (λ (x : Option Entry). left_by M F priority quiet e frame (renewed M priority quiet e frame x xs))
      (sym (found_nothing (is_of e) xs h))

  -- what they leave, by whether there are fewer than M entries and by the victim
  abbrev by_room : Bool → Option Entry → Left
  by_room b v =
      left_by M F priority quiet e frame
      (cond b (kept Added (xs ++ (entry_of e 1 (payload_of frame) ∷ []))) (pushed_out M priority quiet e frame v xs))

  admits_is : (b : Bool) (v : Option Entry) → ltb (length xs) M ≡ b → victim M priority quiet e frame xs ≡ v
      → by_room b v ≡ admits_all
  unfolding admits admitted
  admits_is b v p q = λ i. by_room (sym p i) (sym q i)

  -- rule 2: "Else, fewer than M entries: appended with count 1."
  rule_2 : entry_count m < M → left_with (added F e 1 (payload_of frame) m) Added ≡ admits_all
  rule_2 h =
      ap (λ (b : List ℕ). left_with b Added) (added_at n M F m o e 1 (payload_of frame) fits.new h)
      ∙ admits_is true (victim M priority quiet e frame xs)
      (lt-ltb (length xs) M (omega (arith, entries_are_count F m))) refl

  full : M ≤ entry_count m → ltb (length xs) M ≡ false
  full h = le-ltb (length xs) M (omega (arith, entries_are_count F m))

  victim_fits : (p : Place) → victim_place priority quiet e xs ≡ Some p → PlaceFits F m p.0
  victim_fits p h =
      record {
        entries = entries_fit n M F m o;
        below = omega (arith, victim_inside M priority quiet e frame xs p h, entries_are_count F m);
      }

  -- rule 3: "The victim is taken out, e appended with count 1."
  rule_3 : M ≤ entry_count m → (p : Place) → victim_place priority quiet e xs ≡ Some p
      → left_with (replaced F p.0 e 1 (payload_of frame) m) (displacing (at_place p.0 xs)) ≡ admits_all
  unfolding pushed_out
  rule_3 h p v =
      ap (λ (b : List ℕ). left_with b (displacing (at_place p.0 xs)))
      (replaced_at n M F m o p.0 (victim_fits p v).below e 1 (payload_of frame) fits.new)
      ∙ admits_is false (some (at_place p.0 xs)) (full h)
      (victim_entry M priority quiet e frame xs ∙ ap (entry_in xs) v)

  -- rule 4: "Else not stored; overflow is set."
  rule_4 : M ≤ entry_count m → victim_place priority quiet e xs ≡ None → left_with m NotStored ≡ admits_all
  unfolding pushed_out
  rule_4 h v =
      ap (λ (b : List ℕ). left_with b NotStored) o.block
      ∙ admits_is false none (full h) (victim_entry M priority quiet e frame xs ∙ ap (entry_in xs) v)

-- ---- the same for a caller's configuration: W was read from it, and the frame has the length that it says

module _ (cfg : Configuration) (records m : List ℕ) (e : ℕ) (frame : List ℕ) (r : MayStore cfg m e frame) {W : ℕ}
    (w : W ≡ entry_frames cfg) where
  abbrev n : ℕ
  n = events cfg

  abbrev M : ℕ
  M = places cfg

  abbrev quiet : ℕ → Bool
  quiet = quiet_in records

  order : InOrder n M W m
  order = subst (λ (k : ℕ). InOrder n M k m) (sym w) r.in_order

  fits_here : Fills W frame
  fits_here = subst (λ (k : ℕ). Fills k frame) (sym w) (fills cfg frame r.frame_fits)

  abbrev admits_at : ℕ → Left
  admits_at F = admits M F (priority_of cfg) quiet e frame (entries_of F m)

  abbrev stores_at : ℕ → Left
  stores_at F = stores M F (priority_of cfg) quiet e frame (entries_of F m)

  pub may_find : EntriesFit W m
  may_find = entries_fit n M W m order

  pub may_search : EventsFit W m × (e < 512)
  may_search = (
    events_fit n M W m order (priority_of cfg) quiet e frame fits_here,
    omega (arith, r.event_inside, r.in_order.events_most),
  )

  two_bytes : e < 65536
  two_bytes = omega (arith, may_search.1)

  two_frames : length frame + length frame ≡ W
  two_frames = omega (arith, w, r.frame_fits)

  pub may_renew : (p : Place) → place_of e (entries_of W m) ≡ Some p
      → PlaceFits W m p.0 × ((e < 65536) × (length frame + length frame ≡ W))
  may_renew p h = (place_fits n M W m order (is_of e) p h, (two_bytes, two_frames))

  pub may_append : entry_count m < places cfg → RoomAt W m (entry_count m) e × (length frame + length frame ≡ W)
  may_append h = (room_at_end n M W m order e two_bytes h, two_frames)

  pub may_displace : (p : Place) → victim_place (priority_of cfg) quiet e (entries_of W m) ≡ Some p
      → PlaceFits W m p.0 × ((e < 65536) × (length frame + length frame ≡ W))
  may_displace p h =
      (victim_fits n M W m order (priority_of cfg) quiet e frame fits_here p h, (two_bytes, two_frames))

  pub renews : (p : Place) → place_of e (entries_of W m) ≡ Some p
      → left_with (renewed_at W p.0 e frame m) Renewed ≡ stores_at (entry_frames cfg)
  renews p h = rule_1 n M W m order (priority_of cfg) quiet e frame fits_here p h ∙ ap stores_at w

  pub has_none : place_of e (entries_of W m) ≡ None → admits_at (entry_frames cfg) ≡ stores_at (entry_frames cfg)
  has_none h =
      ap admits_at (sym w) ∙ rules_2_to_4 n M W m order (priority_of cfg) quiet e frame fits_here h ∙ ap stores_at w

  pub appends : entry_count m < places cfg
      → left_with (added W e 1 (payload_of frame) m) Added ≡ admits_at (entry_frames cfg)
  appends h = rule_2 n M W m order (priority_of cfg) quiet e frame fits_here h ∙ ap admits_at w

  pub displaces : places cfg ≤ entry_count m → (p : Place) → victim_place (priority_of cfg) quiet e (entries_of W m) ≡ Some p
      → left_with (replaced W p.0 e 1 (payload_of frame) m) (displacing (at_place p.0 (entries_of W m)))
      ≡ admits_at (entry_frames cfg)
  displaces h p v = rule_3 n M W m order (priority_of cfg) quiet e frame fits_here h p v ∙ ap admits_at w

  pub loses : places cfg ≤ entry_count m → victim_place (priority_of cfg) quiet e (entries_of W m) ≡ None
      → left_with m NotStored ≡ admits_at (entry_frames cfg)
  loses h v = rule_4 n M W m order (priority_of cfg) quiet e frame fits_here h v ∙ ap admits_at w
