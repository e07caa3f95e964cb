-- Laws of save: what its judge gives, and that the bodies written one after the other are the image.
use mathlib.Core.Path.{◌≡◌, refl, sym, ap, ◌∙◌}
use Rattle.std.specs.Int.{from_bool}
use Rattle.std.specs.List.{list_any}
use mathlib.Core.Bool.{beq, Bool, true, false, cond}
use mathlib.Core.List.{List, [], ◌∷◌, ◌++◌, append_assoc}
use Prim.Native.Nat.{ℕ, ◌+◌, ◌≤◌}
use native.Mathlib.Omega.{arith}
use lib.Dec.{ltb}
use lib.ListN.{length, take, length-append}
use borrow.Author.Tests.{not-false, ltb-false}
use Rattle.history.specs.Words.{any_of}
use Rattle.manual.specs.declared.Refusal.{Refusal}
use Rattle.std.specs.Prelude.{Ok}
use Rattle.manual.specs.Configuration.{Configuration, places, entry_frames, config_ok}
use Rattle.manual.specs.State.{State}
use Rattle.manual.specs.WellFormed.{well_formed}
use Rattle.manual.specs.Memory.{entry_count, bytes_in_use}
use Rattle.manual.specs.Answers.{lent_room, ◌if◌, first_that_applies, number_of, of_length, leaves, refused}
use Rattle.manual.specs.Calls.{begins}
use Rattle.manual.specs.Image.{header_length, header, image_from, image_in, image_of, any_runs, save_rules, saved, save}
use Rattle.manual.proofs.AnswersLaws.{none_applies, goes_through, stops_with}
use Rattle.manual.proofs.ConfigurationLaws.{config_tells}
use Rattle.manual.proofs.MemoryLaws.{used_most}
use Rattle.manual.proofs.WellFormedLaws.{state_tells}
use Rattle.memory.proofs.JudgementLaws.{end_length}
use Rattle.judgement.proofs.BeginLaws.{begun, after_go, after_stop}
use Rattle.writing.specs.Writing as writing
use Rattle.writing.specs.Writing.{written, append, filled}
use Rattle.writing.proofs.WritingLaws.{append_then, append_filled}
use Rattle.image.specs.Ready.{Counted, Savable}

-- ---- the judge

-- "any cycle running"
pub any_is_true : (l : List Bool) → list_any (λ y. beq y true) l ≡ any_of (λ r. r) l
any_is_true [] = refl
any_is_true (true ∷ l) = refl
any_is_true (false ∷ l) = any_is_true l

module _ (cfg : Configuration) (s : State) (r : Savable cfg s.records s.memory) where
  abbrev used : ℕ
  used = bytes_in_use (entry_frames cfg) (entry_count s.memory)

  pub counted : Counted cfg s.memory
  counted = record { accepted = r.accepted; some = omega (arith, r.memory_as_long); few = r.few }

  pub used_long : length (take used s.memory) ≡ used
  used_long = end_length (places cfg) (entry_frames cfg) s.memory r.memory_as_long r.few

  pub size_most : header_length + length s.records + used ≤ 6357
  size_most =
      let t = config_tells cfg r.accepted in
      omega (
        arith,
        r.records_as_long,
        t.n_most,
        used_most (entry_frames cfg) (entry_count s.memory) t.payload_most (omega (arith, r.few, t.M_most)),
      )

  -- the bodies that are written are those of the state
  module _ {u : ℕ} (e : u ≡ used) where
    pub cut_long : u ≡ length (take u s.memory)
    cut_long = e ∙ sym used_long ∙ ap (λ (k : ℕ). length (take k s.memory)) (sym e)

    pub image_is : image_from 2 s.records (take u s.memory) (cond s.board.overflow 1 0 ∷ []) ≡ image_of cfg s
    unfolding image_in
    image_is = ap (λ (k : ℕ). image_from 2 s.records (take k s.memory) (cond s.board.overflow 1 0 ∷ [])) e

  pub image_length : length (image_of cfg s) ≡ header_length + length s.records + used + 1
  unfolding image_in image_from
  image_length = simp length-append (let l = used_long in omega arith)

module _ (cfg : Configuration) (room : List ℕ) (s : State) where
  savable : config_ok cfg ≡ true → well_formed cfg s ≡ true → Savable cfg s.records s.memory
  savable c w =
      let t = state_tells cfg s w in
      record { accepted = c; records_as_long = t.lengths.records; memory_as_long = t.lengths.memory; few = t.few }

  module _ (go : 0 ≡ first_that_applies (begins cfg s true [])) where
    pub begun_savable : Savable cfg s.records s.memory
    begun_savable = let (c, w) = begun cfg s true (sym go) in savable c w

    pub judged_on : {running : Bool} {size : ℕ} → running ≡ any_runs s.board → size ≡ length (image_of cfg s)
        → first_that_applies ((5 if running) ∷ (7 if ltb (length room) size) ∷ [])
        ≡ first_that_applies (save_rules cfg (lent_room room) s)
    unfolding save_rules
    judged_on p q =
        (λ i. first_that_applies ((5 if p i) ∷ (7 if ltb (length room) (q i)) ∷ []))
        ∙ sym (after_go cfg s true _ (sym go))

  pub judged_stop : (r : Refusal) → number_of r ≡ first_that_applies (begins cfg s true [])
      → number_of r ≡ first_that_applies (save_rules cfg (lent_room room) s)
  unfolding save_rules
  judged_stop r e = sym (after_stop cfg s true _ r e)

  -- ---- the call

  module _ (z : 0 ≡ first_that_applies (save_rules cfg (lent_room room) s)) where
    pub save_ready : Savable cfg s.records s.memory
    unfolding save_rules
    save_ready =
        let none = none_applies _ (sym z) refl in savable (not-false (config_ok cfg) (none 0))
        (not-false (well_formed cfg s) (none 1))

    pub save_room : length (image_of cfg s) ≤ length room
    unfolding save_rules
    save_room = ltb-false (length room) (length (image_of cfg s)) (none_applies _ (sym z) refl 3)

    pub save_done : {size : ℕ} {after : List ℕ} → written size after ≡ filled (image_of cfg s) room
        → leaves (of_length (Ok size)) [] (lent_room after) s ≡ save cfg (lent_room room) s
    unfolding save filled
    save_done e =
        ap (λ (w : writing.Written). leaves (of_length (Ok w.next)) [] (lent_room w.room) s) e
        ∙ sym (goes_through _ (lent_room room) s (saved cfg (image_of cfg s) (lent_room room) s) (sym z))

  pub save_left : (r : Refusal) → number_of r ≡ first_that_applies (save_rules cfg (lent_room room) s)
      → refused (number_of r) (lent_room room) s ≡ save cfg (lent_room room) s
  unfolding save
  save_left r e = stops_with _ _ _ _ r e

-- ---- the bodies one after the other

-- "the overflow flag (0 or 1)"
pub flag_is : (b : Bool) → from_bool b ≡ cond b 1 0
flag_is true = refl
flag_is false = refl

module _ (records used room : List ℕ) (flag : ℕ)
    (h : header_length + length records + length used + 1 ≤ length room) where
  abbrev top : List ℕ
  top = header 2 (length records) (length used) 1

  pub bodies_written : {top' : List ℕ} {flag' : ℕ} {w₁ w₂ w₃ w₄ : writing.Written} → top' ≡ top → flag' ≡ flag
      → w₁ ≡ append top' (written 0 room) → w₂ ≡ append records w₁ → w₃ ≡ append used w₂ → w₄ ≡ append (flag' ∷ []) w₃
      → w₄ ≡ filled (image_from 2 records used (flag ∷ [])) room
  unfolding image_from
  bodies_written {top'} {flag'} t f e₁ e₂ e₃ e₄ =
      let image = top ++ (records ++ (used ++ (flag ∷ []))) in
      let all : top ++ records ++ used ++ (flag ∷ []) ≡ image =
      append_assoc (top ++ records) used (flag ∷ []) ∙ append_assoc top records (used ++ (flag ∷ [])) in
      let long : length image ≤ length room = simp length-append (omega arith) in
      append_then (top' ++ records ++ used) (flag' ∷ []) (written 0 room)
      (append_then (top' ++ records) used (written 0 room) (append_then top' records (written 0 room) e₁ e₂) e₃)
      e₄
      ∙ (λ i. append (t i ++ records ++ used ++ (f i ∷ [])) (written 0 room))
      ∙ ap (λ (l : List ℕ). append l (written 0 room)) all
      ∙ append_filled image room long
