-- A stop that leaves a record as it is: the cycle was not clean, or bits 2, 3 and 7 are clear and K is 0.
use mathlib.Core.Path.{◌≡◌, refl, sym, ap, fun_ext, ◌∙◌}
use mathlib.Core.Logic.{◌⊎◌, inl, inr, ⊎_elim}
use mathlib.Core.Bool.{Bool, true, false, not, ◌&&◌, ◌||◌, cond}
use mathlib.Core.List.{List, [], ◌∷◌}
use Prim.Native.Nat.{ℕ, suc, ◌<◌}
use lib.Dec.{eqb}
use borrow.Author.Tests.{eqb-true}
use Rattle.history.specs.StatusByte.{Bit, pending_dtc, confirmed_dtc, warning_indicator_requested, Status, EventRecord}
use Rattle.history.specs.StatusByte.{Limits, among, clear_bits_if, clean_cycle, heals, stop_a, ages, stop_b}
use Rattle.history.specs.StatusByte.{on_stop}
use Rattle.history.proofs.WordsLaws.{and_false}
use Rattle.history.proofs.StatusByteLaws.{each_bit}
use Rattle.manual.proofs.WordsLaws.{clash}
use Rattle.status.specs.declared.Record.{Record}
use Rattle.status.specs.Records.{record_is, rests_at_stop, StoppedIs}
use Rattle.status.proofs.RecordsLaws.{bytes_are}

-- what neither part of a stop finds: a clean cycle, or a thing to do at its end
abbrev Quiet : EventRecord → Type 0
Quiet r =
    (r.status pending_dtc ≡ false) × (r.status confirmed_dtc ≡ false) × (r.status warning_indicator_requested ≡ false)
    × (r.K ≡ 0)

why : (r : EventRecord) → rests_at_stop r ≡ true → (clean_cycle r.status ≡ false) ⊎ Quiet r
why r = go (clean_cycle r.status) (r.status pending_dtc) (r.status confirmed_dtc)
    (r.status warning_indicator_requested)
  where
    go : (c p f w : Bool) → not c || (not (p || f || w) && eqb r.K 0) ≡ true
        → (c ≡ false) ⊎ ((p ≡ false) × (f ≡ false) × (w ≡ false) × (r.K ≡ 0))
    go false p f w t = inl refl
    go true true f w t = clash false t refl
    go true false true w t = clash false t refl
    go true false false true t = clash false t refl
    go true false false false t = inr (refl, refl, refl, eqb-true r.K 0 t)

-- bits that stay
clears_none : {test : Bool} (bits : List Bit) (s : Status) → test ≡ false → clear_bits_if test bits s ≡ s
clears_none bits s k =
    fun_ext
    (λ b. ap (λ (t : Bool). cond (among bits b && t) false (s b)) k
    ∙ ap (λ (t : Bool). cond t false (s b)) (and_false (among bits b)))

clear_stays : (test x : Bool) → x ≡ false → cond test false x ≡ x
clear_stays true x e = sym e
clear_stays false x e = refl

pending_stays : (test : Bool) (s : Status) → s pending_dtc ≡ false → clear_bits_if test (pending_dtc ∷ []) s ≡ s
pending_stays test s e =
    fun_ext
    (each_bit (λ b. clear_bits_if test (pending_dtc ∷ []) s b ≡ s b) refl refl (clear_stays test (s pending_dtc) e) refl
    refl refl refl refl)

cond_zero : (test : Bool) (k : ℕ) → k ≡ 0 → cond test 0 k ≡ k
cond_zero true k e = sym e
cond_zero false k e = refl

module _ (n : Limits) (r : EventRecord) where
  -- a count that does not rise
  stays : {a b : Bool} (c d : ℕ) → a ≡ false → b ≡ false → cond a 0 (cond b (suc c) d) ≡ d
  stays c d p q = λ i. cond (p i) 0 (cond (q i) (suc c) d)

  not_clean : clean_cycle r.status ≡ false → (x : Bool) → clean_cycle r.status && x ≡ false
  not_clean k x = ap (λ (c : Bool). c && x) k

  not_both : (a : Bool) {b : Bool} → b ≡ false → a && b ≡ false
  not_both a q = ap (λ (b : Bool). a && b) q ∙ and_false a

  -- part (a)
  first_stays : (clean_cycle r.status ≡ false) ⊎ Quiet r → stop_a n r ≡ r
  first_stays =
      ⊎_elim
      (λ k.
      let warned = not_clean k (r.status warning_indicator_requested) in
      let healed : heals n r ≡ false = ap (λ (t : Bool). t && eqb (suc r.h) n.H) warned in
      λ i. record {
        status =
            (clears_none (warning_indicator_requested ∷ []) _ healed
            ∙ clears_none (pending_dtc ∷ []) r.status k) i;
        K = cond (k i) 0 r.K;
        h = stays r.h r.h healed warned i;
        g = r.g;
      })
      (λ q.
      let warned = not_both (clean_cycle r.status) q.2 in
      let healed : heals n r ≡ false = ap (λ (t : Bool). t && eqb (suc r.h) n.H) warned in
      λ i. record {
        status =
            (clears_none (warning_indicator_requested ∷ []) _ healed
            ∙ pending_stays (clean_cycle r.status) r.status q.0) i;
        K = cond_zero (clean_cycle r.status) r.K q.3 i;
        h = stays r.h r.h healed warned i;
        g = r.g;
      })

  no_ageing : (clean_cycle r.status ≡ false) ⊎ Quiet r → clean_cycle r.status && r.status confirmed_dtc ≡ false
  no_ageing =
      ⊎_elim (λ k. not_clean k (r.status confirmed_dtc)) (λ q. not_both (clean_cycle r.status) q.1)

  not_aged_lem : (clean_cycle r.status ≡ false) ⊎ Quiet r → ages n r ≡ false
  not_aged_lem q = ap (λ (t : Bool). t && eqb (suc r.g) n.A) (no_ageing q)

  -- part (b)
  second_stays : (clean_cycle r.status ≡ false) ⊎ Quiet r → stop_b n r ≡ r
  second_stays q = λ i. record {
    status = clears_none (confirmed_dtc ∷ warning_indicator_requested ∷ []) r.status (not_aged_lem q) i;
    K = r.K;
    h = cond (not_aged_lem q i) 0 r.h;
    g = stays r.g r.g (not_aged_lem q) (no_ageing q) i;
  }

-- the record that is left, and that the event does not age
pub rests : (n : Limits) (r : Record) → r.status.0 < 256 → rests_at_stop (record_is r) ≡ true
    → StoppedIs n r (record { «record» = r; aged = false })
rests n r b t =
    let q = why (record_is r) t in
    let all : record_is r ≡ on_stop n (record_is r) =
    sym (ap (stop_b n) (first_stays n (record_is r) q) ∙ second_stays n (record_is r) q) in
    record {
      after =
          bytes_are b (λ i. (all i).status) (λ i. (all i).K) (λ i. (all i).h) (λ i. (all i).g);
      aged = sym (ap (ages n) (first_stays n (record_is r) q) ∙ not_aged_lem n (record_is r) q);
    }
