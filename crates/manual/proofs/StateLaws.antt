-- Laws of specs/State.antt: the records block read after a record was written.
use mathlib.Core.Path.{◌≡◌, refl, ◌∙◌}
use mathlib.Core.Logic.{◌≢◌}
use mathlib.Core.List.{List, [], ◌∷◌, append_assoc}
use Prim.Native.Nat.{ℕ, suc, ◌+◌, ◌*◌, ◌≤◌}
use native.Mathlib.Numerals.{towards_suc, unary_clauses}
use native.Mathlib.Omega.{arith}
use lib.ListN.{length, get_or, take, drop, set}
use lib.Seq.{sets, sets-eq, length-sets, get_or-set_other, get_or-drop, drop_at, length-take-le}
use Rattle.history.specs.StatusByte.{EventRecord}
use Rattle.history.proofs.StatusByteLaws.{status_of_byte_whole}
use Rattle.manual.specs.State.{record_width, Stored, opened, stored, stored_at, with_stored}

pub opened_stored : (r : EventRecord) → opened (stored r) ≡ r
opened_stored r = rw status_of_byte_whole

-- ---- a record and its four bytes, in their order

abbrev bytes : Stored → List ℕ
bytes r = r.status ∷ r.K ∷ r.h ∷ r.g ∷ []

-- the record that stands at the front of these bytes
abbrev front : List ℕ → Stored
front l = record { status = get_or l 0 0; K = get_or l 1 0; h = get_or l 2 0; g = get_or l 3 0 }

stored_at_lem : (e : ℕ) (m : List ℕ) → stored_at e m ≡ front (drop (record_width * e) m)
unfolding stored_at
stored_at_lem e m = simp (get_or-drop, towards_suc)

-- four bytes more in front are one record more
pub stored_next : (e a b c d : ℕ) (m : List ℕ) → stored_at (suc e) (a ∷ b ∷ c ∷ d ∷ m) ≡ stored_at e m
unfolding stored_at
stored_next e a b c d m = simp unary_clauses

with_stored_lem : (e : ℕ) (r : Stored) (m : List ℕ) → with_stored e r m ≡ sets m (record_width * e) (bytes r)
unfolding with_stored
with_stored_lem e r m = simp towards_suc

pub stored_length : (e : ℕ) (r : Stored) (m : List ℕ) → length (with_stored e r m) ≡ length m
stored_length e r m = rw (with_stored_lem, length-sets)

pub stored_same : (e : ℕ) (r : Stored) (m : List ℕ) → record_width * e + 4 ≤ length m → stored_at e (with_stored e r m) ≡ r
stored_same e r m h =
    let l : length (take (record_width * e) m) ≡ record_width * e = length-take-le (record_width * e) m (omega arith) in
    rw (stored_at_lem, with_stored_lem, sets-eq, append_assoc, drop_at)

-- what stands outside the written bytes stays
sets_other : (vs l : List ℕ) (i k : ℕ) → (i ≤ k → i + length vs ≤ k) → get_or (sets l i vs) k 0 ≡ get_or l k 0
sets_other [] l i k h = refl
sets_other (v ∷ vs) l i k h =
    sets_other vs (set l i v) (suc i) k (λ q. let w = h (omega arith) in omega arith)
    ∙ get_or-set_other l i k v 0 (λ (p : k ≡ i). let w = h (omega arith) in omega arith)

pub stored_other : (e f : ℕ) (r : Stored) (m : List ℕ) → f ≢ e → stored_at f (with_stored e r m) ≡ stored_at f m
unfolding stored_at
stored_other e f r m n = λ i. record {
  status = stays (record_width * f) (omega arith) i;
  K = stays (record_width * f + 1) (omega arith) i;
  h = stays (record_width * f + 2) (omega arith) i;
  g = stays (record_width * f + 3) (omega arith) i;
}
  where
    stays : (k : ℕ) → (record_width * e ≤ k → record_width * e + 4 ≤ k) → get_or (with_stored e r m) k 0 ≡ get_or m k 0
    stays k h = rw with_stored_lem (sets_other (bytes r) m (record_width * e) k h)
