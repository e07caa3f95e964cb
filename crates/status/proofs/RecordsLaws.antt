-- Laws of specs/Records.antt: a record's bytes after a step, in the lent block too, and what its clauses give.
use mathlib.Core.Path.{◌≡◌, ap, ◌∙◌}
use mathlib.Core.Bool.{true}
use mathlib.Core.List.{List}
use Prim.Native.Nat.{ℕ, ◌≤◌, ◌<◌}
use native.Mathlib.Omega.{arith}
use borrow.Author.Tests.{ltb-true}
use Rattle.history.specs.StatusByte.{Status, status_of, Limits}
use Rattle.history.specs.WellFormed.{well_formed_record}
use Rattle.history.specs.History.{Token, step}
use Rattle.history.proofs.WordsLaws.{part}
use Rattle.manual.specs.State.{Stored, opened, stored, stored_at, with_stored}
use Rattle.status.specs.declared.Record.{Record}
use Rattle.status.specs.Records.{stored_is, record_is, RoomToRise}
use Rattle.status.proofs.MasksLaws.{byte_is}

-- the four bytes of a record whose status byte has the bits of t
pub bytes_are : {x K h g K' h' g' : ℕ} {t : Status} → x < 256 → status_of x ≡ t → K ≡ K' → h ≡ h' → g ≡ g'
    → ◌≡◌ {A = Stored} (record { status = x; K = K; h = h; g = g })
    (stored (record { status = t; K = K'; h = h'; g = g' }))
bytes_are b e p q r = λ i. record { status = byte_is _ _ b e i; K = p i; h = q i; g = r i }

-- a record read from the block, stepped, and written back
module _ (n : Limits) (t : Token) (e : ℕ) (m : List ℕ) {m' : List ℕ} (r r' : Record) where
  pub step_written : stored_is r ≡ stored_at e m → stored_is r' ≡ stored (step n t (record_is r))
      → m' ≡ with_stored e (stored_is r') m
      → m' ≡ with_stored e (stored (step n t (opened (stored_at e m)))) m
  step_written p q w =
      w ∙ ap (λ (x : Stored). with_stored e x m) (q ∙ ap (λ (x : Stored). stored (step n t (opened x))) p)

-- what a well-formed record gives, under the most that H and A may be: "h < H", "g < A"
pub has_room : (n : Limits) (r : Record) {x : Stored} → stored_is r ≡ x → n.H ≤ 255 → n.A ≤ 255
    → well_formed_record n (opened x) ≡ true → RoomToRise r
unfolding well_formed_record
has_room n r {x} e p q w =
    let h : r.h < n.H = rw (ap (λ (y : Stored). y.h) e) (ltb-true x.h n.H (part _ w 5)) in
    let g : r.g < n.A = rw (ap (λ (y : Stored). y.g) e) (ltb-true x.g n.A (part _ w 7)) in
    record { h_below = omega arith; g_below = omega arith }
