use mathlib.Core.Path.{◌≡◌, sym, ap, ◌∙◌}
use Prim.Native.Nat.{ℕ, ◌+◌, ◌*◌}
use native.Mathlib.Omega.{arith}
use lib.Dec.{eqb}
use lib.ListN.{get_or}
use borrow.Author.Tests.{ne_eqb}
use Rattle.manual.specs.Memory.{event_of, bytes_in_use, entries_of}
use Rattle.memory.specs.Places.{at_place}
use Rattle.memory.proofs.PlacesLaws.{entry_within, event_is_at}
use Rattle.memory.proofs.is_of.Goals as goal

pub overflow_add-start : goal.overflow_add-start
overflow_add-start c =
    let a = c.args in
    omega (
      arith,
      c.start_of-start.ensures,
      entry_within a.payload_bytes a.place.0 a.memory.now
          c.requires,
    )

pub bounds-memory-start : goal.bounds-memory-start
bounds-memory-start c =
    let a = c.args in
    omega (
      arith,
      c.start_of-start.ensures,
      entry_within a.payload_bytes a.place.0 a.memory.now
          c.requires,
    )

pub returns-then-low-event : goal.returns-then-low-event
returns-then-low-event c =
    let a = c.args in
    let m = a.memory.now in
    let at = event_is_at a.payload_bytes m a.place.0 c.requires.below in
    let low : c.wide-low.result ≡ get_or m (bytes_in_use a.payload_bytes a.place.0 + 1) 0 =
    c.wide-low.ensures.0 ∙ ap (λ (k : ℕ). get_or m (k + 1) 0)
    c.start_of-start.ensures in
    sym (ne_eqb _ _ (λ (q : event_of (at_place a.place.0 (entries_of a.payload_bytes m)) ≡ a.event.0).
    c.if-low-event.true (omega (arith, q, at, low, c.wide-low.ensures.1))))

pub bounds-memory-start-2 : goal.bounds-memory-start-2
bounds-memory-start-2 c =
    let a = c.args in
    omega (
      arith,
      c.start_of-start.ensures,
      entry_within a.payload_bytes
          a.place.0 a.memory.now c.requires,
    )

pub returns : goal.returns
returns c =
    let a = c.args in
    let m = a.memory.now in
    let e = a.event.0 in
    (λ i. eqb (c.wide.ensures.0 i * 256 + c.wide-low.ensures.0 i)
    e)
    ∙ ap (λ (k : ℕ). eqb (get_or m k 0 * 256 + get_or m (k + 1) 0) e)
    c.start_of-start.ensures
    ∙ ap (λ (k : ℕ). eqb k e) (sym (event_is_at a.payload_bytes m a.place.0 c.requires.below))
