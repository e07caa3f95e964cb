use mathlib.Core.Path.{◌≡◌, sym, ap, ◌∙◌}
use mathlib.Core.List.{List}
use Prim.Native.Nat.{ℕ, ◌≤◌, ◌<◌}
use native.Mathlib.Omega.{arith}
use lib.ListN.{length, drop}
use Rattle.manual.specs.Memory.{entry_count, entries_of, no_twice}
use Rattle.memory.proofs.PlacesLaws.{entries_are_count, event_small}
use Rattle.memory.proofs.SeenLaws.{none_twice_past, marks_past, turn_once, turn_marks}
use Rattle.memory.proofs.none_twice.Goals as goal

-- there are as many entries as the first byte says
long : (w : ℕ) (m : List ℕ) {n : ℕ} → n ≡ entry_count m → length (entries_of w m) ≤ n
long w m e = omega (arith, entries_are_count w m, e)

pub entry_count-i-requires : goal.entry_count-i-requires
entry_count-i-requires c = omega (arith, c.requires.entries.within)

pub loop-i-init : goal.loop-i-init
loop-i-init c = (
  omega (arith, c.entry_count-i.ensures),
  sym (none_twice_past _ _ (long c.args.payload_bytes c.args.memory.now c.entry_count-i.ensures)),
  marks_past _ _ (long c.args.payload_bytes c.args.memory.now c.entry_count-i.ensures),
)

pub overflow_step-i : goal.overflow_step-i
overflow_step-i c = omega (arith, c.loop-i-test.true)

pub event_at-event-requires : goal.event_at-event-requires
event_at-event-requires c =
    record {
      entries = c.requires.entries;
      below = omega (arith, c.loop-i.invariant.0, c.loop-i-test.true);
    }

pub bounds-seen-e : goal.bounds-seen-e
bounds-seen-e c = rw c.event_at-event.ensures (event_small _ _ _ c.requires (omega (arith, c.loop-i.invariant.0, c.loop-i-test.true)))

pub bounds-seen-e-in-loop-i : goal.bounds-seen-e-in-loop-i
bounds-seen-e-in-loop-i c = rw c.event_at-event.ensures (event_small _ _ _ c.requires (omega (arith, c.loop-i.invariant.0, c.loop-i-test.true)))

pub loop-i-smaller : goal.loop-i-smaller
loop-i-smaller c = omega (arith, c.loop-i-test.true)

pub loop-i-preserved : goal.loop-i-preserved
loop-i-preserved c =
    let seen = c.loop-i.seen in
    let marks = c.loop-i.invariant.2 in
    let some = c.loop-i-test.true in
    let small : c.event_at-event.result.0 < 512 =
    rw c.event_at-event.ensures (event_small _ _ _ c.requires (omega (arith, c.loop-i.invariant.0, c.loop-i-test.true))) in
    let most : c.loop-i.i ≤ length (entries_of c.args.payload_bytes c.args.memory.now) =
    omega (arith, entries_are_count c.args.payload_bytes c.args.memory.now, c.loop-i.invariant.0) in (
      omega (arith, c.loop-i.invariant.0),
      rw c.loop-i.invariant.1
          (turn_once _ _ some most seen _ c.event_at-event.ensures small marks),
      turn_marks _ _ some most seen _ c.event_at-event.ensures small marks,
    )

pub returns : goal.returns
returns c =
    let a = c.args in
    let none : c.loop-i.i ≡ 0 = omega (arith, c.loop-i-test.false) in
    c.loop-i.invariant.1 ∙ ap (λ k. no_twice (drop k (entries_of a.payload_bytes a.memory.now))) none
