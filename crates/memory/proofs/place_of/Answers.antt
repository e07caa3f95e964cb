use mathlib.Core.Path.{refl, sym, ◌∙◌}
use Prim.Native.Nat.{◌<◌}
use native.Mathlib.Omega.{arith}
use lib.ListN.{length}
use Rattle.manual.specs.Memory.{is_of, entries_of}
use Rattle.memory.proofs.PlacesLaws.{entries_are_count, first_hit, first_miss, first_end}
use Rattle.memory.proofs.place_of.Goals as goal

pub entry_count-i-end-requires : goal.entry_count-i-end-requires
entry_count-i-end-requires c = omega (arith, c.requires.within)

pub loop-i-init : goal.loop-i-init
loop-i-init c = (omega arith, refl)

pub is_of-requires : goal.is_of-requires
is_of-requires c =
    record {
      entries = c.requires;
      below = omega (arith, c.entry_count-i-end.ensures, c.loop-i-test.true);
    }

pub returns-then-is_of : goal.returns-then-is_of
returns-then-is_of c =
    let xs = entries_of c.args.payload_bytes c.args.memory.now in
    let h : c.loop-i.i < length xs =
    omega (
      arith,
      entries_are_count c.args.payload_bytes c.args.memory.now,
      c.entry_count-i-end.ensures,
      c.loop-i-test.true,
    ) in
    sym
    (c.loop-i.invariant.1
    ∙ first_hit (is_of c.args.event.0) xs c.loop-i.i h
    (sym c.is_of.ensures ∙ c.if-is_of.true))

pub loop-i-preserved : goal.loop-i-preserved
loop-i-preserved c =
    let xs = entries_of c.args.payload_bytes c.args.memory.now in
    let h : c.loop-i.i < length xs =
    omega (
      arith,
      entries_are_count c.args.payload_bytes c.args.memory.now,
      c.entry_count-i-end.ensures,
      c.loop-i-test.true,
    ) in (
      omega arith,
      c.loop-i.invariant.1
          ∙ first_miss (is_of c.args.event.0) xs c.loop-i.i h
          (sym c.is_of.ensures ∙ c.if-is_of.false),
    )

pub returns : goal.returns
returns c =
    let xs = entries_of c.args.payload_bytes
    c.args.memory.now in
    sym
    (c.loop-i.invariant.1
    ∙ first_end (is_of c.args.event.0) xs c.loop-i.i
    (omega (
      arith,
      entries_are_count c.args.payload_bytes
          c.args.memory.now,
      c.entry_count-i-end.ensures,
      c.loop-i-test.false,
    )))
