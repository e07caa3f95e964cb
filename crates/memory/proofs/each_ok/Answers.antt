use mathlib.Core.Path.{◌≡◌, refl, sym, ◌∙◌}
use mathlib.Core.Bool.{true, false}
use Prim.Native.Nat.{◌<◌}
use native.Mathlib.Omega.{arith}
use lib.ListN.{length}
use Rattle.manual.specs.Memory.{entries_of}
use Rattle.memory.specs.Places.{blank, at_place}
use Rattle.memory.specs.Judgement.{sound_entry}
use Rattle.memory.proofs.PlacesLaws.{entries_are_count}
use Rattle.memory.proofs.JudgementLaws.{all_ends, all_goes_on, all_through}
use Rattle.memory.proofs.each_ok.Goals as goal

pub entry_count-i-end-requires : goal.entry_count-i-end-requires
entry_count-i-end-requires c = omega (arith, c.requires.1.within)

pub loop-i-init : goal.loop-i-init
loop-i-init c = (omega arith, refl)

pub event_at-event-requires : goal.event_at-event-requires
event_at-event-requires c =
    record {
      entries = c.requires.1;
      below = omega (arith, c.entry_count-i-end.ensures, c.loop-i-test.true);
    }

pub count_at-count-requires : goal.count_at-count-requires
count_at-count-requires c =
    record {
      entries = c.requires.1;
      below = omega (arith, c.entry_count-i-end.ensures, c.loop-i-test.true);
    }

pub entry_ok-requires : goal.entry_ok-requires
entry_ok-requires c = c.requires.0

pub returns-then-not-entry_ok : goal.returns-then-not-entry_ok
returns-then-not-entry_ok c =
    let xs = entries_of c.args.payload_bytes c.args.memory.now in
    let q = sound_entry c.args.events c.args.records.now in
    let h : c.loop-i.i < length xs =
    omega (
      arith,
      entries_are_count c.args.payload_bytes c.args.memory.now,
      c.entry_count-i-end.ensures,
      c.loop-i-test.true,
    ) in
    let e : q (at_place c.loop-i.i xs) ≡ false =
    rw (← c.event_at-event.ensures, ← c.count_at-count.ensures)
    (sym c.entry_ok.ensures ∙ c.if-not-entry_ok.true) in
    sym
    (c.loop-i.invariant.1
    ∙ all_ends blank q xs c.loop-i.i h e)

pub loop-i-preserved : goal.loop-i-preserved
loop-i-preserved c =
    let xs = entries_of c.args.payload_bytes c.args.memory.now in
    let q = sound_entry c.args.events c.args.records.now in
    let h : c.loop-i.i < length xs =
    omega (
      arith,
      entries_are_count c.args.payload_bytes c.args.memory.now,
      c.entry_count-i-end.ensures,
      c.loop-i-test.true,
    ) in
    let e : q (at_place c.loop-i.i xs) ≡ true =
    rw (← c.event_at-event.ensures, ← c.count_at-count.ensures)
    (sym c.entry_ok.ensures ∙ c.if-not-entry_ok.false) in (
      omega arith,
      c.loop-i.invariant.1
          ∙ all_goes_on blank q xs c.loop-i.i h e,
    )

pub returns : goal.returns
returns c =
    let xs = entries_of c.args.payload_bytes
    c.args.memory.now in
    sym
    (c.loop-i.invariant.1
    ∙ all_through blank
    (sound_entry c.args.events
    c.args.records.now)
    xs c.loop-i.i
    (omega (
      arith,
      entries_are_count c.args.payload_bytes
          c.args.memory.now,
      c.entry_count-i-end.ensures,
      c.loop-i-test.false,
    )))
