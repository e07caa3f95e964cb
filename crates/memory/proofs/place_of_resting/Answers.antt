use Rattle.memory.proofs.VictimLaws.{rests_at}
use mathlib.Core.Path.{refl, sym, ap, ◌∙◌}
use Prim.Native.Nat.{ℕ, ◌<◌}
use native.Mathlib.Omega.{arith}
use lib.ListN.{length}
use Rattle.manual.specs.Configuration.{priority_of}
use Rattle.manual.specs.Memory.{entries_of}
use Rattle.memory.specs.Places.{first_place}
use Rattle.memory.specs.Store.{quiet_in}
use Rattle.memory.proofs.PlacesLaws.{entries_are_count, event_small, first_hit, first_miss, first_end}
use Rattle.memory.proofs.place_of_resting.Goals as goal

pub entry_count-i-end-requires : goal.entry_count-i-end-requires
entry_count-i-end-requires c = omega (arith, c.requires.0.entries.within)

pub priority_of-p-requires : goal.priority_of-p-requires
priority_of-p-requires c = c.requires.1

pub loop-i-init : goal.loop-i-init
loop-i-init c = (omega arith, refl)

pub event_at-requires : goal.event_at-requires
event_at-requires c =
    record {
      entries = c.requires.0.entries;
      below = omega (arith, c.entry_count-i-end.ensures, c.loop-i-test.true);
    }

pub gives_way-requires : goal.gives_way-requires
gives_way-requires c =
    rw c.event_at.ensures
    (event_small c.args.payload_bytes
    c.loop-i.i c.args.memory.now
    c.requires.0
    (omega (arith, c.entry_count-i-end.ensures, c.loop-i-test.true)))

pub returns-then-gives_way : goal.returns-then-gives_way
returns-then-gives_way c =
    let xs = entries_of c.args.payload_bytes c.args.memory.now in
    let q = rests_at (priority_of c.args.cfg.now) (quiet_in c.args.records.now) in
    let h : c.loop-i.i < length xs =
    omega (
      arith,
      entries_are_count c.args.payload_bytes c.args.memory.now,
      c.entry_count-i-end.ensures,
      c.loop-i-test.true,
    ) in
    sym
    (c.loop-i.invariant.1
    ∙ first_hit (q c.priority_of-p.result) xs
    c.loop-i.i h
    (rw (← c.event_at.ensures) (sym c.gives_way.ensures ∙ c.if-gives_way.true)))
    ∙ ap (λ (k : ℕ). first_place (q k) xs) c.priority_of-p.ensures

pub loop-i-preserved : goal.loop-i-preserved
loop-i-preserved c =
    let xs = entries_of c.args.payload_bytes c.args.memory.now in
    let q =
    rests_at (priority_of c.args.cfg.now) (quiet_in c.args.records.now)
    c.priority_of-p.result in
    let h : c.loop-i.i < length xs =
    omega (
      arith,
      entries_are_count c.args.payload_bytes c.args.memory.now,
      c.entry_count-i-end.ensures,
      c.loop-i-test.true,
    ) in (
      omega arith,
      c.loop-i.invariant.1
          ∙ first_miss q xs c.loop-i.i h
          (rw (← c.event_at.ensures) (sym c.gives_way.ensures ∙ c.if-gives_way.false)),
    )

pub returns : goal.returns
returns c =
    let xs = entries_of c.args.payload_bytes
    c.args.memory.now in
    let q =
    rests_at (priority_of c.args.cfg.now)
    (quiet_in c.args.records.now) in
    sym
    (c.loop-i.invariant.1
    ∙ first_end (q c.priority_of-p.result) xs c.loop-i.i
    (omega (
      arith,
      entries_are_count c.args.payload_bytes
          c.args.memory.now,
      c.entry_count-i-end.ensures,
      c.loop-i-test.false,
    )))
    ∙ ap (λ (k : ℕ). first_place (q k) xs) c.priority_of-p.ensures
