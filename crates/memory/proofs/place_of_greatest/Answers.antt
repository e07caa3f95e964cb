use mathlib.Core.Path.{◌≡◌, sym, ap, ◌∙◌}
use native.Mathlib.Omega.{arith}
use lib.ListN.{length}
use Rattle.manual.specs.Configuration.{priority_of}
use Rattle.manual.specs.Memory.{entries_of}
use Rattle.memory.proofs.PlacesLaws.{entries_are_count, event_small}
use Rattle.memory.proofs.VictimLaws.{priority_at, best_of_none, best_stays, best_changes, best_is_first}
use Rattle.memory.proofs.place_of_greatest.Goals as goal
use Rattle.memory.proofs.place_of_greatest.Goals.{then-top-priority, else-top-priority}

pub entry_count-i-end-requires : goal.entry_count-i-end-requires
entry_count-i-end-requires c = omega (arith, c.requires.0.entries.within)

pub priority_of-top-requires : goal.priority_of-top-requires
priority_of-top-requires c = c.requires.1

pub loop-i-init : goal.loop-i-init
loop-i-init c = (
  omega arith,
  best_of_none
      (priority_at (priority_of c.args.cfg.now)
      (entries_of c.args.payload_bytes c.args.memory.now))
      c.priority_of-top.result,
)

pub event_at-requires : goal.event_at-requires
event_at-requires c =
    record {
      entries = c.requires.0.entries;
      below = omega (arith, c.entry_count-i-end.ensures, c.loop-i-test.true);
    }

pub priority_of-priority-requires : goal.priority_of-priority-requires
priority_of-priority-requires c =
    rw c.event_at.ensures
    (event_small c.args.payload_bytes c.loop-i.i
    c.args.memory.now
    c.requires.0
    (omega (arith, c.entry_count-i-end.ensures, c.loop-i-test.true)))

pub loop-i-preserved : goal.loop-i-preserved
loop-i-preserved c =
    let f =
    priority_at (priority_of c.args.cfg.now) (entries_of c.args.payload_bytes c.args.memory.now) in
    let i = c.loop-i.i in
    let e : c.priority_of-priority.result ≡ f i =
    c.priority_of-priority.ensures
    ∙ ap (priority_of c.args.cfg.now)
    c.event_at.ensures in (
      omega (arith, c.loop-i-test.true),
      elim c.if-top-priority.branch [
        | then-top-priority w ↦ rw (w.best-is, w.top-is, e)
            (best_changes f c.priority_of-top.result i c.loop-i.best c.loop-i.top c.loop-i.invariant.1
            (rw e at w.if-top-priority.true))
        | else-top-priority w ↦ rw (w.best-is, w.top-is)
            (best_stays f c.priority_of-top.result i c.loop-i.best c.loop-i.top c.loop-i.invariant.1
            (rw e at w.if-top-priority.false))
      ],
    )

pub returns : goal.returns
returns c = let p = priority_of c.args.cfg.now in
    let xs =
    entries_of c.args.payload_bytes
    c.args.memory.now in
    let i : c.loop-i.i ≡ length xs =
    omega (
      arith,
      entries_are_count c.args.payload_bytes
          c.args.memory.now,
      c.entry_count-i-end.ensures,
      c.loop-i-test.false,
      c.loop-i.invariant.0,
    ) in
    sym
    (best_is_first p c.args.event.0 xs c.loop-i.best
    c.loop-i.top (rw (i, c.priority_of-top.ensures) at c.loop-i.invariant.1))
