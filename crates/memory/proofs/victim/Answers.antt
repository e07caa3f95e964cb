use mathlib.Core.Path.{sym, ap, ◌∙◌}
use Rattle.manual.specs.Configuration.{priority_of}
use Rattle.manual.specs.Memory.{entries_of}
use Rattle.memory.specs.Places.{Find}
use Rattle.memory.specs.Places.{first_place, rests, or_else_place, victim_place}
use Rattle.memory.specs.Store.{quiet_in}
use Rattle.memory.proofs.victim.Goals as goal

pub returns-in-Some : goal.returns-in-Some
unfolding victim_place
returns-in-Some c =
    ap
    (λ (f : Find). or_else_place f
    (first_place
    (rests (priority_of c.args.cfg.now)
    (quiet_in c.args.records.now)
    c.args.event.0)
    (entries_of c.args.payload_bytes
    c.args.memory.now)))
    (sym c.in-Some.is ∙ c.place_of_greatest.ensures)

pub returns-in-None : goal.returns-in-None
unfolding victim_place
returns-in-None c =
    c.place_of_resting.ensures
    ∙ ap
    (λ (f : Find). or_else_place f
    (first_place
    (rests (priority_of c.args.cfg.now)
    (quiet_in c.args.records.now)
    c.args.event.0)
    (entries_of c.args.payload_bytes
    c.args.memory.now)))
    (sym c.in-None.is ∙ c.place_of_greatest.ensures)
