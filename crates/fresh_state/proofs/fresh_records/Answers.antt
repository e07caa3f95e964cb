use mathlib.Core.Path.{◌≡◌, refl, ◌∙◌}
use Prim.Native.Nat.{◌<◌}
use native.Mathlib.Omega.{arith}
use Rattle.manual.specs.Configuration.{events}
use Rattle.fresh_state.proofs.FreshLaws.{fresh_none, fresh_more, fresh_all}
use Rattle.fresh_state.proofs.fresh_records.Goals as goal

pub loop-event-init : goal.loop-event-init
loop-event-init c = (omega arith, fresh_none _ _, refl)

pub write_fresh_record-requires : goal.write_fresh_record-requires
write_fresh_record-requires c =
    let h : c.loop-event.event < events c.args.cfg.now = omega
    (arith, c.events-event-end.ensures) in
    omega (arith, c.requires)

pub loop-event-preserved : goal.loop-event-preserved
loop-event-preserved c =
    let loop = c.loop-event in
    let h : loop.event < events c.args.cfg.now =
    omega (arith, c.events-event-end.ensures) in (
      omega arith,
      fresh_more _ _ c.requires _ h loop.invariant.1 c.write_fresh_record.ensures,
      c.write_fresh_record.auto.records ∙ loop.invariant.2,
    )

pub returns : goal.returns
returns c =
    let e : c.loop-event.event
    ≡ events c.args.cfg.now = omega (arith, c.events-event-end.ensures) in
    fresh_all _ _ c.requires e c.loop-event.invariant.1
