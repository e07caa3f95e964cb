use mathlib.Core.Path.{◌≡◌, refl, sym, ◌∙◌}
use native.Mathlib.Omega.{arith}
use Rattle.writing.proofs.WritingLaws.{append_none, append_then, append_next}
use Rattle.transcript.proofs.LineLaws.{statuses_none, statuses_more, statuses_few}
use Rattle.transcript.proofs.put_statuses.Goals as goal

pub loop-e-init : goal.loop-e-init
loop-e-init c = (omega arith, sym (rw statuses_none (append_none _)), refl)

pub put_spaced-next-requires : goal.put_spaced-next-requires
put_spaced-next-requires c =
    omega (
      arith,
      append_next _ _ c.loop-e.invariant.1,
      statuses_few c.args.records.now
          c.loop-e.e,
    )

pub loop-e-preserved : goal.loop-e-preserved
loop-e-preserved c =
    let turn = c.put_spaced-next in
    let inv = c.loop-e.invariant in
    (omega arith, rw statuses_more (append_then _ _ _ inv.1 turn.ensures), turn.auto.buffer ∙ inv.2)

pub shape_of-buffer : goal.shape_of-buffer
shape_of-buffer c = c.loop-e.invariant.2

pub returns : goal.returns
returns c =
    let e : c.loop-e.e
    ≡ c.args.events = omega arith in rw (← e) c.loop-e.invariant.1
