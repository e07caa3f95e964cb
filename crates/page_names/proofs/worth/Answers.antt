use mathlib.Core.Path.{sym}
use native.Mathlib.Omega.{arith}
use lib.ListN.{get_or, take}
use lib.Seq.{length-take-le}
use Rattle.std.proofs.lemmas.List.{get_or-take}
use Rattle.page_names.proofs.NamesLaws.{digit_few, worth_none, worth_more, worth_few}
use Rattle.page_names.proofs.worth.Goals as goal

pub loop-b-init : goal.loop-b-init
loop-b-init c = sym (worth_none _)

pub overflow_mul-n : goal.overflow_mul-n
overflow_mul-n c =
    let long = length-take-le c.args.digits c.args.line.now c.requires.1 in
    record {
      fits = omega (
        arith,
        long,
        worth_few c.args.line.now c.loop-b.b-index (omega (arith, long)),
        c.loop-b.invariant,
      );
    }

pub overflow_add-n : goal.overflow_add-n
overflow_add-n c =
    let long = length-take-le c.args.digits c.args.line.now c.requires.1 in
    record {
      fits = omega (
        arith,
        long,
        worth_few c.args.line.now c.loop-b.b-index (omega (arith, long)),
        c.loop-b.invariant,
        c.worth_of.ensures,
        digit_few (get_or (take c.args.digits c.args.line.now) c.loop-b.b-index 0),
      );
    }

pub loop-b-preserved : goal.loop-b-preserved
loop-b-preserved c =
    let long = length-take-le c.args.digits c.args.line.now c.requires.1 in
    rw (
      worth_more,
      ← c.loop-b.invariant,
      ← get_or-take c.args.digits c.args.line.now c.loop-b.b-index 0 (omega (arith, long)),
      ← c.worth_of.ensures,
    )
