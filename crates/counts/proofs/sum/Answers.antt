-- `sum` meets its contract: no number is carried past the limit.
use native.Mathlib.Omega.{arith}
use Rattle.counts.proofs.FiveLaws.{sums_are, has_room}
use Rattle.counts.proofs.sum.Goals as goal

pub overflow_add-result : goal.overflow_add-result
overflow_add-result c =
    let room = has_room c.args.rise c.args.five c.requires in
    omega (arith, room.0)

pub overflow_add-result-2 : goal.overflow_add-result-2
overflow_add-result-2 c =
    let room = has_room c.args.rise c.args.five c.requires in
    omega (arith, room.1.0)

pub overflow_add-result-3 : goal.overflow_add-result-3
overflow_add-result-3 c =
    let room = has_room c.args.rise c.args.five c.requires in
    omega (arith, room.1.1.0)

pub overflow_add-result-4 : goal.overflow_add-result-4
overflow_add-result-4 c =
    let room = has_room c.args.rise c.args.five c.requires in
    omega (arith, room.1.1.1.0)

pub overflow_add-result-5 : goal.overflow_add-result-5
overflow_add-result-5 c =
    let room = has_room c.args.rise c.args.five c.requires in
    omega (arith, room.1.1.1.1.0)

pub returns : goal.returns
returns c =
    sums_are c.args.rise c.args.five
