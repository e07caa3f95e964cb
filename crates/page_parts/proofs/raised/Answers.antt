-- `raised` meets its contract.
use borrow.Author.Rules.{rules}
use native.Mathlib.Omega.{arith}
use lib.IntN.{pos, ◌+ℤ◌}
use mir.Syntax.{w16}
use mir.Val.{SFits}
use mir.Facts.{to_z-of_z}
use Rattle.manual.specs.Words.{nat_of}
use Rattle.page_parts.proofs.RaisedLaws.{wider, raised_is, raised_few}
use Rattle.page_parts.proofs.raised.Goals as goal

pub overflow_cast-result : goal.overflow_cast-result
overflow_cast-result c = rw (to_z-of_z c.ranges.counter) (wider c.ranges.counter)

pub overflow_add-result : goal.overflow_add-result
overflow_add-result c =
    let z = c.args.counter in
    let few = raised_few z c.ranges.counter in
    rw (to_z-of_z c.ranges.counter, to_z-of_z (wider c.ranges.counter), raised_is z c.ranges.counter)
    (record { sfits = omega (arith, few) })

pub overflow_cast-result-2 : goal.overflow_cast-result-2
overflow_cast-result-2 c =
    let z = c.args.counter in
    let few = raised_few z c.ranges.counter in
    let sum : SFits w16 (pos (nat_of (z +ℤ pos 128))) = record { sfits = omega (arith, few) } in
    rw (to_z-of_z c.ranges.counter, to_z-of_z (wider c.ranges.counter), raised_is z c.ranges.counter, to_z-of_z sum)
    (search rules, record { fits = omega (arith, few) })

pub returns : goal.returns
returns c = let z = c.args.counter in
    let few = raised_few z c.ranges.counter in
    let sum : SFits w16 (pos (nat_of (z +ℤ pos 128))) = record { sfits = omega (arith, few) } in
    rw (to_z-of_z c.ranges.counter, to_z-of_z (wider c.ranges.counter), raised_is z c.ranges.counter, to_z-of_z sum)
