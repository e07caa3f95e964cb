-- `is_of` meets its contract.
use mathlib.Core.Path.{sym, ◌∙◌}
use native.Mathlib.Omega.{arith}
use Rattle.page_names.specs.Names.{is_of}
use Rattle.page_names.proofs.NamesLaws.{digits_within, good_digits}
use Rattle.page_names.proofs.is_of.Goals as goal

pub returns-then-not-is_good : goal.returns-then-not-is_good
unfolding is_of
returns-then-not-is_good c = rw (← c.is_good.ensures, c.if-not-is_good.true)

pub worth-requires : goal.worth-requires
worth-requires c =
    let line = c.args.line.now in
    let d = c.digits_in.ensures in (
      omega (arith, d, good_digits line (sym c.is_good.ensures ∙ c.if-not-is_good.false)),
      omega (arith, d, digits_within line),
    )

pub returns : goal.returns
unfolding is_of
returns c = rw (← c.is_good.ensures, c.if-not-is_good.false, ← c.digits_in.ensures, c.worth.ensures)
