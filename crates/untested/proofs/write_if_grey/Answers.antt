-- `write_if_grey` meets its contract.
use mathlib.Core.Path.{sym, ◌∙◌}
use native.Mathlib.Omega.{arith}
use Rattle.manual.proofs.ConfigurationLaws.{config_tells}
use Rattle.writing.proofs.WritingLaws.{append_none}
use Rattle.untested.proofs.PageLaws.{event_within, one_written}
use Rattle.untested.proofs.write_if_grey.Goals as goal

pub is_grey-requires : goal.is_grey-requires
is_grey-requires c = event_within _ _ c.requires.judged _ c.requires.event_inside

pub overflow_cast-list : goal.overflow_cast-list
overflow_cast-list c =
    let fits = c.requires in
    let most = (config_tells _ fits.judged.accepted).n_most in omega (arith, fits.event_inside)

pub bounds-list-at : goal.bounds-list-at
bounds-list-at c =
    let fits = c.requires in
    let room = rw (sym c.is_grey.ensures ∙ c.if-is_grey.true) at fits.within in omega (arith, room)

pub returns-then-is_grey : goal.returns-then-is_grey
returns-then-is_grey c = rw (← c.is_grey.ensures, c.if-is_grey.true) (one_written _ _ _)

pub returns : goal.returns
returns c = rw (← c.is_grey.ensures, c.if-is_grey.false) (sym (append_none _))
