-- `accept_stop` meets its contract.
use mathlib.Core.Path.{ap, ◌∙◌}
use native.Mathlib.Omega.{arith}
use Rattle.manual.specs.State.{State}
use Rattle.manual.specs.Memory.{entry_count}
use Rattle.cycles.proofs.StopRiseLaws.{counted, still_counted, few, fewer, have_aged}
use borrow.Author.Rules.{rules}
use Rattle.cycles.proofs.accept_stop.Goals as goal

pub entry_count-before-requires : goal.entry_count-before-requires
entry_count-before-requires c = counted _ _ _ c.requires c.as_found.ensures

pub entry_count-requires : goal.entry_count-requires
entry_count-requires c =
    still_counted _ _ _ c.requires (c.as_found-2.ensures ∙ c.stop_events.ensures.promise)

pub overflow_sub-gone : goal.overflow_sub-gone
overflow_sub-gone c =
    let before = c.entry_count-before.ensures ∙ ap (λ (u : State). entry_count u.memory) c.as_found.ensures in
    fewer _ _ _ c.requires (c.as_found-2.ensures ∙ c.stop_events.ensures.promise) before
    c.entry_count.ensures

pub overflow_cast-gone : goal.overflow_cast-gone
overflow_cast-gone c =
    let before = c.entry_count-before.ensures ∙ ap (λ (u : State). entry_count u.memory) c.as_found.ensures in
    omega (arith, few _ _ _ c.requires, before)

pub returns-clause-rise : goal.returns-clause-rise
returns-clause-rise c =
    let before = c.entry_count-before.ensures ∙ ap (λ (u : State). entry_count u.memory) c.as_found.ensures in
    have_aged _ _ _ c.requires (c.as_found-2.ensures ∙ c.stop_events.ensures.promise) before
    c.entry_count.ensures (search rules)
