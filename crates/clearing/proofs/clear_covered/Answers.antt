use mathlib.Core.Path.{◌≡◌, ap, ◌∙◌}
use native.Mathlib.Omega.{arith}
use lib.ListN.{length}
use borrow.Author.Rules.{rules}
use Rattle.manual.specs.Memory.{entry_count}
use Rattle.manual.specs.State.{State}
use Rattle.manual.specs.Lent.{as_lent}
use Rattle.clearing.proofs.ClearAllLaws.{counted}
use Rattle.clearing.proofs.ClearRiseLaws.{few, still_counted, fewer, were_cleared}
use Rattle.clearing.proofs.clear_covered.Goals as goal

pub entry_count-before-requires : goal.entry_count-before-requires
entry_count-before-requires c =
    omega (
      arith,
      counted c.args.cfg.now (as_lent c.args.state.now) c.requires.1,
      ap (λ (u : State). length u.memory) c.as_found.ensures,
    )

pub entry_count-after-requires : goal.entry_count-after-requires
entry_count-after-requires c =
    let a = c.args in
    omega (
      arith,
      still_counted a.cfg.now (as_lent a.state.now) a.code c.requires c.clear_events.ensures.promise,
      ap (λ (u : State). length u.memory) c.as_found-2.ensures,
    )

pub overflow_sub-before : goal.overflow_sub-before
overflow_sub-before c =
    let a = c.args in
    fewer a.cfg.now (as_lent a.state.now) a.code c.requires c.clear_events.ensures.promise
    (c.entry_count-before.ensures ∙ ap (λ (u : State). entry_count u.memory) c.as_found.ensures)
    (c.entry_count-after.ensures ∙ ap (λ (u : State). entry_count u.memory) c.as_found-2.ensures)

pub overflow_cast-before : goal.overflow_cast-before
overflow_cast-before c =
    let a = c.args in
    let before : c.entry_count-before.result ≡ entry_count a.state.now.memory.now =
    c.entry_count-before.ensures ∙ ap (λ (u : State). entry_count u.memory) c.as_found.ensures in
    record { fits = omega (arith, few a.cfg.now (as_lent a.state.now) a.code c.requires, before) }

pub returns-clause-rise : goal.returns-clause-rise
returns-clause-rise c =
    let a = c.args in
    were_cleared a.cfg.now (as_lent a.state.now) a.code c.requires c.clear_events.ensures.promise
    (c.entry_count-before.ensures ∙ ap (λ (u : State). entry_count u.memory) c.as_found.ensures)
    (c.entry_count-after.ensures ∙ ap (λ (u : State). entry_count u.memory) c.as_found-2.ensures)
    (search rules)
