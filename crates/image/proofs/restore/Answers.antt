-- `restore` meets its contract.
use mathlib.Core.Path.{ap, ◌∙◌}
use native.Mathlib.Omega.{arith}
use Rattle.std.proofs.lemmas.Result.{err_from_is_err_and}
use Rattle.manual.specs.State.{State}
use Rattle.manual.specs.Memory.{entry_count}
use Rattle.image.proofs.RestoreLaws.{as_read, restore_ready, restore_five, restored_counted, few_enough, restore_done}
use Rattle.image.proofs.RestoreLaws.{restore_left}
use Rattle.image.proofs.restore.Goals as goal

pub accept_restore-requires : goal.accept_restore-requires
accept_restore-requires c = (
  restore_ready _ _ c.args.counts.now _ (as_read _ _ _ _ c.as_found.ensures c.in_ok-edition.ensures.number),
  c.in_ok-edition.ensures.edition,
)

pub entry_count-present-requires : goal.entry_count-present-requires
entry_count-present-requires c =
    (restored_counted _ _ c.args.counts.now _ (as_read _ _ _ _ c.as_found.ensures c.in_ok-edition.ensures.number)
    (c.as_found-2.ensures ∙ c.accept_restore.ensures.promise)).some

pub overflow_cast-present : goal.overflow_cast-present
overflow_cast-present c =
    let few =
    few_enough _ _ c.args.counts.now _ (as_read _ _ _ _ c.as_found.ensures c.in_ok-edition.ensures.number)
    (c.as_found-2.ensures ∙ c.accept_restore.ensures.promise) in
    omega (arith, few, c.entry_count-present.ensures)

pub set_present-requires : goal.set_present-requires
set_present-requires c =
    restore_five _ _ c.args.counts.now _ (as_read _ _ _ _ c.as_found.ensures c.in_ok-edition.ensures.number)

pub returns-clause-leaves : goal.returns-clause-leaves
returns-clause-leaves c =
    restore_done _ _ _ _ (as_read _ _ _ _ c.as_found.ensures c.in_ok-edition.ensures.number)
    c.accept_restore.ensures.promise
    (c.entry_count-present.ensures ∙ ap (λ (s : State). entry_count s.memory) c.as_found-2.ensures)
    c.set_present.ensures

pub returns-in_err-edition-clause-leaves : goal.returns-in_err-edition-clause-leaves
returns-in_err-edition-clause-leaves c =
    let p = err_from_is_err_and c.from_residual.result c.from_residual.ensures.1 in
    rw (p.1, p.2) (restore_left _ _ _ _ _ (as_read _ _ _ _ c.as_found.ensures c.in_err-edition.ensures.number))
