use mathlib.Core.Path.{sym, ap}
use Prim.Native.Nat.{ℕ, ◌+◌, ◌*◌, ◌≤◌}
use native.Mathlib.Omega.{arith}
use lib.Dec.{ltb}
use borrow.Author.Tests.{le-ltb}
use Rattle.manual.specs.Words.{count_below}
use Rattle.manual.specs.Configuration.{events}
use Rattle.manual.proofs.ConfigurationLaws.{config_tells}
use Rattle.manual.proofs.BelowLaws.{count_most}
use Rattle.diagnostics.specs.Replies.{holding, asks}
use Rattle.diagnostics.proofs.RepliesLaws.{number_most}
use Rattle.diagnostics.proofs.is_too_long.Goals as goal

pub overflow_mul-events : goal.overflow_mul-events
overflow_mul-events c = omega (arith, (config_tells _ c.requires.0).n_most, c.events.ensures)

pub overflow_add-head : goal.overflow_add-head
overflow_add-head c =
    omega (arith, (config_tells _ c.requires.0).n_most, c.events.ensures, c.requires.1)

pub returns-then-head-events : goal.returns-then-head-events
returns-then-head-events c = let a = c.args in
    let asked = asks a.cfg.now a.asked (holding a.state.now.records.now a.state.now.debounce.now) in
    let fits : a.head + 4 * count_below (events a.cfg.now) asked ≤ a.room =
    omega (arith, c.if-head-events.true, c.events.ensures, count_most asked (events a.cfg.now)) in
    sym (le-ltb _ _ fits)

pub overflow_mul-result : goal.overflow_mul-result
overflow_mul-result c = omega (arith, number_most _ c.requires.0 _ c.number_asked.ensures)

pub overflow_add-result : goal.overflow_add-result
overflow_add-result c =
    omega (
      arith,
      number_most _ c.requires.0 _
          c.number_asked.ensures,
      c.requires.1,
    )

pub returns : goal.returns
returns c = let a = c.args in
    ap (λ (k : ℕ). ltb a.room (a.head + 4 * k)) c.number_asked.ensures
