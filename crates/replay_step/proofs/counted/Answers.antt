use mathlib.Core.Path.{sym, ap, ◌∙◌}
use Prim.Native.Nat.{ℕ}
use mir.Facts.{to_z-of_z}
use native.Mathlib.Nat.{le_trans}
use Rattle.replay_step.specs.Beginning.{with_count, of_numbers, numbers_read, beginning_left}
use Rattle.replay_step.proofs.BeginningLaws.{count_small}
use Rattle.writing.specs.Writing.{laid}
use Rattle.replay_step.proofs.counted.Goals as goal

pub returns-then-not-count_allowed : goal.returns-then-not-count_allowed
unfolding with_count laid
returns-then-not-count_allowed c =
    let e = to_z-of_z c.ranges.count in let r = rw e at c.count_allowed.ensures in
    rw (← r, c.if-not-count_allowed.true)

pub read_configuration-requires : goal.read_configuration-requires
read_configuration-requires c =
    let e = to_z-of_z c.ranges.count in let r = rw e at
    c.count_allowed.ensures in let n = rw e at c.count_of.ensures in rw n
    (le_trans (count_small _ (sym r ∙ c.if-not-count_allowed.false))
    c.requires)

pub returns : goal.returns
unfolding with_count
returns c =
    let e = to_z-of_z c.ranges.count in let r = rw e at
    c.count_allowed.ensures in let n = rw e at
    c.count_of.ensures in rw (
      ← r,
      c.if-not-count_allowed.false,
    )
    (c.read_configuration.ensures
    ∙ ap
    (λ (k : ℕ). beginning_left
    (of_numbers
    (numbers_read k c.args.from.at
    c.args.text.now))
    c.args.cfg.now)
    n)
