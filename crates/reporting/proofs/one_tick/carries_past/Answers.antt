-- `carries_past` meets its contract: far from the limit no tick carries a count past it.
use Rattle.manual.proofs.ConfigurationLaws.{config_tells}
use Rattle.manual.proofs.CountsLaws.{tick_most}
use Rattle.reporting.proofs.CountedLaws.{all_far, past_by}
use Rattle.reporting.proofs.one_tick.carries_past.Goals as goal

pub returns-then-not-some_near : goal.returns-then-not-some_near
returns-then-not-some_near c =
    let m = c.requires in
    all_far _ _ _ (config_tells _ m.0.configured).n_most (tick_most _ _ _ _ _)
    c.some_near.ensures c.if-not-some_near.true

pub returns : goal.returns
returns c = past_by _ _ _ c.rehearse-rise.ensures c.some_past.ensures
