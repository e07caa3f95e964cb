-- `rise_of` meets its contract, answer by answer.
use Rattle.manual.specs.Words.{count_those}
use Rattle.counts.proofs.rise_of.Goals as goal

pub returns-in-Untold : goal.returns-in-Untold
unfolding count_those
returns-in-Untold c e = rw c.in-Untold.is

pub returns-in-Renewed : goal.returns-in-Renewed
unfolding count_those
returns-in-Renewed c e = rw c.in-Renewed.is

pub returns-in-Added : goal.returns-in-Added
unfolding count_those
returns-in-Added c e = rw c.in-Added.is

pub returns-in-Displaced : goal.returns-in-Displaced
unfolding count_those
returns-in-Displaced c e = rw c.in-Displaced.is

pub returns-in-NotStored : goal.returns-in-NotStored
unfolding count_those
returns-in-NotStored c e = rw c.in-NotStored.is
