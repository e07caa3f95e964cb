use Rattle.manual.specs.Memory.{payload_of}
use Rattle.memory.specs.Store.{left_with}
use Rattle.manual.specs.declared.StoreAnswer.TheVariants.{Displaced}
use Rattle.memory.proofs.displace.Goals as goal

pub returns : goal.returns
unfolding payload_of
returns c =
    λ i. left_with (c.replace.ensures i)
    (Displaced (record { 0 = c.event_at-out.ensures i }))
