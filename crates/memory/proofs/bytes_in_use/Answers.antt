use mathlib.Core.Path.{ap, ◌∙◌}
use Rattle.manual.specs.Memory.{bytes_in_use}
use Rattle.memory.proofs.bytes_in_use.Goals as goal

pub returns : goal.returns
returns c =
    c.start_of.ensures
    ∙ ap (bytes_in_use c.args.payload_bytes) c.entry_count.ensures
