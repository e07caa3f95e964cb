use mathlib.Core.Path.{ap, ◌∙◌}
use Rattle.manual.specs.State.{Stored, opened}
use Rattle.status.specs.Clauses.{bytes_ok}
use Rattle.judgement.proofs.bytes_ok.Goals as goal

pub returns : goal.returns
returns c = c.bytes_ok.ensures ∙ ap (λ (x : Stored). bytes_ok (opened x)) c.read_record.ensures
