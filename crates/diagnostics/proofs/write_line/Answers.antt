use native.Mathlib.Omega.{arith}
use Rattle.manual.proofs.ConfigurationLaws.{config_tells}
use Rattle.config.proofs.PartLaws.{row_within}
use Rattle.diagnostics.proofs.write_line.Goals as goal

pub code_within-code-requires : goal.code_within-code-requires
code_within-code-requires c = row_within _ _ c.requires.config c.requires.event_inside

pub overflow_cast-high : goal.overflow_cast-high
overflow_cast-high c =
    let row =
    (config_tells _ c.requires.config).row _ c.requires.event_inside in
    omega (arith, c.code_within-code.ensures)

pub returns : goal.returns
returns c = rw (← c.code_within-code.ensures) c.write.ensures
