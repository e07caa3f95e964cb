-- `memory_part` meets its contract.
use Rattle.page_body.proofs.BodyLaws.{memory_begins, taken_most}
use Rattle.page_body.specs.Body.{memory_part}
use Rattle.manual.proofs.ConfigurationLaws.{config_tells}
use Rattle.page_text.proofs.PageLaws.{◌and_then◌, adds_most}
use Rattle.page_text.specs.Text.{text}
use native.Mathlib.Omega.{arith}
use Rattle.page_body.proofs.memory_part.Goals as goal

pub entry_count-taken-requires : goal.entry_count-taken-requires
entry_count-taken-requires c =
    memory_begins _ _ c.requires.0

pub overflow_cast-taken : goal.overflow_cast-taken
overflow_cast-taken c =
    record {
      fits = omega (
        arith,
        c.entry_count-taken.ensures,
        taken_most _ _ c.requires.0,
      );
    }

pub overflow_cast-places : goal.overflow_cast-places
overflow_cast-places c =
    record {
      fits = omega (
        arith,
        c.places-places.ensures,
        (config_tells c.args.cfg.now c.requires.0.accepted).M_most,
      );
    }

pub returns : goal.returns
unfolding memory_part text
returns c =
    rw (
      ← c.entry_count-taken.ensures,
      ← c.places-places.ensures,
    ) (adds_most (omega arith) (c.put.ensures and_then c.memory.ensures))
