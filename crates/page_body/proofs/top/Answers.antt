-- `top` meets its contract.
use Rattle.page_body.specs.Body.{top}
use Rattle.manual.proofs.ConfigurationLaws.{config_tells}
use Rattle.page_text.proofs.PageLaws.{◌and_then◌, adds_most}
use native.Mathlib.Omega.{arith}
use Rattle.page_rows.proofs.RowsLaws.{records_for}
use Rattle.page_body.proofs.top.Goals as goal

pub painted-untested-requires : goal.painted-untested-requires
painted-untested-requires c = records_for _ _ c.requires.0

pub painted-failed-requires : goal.painted-failed-requires
painted-failed-requires c = records_for _ _ c.requires.0

pub painted-live-requires : goal.painted-live-requires
painted-live-requires c = records_for _ _ c.requires.0

pub overflow_cast-n : goal.overflow_cast-n
overflow_cast-n c =
    record {
      fits = omega (
        arith,
        c.events-n.ensures,
        (config_tells c.args.cfg.now c.requires.0.accepted).n_most,
      );
    }

pub returns : goal.returns
unfolding top
returns c =
    rw (
      ← c.painted-untested.ensures c.args.state.now.debounce.now c.args.state.now.memory.now,
      ← c.painted-failed.ensures c.args.state.now.debounce.now
          c.args.state.now.memory.now,
      ← c.painted-live.ensures c.args.state.now.debounce.now c.args.state.now.memory.now,
      ← c.events-n.ensures,
    ) (adds_most (omega arith) (c.title.ensures and_then c.headline.ensures and_then c.tiles.ensures))
