-- `count_of` meets its contract.
use Rattle.page_rows.proofs.RowsLaws.{place_fits, counts_at, counts_none}
use Rattle.manual.specs.Configuration.{entry_frames}
use mathlib.Core.Path.{sym, ◌∙◌}
use Rattle.page_rows.proofs.count_of.Goals as goal

pub place_of-requires : goal.place_of-requires
place_of-requires c = rw c.entry_frames-payload_bytes.ensures c.requires

pub count_at-requires : goal.count_at-requires
count_at-requires c =
    place_fits (entry_frames c.args.cfg.now) c.args.event.0 c.args.memory.now c.entry_frames-payload_bytes.ensures c.requires c.in-Some.place (sym c.place_of.ensures ∙ c.in-Some.is)

pub returns-in-Some : goal.returns-in-Some
returns-in-Some c =
    counts_at (entry_frames c.args.cfg.now) c.args.event.0 c.args.memory.now c.entry_frames-payload_bytes.ensures c.in-Some.place (sym c.place_of.ensures ∙ c.in-Some.is) (c.from.ensures ∙ c.count_at.ensures)

pub returns-in-None : goal.returns-in-None
returns-in-None c =
    counts_none (entry_frames c.args.cfg.now) c.args.event.0 c.args.memory.now c.entry_frames-payload_bytes.ensures (sym c.place_of.ensures ∙ c.in-None.is)
