use mathlib.Core.Path.{sym, ap, ◌∙◌}
use Rattle.diagnostics.specs.Showing.{told_length}
use Rattle.diagnostics.proofs.told_length.Goals as goal

pub returns-in-Frame : goal.returns-in-Frame
returns-in-Frame c =
    c.entry_frames.ensures
    ∙ ap (told_length c.args.cfg.now) (sym c.in-Frame.is)
