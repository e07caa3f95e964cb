use Rattle.config.proofs.PartLaws.{row_within}
use Rattle.clearing.proofs.clear_if_covered.Goals as goal

pub covers-requires : goal.covers-requires
covers-requires c =
    let fits = c.requires in row_within _ _ fits.configured fits.blocks.below
