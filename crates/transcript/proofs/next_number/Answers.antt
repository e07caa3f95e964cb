-- `next_number`: the word begins behind the separators and ends before the next (`found`).
use mathlib.Core.Path.{◌∙◌}
use native.Mathlib.Omega.{arith}
use Rattle.transcript.proofs.TextLaws.{found, next_end, next_word}
use Rattle.transcript.proofs.next_number.Goals as goal

pub returns-then-text-start : goal.returns-then-text-start
returns-then-text-start c = next_end _ _ (omega arith)

pub slice_bounds-read_word-end : goal.slice_bounds-read_word-end
slice_bounds-read_word-end c =
    (found _ _ _ _ c.run_end-start.ensures c.if-text-start.false c.run_end-end.ensures).within

pub read_word-requires : goal.read_word-requires
read_word-requires c =
    let f = found _ _ _ _ c.run_end-start.ensures c.if-text-start.false
    c.run_end-end.ensures in rw f.sized (omega (arith, f.longer))

pub returns : goal.returns
returns c =
    c.read_word.ensures
    ∙ next_word _ _ _ _
    (found _ _ _ _ c.run_end-start.ensures c.if-text-start.false
    c.run_end-end.ensures)
