-- `run_end`: the bytes that the iterator counts are the run.
use Rattle.std.proofs.Common.{rules, tests, ℕ, ◌+◌, Bool, ap, ◌∙◌, drop}
use Rattle.std.specs.Bool.{beq}
use Rattle.std.proofs.lemmas.Iterator.{YieldsList-from_slice}
use Rattle.std.proofs.lemmas.Iterator.Consumers.{YieldsList-at, count_from_yields_List}
use Rattle.std.proofs.lemmas.Iterator.Search.{YieldsList-from_take_while}
use Rattle.std.proofs.lemmas.List.Folds.{length-prefix_len}
use Rattle.transcript.specs.Text.{is_separator, run}
use Rattle.transcript.proofs.TextLaws.{run_counted}
use Rattle.transcript.proofs.run_end.Goals as goal

pub returns : goal.returns
returns c =
    let a = c.args in
    let rest = c.from_on.result.now in
    let test : ℕ → Bool = λ b. beq (is_separator b) a.separators in
    ap (λ n. a.at + n)
    (count_from_yields_List _ c.count.result c.count.ensures.ran
    (YieldsList-from_take_while _ test
    (YieldsList-at c.take_while.ensures.source (YieldsList-from_slice rest (cc)))
    c.take_while.ensures.closure c.take_while.ensures.done (λ x b q k. search (rules, tests)))
    ∙ length-prefix_len test rest
    ∙ run_counted a.separators rest
    ∙ ap (run a.separators) c.from_on.ensures)
