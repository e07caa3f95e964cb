-- `all_digits`: the iterator's answer is that of the definition.
use Rattle.std.proofs.Common.{rules, tests}
use Rattle.std.proofs.lemmas.Iterator.{YieldsList-from_slice}
use Rattle.std.proofs.lemmas.Iterator.Search.{all_from_yields_List}
use mathlib.Core.Path.{◌∙◌}
use Rattle.transcript.specs.Text.{is_digit}
use Rattle.transcript.proofs.TextLaws.{all_listed}
use Rattle.transcript.proofs.all_digits.Goals as goal

pub returns : goal.returns
returns c =
    let word = c.args.word.now in
    all_from_yields_List is_digit _ _ c.all.result c.all.ensures.ran (YieldsList-from_slice word cc) (λ x b q k. search (rules, tests))
    ∙ all_listed is_digit word
