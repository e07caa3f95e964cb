-- `is_text` meets its contract.
use Rattle.std.proofs.Common.{rules}
use mathlib.Core.Path.{◌≡◌, ap, ◌∙◌}
use lib.Dec.{eqb}
use Rattle.std.specs.List.{fold}
use Rattle.std.proofs.lemmas.Iterator.{YieldsList-from_slice}
use Rattle.std.proofs.lemmas.Iterator.Consumers.{fold_from_yields_List}
use Rattle.page_names.specs.declared.Awaited.{Awaited}
use Rattle.page_names.specs.Utf8.{after, is_text}
use Rattle.page_names.proofs.Utf8Laws.{all_is}
use Rattle.page_names.proofs.is_text.Goals as goal

pub returns : goal.returns
unfolding is_text
returns c =
    let bytes = c.args.bytes.now in
    let e : c.fold.result ≡ fold after c.awaits-whole.result bytes =
    fold_from_yields_List _ after _ _ c.fold.ensures.ran (YieldsList-from_slice bytes c.iter.ensures.rest)
    (λ a x b q k. search rules) in
    ap (λ (a : Awaited). eqb a.left 0) (e ∙ ap (λ (a : Awaited). fold after a bytes) c.awaits-whole.ensures ∙ all_is _ bytes)
