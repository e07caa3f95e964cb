use Rattle.std.proofs.Common.{rules}
use Rattle.std.proofs.lemmas.Iterator.Consumers.{YieldsList-turn, YieldsList-end, YieldsList-at}
use Rattle.std.proofs.lemmas.Iterator.Splits.{YieldsList-from_slice_split}
use Rattle.std.proofs.lemmas.List.{length_push}
use mathlib.Core.Path.{refl, sym, ap, ◌∙◌}
use native.Mathlib.Omega.{arith}
use Rattle.page_names.specs.Names.{is_newline, is_bad, first_bad}
use Rattle.page_names.proofs.NamesLaws.{lines_are, bad_turn, bad_end, bad_within}
use Rattle.page_names.proofs.first_bad.Goals as goal

pub loop-line-init : goal.loop-line-init
unfolding first_bad
loop-line-init c = (refl, refl)

pub overflow_cast-result : goal.overflow_cast-result
overflow_cast-result c =
    let t = rw (lines_are c.args.file.now) at
    (YieldsList-turn
    (YieldsList-at c.into_iter-line-iterator.ensures.into_iter_gives
    (YieldsList-from_slice_split _ is_newline c.args.file.now c.split-line-items.ensures.rest
    c.split-line-items.ensures.done c.split-line-items.ensures.closure (λ x b q k. search rules)))
    c.loop-line.yielded _ c.loop-line.yielded_by _ _ c.in-Some.line c.in-Some.is c.next.ensures.steps) in
    let few = bad_within c.args.file.now _ _ t.0 t.1 (ap is_bad (sym c.kept.ensures) ∙ sym c.is_bad.ensures ∙ c.if-is_bad.true) in
    record { fits = omega (arith, few, c.loop-line.invariant.0, c.requires) }

pub returns-then-is_bad : goal.returns-then-is_bad
returns-then-is_bad c =
    let t = rw (lines_are c.args.file.now) at
    (YieldsList-turn
    (YieldsList-at c.into_iter-line-iterator.ensures.into_iter_gives
    (YieldsList-from_slice_split _ is_newline c.args.file.now c.split-line-items.ensures.rest
    c.split-line-items.ensures.done c.split-line-items.ensures.closure (λ x b q k. search rules)))
    c.loop-line.yielded _ c.loop-line.yielded_by _ _ c.in-Some.line c.in-Some.is c.next.ensures.steps) in
    let is = ap is_bad (sym c.kept.ensures) ∙ sym c.is_bad.ensures ∙ c.if-is_bad.true in
    sym (c.loop-line.invariant.1 ∙ bad_turn _ _ _ _ t.0 t.1 ∙ rw is)

pub loop-line-preserved : goal.loop-line-preserved
loop-line-preserved c =
    let t = rw (lines_are c.args.file.now) at
    (YieldsList-turn
    (YieldsList-at c.into_iter-line-iterator.ensures.into_iter_gives
    (YieldsList-from_slice_split _ is_newline c.args.file.now c.split-line-items.ensures.rest
    c.split-line-items.ensures.done c.split-line-items.ensures.closure (λ x b q k. search rules)))
    c.loop-line.yielded _ c.loop-line.yielded_by _ _ c.in-Some.line c.in-Some.is c.next.ensures.steps) in
    let is = ap is_bad (sym c.kept.ensures) ∙ sym c.is_bad.ensures ∙ c.if-is_bad.false in
    let n = length_push c.loop-line.yielded c.in-Some.line in
    (omega (arith, n, c.loop-line.invariant.0), c.loop-line.invariant.1 ∙ bad_turn _ _ _ _ t.0 t.1 ∙ rw (is, n))

pub returns : goal.returns
returns c =
    let t = rw (lines_are c.args.file.now) at
    (YieldsList-end
    (YieldsList-at c.into_iter-line-iterator.ensures.into_iter_gives
    (YieldsList-from_slice_split _ is_newline c.args.file.now c.split-line-items.ensures.rest
    c.split-line-items.ensures.done c.split-line-items.ensures.closure (λ x b q k. search rules)))
    c.loop-line.yielded _ c.loop-line.yielded_by _ _ c.in-None.is c.next.ensures.steps) in
    sym (c.loop-line.invariant.1 ∙ bad_end _ _ _ t.1)
