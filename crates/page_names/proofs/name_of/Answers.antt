use Rattle.std.proofs.Common.{rules}
use Rattle.std.proofs.lemmas.Iterator.Consumers.{YieldsList-turn, YieldsList-end, YieldsList-at}
use Rattle.std.proofs.lemmas.Iterator.Splits.{YieldsList-from_slice_split}
use Rattle.std.proofs.lemmas.List.{length_push}
use mathlib.Core.Path.{refl, sym, ap, ◌∙◌}
use native.Mathlib.Omega.{arith}
use lib.ListN.{drop}
use Rattle.page_names.specs.Names.{is_newline, is_of, name_in, name_of}
use Rattle.page_names.proofs.NamesLaws.{lines_are, name_turn, name_end, name_start_within, rest_is}
use Rattle.page_names.proofs.name_of.Goals as goal

pub loop-line-init : goal.loop-line-init
unfolding name_of
loop-line-init c = refl

pub slice_bounds-result-count : goal.slice_bounds-result-count
slice_bounds-result-count c = omega (arith, c.name_start.ensures, name_start_within c.kept-line.result.now)

pub slice_bounds-result-start : goal.slice_bounds-result-start
slice_bounds-result-start c = omega (arith, c.name_start.ensures, name_start_within c.kept-line.result.now)

pub returns-then-is_of : goal.returns-then-is_of
returns-then-is_of c =
    let t = rw (lines_are c.args.file.now) at
    (YieldsList-turn
    (YieldsList-at c.into_iter-line-iterator.ensures.into_iter_gives
    (YieldsList-from_slice_split _ is_newline c.args.file.now c.split-line-items.ensures.rest
    c.split-line-items.ensures.done c.split-line-items.ensures.closure (λ x b q k. search rules)))
    c.loop-line.yielded _ c.loop-line.yielded_by _ _ c.in-Some.line c.in-Some.is c.next.ensures.steps) in
    let is = ap (is_of c.args.code) (sym c.kept-line.ensures) ∙ sym c.is_of.ensures ∙ c.if-is_of.true in
    let line = c.kept-line.result.now in
    rest_is line c.name_start.result
    ∙ ap (λ k. drop k line) c.name_start.ensures
    ∙ ap name_in c.kept-line.ensures
    ∙ sym (c.loop-line.invariant ∙ name_turn _ _ _ _ t.0 t.1 ∙ rw is)

pub loop-line-preserved : goal.loop-line-preserved
loop-line-preserved c =
    let t = rw (lines_are c.args.file.now) at
    (YieldsList-turn
    (YieldsList-at c.into_iter-line-iterator.ensures.into_iter_gives
    (YieldsList-from_slice_split _ is_newline c.args.file.now c.split-line-items.ensures.rest
    c.split-line-items.ensures.done c.split-line-items.ensures.closure (λ x b q k. search rules)))
    c.loop-line.yielded _ c.loop-line.yielded_by _ _ c.in-Some.line c.in-Some.is c.next.ensures.steps) in
    let is = ap (is_of c.args.code) (sym c.kept-line.ensures) ∙ sym c.is_of.ensures ∙ c.if-is_of.false in
    let n = length_push c.loop-line.yielded c.in-Some.line in
    c.loop-line.invariant ∙ name_turn _ _ _ _ t.0 t.1 ∙ rw (is, n)

pub returns : goal.returns
returns c =
    let t = rw (lines_are c.args.file.now) at
    (YieldsList-end
    (YieldsList-at c.into_iter-line-iterator.ensures.into_iter_gives
    (YieldsList-from_slice_split _ is_newline c.args.file.now c.split-line-items.ensures.rest
    c.split-line-items.ensures.done c.split-line-items.ensures.closure (λ x b q k. search rules)))
    c.loop-line.yielded _ c.loop-line.yielded_by _ _ c.in-None.is c.next.ensures.steps) in
    sym (c.loop-line.invariant ∙ name_end _ _ _ t.1)
