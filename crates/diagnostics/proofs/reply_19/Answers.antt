use mathlib.Core.Path.{sym, ◌∙◌}
use Rattle.manual.specs.Words.{first_of}
use Rattle.diagnostics.proofs.RepliesLaws.{of_length_1, of_number, no_such_number}
use Rattle.diagnostics.proofs.reply_19.Goals as goal

pub returns-then-request-eq1 : goal.returns-then-request-eq1
returns-then-request-eq1 c b =
    of_length_1 _ _ _ _ c.if-request-eq1.true (c.negative.ensures _ _)

pub returns-in-1 : goal.returns-in-1
unfolding first_of
returns-in-1 c b =
    let a = c.args in
    of_number _ a.room.now _ _ c.if-request-eq1.false
    (sym c.in-1.is ∙ c.sub_function_of-sub_function.ensures) (c.number_by_mask.ensures b)

pub returns-in-2 : goal.returns-in-2
unfolding first_of
returns-in-2 c b =
    let a = c.args in
    of_number _ a.room.now _ _ c.if-request-eq1.false
    (sym c.in-2.is ∙ c.sub_function_of-sub_function.ensures) (c.list_by_mask.ensures b)

pub returns-in-10 : goal.returns-in-10
unfolding first_of
returns-in-10 c b =
    let a = c.args in
    of_number _ a.room.now _ _ c.if-request-eq1.false
    (sym c.in-10.is ∙ c.sub_function_of-sub_function.ensures) (c.list_all.ensures b)

pub returns-in-20 : goal.returns-in-20
unfolding first_of
returns-in-20 c b =
    let a = c.args in
    of_number _ a.room.now _ _ c.if-request-eq1.false
    (sym c.in-20.is ∙ c.sub_function_of-sub_function.ensures) (c.list_near.ensures b)

pub returns-in-4 : goal.returns-in-4
unfolding first_of
returns-in-4 c b =
    let a = c.args in
    of_number _ a.room.now _ _ c.if-request-eq1.false
    (sym c.in-4.is ∙ c.sub_function_of-sub_function.ensures) (c.show.ensures b)

pub returns-in-6 : goal.returns-in-6
unfolding first_of
returns-in-6 c b =
    let a = c.args in
    of_number _ a.room.now _ _ c.if-request-eq1.false
    (sym c.in-6.is ∙ c.sub_function_of-sub_function.ensures) (c.show-in-6.ensures b)

pub returns-in_default : goal.returns-in_default
returns-in_default c b =
    let a = c.args in
    let r = c.in_default.in_default-own.rest.0.0 in
    of_number _ a.room.now _ _ c.if-request-eq1.false c.sub_function_of-sub_function.ensures
    (no_such_number _ _ _ _ r.0.0.0.1 r.0.0.1 r.0.1 r.1 c.in_default.in_default-own.rest.0.1 c.in_default.in_default-own.rest.1
    (c.negative-in_default.ensures _ _))
