-- `read_word`: the digits are what follows the first byte where that is a minus, else the whole word.
use mathlib.Core.Path.{sym, ap, ◌∙◌}
use native.Mathlib.Omega.{arith}
use mir.Syntax.{w32}
use mir.Facts.{to_z-of_z}
use Rattle.transcript.specs.Text.{has_minus, with_sign}
use Rattle.transcript.proofs.TextLaws.{minus_width, no_digits, too_large, large_enough, number_is, value_is}
use Rattle.transcript.proofs.TextLaws.{reads_unreadable, reads_number}
use Rattle.transcript.proofs.read_word.Goals as goal

pub slice_bounds-digits-count : goal.slice_bounds-digits-count
slice_bounds-digits-count c = omega (arith, minus_width (has_minus c.args.word.now))

pub slice_bounds-digits-start : goal.slice_bounds-digits-start
slice_bounds-digits-start c = omega (arith, minus_width (has_minus c.args.word.now))

pub returns-then-not-one_to_ten_digits : goal.returns-then-not-one_to_ten_digits
returns-then-not-one_to_ten_digits c =
    reads_unreadable _ _
    (sym (number_is _)
    ∙ no_digits _ (sym c.one_to_ten_digits.ensures ∙ c.if-not-one_to_ten_digits.true))

pub value_of-magnitude-requires : goal.value_of-magnitude-requires
value_of-magnitude-requires c = sym c.one_to_ten_digits.ensures ∙ c.if-not-one_to_ten_digits.false

pub returns-then-magnitude-gt-LARGEST : goal.returns-then-magnitude-gt-LARGEST
returns-then-magnitude-gt-LARGEST c =
    reads_unreadable _ _
    (sym (number_is _)
    ∙ too_large _
    (sym c.one_to_ten_digits.ensures ∙ c.if-not-one_to_ten_digits.false)
    (omega (arith, c.if-magnitude-gt-LARGEST.true, c.value_of-magnitude.ensures)))

pub with_sign-requires : goal.with_sign-requires
with_sign-requires c = omega (arith, c.if-magnitude-gt-LARGEST.false)

pub returns : goal.returns
returns c =
    let word = c.args.word.now in
    let digits =
    sym c.one_to_ten_digits.ensures
    ∙ c.if-not-one_to_ten_digits.false in
    let readable =
    sym (number_is word)
    ∙ large_enough _ digits (omega (arith, c.if-magnitude-gt-LARGEST.false, c.value_of-magnitude.ensures)) in
    let value =
    c.with_sign.ensures ∙ ap (with_sign (has_minus word)) c.value_of-magnitude.ensures ∙ value_is word in
    rw (to_z-of_z {w = w32} {z = c.with_sign.result} (record { sfits = c.with_sign.type_inv }))
    (reads_number word _ readable _ value)
