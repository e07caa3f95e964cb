-- `image_in` meets its contract: past the test of the length each part that is judged lies in the image.
use mathlib.Core.Path.{sym, ap, ◌∙◌}
use native.Mathlib.Omega.{arith}
use lib.Seq.{length-take-le}
use Rattle.manual.specs.Image as manual
use Rattle.manual.specs.Image.{edition, acceptable_in}
use Rattle.image.specs.Editions.{edition_number}
use Rattle.image.proofs.LayoutLaws.{length_least, length_most}
use Rattle.image.proofs.JudgementLaws.{refused_by_length, records_cut_long, judged_right, slices_equal, payload_fits}
use Rattle.image.proofs.image_in.Goals as goal

pub length_ok-requires : goal.length_ok-requires
length_ok-requires c =
    let payload = ap (λ (ed : manual.Edition). ed.payload) c.payload_bytes-payload_bytes.ensures in
    (c.requires, omega (arith, payload, payload_fits _ c.requires c.args.edition))

pub returns-then-not-length_ok : goal.returns-then-not-length_ok
returns-then-not-length_ok c =
    let a = c.args in
    sym
    (refused_by_length _ (edition (edition_number a.edition) c.payload_bytes-payload_bytes.result) _
    (sym c.length_ok.ensures ∙ c.if-not-length_ok.true))
    ∙ ap (λ (ed : manual.Edition). acceptable_in a.cfg.now ed a.image.now) c.payload_bytes-payload_bytes.ensures

pub overflow_sub-end : goal.overflow_sub-end
overflow_sub-end c =
    let least = length_least _ _ _ (sym c.length_ok.ensures ∙ c.if-not-length_ok.false) in
    omega (arith, least)

pub overflow_sub-end-2 : goal.overflow_sub-end-2
overflow_sub-end-2 c =
    let least = length_least _ _ _ (sym c.length_ok.ensures ∙ c.if-not-length_ok.false) in
    omega (arith, least, c.memory_at-start.ensures)

pub slice_bounds-bodies_ok-end : goal.slice_bounds-bodies_ok-end
slice_bounds-bodies_ok-end c =
    let least = length_least _ _ _ (sym c.length_ok.ensures ∙ c.if-not-length_ok.false) in
    omega (arith, least, c.memory_at-start.ensures)

pub slice_bounds-bodies_ok-count-2 : goal.slice_bounds-bodies_ok-count-2
slice_bounds-bodies_ok-count-2 c =
    let least = length_least _ _ _ (sym c.length_ok.ensures ∙ c.if-not-length_ok.false) in
    omega (arith, least, c.memory_at-start.ensures)

pub slice_bounds-bodies_ok-start-2 : goal.slice_bounds-bodies_ok-start-2
slice_bounds-bodies_ok-start-2 c =
    let least = length_least _ _ _ (sym c.length_ok.ensures ∙ c.if-not-length_ok.false) in
    omega (arith, least, c.memory_at-start.ensures)

pub bounds-image-end : goal.bounds-image-end
bounds-image-end c =
    let least = length_least _ _ _ (sym c.length_ok.ensures ∙ c.if-not-length_ok.false) in
    omega (arith, least)

pub header-expected-requires : goal.header-expected-requires
header-expected-requires c =
    let right = sym c.length_ok.ensures ∙ c.if-not-length_ok.false in
    let payload = ap (λ (ed : manual.Edition). ed.payload) c.payload_bytes-payload_bytes.ensures in
    omega (
      arith,
      length_least _ _ _ right,
      length_most _ _ _ right c.requires (omega (arith, payload, payload_fits _ c.requires c.args.edition)),
      c.memory_at-start.ensures,
    )

pub slice_bounds-eq-end-2 : goal.slice_bounds-eq-end-2
slice_bounds-eq-end-2 c =
    let least = length_least _ _ _ (sym c.length_ok.ensures ∙ c.if-not-length_ok.false) in
    sym (length-take-le 20 c.args.image.now (omega (arith, least)))

pub bodies_ok-requires : goal.bodies_ok-requires
bodies_ok-requires c =
    let right = sym c.length_ok.ensures ∙ c.if-not-length_ok.false in
    let payload = ap (λ (ed : manual.Edition). ed.payload) c.payload_bytes-payload_bytes.ensures in (
      record { accepted = c.requires; as_long = records_cut_long _ _ _ right c.memory_at-start.ensures },
      omega (arith, payload, payload_fits _ c.requires c.args.edition),
    )

pub returns : goal.returns
returns c =
    let a = c.args in
    judged_right _ (edition_number a.edition) _ _ (sym c.length_ok.ensures ∙ c.if-not-length_ok.false)
    c.memory_at-start.ensures c.header-expected.ensures (c.eq.ensures ∙ slices_equal _ _) c.bodies_ok.ensures
    ∙ ap (λ (ed : manual.Edition). acceptable_in a.cfg.now ed a.image.now) c.payload_bytes-payload_bytes.ensures
