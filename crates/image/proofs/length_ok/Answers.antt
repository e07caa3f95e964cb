-- `length_ok` meets its contract.
use mathlib.Core.Path.{sym}
use native.Mathlib.Omega.{arith}
use Rattle.image.proofs.LayoutLaws.{too_short, too_many, counted, few_enough}
use Rattle.image.proofs.length_ok.Goals as goal

pub returns-then-image-start : goal.returns-then-image-start
returns-then-image-start c =
    sym (too_short _ c.args.payload_bytes _ c.memory_at-start.ensures c.if-image-start.true)

pub returns-then-places-entry_count : goal.returns-then-places-entry_count
returns-then-places-entry_count c =
    sym
    (too_many _ c.args.payload_bytes _ c.memory_at-start.ensures
    c.entry_count.ensures
    (omega (arith, c.places.ensures, c.if-places-entry_count.true)))

pub bytes_in_use-requires : goal.bytes_in_use-requires
bytes_in_use-requires c =
    counted _ c.args.payload_bytes c.args.image.now
    c.memory_at-start.ensures c.entry_count.ensures
    (omega (arith, c.places.ensures, c.if-places-entry_count.false)) c.requires.0 c.requires.1
    c.if-image-start.false

pub returns : goal.returns
returns c =
    few_enough _ c.args.payload_bytes _ c.memory_at-start.ensures
    c.entry_count.ensures
    (omega (arith, c.places.ensures, c.if-places-entry_count.false)) c.bytes_in_use.ensures
