-- `fill_line` writes the three parts of the line one after the other; the room suffices for all.
use mathlib.Core.Path.{◌∙◌}
use native.Mathlib.Nat.{le_trans}
use native.Mathlib.Omega.{arith}
use Rattle.writing.proofs.WritingLaws.{append_then, append_next, append_filled}
use Rattle.transcript.specs.Line.{line}
use Rattle.transcript.proofs.LineLaws.{decimal_few, statuses_few, line_few}
use Rattle.transcript.proofs.fill_line.Goals as goal

pub put_statuses-end-requires : goal.put_statuses-end-requires
put_statuses-end-requires c =
    let first = c.put_decimal-statuses in
    record {
      records_long = c.requires.records_long;
      buffer_long = omega
          (arith, first.auto.buffer, append_next _ _ first.ensures, decimal_few c.args.answer);
    }

pub write-requires : goal.write-requires
write-requires c =
    let first = c.put_decimal-statuses in
    let second = c.put_statuses-end in
    let a = c.args in
    omega (
      arith,
      first.auto.buffer,
      second.auto.buffer,
      append_next _ _ first.ensures,
      append_next _ _ second.ensures,
      decimal_few a.answer,
      statuses_few a.records.now a.events,
    )

pub returns : goal.returns
unfolding line
returns c =
    let first = c.put_decimal-statuses in
    let second = c.put_statuses-end in
    let room = c.requires.buffer_long in
    append_then _ _ _ (append_then _ _ _ first.ensures second.ensures) c.write.ensures
    ∙ append_filled _ _ (le_trans (line_few _ _ _) room)
