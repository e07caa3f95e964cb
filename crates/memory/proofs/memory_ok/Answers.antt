use mathlib.Core.Path.{sym, ap, ◌∙◌}
use mathlib.Core.Bool.{◌&&◌}
use Prim.Native.Nat.{ℕ, ◌-◌}
use native.Mathlib.Omega.{arith}
use lib.ListN.{length, take, drop}
use Rattle.memory.specs.Judgement.{used_ok, zeros}
use Rattle.memory.proofs.JudgementLaws.{block_other_length, block_many, end_within, end_length, block_parts}
use Rattle.memory.proofs.memory_ok.Goals as goal

pub returns-then-memory-memory_length : goal.returns-then-memory-memory_length
returns-then-memory-memory_length c =
    sym
    (block_other_length c.args.events
    c.args.places c.args.payload_bytes
    c.args.records.now c.args.memory.now
    (λ e. c.if-memory-memory_length.true (e ∙ sym c.memory_length.ensures)))

pub returns-then-places-entry_count : goal.returns-then-places-entry_count
returns-then-places-entry_count c =
    sym
    (block_many c.args.events
    c.args.places
    c.args.payload_bytes
    c.args.records.now
    c.args.memory.now
    (omega (arith, c.entry_count.ensures, c.if-places-entry_count.true)))

pub slice_bounds-entries_ok-end : goal.slice_bounds-entries_ok-end
slice_bounds-entries_ok-end c =
    rw c.bytes_in_use-end.ensures
    (sym
    (end_length c.args.places c.args.payload_bytes c.args.memory.now
    (c.if-memory-memory_length.false
    ∙ c.memory_length.ensures)
    (omega (arith, c.entry_count.ensures, c.if-places-entry_count.false))))

pub slice_bounds-all_zero-count : goal.slice_bounds-all_zero-count
slice_bounds-all_zero-count c =
    rw c.bytes_in_use-end.ensures
    (end_within c.args.places c.args.payload_bytes c.args.memory.now
    (c.if-memory-memory_length.false
    ∙ c.memory_length.ensures)
    (omega (arith, c.entry_count.ensures, c.if-places-entry_count.false)))

pub slice_bounds-all_zero-start : goal.slice_bounds-all_zero-start
slice_bounds-all_zero-start c =
    rw c.bytes_in_use-end.ensures
    (end_within c.args.places c.args.payload_bytes c.args.memory.now
    (c.if-memory-memory_length.false
    ∙ c.memory_length.ensures)
    (omega (arith, c.entry_count.ensures, c.if-places-entry_count.false)))

pub returns : goal.returns
returns c =
    let m = c.args.memory.now in
    (λ i. c.entries_ok.ensures i && c.all_zero.ensures i)
    ∙ ap
    (λ (k : ℕ). used_ok c.args.events c.args.places
    c.args.payload_bytes c.args.records.now (take k m)
    && zeros (take (length m - k) (drop k m)))
    c.bytes_in_use-end.ensures
    ∙ block_parts c.args.events c.args.places
    c.args.payload_bytes c.args.records.now m
    (c.if-memory-memory_length.false ∙ c.memory_length.ensures)
    (omega (
      arith,
      c.entry_count.ensures,
      c.if-places-entry_count.false,
    ))
