use mathlib.Core.Path.{◌≡◌, refl, sym, ◌∙◌}
use mathlib.Core.Bool.{Bool, ◌&&◌}
use mathlib.Core.List.{List}
use Prim.Native.Nat.{ℕ, ◌≤◌}
use lib.ListN.{length}
use native.Mathlib.Omega.{arith}
use Rattle.manual.specs.Memory.{entry_count, entries_of, bytes_in_use, no_twice}
use Rattle.history.specs.Words.{all_of}
use Rattle.memory.specs.Judgement.{sound_entry, used_ok}
use Rattle.memory.proofs.JudgementLaws.{used_empty, used_many, used_other_length, used_rest}
use Rattle.memory.proofs.SeenLaws.{events_small}
use Rattle.memory.proofs.entries_ok.Goals as goal

-- past the three tests
rest : (n m w : ℕ) (records used : List ℕ) {each : Bool} → entry_count used ≤ m
    → length used ≡ bytes_in_use w (entry_count used) → each ≡ all_of (sound_entry n records) (entries_of w used)
    → used_ok n m w records used ≡ each && no_twice (entries_of w used)
rest n m w records used few long e = used_rest n m w records used few long ∙ rw e refl

pub returns-then-used-eq0 : goal.returns-then-used-eq0
returns-then-used-eq0 c =
    sym
    (used_empty c.args.events c.args.places
    c.args.payload_bytes c.args.records.now
    c.args.used.now c.if-used-eq0.true)

pub returns-then-places-entry_count : goal.returns-then-places-entry_count
returns-then-places-entry_count c =
    sym
    (used_many c.args.events
    c.args.places
    c.args.payload_bytes
    c.args.records.now
    c.args.used.now
    (omega (arith, c.entry_count.ensures, c.if-places-entry_count.true)))

pub returns-then-used-bytes_in_use : goal.returns-then-used-bytes_in_use
returns-then-used-bytes_in_use c =
    sym
    (used_other_length c.args.events
    c.args.places
    c.args.payload_bytes
    c.args.records.now
    c.args.used.now
    (omega (arith, c.entry_count.ensures, c.if-places-entry_count.false))
    (λ e. c.if-used-bytes_in_use.true (e ∙ sym c.bytes_in_use.ensures)))

pub returns-then-not-each_ok : goal.returns-then-not-each_ok
returns-then-not-each_ok c = sym (rest c.args.events c.args.places c.args.payload_bytes c.args.records.now c.args.used.now
    (omega (arith, c.entry_count.ensures, c.if-places-entry_count.false))
    (c.if-used-bytes_in_use.false ∙ c.bytes_in_use.ensures) c.each_ok.ensures ∙ rw c.if-not-each_ok.true refl)

pub none_twice-requires : goal.none_twice-requires
none_twice-requires c =
    let a = c.args in
    let pre = c.requires in
    record {
      entries = record {
        payload_most = pre.payload_most;
        count_most =
            omega (
              arith,
              c.entry_count.ensures,
              c.if-places-entry_count.false,
              pre.places_most,
            );
        within = omega (arith, c.if-used-bytes_in_use.false, c.bytes_in_use.ensures);
      };
      below =
          events_small a.events a.records.now (entries_of a.payload_bytes a.used.now) pre.events_most
          (sym c.each_ok.ensures ∙ c.if-not-each_ok.false);
    }

pub returns : goal.returns
returns c =
    c.none_twice.ensures
    ∙ sym (rest c.args.events c.args.places c.args.payload_bytes c.args.records.now c.args.used.now
    (omega (arith, c.entry_count.ensures, c.if-places-entry_count.false))
    (c.if-used-bytes_in_use.false ∙ c.bytes_in_use.ensures) c.each_ok.ensures ∙ rw c.if-not-each_ok.false refl)
