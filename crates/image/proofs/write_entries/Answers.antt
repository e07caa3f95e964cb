-- `write_entries` meets its contract.
use mathlib.Core.Path.{sym, ap, ◌∙◌}
use mathlib.Core.List.{List}
use Prim.Native.Nat.{ℕ}
use native.Mathlib.Omega.{arith}
use lib.ListN.{length}
use Rattle.writing.specs.Writing.{written, append}
use Rattle.image.specs.Editions.{edition_number}
use Rattle.image.proofs.WidenedLaws.{made_of_1, made_of_other}
use Rattle.image.proofs.write_entries.Goals as goal

pub returns-in-One : goal.returns-in-One
returns-in-One c =
    let a = c.args in
    c.widen.ensures
    ∙ ap (λ (l : List ℕ). append l (written 0 a.memory.now))
    (sym (made_of_1 _ a.frame_bytes a.used.now (ap edition_number c.in-One.is)))

pub write-requires : goal.write-requires
write-requires c =
    let a = c.args in
    let two = ap edition_number c.in-Two.is in
    let made = made_of_other (edition_number a.edition) a.frame_bytes a.used.now (λ e. omega (arith, e, two)) in
    omega (arith, c.requires.within, ap length made)

pub returns-in-Two : goal.returns-in-Two
returns-in-Two c =
    let a = c.args in
    let two = ap edition_number c.in-Two.is in
    c.write.ensures
    ∙ ap (λ (l : List ℕ). append l (written 0 a.memory.now))
    (sym (made_of_other (edition_number a.edition) a.frame_bytes a.used.now (λ e. omega (arith, e, two))))
