use mathlib.Core.Path.{sym, ap, ◌∙◌}
use mathlib.Core.List.{List}
use Prim.Native.Nat.{ℕ, ◌≤◌, ◌<◌}
use native.Mathlib.Omega.{arith}
use Rattle.manual.specs.Configuration.{places}
use Rattle.manual.specs.Memory.{payload_of, entry_count}
use Rattle.manual.specs.declared.StoreAnswer.TheVariants.{Added}
use Rattle.memory.specs.Store.{left_with}
use Rattle.memory.proofs.StoreLaws.{may_append, may_search, may_displace, appends, displaces, loses}
use Rattle.memory.proofs.admit.Goals as goal

pub append-requires : goal.append-requires
append-requires c =
    let a = c.args in
    let pre = c.requires in
    let h : entry_count a.memory.now < places a.cfg.now =
    omega (
      arith,
      c.entry_count.ensures,
      c.places.ensures,
      c.if-entry_count-places.true,
    ) in
    may_append a.cfg.now a.records.now a.memory.now a.event.0 a.frame.now pre.0 pre.1 h

pub returns-then-entry_count-places : goal.returns-then-entry_count-places
unfolding payload_of
returns-then-entry_count-places c =
    let a = c.args in
    let pre = c.requires in
    let h : entry_count a.memory.now < places a.cfg.now =
    omega (
      arith,
      c.entry_count.ensures,
      c.places.ensures,
      c.if-entry_count-places.true,
    ) in
    ap (λ (m : List ℕ). left_with m Added) c.append.ensures
    ∙ appends a.cfg.now a.records.now a.memory.now a.event.0 a.frame.now pre.0 pre.1 h

pub victim-requires : goal.victim-requires
victim-requires c =
    let a = c.args in
    let pre = c.requires in
    may_search a.cfg.now a.records.now a.memory.now a.event.0 a.frame.now pre.0 pre.1

pub displace-requires : goal.displace-requires
displace-requires c =
    let a = c.args in
    let pre = c.requires in
    may_displace a.cfg.now a.records.now a.memory.now a.event.0 a.frame.now pre.0 pre.1 _
    (sym c.victim.ensures ∙ c.in-Some.is)

pub returns-in-Some : goal.returns-in-Some
returns-in-Some c =
    let a = c.args in
    let pre = c.requires in
    let h : places a.cfg.now ≤ entry_count a.memory.now =
    omega (
      arith,
      c.entry_count.ensures,
      c.places.ensures,
      c.if-entry_count-places.false,
    ) in
    c.displace.ensures
    ∙ displaces a.cfg.now a.records.now a.memory.now a.event.0 a.frame.now pre.0 pre.1 h _
    (sym c.victim.ensures
    ∙ c.in-Some.is)

pub returns-in-None : goal.returns-in-None
returns-in-None c =
    let a = c.args in
    let pre = c.requires in
    let h : places a.cfg.now ≤ entry_count a.memory.now =
    omega (
      arith,
      c.entry_count.ensures,
      c.places.ensures,
      c.if-entry_count-places.false,
    ) in
    loses a.cfg.now a.records.now a.memory.now a.event.0 a.frame.now pre.0 pre.1 h
    (sym c.victim.ensures ∙ c.in-None.is)
