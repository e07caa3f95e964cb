use mathlib.Core.Path.{sym, ap, ◌∙◌}
use mathlib.Core.List.{List}
use Prim.Native.Nat.{ℕ}
use Rattle.manual.specs.declared.StoreAnswer.TheVariants.{Renewed}
use Rattle.memory.specs.Store.{left_with}
use Rattle.memory.proofs.StoreLaws.{may_find, may_renew, renews, has_none}
use Rattle.memory.proofs.store.Goals as goal

pub place_of-requires : goal.place_of-requires
place_of-requires c =
    let a = c.args in
    may_find a.cfg.now a.records.now a.memory.now a.event.0 a.frame.now
    c.requires c.entry_frames-payload_bytes.ensures

pub renew-requires : goal.renew-requires
renew-requires c =
    let a = c.args in
    may_renew a.cfg.now a.records.now a.memory.now a.event.0 a.frame.now
    c.requires c.entry_frames-payload_bytes.ensures _
    (sym c.place_of.ensures ∙ c.in-Some.is)

pub returns-in-Some : goal.returns-in-Some
returns-in-Some c =
    let a = c.args in
    ap (λ (m : List ℕ). left_with m Renewed) c.renew.ensures
    ∙ renews a.cfg.now a.records.now a.memory.now a.event.0 a.frame.now
    c.requires c.entry_frames-payload_bytes.ensures _
    (sym c.place_of.ensures
    ∙ c.in-Some.is)

pub returns-in-None : goal.returns-in-None
returns-in-None c =
    let a = c.args in
    c.admit.ensures
    ∙ has_none a.cfg.now a.records.now a.memory.now a.event.0 a.frame.now
    c.requires c.entry_frames-payload_bytes.ensures
    (sym c.place_of.ensures
    ∙ c.in-None.is)
