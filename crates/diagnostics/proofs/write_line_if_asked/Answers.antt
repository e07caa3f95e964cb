use mathlib.Core.Path.{sym, ap, subst, ◌∙◌}
use mathlib.Core.List.{List}
use Prim.Native.Nat.{ℕ, ◌+◌, ◌≤◌}
use native.Mathlib.Omega.{arith}
use lib.ListN.{length}
use Rattle.manual.proofs.ConfigurationLaws.{config_tells}
use Rattle.writing.specs.Writing.{written, append}
use Rattle.writing.proofs.WritingLaws.{append_none}
use Rattle.diagnostics.specs.Replies.{line_with}
use Rattle.diagnostics.proofs.write_line_if_asked.Goals as goal

pub line_byte-requires : goal.line_byte-requires
line_byte-requires c = let fits = c.requires in
    let most = (config_tells _ fits.config).n_most in omega (arith, fits.event_inside)

pub write_line-requires : goal.write_line-requires
write_line-requires c =
    let a = c.args in
    let fits = c.requires in
    let is = ap (line_with a.cfg.now a.event.0) (sym c.in-Some.is)
    ∙ c.line_byte.ensures in
    record {
      config = fits.config;
      event_inside = fits.event_inside;
      within = subst (λ (l : List ℕ). a.at + length l ≤ length a.room.now) (sym is) fits.within;
    }

pub returns-in-Some : goal.returns-in-Some
returns-in-Some c =
    let a = c.args in
    let is = ap (line_with a.cfg.now a.event.0) (sym c.in-Some.is) ∙ c.line_byte.ensures in
    c.write_line.ensures ∙ ap (λ (l : List ℕ). append l (written a.at a.room.now)) is

pub returns-in-None : goal.returns-in-None
returns-in-None c =
    let a = c.args in
    let is = ap (line_with a.cfg.now a.event.0) (sym c.in-None.is)
    ∙ c.line_byte.ensures in
    sym (append_none _) ∙ ap (λ (l : List ℕ). append l (written a.at a.room.now)) is
