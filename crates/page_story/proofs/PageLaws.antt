-- Laws of specs/Page.antt: the page of a state, and the parts of a log without one.
use mathlib.Core.Path.{◌≡◌, refl, sym, ap, ◌∙◌}
use mathlib.Core.Bool.{Bool, true, false}
use mathlib.Core.List.{List}
use Prim.Native.Nat.{ℕ}
use lib.IntN.{ℤ}
use lib.ListN.{take}
use Rattle.manual.specs.Configuration.{Configuration}
use Rattle.manual.proofs.WordsLaws.{clash}
use Rattle.transcript.specs.declared.Cursor.{Cursor}
use Rattle.replay_step.specs.declared.Begun.{Begun}
use Rattle.replay_step.specs.declared.Begun.TheVariants.{Ready}
use Rattle.replay_step.specs.Beginning.{Beginning, ready, refused, unreadable, Leaving, leaving, beginning_left}
use Rattle.replay_step.proofs.BeginningLaws.{ready_is}
use Rattle.std.proofs.Common.{Option}
use Rattle.page_text.specs.declared.Page.{Page}
use Rattle.page_text.specs.Page.{Adds}
use Rattle.page_text.proofs.PageLaws.{adds_as}
use Rattle.page_heads.specs.declared.Unused.{Unused}
use Rattle.page_body.specs.declared.Log.{Log}
use Rattle.page_body.specs.Body.{body}
use Rattle.page_story.specs.declared.Played.{Played}
use Rattle.manual.specs.State.{State}
use Rattle.page_story.specs.Story.{Progress, played, so_far}
use Rattle.page_story.specs.Page.{log_of, shown, refused_configuration, unreadable_log, rest}

-- ---- a log with a state

pub shown_put : (cfg : Configuration) (names : List ℕ) (unused : Option Unused) (x : Played) (q : Progress) {s t : State}
    {log : Log} {most : ℕ} {before after : Page} → ((s : State) → log ≡ log_of unused (so_far s x)) → so_far s x ≡ q
    → t ≡ s → Adds (body cfg names t log) most before after → Adds (shown cfg names unused q) most before after
unfolding shown
shown_put cfg names unused x q {s} {t} {log} l e same p =
    adds_as
    (ap (λ (u : State). body cfg names u log) same ∙ ap (body cfg names s) (l s) ∙ ap (shown cfg names unused) e)
    p

-- ---- how the log begins

abbrev is_refused : Begun → Bool
is_refused (Ready count next) = false
is_refused Begun.Refused = true
is_refused Begun.Unreadable = false

abbrev is_unreadable : Begun → Bool
is_unreadable (Ready count next) = false
is_unreadable Begun.Refused = false
is_unreadable Begun.Unreadable = true

module _ (longer : Bool) (log names : List ℕ) (unused : Option Unused) {l : List ℤ} (m : List ℤ) where
  pub rest_ready : (b : Beginning) {count : ℕ} {next : Cursor} → leaving (Ready count next) l ≡ beginning_left b m
      → shown (take count l) names unused (played (take count l) log next.at) ≡ rest longer log names unused b
  rest_ready b e = ap (rest longer log names unused) (sym (ready_is b m e))

  pub rest_refused : (b : Beginning) → leaving Begun.Refused l ≡ beginning_left b m
      → refused_configuration ≡ rest longer log names unused b
  rest_refused (ready numbers at) e = clash true refl (ap (λ (x : Leaving Begun). is_refused x.answer) e)
  rest_refused (refused numbers) e = refl
  rest_refused (unreadable numbers) e = clash true refl (ap (λ (x : Leaving Begun). is_refused x.answer) e)

  pub rest_unreadable : (b : Beginning) → leaving Begun.Unreadable l ≡ beginning_left b m
      → unreadable_log longer ≡ rest longer log names unused b
  rest_unreadable (ready numbers at) e = clash true refl (ap (λ (x : Leaving Begun). is_unreadable x.answer) e)
  rest_unreadable (refused numbers) e = clash true refl (ap (λ (x : Leaving Begun). is_unreadable x.answer) e)
  rest_unreadable (unreadable numbers) e = refl
