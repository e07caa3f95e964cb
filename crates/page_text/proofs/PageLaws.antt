-- Laws of specs/Page.antt, in its order.
use mathlib.Core.Path.{◌≡◌, refl, subst, ◌∙◌}
use mathlib.Core.List.{List, [], ◌++◌}
use Prim.Native.Nat.{ℕ, ◌+◌, ◌≤◌}
use Rattle.page_text.specs.declared.Page.{Page}
use Rattle.page_text.specs.Page.{Adds}
use Rattle.page_text.proofs.TextLaws.{puts_none, puts_most, puts_then}

-- ---- Adds

pub adds_none : {most : ℕ} {page : Page} → Adds [] most page page
adds_none = record { same_buffer = refl; same_length = refl; puts = puts_none }

-- a part under another name of its bytes
pub adds_as : {one two : List ℕ} {most : ℕ} {before after : Page} → one ≡ two → Adds one most before after
    → Adds two most before after
adds_as {most = most} {before} {after} e = subst (λ (part : List ℕ). Adds part most before after) e

-- a bound may be higher
pub adds_most : {part : List ℕ} {few most : ℕ} {before after : Page} → few ≤ most → Adds part few before after
    → Adds part most before after
adds_most h a = record { same_buffer = a.same_buffer; same_length = a.same_length; puts = puts_most h a.puts }

-- one part after the other
infixl 10 ◌and_then◌
pub ◌and_then◌ : {one two : List ℕ} {a b : ℕ} {before between after : Page} → Adds one a before between
    → Adds two b between after → Adds (one ++ two) (a + b) before after
p and_then q =
    record {
      same_buffer = q.same_buffer ∙ p.same_buffer;
      same_length = q.same_length ∙ p.same_length;
      puts = puts_then p.puts q.puts;
    }
