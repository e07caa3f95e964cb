-- Laws of specs/Text.antt, in its order.
use mathlib.Core.Path.{◌≡◌, sym}
use mathlib.Core.List.{List, [], ◌++◌}
use native.Mathlib.Omega.{arith}
use Prim.Native.Nat.{ℕ, ◌+◌, ◌≤◌}
use lib.ListN.{length}
use Rattle.writing.specs.Writing.{written, append}
use Rattle.writing.proofs.WritingLaws.{append_none, append_then, append_next}
use Rattle.page_text.specs.Text.{Puts}

-- ---- Puts

pub puts_of : {part : List ℕ} {at next : ℕ} {before after : List ℕ}
    → written next after ≡ append part (written at before)
    → Puts part (length part) at next before after
puts_of e = record { stands = e; within = omega (arith, append_next _ _ e) }

pub puts_none : {at most : ℕ} {before : List ℕ} → Puts [] most at at before before
puts_none = record { stands = sym (append_none _); within = omega arith }

-- a bound may be higher
pub puts_most : {part : List ℕ} {few most at next : ℕ} {before after : List ℕ} → few ≤ most
    → Puts part few at next before after → Puts part most at next before after
puts_most h p = record { stands = p.stands; within = omega (arith, h, p.within) }

-- one part after the other
pub puts_then : {one two : List ℕ} {a b at next end : ℕ} {before between after : List ℕ}
    → Puts one a at next before between → Puts two b next end between after
    → Puts (one ++ two) (a + b) at end before after
puts_then p q =
    record { stands = append_then _ _ _ p.stands q.stands; within = omega (arith, p.within, q.within) }
