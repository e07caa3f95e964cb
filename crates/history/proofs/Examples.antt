-- The history of docs/HISTORY.md: the bytes that the rules make and the bytes that are read are the ones written down.
use mathlib.Core.Path.{◌≡◌, refl}
use mathlib.Core.Bool.{Bool, true, ◌&&◌}
use mathlib.Core.List.{List, [], ◌∷◌}
use Prim.Native.Nat.{ℕ}
use lib.Dec.{eqb}
use Rattle.history.specs.StatusByte.{byte_of, Limits}
use Rattle.history.specs.History.{Token, passed, failed, start, stop, clear, History, record_after, moments}
use Rattle.history.specs.History.{since_l, since_w, failure_free, clean, since_clean_stop, confirming, confirming_with}
use Rattle.history.specs.History.{standing, reading}

-- what happens, and the byte after it
record Row : Type 0 where
  happens : Token
  byte : ℕ

abbrev ◌gives◌ : Token → ℕ → Row
happens gives byte = record { happens = happens; byte = byte }

infix 20 ◌gives◌
-- rows, the oldest first, after this history: each one's byte is the one that f gives the history up to it
abbrev agrees : (History → ℕ) → History → List Row → Bool
agrees f l [] = true
agrees f l (r ∷ rs) = eqb (f (r.happens ∷ l)) r.byte && agrees f (r.happens ∷ l) rs

-- "C 2, H 1, A 3, indicator 1"
abbrev marked : Limits
marked = record { C = 2; H = 1; A = 3; indicator = true }

abbrev by_rules : History → ℕ
by_rules l = byte_of (record_after marked l).status

abbrev by_reading : History → ℕ
by_reading l = byte_of (reading marked l)

-- docs/HISTORY.md, row by row
abbrev worked : List Row
worked =
    (start gives 0x50)
    ∷ (passed gives 0x00)
    ∷ (failed gives 0x27)
    ∷ (stop gives 0x27)
    ∷ (start gives 0x65)
    ∷ (stop gives 0x65)
    ∷ (start gives 0x65)
    ∷ (failed gives 0xAF)
    ∷ (passed gives 0xAE)
    ∷ (stop gives 0xAE)
    ∷ (start gives 0xEC)
    ∷ (passed gives 0xAC)
    ∷ (stop gives 0x28)
    ∷ (start gives 0x68)
    ∷ (stop gives 0x68)
    ∷ (start gives 0x68)
    ∷ (passed gives 0x28)
    ∷ (stop gives 0x28)
    ∷ (start gives 0x68)
    ∷ (passed gives 0x28)
    ∷ (stop gives 0x20)
    ∷ (clear gives 0x50)
    ∷ []

the_rules_make_them : agrees by_rules [] worked ≡ true
unfolding record_after
the_rules_make_them = refl

the_reading_has_them : agrees by_reading [] worked ≡ true
unfolding moments since_l since_w failure_free clean since_clean_stop confirming confirming_with standing reading
the_reading_has_them = refl
