-- Laws of specs/Line.antt, in its order.
use mathlib.Core.Path.{◌≡◌, refl, sym, ap, ◌∙◌}
use mathlib.Core.Bool.{Bool, true, false, cond}
use mathlib.Core.List.{List, [], ◌∷◌, ◌++◌, append_assoc, append-nil, flat_map}
use Prim.Native.Nat.{ℕ, zero, suc, ◌+◌, ◌*◌, ◌/◌, ◌%◌, ◌≤◌}
use native.Mathlib.Numerals.{add-one}
use native.Mathlib.Omega.{arith}
use lib.Dec.{ltb}
use lib.ListN.{length, get_or, length-append}
use Rattle.manual.specs.Words.{join_below}
use Rattle.manual.specs.State.{stored_at}
use Rattle.transcript.specs.Line.{digit, decimal, spaced, line, status_bytes}

-- ---- decimal, spaced

pub decimal_few : (n : ℕ) → length (decimal n) ≤ 3
unfolding decimal
decimal_few n = go (ltb n 10) (ltb n 100)
  where
    go : (one two : Bool)
        → length
        (cond one (digit n ∷ [])
        (cond two (digit (n / 10) ∷ digit (n % 10) ∷ [])
        (digit (n / 100) ∷ digit (n / 10 % 10) ∷ digit (n % 10) ∷ [])))
        ≤ 3
    go true two = omega arith
    go false true = omega arith
    go false false = omega arith

pub spaced_few : (n : ℕ) → length (spaced n) ≤ 4
unfolding spaced
spaced_few n = omega (arith, decimal_few n)

-- ---- flat_map

flat_map_append : (f : ℕ → List ℕ) (xs ys : List ℕ) → flat_map f (xs ++ ys) ≡ flat_map f xs ++ flat_map f ys
unfolding flat_map
flat_map_append f [] ys = refl
flat_map_append f (x ∷ xs) ys =
    ap (λ l. f x ++ l) (flat_map_append f xs ys) ∙ sym (append_assoc (f x) (flat_map f xs) (flat_map f ys))

-- ---- status_bytes

module _ (records : List ℕ) where
  pub statuses_none : flat_map spaced (status_bytes 0 records) ≡ []
  unfolding status_bytes join_below flat_map
  statuses_none = refl

  pub statuses_more : (e : ℕ)
      → flat_map spaced (status_bytes (e + 1) records)
      ≡ flat_map spaced (status_bytes e records) ++ spaced (get_or records (4 * e) 0)
  unfolding status_bytes join_below flat_map stored_at
  statuses_more e =
      rw (add-one e)
      (flat_map_append spaced (status_bytes e records) ((stored_at e records).status ∷ [])
      ∙ ap (λ l. flat_map spaced (status_bytes e records) ++ l) (append-nil (spaced (get_or records (4 * e) 0))))

  pub statuses_few : (n : ℕ) → length (flat_map spaced (status_bytes n records)) ≤ 4 * n
  statuses_few zero = rw statuses_none (omega arith)
  statuses_few (suc n) =
      rw (← add-one n, statuses_more n, length-append)
      (omega (arith, statuses_few n, spaced_few (get_or records (4 * n) 0)))

  -- ---- line

  pub line_few : (answer n : ℕ) → length (line answer (status_bytes n records)) ≤ 4 + 4 * n
  unfolding line
  line_few answer n = simp length-append (omega (arith, decimal_few answer, statuses_few n))
