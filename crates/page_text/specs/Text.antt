-- Texts of a page as bytes, and what stands in a buffer where a part of a page was put. Assumes nothing.
use Rattle.std.specs.Prelude.{◌≡◌, List, [] as none, ◌∷◌ as ◌then◌, ℕ, ◌+◌, ◌≤◌}
use Prim.Native.Char.{code}
use Prim.Native.String.{String, [], ◌∷◌}
use Rattle.writing.specs.Writing.{written, append}

-- the bytes of a text of ASCII characters
unfoldable pub text : String → List ℕ
text [] = none
text (c ∷ s) = code c then text s

-- a part of at most so many bytes was put into the buffer from `at` on, and `next` is the place behind it; all other
-- bytes are as found
pub record Puts (part : List ℕ) (most at next : ℕ) (before after : List ℕ) : Type 0 where
  pub stands : written next after ≡ append part (written at before)
  pub within : next ≤ at + most
