-- Laws of specs/Utf8.antt.
use mathlib.Core.Path.{◌≡◌, refl}
use mathlib.Core.List.{List, [], ◌∷◌}
use Prim.Native.Nat.{ℕ}
use Rattle.std.specs.List.{fold}
use Rattle.page_names.specs.declared.Awaited.{Awaited}
use Rattle.page_names.specs.Utf8.{after, after_all}

pub all_is : (a : Awaited) (bytes : List ℕ) → fold after a bytes ≡ after_all a bytes
unfolding after_all
all_is a [] = refl
all_is a (b ∷ bytes) = all_is (after a b) bytes
