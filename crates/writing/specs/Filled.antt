-- A block of which the end is filled with one value. Assumes nothing.
use Rattle.std.specs.Prelude.{List, ◌++◌, ℕ, ◌-◌, length, take, replicate}

-- x from `from` on; what stands before stays
unfoldable pub filled_from : {A : Type 0} → A → ℕ → List A → List A
filled_from x from m = take from m ++ replicate (length m - from) x
