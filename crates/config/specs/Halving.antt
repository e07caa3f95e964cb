-- The way of the search: a range of rows that is halved until one row is left. Assumes nothing.
use Rattle.std.specs.Prelude.{◌≡◌, true, ◌⊎◌, ℕ, suc, ◌-◌, ◌*◌, ◌≤◌, ◌<◌}
use Rattle.manual.specs.Configuration.{Configuration, events, code_of, config_ok}
use Rattle.config.specs.declared.Range.{Range}

-- the first row whose code is not below the wanted one lies in the range, or there is none, and the range ends with the
-- last row: each row before the range is below, and its last row is not, or is the last of all
pub record NarrowedTo (cfg : Configuration) (code : ℕ) (range : Range) : Type 0 where
  pub accepted : config_ok cfg ≡ true
  pub low_to_high : range.low ≤ range.high
  pub high_below : range.high < events cfg
  pub before : (k : ℕ) → k < range.low → code_of cfg k < code
  pub at_high : (suc range.high ≡ events cfg) ⊎ (code ≤ code_of cfg range.high)

-- how many rows a range has behind its first
abbrev pub width : Range → ℕ
width range = range.high - range.low

-- the search is narrowed to a range that has at most half as many rows behind its first
pub record Halved (cfg : Configuration) (code : ℕ) (range half : Range) : Type 0 where
  pub narrowed : NarrowedTo cfg code half
  pub at_most_half : 2 * width half ≤ width range
