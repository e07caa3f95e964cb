-- Document 02, W7: how far a count is from "4,294,967,295". Each of the five rises at most once an event, so one call
-- cannot carry a count past its limit that does not lie near it. Assumes nothing.
use Rattle.std.specs.Prelude.{◌≡◌, Bool, List, ℕ, ◌-◌, ◌<◌, ltb, length}
use Rattle.std.specs.List.{list_any}
use Rattle.manual.specs.declared.Rise.{Rise}
use Rattle.manual.specs.Words.{All}
use Rattle.manual.specs.Configuration.{most_events}
use Rattle.manual.specs.Counts.{numbers, most_count}

-- "a slice of five"
abbrev pub AreFive : List ℕ → Type 0
AreFive counts = length counts ≡ 5

-- some count lies less than 512 below its limit
abbrev pub some_near : List ℕ → Bool
some_near counts = list_any (λ k. ltb (most_count - most_events) k) counts

-- the rise of fewer than 512 events: one more still lies below any limit
abbrev pub MayRise : Rise → Type 0
MayRise rise = All (λ k. k < most_events) (numbers rise)
