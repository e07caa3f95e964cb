-- Document 02, W5, "Don't test a pump that is switched off": the enable conditions. Assumes nothing.
use Rattle.std.specs.Prelude.{Bool, not, ◌&&◌, ℕ, zero, suc, ◌/◌, ◌%◌, eqb}
use Rattle.std.proofs.Math.Option.{Option, none, some}
use Rattle.manual.specs.Words.{all_below, count_below, lowest_below}
use Rattle.manual.specs.Configuration.{Configuration, needed_of}

-- "31 enable conditions, numbers 0 to 30"
abbrev pub most_conditions : ℕ
most_conditions = 31

-- "a set of bits": number k is in the set where bit k is set
unfoldable pub in_set : ℕ → ℕ → Bool
in_set set zero = eqb (set % 2) 1
in_set set (suc k) = in_set (set / 2) k

-- the set of all 31
abbrev pub all_present : ℕ
all_present = 2147483647

-- a condition that is needed and not present
abbrev pub is_missing : ℕ → ℕ → ℕ → Bool
is_missing needed present k = in_set needed k && not (in_set present k)

-- "how many of the conditions it needs are still missing"
unfoldable pub missing_of : ℕ → ℕ → ℕ
missing_of needed present = count_below most_conditions (is_missing needed present)

-- "the lowest missing number, or 32 when none is"
abbrev pub or_none : Option ℕ → ℕ
or_none (some k) = k
or_none none = 32

unfoldable pub lowest_missing_of : ℕ → ℕ → ℕ
lowest_missing_of needed present = or_none (lowest_below most_conditions (is_missing needed present))

-- the "needed conditions" are "all present"
unfoldable pub none_missing : ℕ → ℕ → Bool
none_missing needed present = all_below most_conditions (λ k. not (is_missing needed present k))

abbrev pub enabled : Configuration → ℕ → ℕ → Bool
enabled cfg present e = none_missing (needed_of cfg e) present
