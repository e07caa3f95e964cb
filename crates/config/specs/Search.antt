-- The search of a trouble code: the first event with the code, or none (`first_with_code`). It says so of any
-- configuration, also one whose codes repeat, and says nothing of the way to the event. Assumes nothing.
use Rattle.std.specs.Prelude.{ℕ, Option, Some, None}
use Rattle.std.proofs.Math.Option as maybe
use Rattle.manual.specs.declared.EventNumber.{EventNumber}

-- what an answer of the search says
abbrev pub search_is : Option EventNumber → maybe.Option ℕ
search_is (Some e) = maybe.some e.0
search_is None = maybe.none
