-- `one_to_ten_digits` is the test of the definition, with `all_digits` for its last part.
use Rattle.transcript.specs.Text.{one_to_ten_digits}
use Rattle.transcript.proofs.one_to_ten_digits.Goals as goal

pub returns : goal.returns
unfolding one_to_ten_digits
returns c = rw c.all_digits.ensures
