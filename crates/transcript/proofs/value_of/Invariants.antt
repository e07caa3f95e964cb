-- `value_of`: at each turn the digits taken so far are worth n (`Added`).

use Rattle.transcript.proofs.TextLaws.{Added}
use Rattle.transcript.proofs.value_of.Given as goal

abbrev pub invariant-loop-digit : goal.invariant-loop-digit
invariant-loop-digit l = Added l.digits l.digit-index l.n
