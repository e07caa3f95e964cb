-- `blank` meets its contract.
use Prim.Native.Nat.{ℕ}
use lib.ListN.{length-replicate}
use mathlib.Core.Path.{sym}
use Rattle.page.proofs.blank.Goals as goal

pub returns : goal.returns
returns c = sym (length-replicate {0} {A = ℕ} 2010000 0)
