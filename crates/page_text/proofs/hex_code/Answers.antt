-- `hex_code` meets its contract.
use Rattle.page_text.specs.Numbers.{hex_code}
use Rattle.page_text.proofs.hex_code.Goals as goal

pub returns : goal.returns
unfolding hex_code
returns c = cc
