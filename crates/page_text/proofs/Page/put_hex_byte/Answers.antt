-- `put_hex_byte` meets its contract.
use Rattle.page_text.specs.Numbers.{hex_byte}
use Rattle.page_text.proofs.Page.put_hex_byte.Goals as goal

pub returns : goal.returns
unfolding hex_byte
returns c =
    rw (
      ← c.hex_digit.ensures,
      ← c.hex_digit-2.ensures,
    ) c.put.ensures
