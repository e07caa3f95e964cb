-- `used_length` meets its contract.
use native.Mathlib.Omega.{arith}
use Rattle.manual.proofs.ConfigurationLaws.{config_tells}
use Rattle.image.proofs.used_length.Goals as goal

pub bytes_in_use-requires : goal.bytes_in_use-requires
bytes_in_use-requires c =
    let t = config_tells _ c.requires.accepted in (
      c.requires.some,
      (
        omega (arith, c.requires.few, t.M_most),
        omega (arith, c.entry_frames.ensures, t.payload_most),
      ),
    )
