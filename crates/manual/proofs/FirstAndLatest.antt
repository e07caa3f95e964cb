-- Document 02, W6: "both the frame of the first failure and that of the latest": a new entry's two frames are both the
-- lent one, and "A repeat replaces only the latest."
use mathlib.Core.Path.{◌≡◌, ap, ◌∙◌}
use mathlib.Core.List.{List}
use Prim.Native.Nat.{ℕ, ◌*◌}
use native.Mathlib.Omega.{arith}
use lib.ListN.{length, length-append}
use lib.Seq.{take_at, drop_at, length-take-le}
use Rattle.manual.specs.Memory.{first_frame, latest_frame, payload_of, renewed_payload}

-- a frame of F bytes
module _ (F : ℕ) (frame : List ℕ) (framed : length frame ≡ F) where
  pub first_of_new : first_frame F (payload_of frame) ≡ frame
  unfolding payload_of
  first_of_new = take_at frame frame F framed

  pub latest_of_new : latest_frame F (payload_of frame) ≡ frame
  unfolding payload_of
  latest_of_new = drop_at frame frame F framed

  -- an entry that held these frames
  module _ (old : List ℕ) (held : length old ≡ 2 * F) where
    first_long : length (first_frame (length frame) old) ≡ F
    first_long = length-take-le (length frame) old (omega (arith, framed, held)) ∙ framed

    pub first_of_repeat : first_frame F (renewed_payload old frame) ≡ first_frame F old
    unfolding renewed_payload
    first_of_repeat =
        take_at (first_frame (length frame) old) frame F first_long ∙ ap (λ (k : ℕ). first_frame k old) framed

    pub latest_of_repeat : latest_frame F (renewed_payload old frame) ≡ frame
    unfolding renewed_payload
    latest_of_repeat = drop_at (first_frame (length frame) old) frame F first_long

    -- F bytes each
    pub repeat_long : length (renewed_payload old frame) ≡ 2 * F
    unfolding renewed_payload
    repeat_long = omega (arith, length-append (first_frame (length frame) old) frame, first_long, framed)

  pub new_long : length (payload_of frame) ≡ 2 * F
  unfolding payload_of
  new_long = omega (arith, length-append frame frame, framed)
