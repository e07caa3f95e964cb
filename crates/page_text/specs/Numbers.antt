-- Numbers in a page. Assumes nothing.
use Rattle.std.specs.Prelude.{cond, List, [], ◌∷◌, ℕ, ◌+◌, ◌/◌, ◌%◌, ltb}

-- the decimal digits of a number below 100000, no zero in front
abbrev pub digit : ℕ → ℕ
digit d = 0x30 + d

unfoldable pub decimal : ℕ → List ℕ
decimal n =
    cond (ltb n 10) (digit (n % 10) ∷ [])
    (cond (ltb n 100) (digit (n / 10 % 10) ∷ digit (n % 10) ∷ [])
    (cond (ltb n 1000) (digit (n / 100 % 10) ∷ digit (n / 10 % 10) ∷ digit (n % 10) ∷ [])
    (cond (ltb n 10000)
    (digit (n / 1000 % 10) ∷ digit (n / 100 % 10) ∷ digit (n / 10 % 10) ∷ digit (n % 10) ∷ [])
    (digit (n / 10000 % 10) ∷ digit (n / 1000 % 10) ∷ digit (n / 100 % 10) ∷ digit (n / 10 % 10) ∷ digit (n % 10)
    ∷ []))))

-- a hexadecimal digit, in capitals
unfoldable pub hex_digit : ℕ → ℕ
hex_digit d = cond (ltb d 10) (0x30 + d) (0x37 + d)

-- the last two hexadecimal digits of a number, and an h: a status byte
unfoldable pub hex_byte : ℕ → List ℕ
hex_byte n = hex_digit (n / 16 % 16) ∷ hex_digit (n % 16) ∷ 0x68 ∷ []

-- the last six, and an h: a trouble code
unfoldable pub hex_code : ℕ → List ℕ
hex_code n =
    hex_digit (n / 1048576 % 16) ∷ hex_digit (n / 65536 % 16) ∷ hex_digit (n / 4096 % 16) ∷ hex_digit (n / 256 % 16)
    ∷ hex_digit (n / 16 % 16) ∷ hex_digit (n % 16) ∷ 0x68 ∷ []
