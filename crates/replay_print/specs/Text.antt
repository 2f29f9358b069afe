-- Numbers and bytes as text: in decimal, and in hex.
use Rattle.std.specs.Prelude.{ℕ, zero, suc, ◌+◌, ◌-◌, ◌/◌, ◌%◌, cond, List, [], ◌∷◌, ◌++◌, ltb, length, replicate}

-- the decimal digits of a number, of which there are at most so many: the digits of its tenth part, where that is not
-- 0, and then the last one
unfoldable pub digits_up_to : ℕ → ℕ → List ℕ
digits_up_to zero n = []
digits_up_to (suc most) n = cond (ltb n 10) [] (digits_up_to most (n / 10)) ++ ((48 + n % 10) ∷ [])

-- a number in decimal; every number of 64 bits has at most 20 digits
unfoldable pub decimal_of : ℕ → List ℕ
decimal_of n = digits_up_to 20 n

-- the same with zeros before it, up to a width
unfoldable pub padded_of : ℕ → ℕ → List ℕ
padded_of width n = replicate (width - length (decimal_of n)) 48 ++ decimal_of n

-- a hex digit, in capitals: `0` is 48 and `A` is 65
abbrev pub hex_digit : ℕ → ℕ
hex_digit d = cond (ltb d 10) (48 + d) (65 + (d - 10))

-- a byte as two hex digits
unfoldable pub hex_of : ℕ → List ℕ
hex_of b = hex_digit (b / 16) ∷ hex_digit (b % 16) ∷ []

-- several bytes, with nothing between them
unfoldable pub hexes_of : List ℕ → List ℕ
hexes_of [] = []
hexes_of (b ∷ bytes) = hex_of b ++ hexes_of bytes
