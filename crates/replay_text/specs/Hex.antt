-- Bytes in hex: two digits each, the high one first, with nothing between them (docs/REPLAY.md, "Input").
use Rattle.std.specs.Prelude.{ℕ, ◌+◌, ◌*◌, Bool, true, false, cond, List, [], ◌∷◌, length, take, Option, None, Some}
use Rattle.replay_text.specs.Digits.{digit_value, digits_from}

-- as many digits as a line may have: 2,048 bytes
abbrev pub most_hex : ℕ
most_hex = 4096

-- the hex digits from a place on, as far as they go
abbrev pub hex_from : List ℕ → ℕ → List ℕ
hex_from text at = take most_hex (digits_from 16 text at)

-- the bytes that digits are, two digits each; one that is left over makes no byte
unfoldable pub pairs_of : List ℕ → List ℕ
pairs_of [] = []
pairs_of (a ∷ []) = []
pairs_of (a ∷ b ∷ l) = (digit_value a * 16 + digit_value b) ∷ pairs_of l

-- no digit is left over
unfoldable pub whole_pairs : List ℕ → Bool
whole_pairs [] = true
whole_pairs (a ∷ []) = false
whole_pairs (a ∷ b ∷ l) = whole_pairs l

-- the bytes in hex from a place on
unfoldable pub bytes_in : List ℕ → ℕ → List ℕ
bytes_in text at = pairs_of (hex_from text at)

-- how many bytes, and the place past their digits; none where half a byte is left over
unfoldable pub hex_in : List ℕ → ℕ → Option (ℕ × ℕ)
hex_in text at =
    cond (whole_pairs (hex_from text at)) (Some (length (bytes_in text at), at + length (hex_from text at))) None
