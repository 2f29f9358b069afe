-- Words are little endian (01, "Identifier and message numbers"): a 16-bit word stands in two bytes, the low one first.
use Rattle.std.specs.Prelude.{ℕ, ◌+◌, ◌*◌, ◌/◌, ◌%◌, List, [], ◌∷◌, get_or}

abbrev pub low : ℕ → ℕ
low w = w % 256

abbrev pub high : ℕ → ℕ
high w = w / 256

-- the two bytes of a word
abbrev pub word_bytes : ℕ → List ℕ
word_bytes w = low w ∷ high w ∷ []

-- the word that stands at a place; a byte past the end counts as 0
abbrev pub word_at : List ℕ → ℕ → ℕ
word_at s at = get_or s at 0 + get_or s (at + 1) 0 * 256
