-- The text as it is held: a list of characters, 65,536 of them, each its number (docs/REPLAY.md, "Input"). A place is
-- counted from 0.
use Prim.Native.Char.{code}
use Rattle.std.specs.Prelude.{ℕ, ◌+◌, ◌≡◌, ◌<◌, Bool, cond, not, List, [], ◌∷◌, ◌++◌, ltb, eqb, length, get_or, drop}

-- the character that ends a line
abbrev pub newline : ℕ
newline = code "\n"

-- the character at a place; past the text, a newline
abbrev pub byte_at : List ℕ → ℕ → ℕ
byte_at text at = get_or text at newline

-- the next place, up to the end of the text
abbrev pub next_place : ℕ → ℕ
next_place at = cond (ltb at 65536) (at + 1) 65536

-- the characters at the front that pass a test, up to the first that does not
unfoldable pub leading : (ℕ → Bool) → List ℕ → List ℕ
leading test [] = []
leading test (b ∷ l) = cond (test b) (b ∷ leading test l) []

-- the first place from one on where a character does not pass a test; the text's end where all do. A place past the
-- text is itself
unfoldable pub past_all : (ℕ → Bool) → List ℕ → ℕ → ℕ
past_all test text at = at + length (leading test (drop at text))

-- any character but a newline
abbrev pub in_line : ℕ → Bool
in_line b = not (eqb b newline)

-- a list with others at its start, and the rest of it as it was
unfoldable pub laid_first : List ℕ → List ℕ → List ℕ
laid_first these old = these ++ drop (length these) old

-- a closure may be asked of any character, and answers what a test does
abbrev pub Tests : {F : Type 0} → (F → ℕ → Type 0) → (F → ℕ → Bool → Type 0) → F → (ℕ → Bool) → Type 0
Tests pre post f test = (b : ℕ) → b < 256 → pre f b × ((r : Bool) → post f b r → r ≡ test b)
