-- Words are separated by spaces or tabs, and a carriage return counts as one (docs/REPLAY.md, "Input").
use Prim.Native.Char.{code}
use Rattle.std.specs.Prelude.{ℕ, Bool, not, ◌&&◌, ◌||◌, List, [], ◌∷◌, eqb}
use Rattle.replay_text.specs.declared.words.Word.{Word}
use Rattle.replay_text.specs.Chars.{newline, byte_at, next_place, past_all}

-- a space, a tab or a carriage return
unfoldable pub is_gap : ℕ → Bool
is_gap b = eqb b (code " ") || (eqb b (code "\t") || eqb b (code "\r"))

-- a word goes on over any other character of the line
unfoldable pub in_word : ℕ → Bool
in_word b = not (is_gap b || eqb b newline)

-- the first place from one on that is no gap
abbrev pub past_gaps : List ℕ → ℕ → ℕ
past_gaps text at = past_all is_gap text at

-- the first place from one on where no word goes on
abbrev pub word_end : List ℕ → ℕ → ℕ
word_end text at = past_all in_word text at

-- the first word from a place on; empty where the line has none
unfoldable pub next_word : List ℕ → ℕ → Word
next_word text at = record { from = past_gaps text at; to = word_end text (past_gaps text at) }

-- the line has no word from a place on
unfoldable pub is_end : List ℕ → ℕ → Bool
is_end text at = eqb (byte_at text (past_gaps text at)) newline

-- the word that begins at a place is this one: its characters stand there one after the other, and there a word ends
unfoldable pub is_word : List ℕ → ℕ → List ℕ → Bool
is_word text at [] = eqb (word_end text at) at
is_word text at (b ∷ s) = eqb (byte_at text at) b && is_word text (next_place at) s
