-- The lines `settings HEX` and `write N` (docs/REPLAY.md, "Input").
use Prim.Native.Char.{code}
use Rattle.std.specs.Prelude.{ℕ, cond, List, eqb, Option, None, Some, option_map}
use Rattle.replay_text.specs.Chars.{newline, byte_at, next_place, laid_first}
use Rattle.replay_text.specs.Words.{past_gaps, is_end}
use Rattle.replay_text.specs.Hex.{bytes_in, hex_in}
use Rattle.replay_script.specs.declared.Asked.{Asked}
use Rattle.replay_script.specs.declared.Asked.TheVariants.{Settings, Write}
use Rattle.replay_script.specs.Ticks.{length_in}

-- a record of so many bytes, where the line ends after them
unfoldable pub closed_in : List ℕ → ℕ → ℕ → Option Asked
closed_in text at n = cond (is_end text at) (Some (Settings n)) None

-- the bytes are in hex, as one word
unfoldable pub record_of : List ℕ → Option (ℕ × ℕ) → Option Asked
record_of text None = None
record_of text (Some d) = closed_in text d.1 d.0

-- the one word after `settings`: the bytes of a record, `-` for none
unfoldable pub record_at : List ℕ → ℕ → Option Asked
record_at text from =
    cond (eqb (byte_at text from) newline) None
    (cond (eqb (byte_at text from) (code "-")) (closed_in text (next_place from) 0) (record_of text (hex_in text from)))

abbrev pub record_in : List ℕ → ℕ → Option Asked
record_in text past = record_at text (past_gaps text past)

-- the bytes of the record stand in the array first; the rest of it is as it was
abbrev pub record_bytes : List ℕ → ℕ → List ℕ → List ℕ
record_bytes text past old = laid_first (bytes_in text (past_gaps text past)) old

-- a buffer's length, for `write`
abbrev pub write_in : List ℕ → ℕ → Option Asked
write_in text past = option_map Write (length_in text past)
