-- One line of a script (docs/REPLAY.md, "Input"): what it asks for, and what the arrays beside it then hold.
use Prim.Native.Char.{code}
use Rattle.std.specs.Prelude.{ℕ, ◌-◌, Bool, cond, not, ◌||◌, List, [], ◌∷◌, length, ltb, eqb, ℤ, pos, Option, None, Some, option_map}
use Prim.Native.String as quoted
use Rattle.replay_text.specs.Chars.{newline, byte_at}
use Rattle.replay_text.specs.Words.{past_gaps, word_end, is_word}
use Rattle.replay_text.specs.Lines.{longest}
use Rattle.replay_script.specs.declared.Asked.{Asked}
use Rattle.replay_script.specs.declared.Asked.TheVariants.{Nothing, Voltages, Temperatures}
use Rattle.replay_script.specs.declared.Kind.{Kind}
use Rattle.replay_script.specs.declared.Kind.TheVariants as kind
use Rattle.replay_script.specs.Records.{record_in, record_bytes, write_in}
use Rattle.replay_script.specs.Frames.{frame_in, frame_bytes, logged_in, logged_bytes}
use Rattle.replay_script.specs.Ticks.{ticks_in, buffer_in, readings_in}
use Rattle.replay_script.specs.Tables.{voltages_in, temperatures_in, table_of}

-- a word as the characters of the text
abbrev pub spelled : quoted.String → List ℕ
spelled quoted.[] = []
spelled (quoted.◌∷◌ c s) = code c ∷ spelled s

-- the kind of a line, by its first word; what no known word begins is a frame
unfoldable pub kind_in : List ℕ → ℕ → Kind
kind_in text from =
    cond (is_word text from (spelled "settings")) kind.Settings
    (cond (is_word text from (spelled "readings")) kind.Readings
    (cond (is_word text from (spelled "voltages")) kind.Voltages
    (cond (is_word text from (spelled "temperatures")) kind.Temperatures
    (cond (is_word text from (spelled "buffer")) kind.Buffer
    (cond (is_word text from (spelled "tick")) kind.Tick
    (cond (is_word text from (spelled "write")) kind.Write
    (cond (eqb (byte_at text from) (code "(")) kind.Logged kind.Frame)))))))

-- what a line of a kind asks for whose first word begins at a place
unfoldable pub asks_of : List ℕ → ℕ → Kind → Option Asked
asks_of text from kind.Settings = record_in text (word_end text from)
asks_of text from kind.Readings = readings_in text (word_end text from)
asks_of text from kind.Voltages = option_map (λ l. Voltages (length l)) (voltages_in text (word_end text from))
asks_of text from kind.Temperatures = option_map (λ l. Temperatures (length l)) (temperatures_in text (word_end text from))
asks_of text from kind.Buffer = buffer_in text (word_end text from)
asks_of text from kind.Tick = ticks_in text (word_end text from)
asks_of text from kind.Write = write_in text (word_end text from)
asks_of text from kind.Logged = logged_in text from
asks_of text from kind.Frame = frame_in text from

-- the bytes after such a line: a record's or a frame's stand first
unfoldable pub bytes_of : List ℕ → ℕ → List ℕ → Kind → List ℕ
bytes_of text from old kind.Settings = record_bytes text (word_end text from) old
bytes_of text from old kind.Readings = old
bytes_of text from old kind.Voltages = old
bytes_of text from old kind.Temperatures = old
bytes_of text from old kind.Buffer = old
bytes_of text from old kind.Tick = old
bytes_of text from old kind.Write = old
bytes_of text from old kind.Logged = logged_bytes text from old
bytes_of text from old kind.Frame = frame_bytes text from old

-- the table of voltages after such a line
unfoldable pub volts_of : List ℕ → ℕ → List ℕ → Kind → List ℕ
volts_of text from old kind.Settings = old
volts_of text from old kind.Readings = old
volts_of text from old kind.Voltages = table_of 0 old (voltages_in text (word_end text from))
volts_of text from old kind.Temperatures = old
volts_of text from old kind.Buffer = old
volts_of text from old kind.Tick = old
volts_of text from old kind.Write = old
volts_of text from old kind.Logged = old
volts_of text from old kind.Frame = old

-- the table of temperatures after such a line
unfoldable pub temps_of : List ℕ → ℕ → List ℤ → Kind → List ℤ
temps_of text from old kind.Settings = old
temps_of text from old kind.Readings = old
temps_of text from old kind.Voltages = old
temps_of text from old kind.Temperatures = table_of (pos 0) old (temperatures_in text (word_end text from))
temps_of text from old kind.Buffer = old
temps_of text from old kind.Tick = old
temps_of text from old kind.Write = old
temps_of text from old kind.Logged = old
temps_of text from old kind.Frame = old

-- a line that begins at a place is blank, or its first word begins with `#`
unfoldable pub is_ignored : List ℕ → ℕ → Bool
is_ignored text at = eqb (byte_at text (past_gaps text at)) newline || eqb (byte_at text (past_gaps text at)) (code "#")

-- a line from a place up to its newline has more characters than a line may have
abbrev pub is_longer : ℕ → ℕ → Bool
is_longer at end = ltb longest (end - at)

-- what a line asks for that begins at a place and has its newline at another: nothing where it is ignored, however
-- long; a longer one than a line may be cannot be read
unfoldable pub asked_in : List ℕ → ℕ → ℕ → Option Asked
asked_in text at end =
    cond (is_ignored text at) (Some Nothing)
    (cond (is_longer at end) None (asks_of text (past_gaps text at) (kind_in text (past_gaps text at))))

-- the words of the line are looked at
abbrev pub is_looked_at : List ℕ → ℕ → ℕ → Bool
is_looked_at text at end = not (is_ignored text at || is_longer at end)

-- the arrays after the line
unfoldable pub bytes_after : List ℕ → ℕ → ℕ → List ℕ → List ℕ
bytes_after text at end old =
    cond (is_looked_at text at end) (bytes_of text (past_gaps text at) old (kind_in text (past_gaps text at))) old

unfoldable pub volts_after : List ℕ → ℕ → ℕ → List ℕ → List ℕ
volts_after text at end old =
    cond (is_looked_at text at end) (volts_of text (past_gaps text at) old (kind_in text (past_gaps text at))) old

unfoldable pub temps_after : List ℕ → ℕ → ℕ → List ℤ → List ℤ
temps_after text at end old =
    cond (is_looked_at text at end) (temps_of text (past_gaps text at) old (kind_in text (past_gaps text at))) old
