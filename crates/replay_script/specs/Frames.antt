-- The lines of received frames (docs/REPLAY.md, "Input"): ID#DATA, where ID is 1 to 8 hex digits and DATA 0 to 64 bytes
-- in hex with nothing between them; or (SECONDS.MICROS) IFACE ID#DATA.
use Prim.Native.Char.{code}
use Rattle.std.specs.Prelude.{ℕ, cond, ◌&&◌, List, leb, eqb, Option, None, Some, option_map}
use Rattle.replay_text.specs.declared.digits.Digits.{Digits}
use Rattle.replay_text.specs.Chars.{byte_at, next_place, laid_first}
use Rattle.replay_text.specs.Words.{past_gaps, next_word, is_end}
use Rattle.replay_text.specs.Digits.{digits_at}
use Rattle.replay_text.specs.Hex.{bytes_in, hex_in}
use Rattle.replay_script.specs.declared.Asked.{Asked}
use Rattle.replay_script.specs.declared.Asked.TheVariants as asked
use Rattle.replay_script.specs.Clocks.{time_in}

-- the identifier that digits are, and the place past the `#` after them
unfoldable pub identifier_of : List ℕ → Digits → Option (ℕ × ℕ)
identifier_of text d =
    cond ((leb 1 d.count && leb d.count 8) && eqb (byte_at text d.at) (code "#"))
    (Some (d.value, next_place d.at))
    None

abbrev pub identifier_in : List ℕ → ℕ → Option (ℕ × ℕ)
identifier_in text from = identifier_of text (digits_at 16 text from)

-- as many data bytes as a line may have
abbrev pub most_data : ℕ
most_data = 64

-- how many bytes the data are, which go on to the end of the line
unfoldable pub data_of : List ℕ → Option (ℕ × ℕ) → Option ℕ
data_of text None = None
data_of text (Some d) = cond (leb d.0 most_data && is_end text d.1) (Some d.0) None

abbrev pub data_in : List ℕ → ℕ → Option ℕ
data_in text at = data_of text (hex_in text at)

-- the frame whose identifier is read: the identifier, and how many bytes its data are
unfoldable pub received_of : List ℕ → Option (ℕ × ℕ) → Option (ℕ × ℕ)
received_of text None = None
received_of text (Some d) = option_map (λ n. (d.0, n)) (data_in text d.1)

-- ID#DATA from a place on, to the end of the line
abbrev pub received_in : List ℕ → ℕ → Option (ℕ × ℕ)
received_in text from = received_of text (identifier_in text from)

-- the bytes of the data stand in the array first, and the rest of it is as it was; all of it where there is no
-- identifier
unfoldable pub data_bytes : List ℕ → List ℕ → Option (ℕ × ℕ) → List ℕ
data_bytes text old None = old
data_bytes text old (Some d) = laid_first (bytes_in text d.1) old

abbrev pub frame_bytes : List ℕ → ℕ → List ℕ → List ℕ
frame_bytes text from old = data_bytes text old (identifier_in text from)

-- a line that is a frame
unfoldable pub frame_of : Option (ℕ × ℕ) → Option Asked
frame_of None = None
frame_of (Some f) = Some (asked.Frame f.0 f.1)

abbrev pub frame_in : List ℕ → ℕ → Option Asked
frame_in text from = frame_of (received_in text from)

-- a line that is a frame which came at a time
unfoldable pub frame_at_of : ℕ → Option (ℕ × ℕ) → Option Asked
frame_at_of now None = None
frame_at_of now (Some f) = Some (asked.Logged now f.0 f.1)

-- the place where ID#DATA begins: past the time and the interface
abbrev pub past_face : List ℕ → ℕ → ℕ
past_face text from = past_gaps text (next_word text (next_word text from).to).to

-- a line of a log, by its time
unfoldable pub logged_of : List ℕ → ℕ → Option ℕ → Option Asked
logged_of text at None = None
logged_of text at (Some now) = frame_at_of now (received_in text at)

abbrev pub logged_in : List ℕ → ℕ → Option Asked
logged_in text from = logged_of text (past_face text from) (time_in text (next_word text from))

-- the array after a line of a log: as it was where the time cannot be read
unfoldable pub timed_bytes : List ℕ → ℕ → List ℕ → Option ℕ → List ℕ
timed_bytes text at old None = old
timed_bytes text at old (Some now) = frame_bytes text at old

abbrev pub logged_bytes : List ℕ → ℕ → List ℕ → List ℕ
logged_bytes text from old = timed_bytes text (past_face text from) old (time_in text (next_word text from))
