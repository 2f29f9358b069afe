-- A frame and the record that it is in a buffer (01, "Identifier and message numbers"): "In the buffer a frame is 13
-- bytes: identifier in 4 bytes little endian, the length 8, the data."
use Rattle.std.specs.Prelude.{ℕ, ◌/◌, ◌%◌, List, [], ◌∷◌, ◌++◌, get_or}
use Rattle.messages.specs.declared.table.Row.{Row}
use Rattle.messages.specs.Table.{length_of}
use Rattle.messages.specs.Identifier.{identifier_of}
use Rattle.frames.specs.declared.Frame.{Frame}

-- the bytes that a frame takes in a buffer: `Frame::RECORD` of the code
abbrev pub record_size : ℕ
record_size = 13

-- a message of the table, from us to a target, with its 8 data bytes; the length is the row's, 8 in every row that we
-- send (`sent_rows_have_eight`, messages)
abbrev pub frame_of : Row → ℕ → ℕ → List ℕ → Frame
frame_of row target source bytes = record { id = identifier_of row target source; length = length_of row; bytes = bytes }

-- a number in 4 bytes, little endian
abbrev pub four_bytes : ℕ → List ℕ
four_bytes n = n % 256 ∷ n / 0x100 % 256 ∷ n / 0x1_0000 % 256 ∷ n / 0x100_0000 ∷ []

-- the data: a frame's list of bytes has eight, by its type
abbrev pub eight_of : List ℕ → List ℕ
eight_of l =
    get_or l 0 0 ∷ get_or l 1 0 ∷ get_or l 2 0 ∷ get_or l 3 0 ∷ get_or l 4 0 ∷ get_or l 5 0 ∷ get_or l 6 0 ∷ get_or l 7 0 ∷ []

unfoldable pub frame_record : Frame → List ℕ
frame_record f = four_bytes f.id ++ (f.length ∷ eight_of f.bytes)

-- the records of several frames, one after the other
unfoldable pub records_of : List Frame → List ℕ
records_of [] = []
records_of (f ∷ fs) = frame_record f ++ records_of fs
