-- The frames that stand in a lent buffer, read off its bytes: "in the buffer a frame is 13 bytes: identifier in 4 bytes
-- little endian, the length 8, the data" (01, "Identifier and message numbers"). So "the frames that a call sent" are
-- what the host finds there. For every statement over calls that were made.
use Rattle.std.specs.Prelude.{ℕ, zero, suc, ◌+◌, ◌*◌, ◌/◌, List, [], ◌∷◌, get_or, drop}
use Rattle.frames.specs.declared.Frame.{Frame}
use Rattle.frames.specs.Frame.{record_size, eight_of}

-- the number in the first 4 bytes, little endian
abbrev pub number_at : List ℕ → ℕ
number_at s = get_or s 0 0 + get_or s 1 0 * 0x100 + get_or s 2 0 * 0x1_0000 + get_or s 3 0 * 0x100_0000

-- the frame in the first 13
unfoldable pub frame_at : List ℕ → Frame
frame_at s = record { id = number_at s; length = get_or s 4 0; bytes = eight_of (drop 5 s) }

-- so many frames, one after the other
unfoldable pub frames_from : ℕ → List ℕ → List Frame
frames_from zero s = []
frames_from (suc n) s = frame_at s ∷ frames_from n (drop record_size s)

-- the frames in the first bytes of a buffer, as many as the call says that it wrote
unfoldable pub frames_written : ℕ → List ℕ → List Frame
frames_written bytes s = frames_from (bytes / record_size) s
