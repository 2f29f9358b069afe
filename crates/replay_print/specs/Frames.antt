-- The lines of the frames that a tick sends (docs/REPLAY.md, "Output"): `(SSSSSSSSSS.UUUUUU) can0 ID#DATA`.
use Rattle.std.specs.Prelude.{ℕ, zero, suc, ◌*◌, ◌/◌, ◌%◌, List, [], ◌++◌, length, take, drop, get_or}
use Rattle.replay_print.specs.Quoted.{quoted}
use Rattle.replay_print.specs.Text.{padded_of, hex_of, hexes_of}

-- the time of a tick by its number, 50 ms each: 20 of them are a second, and each is 50000 microseconds
unfoldable pub time_text : ℕ → List ℕ
time_text tick =
    quoted "(" ++ (padded_of 10 (tick / 20) ++ (quoted "." ++ (padded_of 6 (tick % 20 * 50_000) ++ quoted ")")))

-- the frame that stands at the start of the bytes: its identifier, whose bytes 0 to 3 are little endian, and its data,
-- bytes 5 to 12. Byte 4 is the length, which is always eight
unfoldable pub frame_text : List ℕ → List ℕ
frame_text bytes =
    hex_of (get_or bytes 3 0)
    ++ (hex_of (get_or bytes 2 0)
    ++ (hex_of (get_or bytes 1 0) ++ (hex_of (get_or bytes 0 0) ++ (quoted "#" ++ hexes_of (take 8 (drop 5 bytes))))))

-- the line of such a frame, that a tick has sent
unfoldable pub sent_line : ℕ → List ℕ → List ℕ
sent_line tick bytes = time_text tick ++ (quoted " can0 " ++ (frame_text bytes ++ quoted "\n"))

-- the lines of so many frames, 13 bytes each, one after the other
unfoldable pub sent_lines : ℕ → ℕ → List ℕ → List ℕ
sent_lines tick zero bytes = []
sent_lines tick (suc n) bytes = sent_line tick bytes ++ sent_lines tick n (drop 13 bytes)

-- the lines of the frames that stand whole in the bytes
unfoldable pub sent_text : ℕ → List ℕ → List ℕ
sent_text tick bytes = sent_lines tick (length bytes / 13) bytes
