-- The lines of numbers answered (docs/REPLAY.md, "Output").
use Rattle.std.specs.Prelude.{ℕ, cond, List, ◌++◌, eqb, take}
use Rattle.replay_print.specs.Quoted.{quoted}
use Rattle.replay_print.specs.Text.{decimal_of, hexes_of}

-- a word with a space after it, a number and the end of the line
unfoldable pub numbered_line : List ℕ → ℕ → List ℕ
numbered_line word n = word ++ (decimal_of n ++ quoted "\n")

-- `settings N`
abbrev pub settings_line : ℕ → List ℕ
settings_line n = numbered_line (quoted "settings ") n

-- `frame N`
abbrev pub frame_line : ℕ → List ℕ
frame_line n = numbered_line (quoted "frame ") n

-- `tick N`
abbrev pub tick_line : ℕ → List ℕ
tick_line n = numbered_line (quoted "tick ") n

-- `unreadable line N`
abbrev pub unreadable_line : ℕ → List ℕ
unreadable_line n = numbered_line (quoted "unreadable line ") n

-- `no controller`
abbrev pub no_controller_line : List ℕ
no_controller_line = quoted "no controller\n"

-- the bytes written: in hex, or `-` for none
unfoldable pub written_text : ℕ → List ℕ → List ℕ
written_text n buf = cond (eqb n 0) (quoted "-") (hexes_of (take n buf))

-- `write N LENGTH HEX`: the number, how many bytes were written, and these, the first ones of the buffer
unfoldable pub write_line : ℕ → ℕ → List ℕ → List ℕ
write_line number n buf =
    quoted "write "
    ++ (decimal_of number ++ (quoted " " ++ (decimal_of n ++ (quoted " " ++ (written_text n buf ++ quoted "\n")))))
