-- The current of PS, read back: its two bytes are a word, and that word as two's complement is the current, over all of
-- 16 bits. Assumes nothing.
use Prim.Native.Nat.{ℕ, ◌-◌}
use mathlib.Core.Path.{◌≡◌}
use mathlib.Core.Bool.{Bool, cond}
use native.Mathlib.Omega.{arith}
use borrow.Author.Tests.{lt-ltb, le-ltb}
use lib.Dec.{ltb}
use lib.IntN.{ℤ, pos, negsuc}
use mir.Syntax.{w16}
use mir.Val.{SFits}
use Rattle.buffers.specs.Words.{word_at}
use Rattle.readings.specs.declared.Readings.{Readings}
use Rattle.readings.specs.Readings.{bits_of}
use Rattle.cells.specs.declared.Cells.{Cells}
use Rattle.broadcasts.specs.Layouts.{ps_of}

-- a word as two's complement: below 2^15 it is the number, and from there on the number less 2^16
abbrev pub as_twos_complement : ℕ → ℤ
as_twos_complement word = cond (ltb word 0x8000) (pos word) (negsuc (0xffff - word))

pub bits_read_back : (c : ℤ) → SFits w16 c → as_twos_complement (bits_of c) ≡ c
unfolding bits_of
bits_read_back (pos n) f = let g = f.sfits in rw (lt-ltb n 0x8000 (omega arith))
bits_read_back (negsuc n) f =
    let g = f.sfits in
    let z : 0xffff - (0xffff - n) ≡ n = omega arith in
    rw (le-ltb (0xffff - n) 0x8000 (omega arith), z)

-- the word that stands at the current's place
pub ps_current :
    (own : ℕ) (heartbeat : Bool) (r : Readings) (c : Cells)
    → word_at (ps_of own heartbeat r c).bytes 4 ≡ bits_of r.current
unfolding ps_of
ps_current own heartbeat r c = omega arith
