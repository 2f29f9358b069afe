-- The readings of a tick (01, "Readings").
use Rattle.std.specs.Prelude.{ℕ, ◌-◌, Bool, ◌&&◌, eqb, leb, ℤ, pos, negsuc, nat_abs, ◌-ℤ◌}
use Rattle.std.specs.Int.Bits.{bit_and}
use Rattle.std.specs.Int.Signed.{le_z, lt_z}
use Rattle.units.specs.declared.TenthAmps.{TenthAmps}
use Rattle.readings.specs.declared.Readings.{Readings}

-- current -20000 to 4000 tenths (`negsuc n` is minus n + 1)
unfoldable pub current_ok : ℤ → Bool
current_ok c = le_z (negsuc 19999) c && le_z c (pos 4000)

-- status byte one 0 to 127, SOC 0 to 100, and the current; every other reading may be any
unfoldable pub readings_in_range : Readings → Bool
readings_in_range r = leb r.one 127 && (leb r.soc 100 && current_ok r.current)

-- charge is wanted when status byte two has 80 hex set and 20 hex clear, and active faults has none of bits 8 to 2
-- (mask FE)
unfoldable pub wanted_of : Readings → Bool
wanted_of r =
    eqb (bit_and r.two 0x80) 0x80 && (eqb (bit_and r.two 0x20) 0 && eqb (bit_and r.faults.active 0xfe) 0)

-- a current, positive into the pack, is above a maximum in tenths
unfoldable pub above_of : ℤ → TenthAmps → Bool
above_of c maximum = lt_z (pos maximum.0) c

-- a current in tenths as a raw word: 4000 minus it, with its sign. In range it is at most 4000, so that the number is
-- not below 0 and its absolute value is the number: the law `raw_is` (proofs/Current.antt)
unfoldable pub raw_of : ℤ → ℕ
raw_of c = nat_abs (pos 4000 -ℤ c)

-- a current as two's complement in 16 bits: -(n + 1) is 65536 - (n + 1)
unfoldable pub bits_of : ℤ → ℕ
bits_of (pos n) = n
bits_of (negsuc n) = 65535 - n
