-- Rows of 01, "Worked rows", marked P, that are about measured currents. Assumes nothing.
use mathlib.Core.Path.{◌≡◌, refl}
use lib.IntN.{pos, negsuc}
use Rattle.readings.specs.Readings.{raw_of}

-- 200.0 A is raw 2000
pub two_hundred : raw_of (pos 2000) ≡ 2000
unfolding raw_of
two_hundred = refl

-- 1.2 A is 3988
pub one_point_two : raw_of (pos 12) ≡ 3988
unfolding raw_of
one_point_two = refl

-- -50.0 A is 4500 (`negsuc 499` is minus 500)
pub minus_fifty : raw_of (negsuc 499) ≡ 4500
unfolding raw_of
minus_fifty = refl
