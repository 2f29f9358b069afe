-- What a current is as it is sent. Assumes nothing.
use Prim.Native.Nat.{zero, suc}
use mathlib.Core.Path.{◌≡◌, refl}
use mathlib.Core.Bool.{true}
use borrow.Author.Tests.{leb-true, le-ltb}
use lib.IntN.{ℤ, pos, negsuc, ◌-ℤ◌}
use Rattle.readings.specs.Readings.{current_ok, raw_of}

-- a current in range is sent as 4000 minus it
pub raw_is : (c : ℤ) → current_ok c ≡ true → pos (raw_of c) ≡ pos 4000 -ℤ c
unfolding current_ok raw_of
raw_is (pos zero) h = refl
raw_is (pos (suc n)) h = rw (le-ltb 4000 (suc n) (leb-true (suc n) 4000 h))
raw_is (negsuc n) h = refl
