-- Rows of 01, "Worked rows", marked P, that are about a broadcast. Assumes nothing.
use mathlib.Core.Path.{◌≡◌, refl}
use mathlib.Core.Bool.{Bool}
use Rattle.messages.specs.Identifier.{number_of}
use Rattle.readings.specs.declared.Readings.{Readings}
use Rattle.cells.specs.declared.Cells.{Cells}
use Rattle.broadcasts.specs.Layouts.{ps_of}

-- PS is 1CFA20F4
pub ps_identifier : (heartbeat : Bool) (r : Readings) (c : Cells) → (ps_of 0xf4 heartbeat r c).id ≡ 0x1cfa_20f4
unfolding ps_of number_of
ps_identifier heartbeat r c = refl
