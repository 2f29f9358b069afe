-- Rows of 01, "Worked rows", marked P, that are about frames to the station. Assumes nothing.
use Prim.Native.Nat.{ℕ}
use mathlib.Core.Path.{◌≡◌, refl}
use mathlib.Core.Bool.{Bool}
use lib.IntN.{negsuc}
use Rattle.units.specs.Units.{raw_amps}
use Rattle.buffers.specs.Words.{word_at}
use Rattle.messages.specs.Identifier.{number_of}
use Rattle.settings.specs.declared.Settings.{Settings}
use Rattle.readings.specs.declared.Readings.{Readings}
use Rattle.readings.specs.Readings.{raw_of}
use Rattle.cells.specs.declared.Cells.{Cells}
use Rattle.cells.specs.Figures.{cell_count}
use Rattle.session_frames.specs.Layouts.{hold_voltage, ecs_of, eim_of, eem_of}

-- maximum pack voltage 65535: 48 cells hold at 1704; 3 at 106
module _ (x : Settings) (c : Cells) (pack : x.limits.pack.0 ≡ 65535) where
  pub forty_eight_hold : cell_count c.volts ≡ 48 → (hold_voltage x c).0 ≡ 1704
  unfolding hold_voltage
  forty_eight_hold n = rw (pack, n)

  pub three_hold : cell_count c.volts ≡ 3 → (hold_voltage x c).0 ≡ 106
  unfolding hold_voltage
  three_hold n = rw (pack, n)

-- 200.0 A is raw 2000; 1.2 A is 3988
pub raw_of_2000 : (raw_amps (record { 0 = 2000 })).0 ≡ 2000
raw_of_2000 = refl

pub raw_of_12 : (raw_amps (record { 0 = 12 })).0 ≡ 3988
raw_of_12 = refl

-- -50.0 A is 4500, as ECS sends it (`negsuc 499` is minus 500)
pub ecs_minus_50 :
    (x : Settings) (station : ℕ) (r : Readings) (c : Cells) → r.current ≡ negsuc 499
    → word_at (ecs_of x station r c).bytes 2 ≡ 4500
unfolding ecs_of raw_of
ecs_minus_50 x station r c h = rw h

-- EIM from F4 to 56 is 182756F4, and EEM is 081E56F4
module _ (x : Settings) (own : x.own ≡ 0xf4) where
  pub eim_goes_out : (on : Bool) → (eim_of x 0x56 on).id ≡ 0x1827_56f4
  unfolding eim_of number_of
  eim_goes_out on = rw own

  pub eem_goes_out : (eem_of x 0x56).id ≡ 0x081e_56f4
  unfolding eem_of number_of
  eem_goes_out = rw own
