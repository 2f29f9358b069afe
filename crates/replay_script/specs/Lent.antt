-- What each tick is lent (docs/REPLAY.md, "Input"). At the start: readings `1 192 50 0 3000 1000 0 0 0 0`, voltages
-- `330`, temperatures `70`, buffer `117`.
use Rattle.std.specs.Prelude.{ℕ, List, ◌∷◌, ℤ, pos, replicate}
use Rattle.readings.specs.declared.Readings.{Readings}
use Rattle.replay_script.specs.declared.Asked.{Asked}
use Rattle.replay_script.specs.declared.Asked.TheVariants as asked
use Rattle.replay_script.specs.declared.lent.Lent.{Lent}

abbrev pub first_readings : Readings
first_readings =
    record {
      one = 1;
      two = 192;
      soc = 50;
      current = pos 0;
      pack = record { 0 = 3000 };
      capacity = 1000;
      faults = record { active = 0; latched = 0 };
      warnings = record { active = 0; latched = 0 };
    }

-- one voltage, one temperature, a buffer of 117
abbrev pub first_lent : Lent
first_lent = record { readings = first_readings; volts = 1; temps = 1; room = 117 }

-- the tables at the start
abbrev pub first_voltages : List ℕ
first_voltages = 330 ∷ replicate 511 0

abbrev pub first_temperatures : List ℤ
first_temperatures = pos 70 ∷ replicate 511 (pos 0)

-- what ticks are lent after a line: most lines set nothing of it
unfoldable pub lent_after : Lent → Asked → Lent
lent_after l asked.Nothing = l
lent_after l (asked.Settings n) = l
lent_after l (asked.Readings x) = record { readings = x; volts = l.volts; temps = l.temps; room = l.room }
lent_after l (asked.Voltages n) = record { readings = l.readings; volts = n; temps = l.temps; room = l.room }
lent_after l (asked.Temperatures n) = record { readings = l.readings; volts = l.volts; temps = n; room = l.room }
lent_after l (asked.Buffer n) = record { readings = l.readings; volts = l.volts; temps = l.temps; room = n }
lent_after l (asked.Ticks n) = l
lent_after l (asked.Frame id n) = l
lent_after l (asked.Logged now id n) = l
lent_after l (asked.Write n) = l
