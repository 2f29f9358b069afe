-- The figures of the two tables by name, each with its unit (01, "Broadcasts and cell answers", and the layouts of
-- "Session by tick").
use Rattle.std.specs.Prelude.{ℕ}
use Rattle.units.specs.declared.HundredthVolts.{HundredthVolts}
use Rattle.units.specs.declared.SentDegrees.{SentDegrees}
use Rattle.units.specs.Units.{hundredth_volts, sent_degrees}
use Rattle.cells.specs.declared.Summary.{Summary}
use Rattle.cells.specs.Summaries.{average_of}

-- how many cells there are
abbrev pub cell_count : Summary HundredthVolts → ℕ
cell_count v = v.count

abbrev pub highest_voltage : Summary HundredthVolts → HundredthVolts
highest_voltage v = v.highest.value

abbrev pub highest_voltage_index : Summary HundredthVolts → ℕ
highest_voltage_index v = v.highest.index

abbrev pub lowest_voltage : Summary HundredthVolts → HundredthVolts
lowest_voltage v = v.lowest.value

abbrev pub lowest_voltage_index : Summary HundredthVolts → ℕ
lowest_voltage_index v = v.lowest.index

abbrev pub average_voltage : Summary HundredthVolts → HundredthVolts
average_voltage v = hundredth_volts (average_of v)

abbrev pub highest_temperature : Summary SentDegrees → SentDegrees
highest_temperature t = t.highest.value

abbrev pub highest_temperature_index : Summary SentDegrees → ℕ
highest_temperature_index t = t.highest.index

abbrev pub lowest_temperature : Summary SentDegrees → SentDegrees
lowest_temperature t = t.lowest.value

abbrev pub lowest_temperature_index : Summary SentDegrees → ℕ
lowest_temperature_index t = t.lowest.index

-- "average of the sent bytes rounded down"
abbrev pub average_temperature : Summary SentDegrees → SentDegrees
average_temperature t = sent_degrees (average_of t)
