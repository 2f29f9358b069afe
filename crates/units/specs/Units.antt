-- Units (01, "What the box does": "tenths of a volt and hundredths of a volt are separate units"), and what is made of
-- a value with its unit.
use Rattle.std.specs.Prelude.{ℕ, ◌-◌, ◌*◌, ◌/◌, cond, leb}
use Rattle.units.specs.declared.TenthVolts.{TenthVolts}
use Rattle.units.specs.declared.HundredthVolts.{HundredthVolts}
use Rattle.units.specs.declared.SentDegrees.{SentDegrees}
use Rattle.units.specs.declared.TenthAmps.{TenthAmps}
use Rattle.units.specs.declared.RawAmps.{RawAmps}

-- so many hundredths of a volt, and a temperature that is sent as so many
abbrev pub hundredth_volts : ℕ → HundredthVolts
hundredth_volts n = record { 0 = n }

abbrev pub sent_degrees : ℕ → SentDegrees
sent_degrees n = record { 0 = n }

-- "the smaller of" two
abbrev pub lesser_of : ℕ → ℕ → ℕ
lesser_of a b = cond (leb a b) a b

-- hundredths as tenths, "rounded down": the law `tenths_floor` (proofs/Laws.antt) says so of it
abbrev pub tenths_of : ℕ → ℕ
tenths_of hundredths = hundredths / 10

-- so many cells of one voltage in series, as a pack voltage, and not above the most
abbrev pub in_series : HundredthVolts → ℕ → TenthVolts → TenthVolts
in_series cell cells most = record { 0 = lesser_of (tenths_of (cell.0 * cells)) most.0 }

-- of two currents the smaller
abbrev pub lesser_amps : TenthAmps → TenthAmps → TenthAmps
lesser_amps a b = record { 0 = lesser_of a.0 b.0 }

-- "halved rounding down"
abbrev pub halved_amps : TenthAmps → TenthAmps
halved_amps a = record { 0 = a.0 / 2 }

-- a current of 0 or more as the word of a frame that we send: 4000 minus it (and 0 above 4000, where no limit and no
-- request stands)
abbrev pub raw_amps : TenthAmps → RawAmps
raw_amps a = record { 0 = 4000 - a.0 }
