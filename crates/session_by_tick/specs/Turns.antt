-- What a tick makes of a state: 01, "Session by tick". State changes come first, then the frames of the resulting
-- state.
use Rattle.std.specs.Prelude.{ℕ, ◌+◌, Bool, true, false, cond, eqb, leb}
use Rattle.std.specs.Prelude.{Option, Some, None}
use Rattle.std.specs.declared.ops.ControlFlow.{ControlFlow}
use Rattle.std.specs.declared.ops.ControlFlow.TheVariants.{Continue, Break}
use Rattle.settings.specs.declared.Settings.{Settings}
use Rattle.readings.specs.declared.Readings.{Readings}
use Rattle.readings.specs.Readings.{wanted_of, above_of}
use Rattle.cells.specs.declared.Cells.{Cells}
use Rattle.cells.specs.Figures.{highest_voltage}
use Rattle.session_states.specs.declared.phases.Phase.{Phase}
use Rattle.session_states.specs.declared.phases.Cause.{Cause}
use Rattle.session_states.specs.declared.phases.Cause.TheVariants.{PackVoltage, HoldCell, Other}
use Rattle.session_states.specs.Limits.{silence_limit, closing_limit}
use Rattle.session_states.specs.Phases.{phase_after}
use Rattle.session_states.specs.declared.states.Est.{Est}
use Rattle.session_states.specs.declared.states.State.{State}
use Rattle.session_states.specs.declared.states.State.TheVariants.{Idle, Offered, Unverified, Parameters, Ready, Charging, Stopping, Error}
use Rattle.session_by_tick.specs.declared.Turn.{Turn}
use Rattle.session_by_tick.specs.declared.Turn.TheVariants.{On, Enter, Farewell, End}

-- highest cell at or above maximum
unfoldable pub cell_full : Settings → Cells → Bool
cell_full x c = leb x.limits.cell.0 (highest_voltage c.volts).0

-- pack voltage at or above maximum
unfoldable pub pack_full : Settings → Readings → Bool
pack_full x r = leb x.limits.pack.0 r.pack.0

-- current above maximum
unfoldable pub current_above : Settings → Readings → Bool
current_above x r = above_of r.current x.limits.current

-- the cause is neither pack voltage nor a cell in Hold
unfoldable pub is_other : Cause → Bool
is_other PackVoltage = false
is_other HoldCell = false
is_other Other = true

-- EST byte 1 sums 01 for SOC 100, 04 pack voltage at or above maximum, 10 highest cell at or above maximum, 40 where
-- the cause is neither pack voltage nor a cell in Hold
unfoldable pub est_first : Settings → Readings → Cells → Cause → ℕ
est_first x r c cause =
    cond (eqb r.soc 100) 0x01 0
    + cond (pack_full x r) 0x04 0
    + cond (cell_full x c) 0x10 0
    + cond (is_other cause) 0x40 0

-- byte 2 is 01 if current is above maximum, else 00
unfoldable pub est_second : Settings → Readings → ℕ
est_second x r = cond (current_above x r) 0x01 0

-- bytes 1 and 2, fixed by this tick's readings and the cause
unfoldable pub est_of : Settings → Readings → Cells → Cause → Option Est
est_of x r c cause = Some (record { first = est_first x r c cause; second = est_second x r })

-- Stopping begins: this is its first tick, and it is not acknowledged
unfoldable pub stop_of : Settings → Readings → Cells → Cause → Turn
stop_of x r c cause = Enter (Stopping false (est_of x r c cause))

-- Offered to Ready, in order: silence 200 enters Error; not wanted before Charging sends one EIM 00 and ends to Idle
unfoldable pub waiting_of : Readings → ℕ → State → Turn
waiting_of r silence st = cond (leb silence_limit silence) (Enter Error) (cond (wanted_of r) (On st) Farewell)

-- by phase
unfoldable pub phase_on : Settings → Readings → Cells → ControlFlow Cause Phase → Turn
phase_on x r c (Continue p) = On (Charging p)
phase_on x r c (Break cause) = stop_of x r c cause

unfoldable pub phase_turn : Settings → Readings → Cells → Phase → Turn
phase_turn x r c p = phase_on x r c (phase_after p (cell_full x c))

-- Charging then stops on current above maximum, then on pack voltage at or above maximum, then by phase
unfoldable pub stops_of : Settings → Readings → Cells → Phase → Turn
stops_of x r c p =
    cond (current_above x r) (stop_of x r c Other)
    (cond (pack_full x r) (stop_of x r c PackVoltage) (phase_turn x r c p))

-- Charging, in order: silence 200 enters Error; not wanted in Charging enters Stopping
unfoldable pub charging_of : Settings → Readings → Cells → ℕ → Phase → Turn
charging_of x r c silence p =
    cond (leb silence_limit silence) (Enter Error) (cond (wanted_of r) (stops_of x r c p) (stop_of x r c Other))

-- EST bytes 1 and 2 are fixed at Stopping's first tick: where a message entered it, the cause is neither pack voltage
-- nor a cell
unfoldable pub est_then : Settings → Readings → Cells → Option Est → Option Est
est_then x r c None = est_of x r c Other
est_then x r c (Some bytes) = Some bytes

-- Stopping and Error end to Idle at count 600
unfoldable pub stopping_of : Settings → Readings → Cells → ℕ → Bool → Option Est → Turn
stopping_of x r c count acknowledged est =
    cond (leb closing_limit count) End (On (Stopping acknowledged (est_then x r c est)))

unfoldable pub error_of : ℕ → Turn
error_of count = cond (leb closing_limit count) End (On Error)

unfoldable pub turn_of : Settings → Readings → Cells → State → ℕ → ℕ → Turn
turn_of x r c Idle count silence = On Idle
turn_of x r c Offered count silence = waiting_of r silence Offered
turn_of x r c Unverified count silence = waiting_of r silence Unverified
turn_of x r c Parameters count silence = waiting_of r silence Parameters
turn_of x r c (Ready accepted maximum) count silence = waiting_of r silence (Ready accepted maximum)
turn_of x r c (Charging p) count silence = charging_of x r c silence p
turn_of x r c (Stopping acknowledged est) count silence = stopping_of x r c count acknowledged est
turn_of x r c Error count silence = error_of count
