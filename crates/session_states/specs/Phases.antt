-- The phases of a charge (01, "Session by tick"). A phase's time is the ticks that it has had, so its first tick has
-- time 0. A request R is in tenths of an ampere.
use Rattle.std.specs.Prelude.{ℕ, ◌+◌, Bool, cond, leb, ltb}
use Rattle.std.specs.declared.ops.ControlFlow.{ControlFlow}
use Rattle.session_states.specs.declared.phases.Cause.{Cause}
use Rattle.std.specs.declared.ops.ControlFlow.TheVariants.{Continue, Break}
use Rattle.units.specs.declared.TenthAmps.{TenthAmps}
use Rattle.units.specs.Units.{lesser_amps, halved_amps}
use Rattle.session_states.specs.declared.phases.Phase.{Phase}
use Rattle.session_states.specs.declared.phases.Phase.TheVariants.{Drive, Rest, Hold}
use Rattle.session_states.specs.declared.phases.Cause.TheVariants.{HoldCell, Other}
use Rattle.session_states.specs.Limits.{drive_limit, rest_limit, hold_limit, least_request, most_drives}
use Rattle.session_states.specs.Counts.{next_up_to}

-- R is under 60
abbrev pub too_small : TenthAmps → Bool
too_small request = ltb request.0 least_request

-- Start: request R is the smaller of maximum current and the station's maximum. Where R is under 60, Hold starts
-- instead
unfoldable pub start_phase : TenthAmps → TenthAmps → Phase
start_phase maximum station =
    cond (too_small (lesser_amps maximum station)) (Hold 0) (Drive (lesser_amps maximum station) 1 0)

-- What a tick makes of a phase: the charge goes on in a phase (Continue), or stops for a cause (Break). Drive asks R for
-- up to 18000 ticks; the next one stops. A cell at or above maximum turns Drive to Rest. A phase's time limit comes before
-- its cell rule
unfoldable pub drive_rules : TenthAmps → ℕ → ℕ → Bool → ControlFlow Cause Phase
drive_rules request cycle time cell =
    cond (leb drive_limit time) (Break Other) (cond cell (Continue (Rest request cycle 0)) (Continue (Drive request cycle time)))

-- Hold: constant voltage for 18000 ticks, then stop; a cell at or above maximum in Hold stops too
unfoldable pub hold_rules : ℕ → Bool → ControlFlow Cause Phase
hold_rules time cell = cond (leb hold_limit time) (Break Other) (cond cell (Break HoldCell) (Continue (Hold time)))

-- After Rest R is halved rounding down. Where R is under 60 or six Drives are done (no seventh Drive starts), Hold
-- starts instead. A phase's rules apply from its first tick
unfoldable pub after_rest : TenthAmps → ℕ → Bool → ControlFlow Cause Phase
after_rest request cycle cell =
    cond (too_small (halved_amps request)) (hold_rules 0 cell)
    (cond (leb most_drives cycle) (hold_rules 0 cell) (drive_rules (halved_amps request) (cycle + 1) 0 cell))

-- Rest: 0 A for 6000 ticks
unfoldable pub phase_after : Phase → Bool → ControlFlow Cause Phase
phase_after (Drive request cycle time) cell = drive_rules request cycle time cell
phase_after (Rest request cycle time) cell =
    cond (leb rest_limit time) (after_rest request cycle cell) (Continue (Rest request cycle time))
phase_after (Hold time) cell = hold_rules time cell

-- a phase one tick older: its time stays at the limit that ends it
unfoldable pub aged_of : Phase → Phase
aged_of (Drive request cycle time) = Drive request cycle (next_up_to drive_limit time)
aged_of (Rest request cycle time) = Rest request cycle (next_up_to rest_limit time)
aged_of (Hold time) = Hold (next_up_to hold_limit time)
