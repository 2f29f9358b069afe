-- "Exactly which tick ends or stops a session, and why": what a tick makes of each state, by the first of the paper's
-- rules that holds (01, "Session by tick"). For `what_a_tick_does`, `what_a_refused_tick_does` and
-- `what_a_tick_does_in_idle`, and for `which_tick_ends_a_session` and `which_tick_ends_a_charge`.
use Rattle.std.specs.Prelude.{ℕ, ◌≡◌, Bool, true, false, cond, ◌&&◌, ◌||◌, leb}
use Rattle.std.specs.declared.ops.ControlFlow.{ControlFlow}
use Rattle.std.specs.declared.ops.ControlFlow.TheVariants.{Continue, Break}
use Rattle.units.specs.Units.{halved_amps}
use Rattle.settings.specs.declared.Settings.{Settings}
use Rattle.readings.specs.declared.Readings.{Readings}
use Rattle.readings.specs.Readings.{wanted_of}
use Rattle.cells.specs.declared.Cells.{Cells}
use Rattle.session_states.specs.declared.phases.Phase.{Phase}
use Rattle.session_states.specs.declared.phases.Phase.TheVariants.{Drive, Rest, Hold}
use Rattle.session_states.specs.declared.phases.Cause.{Cause}
use Rattle.session_states.specs.declared.phases.Cause.TheVariants.{PackVoltage, HoldCell, Other}
use Rattle.session_states.specs.Phases.{too_small, phase_after}
use Rattle.session_states.specs.declared.states.State.{State}
use Rattle.session_states.specs.declared.states.State.TheVariants.{Idle, Offered, Unverified, Parameters, Ready, Charging, Stopping, Error}
use Rattle.session_by_tick.specs.Turns.{cell_full, pack_full, current_above, est_of, est_then}
use Rattle.session.specs.declared.Session.{Session}
use Rattle.session_paper_counts.specs.Literal.{older}
use Rattle.session_states.specs.Limits.{silence_limit, closing_limit, drive_limit, rest_limit, hold_limit, most_drives}

-- the rule that holds, or that none does
pub data Why : Type 0 where
  GoesOn : Why
  -- Offered to Charging: silence 200 enters Error
  AtSilenceLimit : Why
  -- Offered to Ready: charge is not wanted
  NotWantedBefore : Why
  -- Charging: charge is not wanted; current above maximum; pack voltage at or above maximum; a Drive or a Hold has had
  -- its time; a cell at or above maximum in Hold
  NotWantedCharging : Why
  CurrentAbove : Why
  PackFull : Why
  TimeUp : Why
  CellFull : Why
  -- Stopping and Error end at count 600
  AtClosingLimit : Why

-- a Drive or a Hold has had its 18000 ticks
unfoldable pub time_up : Phase → Bool
time_up (Drive request cycle time) = leb drive_limit time
time_up (Rest request cycle time) = false
time_up (Hold time) = leb hold_limit time

-- the tick is one of Hold: Hold goes on, or a Rest has had its 6000 ticks and Hold follows, its half being under 60 or
-- six Drives done
unfoldable pub in_hold : Phase → Bool
in_hold (Drive request cycle time) = false
in_hold (Rest request cycle time) = leb rest_limit time && (too_small (halved_amps request) || leb most_drives cycle)
in_hold (Hold time) = true

module _ (x : Settings) (r : Readings) (c : Cells) where
  abbrev pub why_waiting : ℕ → Why
  why_waiting silence = cond (leb silence_limit silence) AtSilenceLimit (cond (wanted_of r) GoesOn NotWantedBefore)

  abbrev pub why_charging : ℕ → Phase → Why
  why_charging silence p =
      cond (leb silence_limit silence) AtSilenceLimit
      (cond (wanted_of r)
      (cond (current_above x r) CurrentAbove
      (cond (pack_full x r) PackFull (cond (time_up p) TimeUp (cond (in_hold p && cell_full x c) CellFull GoesOn))))
      NotWantedCharging)

  abbrev pub why_closing : ℕ → Why
  why_closing count = cond (leb closing_limit count) AtClosingLimit GoesOn

  unfoldable pub why_in : ℕ → ℕ → State → Why
  why_in count silence Idle = GoesOn
  why_in count silence Offered = why_waiting silence
  why_in count silence Unverified = why_waiting silence
  why_in count silence Parameters = why_waiting silence
  why_in count silence (Ready accepted maximum) = why_waiting silence
  why_in count silence (Charging p) = why_charging silence p
  why_in count silence (Stopping acknowledged est) = why_closing count
  why_in count silence Error = why_closing count

  unfoldable pub why_of : Session → Why
  why_of s = why_in s.count s.silence s.state

  -- Charging goes on in the phase that the phase's own rules lead to, one tick older
  unfoldable pub ChargesAs : ControlFlow Cause Phase → State → Type 0
  ChargesAs (Continue p) to = to ≡ Charging (older p)
  ChargesAs (Break cause) to = ⊥

  -- where no rule holds the state is as it was, but that Charging goes on by its phase, and Stopping has its EST bytes
  -- fixed by now
  unfoldable pub GoesOnAs : State → State → Type 0
  GoesOnAs Idle to = to ≡ Idle
  GoesOnAs Offered to = to ≡ Offered
  GoesOnAs Unverified to = to ≡ Unverified
  GoesOnAs Parameters to = to ≡ Parameters
  GoesOnAs (Ready accepted maximum) to = to ≡ Ready accepted maximum
  GoesOnAs (Charging p) to = ChargesAs (phase_after p (cell_full x c)) to
  GoesOnAs (Stopping acknowledged est) to = to ≡ Stopping acknowledged (est_then x r c est)
  GoesOnAs Error to = to ≡ Error

  -- Stopping, not acknowledged, with its EST bytes by the cause
  abbrev pub stopped_for : Cause → State
  stopped_for cause = Stopping false (est_of x r c cause)

  -- the state that each leads to
  unfoldable pub LeadsTo : State → Why → State → Type 0
  LeadsTo from GoesOn to = GoesOnAs from to
  LeadsTo from AtSilenceLimit to = to ≡ Error
  LeadsTo from NotWantedBefore to = to ≡ Idle
  LeadsTo from NotWantedCharging to = to ≡ stopped_for Other
  LeadsTo from CurrentAbove to = to ≡ stopped_for Other
  LeadsTo from PackFull to = to ≡ stopped_for PackVoltage
  LeadsTo from TimeUp to = to ≡ stopped_for Other
  LeadsTo from CellFull to = to ≡ stopped_for HoldCell
  LeadsTo from AtClosingLimit to = to ≡ Idle

-- which of them end a session
unfoldable pub ends_for : Why → Bool
ends_for GoesOn = false
ends_for AtSilenceLimit = false
ends_for NotWantedBefore = true
ends_for NotWantedCharging = false
ends_for CurrentAbove = false
ends_for PackFull = false
ends_for TimeUp = false
ends_for CellFull = false
ends_for AtClosingLimit = true

-- which take a session out of Charging, to Error or to Stopping; the two that end a session are of other states, and
-- leave theirs
unfoldable pub leaves_for : Why → Bool
leaves_for GoesOn = false
leaves_for AtSilenceLimit = true
leaves_for NotWantedBefore = true
leaves_for NotWantedCharging = true
leaves_for CurrentAbove = true
leaves_for PackFull = true
leaves_for TimeUp = true
leaves_for CellFull = true
leaves_for AtClosingLimit = true
