-- How large the counts of the code's session are.
use Rattle.std.specs.Prelude.{ℕ, ◌≤◌}
use Rattle.session_states.specs.declared.phases.Phase.{Phase}
use Rattle.session_states.specs.declared.phases.Phase.TheVariants.{Drive, Rest, Hold}
use Rattle.session_states.specs.declared.states.State.{State}
use Rattle.session_states.specs.declared.states.State.TheVariants.{Idle, Offered, Unverified, Parameters, Ready, Charging, Stopping, Error}
use Rattle.session_states.specs.Limits.{silence_limit, closing_limit, drive_limit, most_drives}
use Rattle.session.specs.declared.Session.{Session}

-- the ticks that the phase has had
unfoldable pub phase_time : Phase → ℕ
phase_time (Drive request cycle time) = time
phase_time (Rest request cycle time) = time
phase_time (Hold time) = time

-- the Drives that have begun, of a Drive or the Rest that follows it (a Hold keeps no number)
unfoldable pub phase_cycle : Phase → ℕ
phase_cycle (Drive request cycle time) = cycle
phase_cycle (Rest request cycle time) = cycle
phase_cycle (Hold time) = 0

-- a state without a phase has neither
unfoldable pub in_phase : (Phase → ℕ) → State → ℕ
in_phase f Idle = 0
in_phase f Offered = 0
in_phase f Unverified = 0
in_phase f Parameters = 0
in_phase f (Ready accepted maximum) = 0
in_phase f (Charging p) = f p
in_phase f (Stopping acknowledged est) = 0
in_phase f Error = 0

pub record Small (s : Session) : Type 0 where
  pub count_small : s.count ≤ closing_limit
  pub silence_small : s.silence ≤ silence_limit
  pub time_small : in_phase phase_time s.state ≤ drive_limit
  pub cycle_small : in_phase phase_cycle s.state ≤ most_drives
