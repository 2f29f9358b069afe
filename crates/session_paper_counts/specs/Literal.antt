-- A tick of the session with its counts as the paper has them (01, "Session by message": "each state has a count, 0 at
-- its first tick"; "Session by tick": "silence grows by one at each such tick"): a state's count and, from Offered to
-- Charging, silence are one more after each tick, however long a state lasts; Idle counts nothing. Messages and frames
-- are those of the code's session: they read the counts and do not move them on.
use Rattle.std.specs.Prelude.{◌+◌}
use Rattle.settings.specs.declared.Settings.{Settings}
use Rattle.readings.specs.declared.Readings.{Readings}
use Rattle.cells.specs.declared.Cells.{Cells}
use Rattle.session_states.specs.declared.phases.Phase.{Phase}
use Rattle.session_states.specs.declared.phases.Phase.TheVariants.{Drive, Rest, Hold}
use Rattle.session_states.specs.declared.states.State.{State}
use Rattle.session_states.specs.declared.states.State.TheVariants.{Idle, Offered, Unverified, Parameters, Ready, Charging, Stopping, Error}
use Rattle.session.specs.declared.Session.{Session}
use Rattle.session.specs.Session.{with_silence, with_count, with_state}
use Rattle.session.specs.Tick.{turned_by, turn_in}

-- a phase one tick older
unfoldable pub older : Phase → Phase
older (Drive request cycle time) = Drive request cycle (time + 1)
older (Rest request cycle time) = Rest request cycle (time + 1)
older (Hold time) = Hold (time + 1)

-- a tick of Offered to Charging: count and silence grow
unfoldable pub grown : Session → State → Session
grown s st = with_state (with_count (with_silence s (s.silence + 1)) (s.count + 1)) st

-- a tick of Stopping or Error: the count grows
unfoldable pub counted : Session → State → Session
counted s st = with_state (with_count s (s.count + 1)) st

unfoldable pub literal_in : Session → State → Session
literal_in s Idle = s
literal_in s Offered = grown s Offered
literal_in s Unverified = grown s Unverified
literal_in s Parameters = grown s Parameters
literal_in s (Ready accepted maximum) = grown s (Ready accepted maximum)
literal_in s (Charging p) = grown s (Charging (older p))
literal_in s (Stopping acknowledged est) = counted s (Stopping acknowledged est)
literal_in s Error = counted s Error

unfoldable pub literal_advance : Session → Session
literal_advance s = literal_in s s.state

-- the state change, then the counts
unfoldable pub literal_tick : Settings → Readings → Cells → Session → Session
literal_tick x r c s = literal_advance (turned_by s (turn_in x r c s))
