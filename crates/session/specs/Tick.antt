-- What a tick makes of a session (01, "Session by tick"): the state change, the frames of the resulting state, then the
-- counts. The counts here are the code's, which go back where no test of the paper can tell; the crate
-- `session_paper_counts` has them as the paper does, growing for ever, and its `runs_in_step` says that the two give
-- the same numbers and frames and enter the same states.
use Rattle.std.specs.Prelude.{ℕ, List}
use Rattle.frames.specs.declared.Frame.{Frame}
use Rattle.settings.specs.declared.Settings.{Settings}
use Rattle.readings.specs.declared.Readings.{Readings}
use Rattle.cells.specs.declared.Cells.{Cells}
use Rattle.session_states.specs.declared.states.State.{State}
use Rattle.session_states.specs.declared.states.State.TheVariants.{Idle, Offered, Unverified, Parameters, Ready, Charging, Stopping, Error}
use Rattle.session_states.specs.Limits.{silence_limit, closing_limit}
use Rattle.session_states.specs.Counts.{next_each_five, next_ecp, next_up_to}
use Rattle.session_states.specs.Phases.{aged_of}
use Rattle.session_by_tick.specs.declared.Turn.{Turn}
use Rattle.session_by_tick.specs.declared.Turn.TheVariants.{On, Enter, Farewell, End}
use Rattle.session_by_tick.specs.Turns.{turn_of}
use Rattle.session.specs.declared.Session.{Session}
use Rattle.session.specs.Session.{idle_session, with_silence, with_count, with_state, begun}
use Rattle.session.specs.Frames.{frames_of}

-- the session after the state change: a state that goes on keeps its count, a state that begins has count 0
unfoldable pub turned_by : Session → Turn → Session
turned_by s (On st) = with_state s st
turned_by s (Enter st) = begun s st
turned_by s Farewell = idle_session
turned_by s End = idle_session

-- a tick of Offered to Charging: silence grows with the count; 200 enters Error before it could grow on
unfoldable pub waited_of : Session → ℕ → State → Session
waited_of s count st = with_state (with_count (with_silence s (next_up_to silence_limit s.silence)) count) st

-- a tick of Stopping or Error: the count grows, and 600 ends them before it could grow on
unfoldable pub closing_of : Session → State → Session
closing_of s st = with_state (with_count s (next_up_to closing_limit s.count)) st

unfoldable pub advance_in : Session → State → Session
advance_in s Idle = s
advance_in s Offered = waited_of s (next_each_five s.count) Offered
advance_in s Unverified = waited_of s (next_each_five s.count) Unverified
advance_in s Parameters = waited_of s (next_ecp s.count) Parameters
advance_in s (Ready accepted maximum) = waited_of s (next_each_five s.count) (Ready accepted maximum)
advance_in s (Charging p) = waited_of s (next_each_five s.count) (Charging (aged_of p))
advance_in s (Stopping acknowledged est) = closing_of s (Stopping acknowledged est)
advance_in s Error = closing_of s Error

unfoldable pub advance_of : Session → Session
advance_of s = advance_in s s.state

-- the state change of a tick
unfoldable pub turn_in : Settings → Readings → Cells → Session → Turn
turn_in x r c s = turn_of x r c s.state s.count s.silence

-- the next session
unfoldable pub tick_of : Settings → Readings → Cells → Session → Session
tick_of x r c s = advance_of (turned_by s (turn_in x r c s))

-- the frames that the tick sends to the station
unfoldable pub sent_of : Settings → Readings → Cells → Session → List Frame
sent_of x r c s = frames_of x r c s.station (turn_in x r c s) (turned_by s (turn_in x r c s))
