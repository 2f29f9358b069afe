-- A session (01, "Session by message"): made, and with one part changed. A helper a field, so that a new field is added
-- here and nowhere else.
use Rattle.std.specs.Prelude.{ℕ}
use Rattle.session_states.specs.declared.states.State.{State}
use Rattle.session_states.specs.declared.states.State.TheVariants.{Idle, Offered}
use Rattle.session.specs.declared.Session.{Session}

-- Idle: no session
abbrev pub idle_session : Session
idle_session = record { station = 0; silence = 0; count = 0; state = Idle }

abbrev pub with_station : Session → ℕ → Session
with_station s n = record { station = n; silence = s.silence; count = s.count; state = s.state }

abbrev pub with_silence : Session → ℕ → Session
with_silence s n = record { station = s.station; silence = n; count = s.count; state = s.state }

abbrev pub with_count : Session → ℕ → Session
with_count s n = record { station = s.station; silence = s.silence; count = n; state = s.state }

abbrev pub with_state : Session → State → Session
with_state s st = record { station = s.station; silence = s.silence; count = s.count; state = st }

-- a state begins: its count is 0, and so is silence
abbrev pub begun : Session → State → Session
begun s st = with_state (with_count (with_silence s 0) 0) st

-- a session just opened with a station
abbrev pub opened : ℕ → Session
opened source = begun (with_station idle_session source) Offered
