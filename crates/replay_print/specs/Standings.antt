-- The line of a session's standing (docs/REPLAY.md, "Output"): `state NAME` or `state NAME STATION`.
use Rattle.std.specs.Prelude.{ℕ, ◌+◌, ◌-◌, Bool, true, false, cond, ◌&&◌, List, [], ◌∷◌, ◌++◌, eqb, get_or}
use Rattle.session_states.specs.declared.states.State.{State}
use Rattle.session_states.specs.declared.states.State.TheVariants as state
use Rattle.replay_print.specs.declared.standings.Name.{Name}
use Rattle.replay_print.specs.declared.standings.Name.TheVariants as name
use Rattle.replay_print.specs.declared.standings.Standing.{Standing}
use Rattle.replay_print.specs.declared.standings.Standing.TheVariants.{Idle, In}
use Rattle.replay_print.specs.Quoted.{quoted}
use Rattle.replay_print.specs.Text.{hex_of}

-- the states' names
abbrev pub name_text : Name → List ℕ
name_text name.Offered = quoted "Offered"
name_text name.Unverified = quoted "Unverified"
name_text name.Parameters = quoted "Parameters"
name_text name.Ready = quoted "Ready"
name_text name.Charging = quoted "Charging"
name_text name.Stopping = quoted "Stopping"
name_text (name.Error past) = quoted "Error"

-- a session's state and station; in Idle it has no station
unfoldable pub standing_of : State → ℕ → Standing
standing_of state.Idle station = Idle
standing_of state.Offered station = In name.Offered station
standing_of state.Unverified station = In name.Unverified station
standing_of state.Parameters station = In name.Parameters station
standing_of (state.Ready accepted maximum) station = In name.Ready station
standing_of (state.Charging p) station = In name.Charging station
standing_of (state.Stopping acknowledged est) station = In name.Stopping station
standing_of state.Error station = In (name.Error 0) station

-- the same by a number: the states in this order, from 0 on, and 7 is Error. Each number past it, which no state has,
-- is an Error of its own
unfoldable pub standing_numbered : ℕ → ℕ → Standing
standing_numbered n station =
    get_or
    (Idle
    ∷ In name.Offered station
    ∷ In name.Unverified station
    ∷ In name.Parameters station
    ∷ In name.Ready station
    ∷ In name.Charging station
    ∷ In name.Stopping station
    ∷ [])
    n
    (In (name.Error (n - 7)) station)

-- a state's name and, unless it is Idle, the station's address as two hex digits
unfoldable pub standing_text : Standing → List ℕ
standing_text Idle = quoted "Idle"
standing_text (In name station) = name_text name ++ (quoted " " ++ hex_of station)

-- `state NAME` or `state NAME STATION`
unfoldable pub standing_line : Standing → List ℕ
standing_line x = quoted "state " ++ (standing_text x ++ quoted "\n")

-- the number of a name, by which two are told apart
abbrev pub name_number : Name → ℕ
name_number name.Offered = 1
name_number name.Unverified = 2
name_number name.Parameters = 3
name_number name.Ready = 4
name_number name.Charging = 5
name_number name.Stopping = 6
name_number (name.Error past) = 7 + past

-- two standings of which the second need not be printed after the first: one state and, unless it is Idle, one station
unfoldable pub same_standing : Standing → Standing → Bool
same_standing Idle Idle = true
same_standing Idle (In b y) = false
same_standing (In a x) Idle = false
same_standing (In a x) (In b y) = eqb (name_number a) (name_number b) && eqb x y

-- the line of a standing, where it is not what it was before
unfoldable pub changed_text : Standing → Standing → List ℕ
changed_text now before = cond (same_standing now before) [] (standing_line now)
