-- The frames of a tick (01, "Session by tick", "Frames"). "Each 5" starts at 0.
use Rattle.std.specs.Prelude.{ℕ, ◌%◌, Bool, true, false, cond, List, [], ◌∷◌, eqb}
use Rattle.std.specs.Prelude.{Option, Some, None}
use Rattle.frames.specs.declared.Frame.{Frame}
use Rattle.settings.specs.declared.Settings.{Settings}
use Rattle.readings.specs.declared.Readings.{Readings}
use Rattle.cells.specs.declared.Cells.{Cells}
use Rattle.session_states.specs.declared.phases.Phase.{Phase}
use Rattle.session_states.specs.declared.states.Est.{Est}
use Rattle.session_states.specs.declared.states.State.{State}
use Rattle.session_states.specs.declared.states.State.TheVariants.{Idle, Offered, Unverified, Parameters, Ready, Charging, Stopping, Error}
use Rattle.session_states.specs.Limits.{first_ecp}
use Rattle.session_by_tick.specs.declared.Turn.{Turn}
use Rattle.session_by_tick.specs.declared.Turn.TheVariants.{On, Enter, Farewell, End}
use Rattle.session_frames.specs.Layouts.{eim_of, evm_of, ecp_of, erm_of, ecr_of, ecs_of, esm_of, est_frame, edm_of, eem_of}
use Rattle.session.specs.declared.ChargeFrames.{ChargeFrames}
use Rattle.session.specs.declared.ChargeFrames.TheVariants.{Nothing, One, Two, Three}
use Rattle.session.specs.declared.Session.{Session}

-- the frames as a list
abbrev pub frame_list : ChargeFrames → List Frame
frame_list Nothing = []
frame_list (One a) = a ∷ []
frame_list (Two a b) = a ∷ b ∷ []
frame_list (Three a b c) = a ∷ b ∷ c ∷ []

unfoldable pub is_fifth : ℕ → Bool
is_fifth count = eqb (count % 5) 0

unfoldable pub each5 : ℕ → List Frame → List Frame
each5 count fs = cond (is_fifth count) fs []

-- Parameters EVM at 0, ECP at 5, 15, 25 and so on
unfoldable pub parameters_frames : Settings → Readings → ℕ → ℕ → List Frame
parameters_frames x r station count =
    cond (eqb count 0) (evm_of x station r true ∷ []) (cond (eqb (count % 10) first_ecp) (ecp_of x station ∷ []) [])

-- Charging ECR each tick, ECS and ESM each 5
unfoldable pub charging_frames : Settings → Readings → Cells → ℕ → ℕ → Phase → List Frame
charging_frames x r c station count p = ecr_of x station c p ∷ each5 count (ecs_of x station r c ∷ esm_of x station c ∷ [])

-- EST with its two fixed bytes: a tick's turn has fixed them before any frame (`turn_fixes_est`, session_by_tick)
unfoldable pub est_bytes : Settings → ℕ → Bool → Option Est → Frame
est_bytes x station acknowledged None = est_frame x station 0 0 acknowledged
est_bytes x station acknowledged (Some bytes) = est_frame x station bytes.first bytes.second acknowledged

-- Stopping EST each tick, EDM each 5
unfoldable pub stopping_frames : Settings → Readings → Cells → ℕ → ℕ → Bool → Option Est → List Frame
stopping_frames x r c station count acknowledged est =
    est_bytes x station acknowledged est ∷ each5 count (edm_of x station r c ∷ [])

-- Offered EIM each 5. Unverified EVM each 5. Ready ERM AA or 00 each 5. Error EEM each 5
unfoldable pub frames_in : Settings → Readings → Cells → ℕ → ℕ → State → List Frame
frames_in x r c station count Idle = []
frames_in x r c station count Offered = each5 count (eim_of x station true ∷ [])
frames_in x r c station count Unverified = each5 count (evm_of x station r false ∷ [])
frames_in x r c station count Parameters = parameters_frames x r station count
frames_in x r c station count (Ready accepted maximum) = each5 count (erm_of x station accepted ∷ [])
frames_in x r c station count (Charging p) = charging_frames x r c station count p
frames_in x r c station count (Stopping acknowledged est) = stopping_frames x r c station count acknowledged est
frames_in x r c station count Error = each5 count (eem_of x station ∷ [])

-- not wanted before Charging sends one EIM 00, to the station that the session was with; else the frames of the
-- resulting state
unfoldable pub frames_of : Settings → Readings → Cells → ℕ → Turn → Session → List Frame
frames_of x r c station (On st) s = frames_in x r c s.station s.count s.state
frames_of x r c station (Enter st) s = frames_in x r c s.station s.count s.state
frames_of x r c station Farewell s = eim_of x station false ∷ []
frames_of x r c station End s = frames_in x r c s.station s.count s.state
