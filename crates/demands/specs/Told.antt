-- Demand 3 of the calls that were made: what they tell of an open session and where it ends, and what they tell beside
-- it. All is read off the steps of a run: the numbers answered, the frames as they stand in the buffers, and the
-- controllers that the answers hold. The session's record is the controller's `session`: its station, silence, count
-- and state, with the state's own marks (yes or no and the station's maximum in Ready, the phase in Charging,
-- acknowledged and the EST bytes in Stopping). For `undisturbed` and `unmoved`.
use Rattle.std.specs.Prelude.{ℕ, ◌+◌, Bool, true, false, cond, ◌||◌, List, [], ◌∷◌, ◌++◌}
use Rattle.frames.specs.declared.Frame.{Frame}
use Rattle.settings.specs.Read.{read_of}
use Rattle.session.specs.declared.Session.{Session}
use Rattle.session.specs.Session.{idle_session}
use Rattle.demands.specs.Machine.{Call, Read, Receive, Tick, Write, Box, NoController, Using, Seen, number_seen, frames_seen}
use Rattle.demands.specs.Steps.{Step}
use Rattle.demands.specs.FrameKinds.{is_charge_frame, is_broadcast, is_cell_frame, only}
use Rattle.demands.specs.After.{is_read, no_session, is_charge}
use Rattle.demands.specs.Apart.{from_station, reaches, Moment, AfterFrame, AfterTick, AfterRecord}
use Rattle.demands.specs.Unmoved.{Output, NumberGiven, FramesSent}

-- no session: of no controller, and of one in Idle
unfoldable pub is_over : Box → Bool
is_over NoController = true
is_over (Using c) = no_session c

-- the session's record
unfoldable pub session_in : Box → Session
session_in NoController = idle_session
session_in (Using c) = c.session

-- what a call tells of a session with the station `st`: of a frame of its station that is no query the number answered,
-- of a tick the number and the charge frames, as they stand in the buffer, and of both the session's record after it;
-- of a settings record that is accepted, that it was; of all else nothing
unfoldable pub moment_of : ℕ → Call → Seen → Session → List Moment
moment_of st (Receive id s) seen later = cond (from_station st id) (AfterFrame (number_seen seen) later ∷ []) []
moment_of st (Tick r v t old) seen later =
    AfterTick (number_seen seen) (only is_charge_frame (frames_seen seen)) later ∷ []
moment_of st (Write old) seen later = []
moment_of st (Read s) seen later = cond (is_read (read_of s)) (AfterRecord ∷ []) []

abbrev pub moment_at : ℕ → Step → List Moment
moment_at st x = moment_of st x.call x.seen (session_in x.after)

-- all that is told of it, up to and with what ends it
unfoldable pub life_in : ℕ → List Step → List Moment
life_in st [] = []
life_in st (x ∷ xs) = moment_at st x ++ cond (is_over x.after) [] (life_in st xs)

-- the place of the end: that it never ends, or that it ends with the n-th call that it can hear: a tick, a frame of its
-- station that is no query, a settings record that is accepted
pub data Place : Type 0 where
  Never : Place
  With : ℕ → Place

unfoldable pub further : ℕ → Place → Place
further n Never = Never
further n (With k) = With (n + k)

unfoldable pub place_of_end : ℕ → List Step → Place
place_of_end st [] = Never
place_of_end st (x ∷ xs) =
    further (cond (reaches st x.call) 1 0) (cond (is_over x.after) (With 0) (place_of_end st xs))

-- there is no session after some call
unfoldable pub ends_in : List Step → Bool
ends_in [] = false
ends_in (x ∷ xs) = is_over x.after || ends_in xs

-- a broadcast or a cell frame
abbrev pub is_beside : Frame → Bool
is_beside f = is_broadcast f || is_cell_frame f

-- what a call tells beside the session: of a frame that is no charge message, so of each query, the number answered; of
-- a tick the number, and the broadcasts and the cell frame in their order in the buffer, wherever they stand there
unfoldable pub output_of : Call → Seen → List Output
output_of (Receive id s) seen = cond (is_charge id) [] (NumberGiven (number_seen seen) ∷ [])
output_of (Tick r v t old) seen = FramesSent (number_seen seen) (only is_beside (frames_seen seen)) ∷ []
output_of (Write old) seen = []
output_of (Read s) seen = []

unfoldable pub outputs_in : List Step → List Output
outputs_in [] = []
outputs_in (x ∷ xs) = output_of x.call x.seen ++ outputs_in xs
