-- Demand 3, first half: whatever other addresses send, an open session goes as it would without them, up to its end.
-- For `undisturbed` and `unreached`; `life` and `Alike` are of any controller of the machine, for their lemmas.
use Rattle.std.specs.Prelude.{ℕ, Bool, true, false, not, cond, ◌&&◌, List, [], ◌∷◌, ◌++◌, ◌≡◌, eqb, ℤ, length, replicate}
use Rattle.frames.specs.declared.Frame.{Frame}
use Rattle.messages.specs.Identifier.{parts_of}
use Rattle.readings.specs.declared.Readings.{Readings}
use Rattle.settings.specs.Read.{read_of}
use Rattle.session.specs.declared.Session.{Session}
use Rattle.controller.specs.declared.Controller.{Controller}
use Rattle.controller.specs.Frame.{frame_to}
use Rattle.refusals.specs.Tick.{tick_number}
use Rattle.controller.specs.Tick.{charge_frames}
use Rattle.demands.specs.Machine.{Call, Receive, Tick, Write, Read}
use Rattle.demands.specs.After.{accepts, is_read, after, no_session, is_query}

-- a frame that can reach a session with the station `st`: its source part is the station, and it is no cell query
unfoldable pub from_station : ℕ → ℕ → Bool
from_station st id = eqb (parts_of id).source st && not (is_query id)

-- what can reach a session with the station `st`: ticks, the station's frames, and new settings, which end it
unfoldable pub reaches : ℕ → Call → Bool
reaches st (Receive id s) = from_station st id
reaches st (Tick r v t old) = true
reaches st (Write old) = false
reaches st (Read s) = is_read (read_of s)

-- a call with its buffer's length and not its contents: of a lent buffer nothing is read
unfoldable pub emptied : Call → Call
emptied (Receive id s) = Receive id s
emptied (Tick r v t old) = Tick r v t (replicate (length old) 0)
emptied (Write old) = Write (replicate (length old) 0)
emptied (Read s) = Read s

-- the calls without all else
unfoldable pub reaching : ℕ → List Call → List Call
reaching st [] = []
reaching st (e ∷ es) = cond (reaches st e) (e ∷ reaching st es) (reaching st es)

-- what is seen of a session: after a frame of its station the number answered, after a tick its number and the charge
-- frames sent (a refused tick sends none), with the session's record then: its station, silence, count and state as the
-- controller in use holds them; or that new settings were read
pub data Moment : Type 0 where
  AfterFrame : ℕ → Session → Moment
  AfterTick : ℕ → List Frame → Session → Moment
  AfterRecord : Moment

unfoldable pub sent_at : Controller → Readings → List ℕ → List ℤ → List ℕ → List Frame
sent_at c r v t old = cond (accepts r v t old) (charge_frames c r v t) []

unfoldable pub moments : Controller → Call → List Moment
moments c (Receive id s) =
    cond (from_station c.session.station id)
    (AfterFrame (frame_to c id s).number (frame_to c id s).controller.session ∷ []) []
moments c (Tick r v t old) =
    AfterTick (tick_number r v t (length old)) (sent_at c r v t old) (after c (Tick r v t old)).session ∷ []
moments c (Write old) = []
moments c (Read s) = cond (is_read (read_of s)) (AfterRecord ∷ []) []

-- all that is seen of a session, up to and with what ends it
unfoldable pub life : Controller → List Call → List Moment
life c [] = []
life c (e ∷ es) = moments c e ++ cond (no_session (after c e)) [] (life (after c e) es)

-- the same settings and the same session; broadcasts and queries may stand elsewhere
pub record Alike (c d : Controller) : Type 0 where
  pub settings : c.settings ≡ d.settings
  pub session : c.session ≡ d.session
