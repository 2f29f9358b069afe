-- A session's run: charge messages and ticks in any order, from any sources and with any readings and cells. The
-- settings stay.
use Rattle.std.specs.Prelude.{ℕ, List, [], ◌∷◌}
use Rattle.frames.specs.declared.Frame.{Frame}
use Rattle.settings.specs.declared.Settings.{Settings}
use Rattle.readings.specs.declared.Readings.{Readings}
use Rattle.cells.specs.declared.Cells.{Cells}
use Rattle.charge_messages.specs.declared.ChargeMessage.{ChargeMessage}
use Rattle.session.specs.declared.Session.{Session}
use Rattle.session.specs.Message.{message_of}
use Rattle.session.specs.Tick.{tick_of, sent_of}
use Rattle.session_paper_counts.specs.Literal.{literal_tick}

pub data Step : Type 0 where
  Message : ℕ → ChargeMessage → Step
  Tick : Readings → Cells → Step

-- what is seen of a step: a message's number, a tick's frames
pub data StepSeen : Type 0 where
  Number : ℕ → StepSeen
  Frames : List Frame → StepSeen

unfoldable pub step_seen : Settings → Session → Step → StepSeen
step_seen x s (Message source m) = Number (message_of x source s m).number
step_seen x s (Tick r c) = Frames (sent_of x r c s)

-- the next session, with the paper's counts and with the code's
unfoldable pub literal_next : Settings → Session → Step → Session
literal_next x s (Message source m) = (message_of x source s m).session
literal_next x s (Tick r c) = literal_tick x r c s

unfoldable pub code_next : Settings → Session → Step → Session
code_next x s (Message source m) = (message_of x source s m).session
code_next x s (Tick r c) = tick_of x r c s

-- all that is seen of a run, and the session that it leaves
unfoldable pub steps_seen : (Settings → Session → Step → Session) → Settings → Session → List Step → List StepSeen
steps_seen next x s [] = []
steps_seen next x s (k ∷ ks) = step_seen x s k ∷ steps_seen next x (next x s k) ks

unfoldable pub last_of : (Settings → Session → Step → Session) → Settings → Session → List Step → Session
last_of next x s [] = s
last_of next x s (k ∷ ks) = last_of next x (next x s k) ks
