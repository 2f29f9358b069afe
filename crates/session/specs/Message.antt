-- What a charge message makes of a session (01, "Session by message", and number 11).
use Rattle.std.specs.Prelude.{ℕ}
use Rattle.numbers.specs.Numbers.{answered}
use Rattle.settings.specs.declared.Settings.{Settings}
use Rattle.charge_messages.specs.declared.ChargeMessage.{ChargeMessage}
use Rattle.session_by_message.specs.declared.Outcome.{Outcome}
use Rattle.session_by_message.specs.declared.Outcome.TheVariants.{Refuse, OutOfStep, Open, Heard, Enter, Keep, End}
use Rattle.session_by_message.specs.Message.{outcome_of, outcome_number}
use Rattle.session.specs.declared.Session.{Session}
use Rattle.session.specs.declared.Taken.{Taken}
use Rattle.session.specs.Session.{idle_session, with_silence, with_state, begun, opened}

-- a taken charge message, also one that does nothing, sets silence to 0; one that is out of step returns it to 0; any
-- other that is refused alters nothing
unfoldable pub session_after : ℕ → Session → Outcome → Session
session_after source s Refuse = s
session_after source s OutOfStep = with_silence s 0
session_after source s Open = opened source
session_after source s Heard = with_silence s 0
session_after source s (Enter st) = begun s st
session_after source s (Keep st) = with_state (with_silence s 0) st
session_after source s End = idle_session

-- what a message is told by its number: 0 or 11, and the next session
pub record Told : Type 0 where
  pub number : ℕ
  pub session : Session

-- what a message comes to, its answer by its number
abbrev pub told : Taken → Told
told t = record { number = answered t.answer; session = t.session }

-- the number of the outcome, and the session after it
unfoldable pub applied_of : ℕ → Session → Outcome → Told
applied_of source s o = record { number = outcome_number o; session = session_after source s o }

unfoldable pub message_of : Settings → ℕ → Session → ChargeMessage → Told
message_of x source s m = applied_of source s (outcome_of x s.state s.count m)
