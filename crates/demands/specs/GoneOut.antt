-- "Gone out" (01, "Session by message"): a frame of ours has been sent since the state that the session is in began,
-- told by the frames that the calls of a run are seen to send. Said once, of any state and any frame; then the four
-- that the paper asks for. A controller is looked at by its settings, its session's station and the kind of its
-- session's state alone. For `eim_told`, `ecp_told`, `erm_told`, `est_told`, `cvm_taken`, `cmp_taken`, `crm_taken`.
use Rattle.std.specs.Prelude.{ℕ, Bool, true, false, not, ◌&&◌, ◌||◌, List, [], ◌∷◌, eqb, get_or}
use Rattle.std.specs.Prelude.{Result, Ok, Err}
use Rattle.numbers.specs.declared.Refusal.{Refusal}
use Rattle.numbers.specs.Numbers.{answered}
use Rattle.messages.specs.declared.received.Message.{Message}
use Rattle.messages.specs.declared.table.Row.{Row}
use Rattle.messages.specs.declared.received.Charge.{Charge}
use Rattle.messages.specs.declared.received.Charge.TheVariants.{Cim, Cvm, Cmp, Crm, Ccs, Cst, Cem}
use Rattle.messages.specs.declared.received.Message.TheVariants as message
use Rattle.messages.specs.Table.{EIM, ECP, ERM, EST}
use Rattle.messages.specs.Identifier.{parts_of, identifier_of}
use Rattle.messages.specs.Received.{recognized_of}
use Rattle.frames.specs.declared.Frame.{Frame}
use Rattle.settings.specs.declared.Settings.{Settings}
use Rattle.session_states.specs.declared.states.State.{State}
use Rattle.session_states.specs.declared.states.State.TheVariants.{Idle, Offered, Unverified, Parameters, Ready, Charging, Stopping, Error}
use Rattle.session_states.specs.States.{is_offered, is_parameters, is_ready, is_stopping}
use Rattle.session_states.specs.Limits.{first_ecp}
use Rattle.session_by_message.specs.Message.{gone_out}
use Rattle.demands.specs.Machine.{Call, Read, Receive, Tick, Write, Box, NoController, Using, Seen, number_seen, frames_seen}
use Rattle.demands.specs.Steps.{Step}

-- ---- what is watched for
pub record Watch : Type 0 where
  -- the state
  pub here : State → Bool
  -- with these settings, to this station: the frame is the one
  pub ours : Settings → ℕ → Frame → Bool
  -- the messages that begin the state anew where they are taken in it
  pub anew : Charge → Bool

-- ---- over a run
-- the box's session is in the state; without a controller there is no session
unfoldable pub is_here : Watch → Box → Bool
is_here w NoController = false
is_here w (Using c) = w.here c.session.state

-- one of the frames is such a one
unfoldable pub holds : (Frame → Bool) → List Frame → Bool
holds such [] = false
holds such (f ∷ fs) = such f || holds such fs

-- one of the frames is the one, to the station of the box's session
unfoldable pub sends : Watch → Box → List Frame → Bool
sends w NoController fs = false
sends w (Using c) fs = holds (w.ours c.settings c.session.station) fs

-- by its PF a frame is one of these charge messages
unfoldable pub is_one_of : (Charge → Bool) → Result Message Refusal → Bool
is_one_of these (Ok (message.Charge k)) = these k
is_one_of these (Ok (message.Query q)) = false
is_one_of these (Err refusal) = false

-- the call is one of these charge messages, and is taken
unfoldable pub takes : (Charge → Bool) → Call → Seen → Bool
takes these (Receive id s) z = is_one_of these (recognized_of (parts_of id).pf) && eqb (number_seen z) 0
takes these (Tick r v t old) z = false
takes these (Write old) z = false
takes these (Read s) z = false

-- the session was in the state before the call, and the call does not begin it anew
unfoldable pub goes_on : Watch → Step → Bool
goes_on w x = is_here w x.before && not (takes w.anew x.call x.seen)

-- after one call more: the session is in the state, and the frame had gone out and the state goes on, or it goes out
-- now
unfoldable pub gone_after : Watch → Bool → Step → Bool
gone_after w before x =
    is_here w x.after && ((goes_on w x && before) || sends w x.after (frames_seen x.seen))

-- after a run
unfoldable pub gone : Watch → Bool → List Step → Bool
gone w before [] = before
gone w before (x ∷ xs) = gone w (gone_after w before x) xs

-- ---- the states
-- Ready, and the last CMP was answered yes
unfoldable pub is_ready_yes : State → Bool
is_ready_yes Idle = false
is_ready_yes Offered = false
is_ready_yes Unverified = false
is_ready_yes Parameters = false
is_ready_yes (Ready accepted maximum) = accepted
is_ready_yes (Charging p) = false
is_ready_yes (Stopping acknowledged est) = false
is_ready_yes Error = false

-- ---- the frames
-- by its identifier it is our message of the row, to the station
unfoldable pub is_ours : Row → Settings → ℕ → Frame → Bool
is_ours row x station f = eqb f.id (identifier_of row station x.own)

-- its data has AA at this place, counted from 0
unfoldable pub says_yes : ℕ → Frame → Bool
says_yes place f = eqb (get_or f.bytes place 0) 0xaa

-- ---- the messages
abbrev pub no_message : Charge → Bool
no_message k = false

unfoldable pub is_cmp : Charge → Bool
is_cmp Cim = false
is_cmp Cvm = false
is_cmp Cmp = true
is_cmp Crm = false
is_cmp Ccs = false
is_cmp Cst = false
is_cmp Cem = false

-- ---- the four
-- Offered: "CVM is taken once an EIM AA has gone out"
unfoldable pub eim : Watch
eim = record { here = is_offered; ours = λ x station f. is_ours EIM x station f && says_yes 2 f; anew = no_message }

-- Parameters: "CMP is taken once an ECP has gone out"
unfoldable pub ecp : Watch
ecp = record { here = is_parameters; ours = is_ours ECP; anew = no_message }

-- Ready: "CRM is taken if yes and an ERM AA has gone out since that CMP"
unfoldable pub erm : Watch
erm = record { here = is_ready; ours = λ x station f. is_ours ERM x station f && says_yes 0 f; anew = is_cmp }

-- Stopping: "CST AA ends to Idle if an EST has gone out since entry"
unfoldable pub est : Watch
est = record { here = is_stopping; ours = is_ours EST; anew = no_message }

-- ---- as the rules of the messages tell it, by the count of the state
-- of a frame that goes out at the state's first tick: EIM AA, ERM AA, EST
abbrev pub since_first_tick : ℕ → Bool
since_first_tick count = gone_out 0 count

-- of an ECP
abbrev pub since_first_ecp : ℕ → Bool
since_first_ecp count = gone_out first_ecp count
