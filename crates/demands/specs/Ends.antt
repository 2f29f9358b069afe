-- The insurer's first question: "which message, in which state, may end a charge?" What can end a session, and what can
-- end a charge, after 01, "Session by message" and "Session by tick". For `what_ends_a_session` and
-- `each_ends_a_session`, `what_ends_a_charge` and `each_ends_a_charge`; of typed messages
-- `which_message_ends_a_session` and `which_message_ends_a_charge`.
use Rattle.std.specs.Prelude.{ℕ, ◌≡◌, Bool, true, false, not, ◌&&◌, List, ltb, ℤ}
use Rattle.readings.specs.declared.Readings.{Readings}
use Rattle.settings.specs.Read.{read_of}
use Rattle.cells.specs.Summaries.{cells_of}
use Rattle.charge_messages.specs.declared.ChargeMessage.{ChargeMessage}
use Rattle.charge_messages.specs.declared.ChargeMessage.TheVariants.{Cim, Cvm, Cmp, Crm, Ccs, Cst, Cem}
use Rattle.session_states.specs.declared.states.State.{State}
use Rattle.controller.specs.declared.Controller.{Controller}
use Rattle.demands.specs.Machine.{Call, Receive, Tick, Read}
use Rattle.demands.specs.After.{accepts, is_read}
use Rattle.session_states.specs.States.{is_stopping}
use Rattle.demands.specs.Stops.{why_of, ends_for, leaves_for}
use Rattle.demands.specs.Says.{Says}

-- which charge messages end an open session, by its state and count: CEM; CST AA in Stopping, once an EST has gone out
-- since Stopping began (Stopping sends an EST at each tick, and its count is the ticks that it has had)
unfoldable pub message_ends : State → ℕ → ChargeMessage → Bool
message_ends st n Cim = false
message_ends st n (Cvm b) = false
message_ends st n (Cmp o) = false
message_ends st n (Crm b) = false
message_ends st n (Ccs b) = false
message_ends st n (Cst b) = b && (is_stopping st && ltb 0 n)
message_ends st n Cem = true

-- which end a charge: CCS 00, CST of either value, CEM
unfoldable pub message_leaves : ChargeMessage → Bool
message_leaves Cim = false
message_leaves (Cvm b) = false
message_leaves (Cmp o) = false
message_leaves (Crm b) = false
message_leaves (Ccs b) = not b
message_leaves (Cst b) = true
message_leaves Cem = true

-- THE ANSWER: what ends a session, by cases. A frame: it comes from the session's station, no check refuses it, and it
-- is a CEM; or it is a CST AA, the session is in Stopping, and an EST of ours has gone out since Stopping began. A
-- tick: it is accepted, and charge is not wanted before Charging, or Stopping or Error are at count 600. New settings,
-- which make a fresh controller
pub data EndsSession (gone : Bool) (c : Controller) : Call → Type 0 where
  ByCem : {id : ℕ} {s : List ℕ} → Says c.settings c.session.station Cem id s
      → EndsSession gone c (Receive id s)
  ByCst : {id : ℕ} {s : List ℕ} → Says c.settings c.session.station (Cst true) id s
      → is_stopping c.session.state ≡ true → gone ≡ true → EndsSession gone c (Receive id s)
  ByTick : {r : Readings} {v : List ℕ} {t : List ℤ} {old : List ℕ} → accepts r v t old ≡ true
      → ends_for (why_of c.settings r (cells_of v t) c.session) ≡ true → EndsSession gone c (Tick r v t old)
  ByReading : {s : List ℕ} → is_read (read_of s) ≡ true → EndsSession gone c (Read s)

-- and what ends a charge. A frame: it comes from the session's station, no check refuses it, and it is CCS 00, CST of
-- either value, or CEM. A tick: it is accepted, and one of the rules that leave Charging holds. New settings
pub data EndsCharge (c : Controller) : Call → Type 0 where
  AtCcs : {id : ℕ} {s : List ℕ} → Says c.settings c.session.station (Ccs false) id s
      → EndsCharge c (Receive id s)
  AtCst : {id : ℕ} {s : List ℕ} {b : Bool} → Says c.settings c.session.station (Cst b) id s
      → EndsCharge c (Receive id s)
  AtCem : {id : ℕ} {s : List ℕ} → Says c.settings c.session.station Cem id s → EndsCharge c (Receive id s)
  AtTick : {r : Readings} {v : List ℕ} {t : List ℤ} {old : List ℕ} → accepts r v t old ≡ true
      → leaves_for (why_of c.settings r (cells_of v t) c.session) ≡ true → EndsCharge c (Tick r v t old)
  AtReading : {s : List ℕ} → is_read (read_of s) ≡ true → EndsCharge c (Read s)
