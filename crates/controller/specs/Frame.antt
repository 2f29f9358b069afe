-- A received frame: 01, "Numbers returned", 3 to 13. Checks run in numeric order; a refusal alters nothing but as noted
-- at 11. The checks 3 to 8, and who may speak of a charge (9), stand in `refusals`, `specs/Frame.antt`.
use Rattle.std.specs.Prelude.{ℕ, ◌≡◌, Bool, cond, List, Result, Ok, Err}
use Rattle.numbers.specs.declared.Refusal.{Refusal}
use Rattle.numbers.specs.declared.Refusal.TheVariants.{NotTheStation}
use Rattle.numbers.specs.Numbers.{number_of, answered}
use Rattle.messages.specs.declared.received.Charge.{Charge}
use Rattle.messages.specs.declared.received.Kind.{Kind}
use Rattle.messages.specs.declared.received.Message.{Message}
use Rattle.messages.specs.declared.received.Message.TheVariants as message
use Rattle.messages.specs.Identifier.{parts_of}
use Rattle.charge_messages.specs.declared.ChargeMessage.{ChargeMessage}
use Rattle.charge_messages.specs.Content.{content_of}
use Rattle.session.specs.Message.{Told, message_of}
use Rattle.queries.specs.Asking.{Queued, queued_of}
use Rattle.refusals.specs.Frame.{message_in, may_speak}
use Rattle.controller.specs.declared.Controller.{Controller}
use Rattle.controller.specs.With.{with_session, with_queries}

-- what a received frame gives: the number, and the controller as it is then
pub record Answer : Type 0 where
  pub number : ℕ
  pub controller : Controller

-- an answer by its number, with the controller that it leaves
abbrev pub answered_with : Result (Unit {0}) Refusal → Controller → Answer
answered_with answer c = record { number = answered answer; controller = c }

-- refused: the number, and the controller as it was
abbrev pub refused : Refusal → Controller → Answer
refused refusal c = record { number = number_of refusal; controller = c }

-- 9: Idle: source not in the list; else: not the session's station
unfoldable pub may_charge : Controller → ℕ → Bool
may_charge c source = may_speak c.session.state c.session.station c.settings.stations source

-- the session moved on, and nothing else of the controller
unfoldable pub session_moved : Controller → Told → Answer
session_moved c t = record { number = t.number; controller = with_session c t.session }

-- 10: content not allowed; then taken or 11, by the session
unfoldable pub content_taken : Controller → ℕ → Result ChargeMessage Refusal → Answer
content_taken c source (Ok m) = session_moved c (message_of c.settings source c.session m)
content_taken c source (Err refusal) = refused refusal c

-- a charge message: 9, then its content
unfoldable pub charge_to : Controller → ℕ → Charge → List ℕ → Answer
charge_to c source k s = cond (may_charge c source) (content_taken c source (content_of k s)) (refused NotTheStation c)

-- the queries moved on, and nothing else of the controller
unfoldable pub queries_moved : Controller → Queued → Answer
queries_moved c a = record { number = a.number; controller = with_queries c a.queries }

-- a query: 12 and 13, by the waiting queries
unfoldable pub query_to : Controller → ℕ → Kind → Answer
query_to c source kind = queries_moved c (queued_of c.queries source kind)

-- the message in a frame, or the one of 3 to 8 that refuses the frame
unfoldable pub message_to : Controller → ℕ → List ℕ → Result Message Refusal → Answer
message_to c source s (Ok (message.Charge k)) = charge_to c source k s
message_to c source s (Ok (message.Query kind)) = query_to c source kind
message_to c source s (Err refusal) = refused refusal c

unfoldable pub frame_to : Controller → ℕ → List ℕ → Answer
frame_to c id s = message_to c (parts_of id).source s (message_in c.settings.own id s)

-- a received frame's whole outcome: the number and the controller after it. It is lent no buffer that it could change
abbrev pub FrameIs : Controller → ℕ → List ℕ → Answer → Type 0
FrameIs c id s a = a ≡ frame_to c id s
