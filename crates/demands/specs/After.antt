-- The controller in use after a call of the paper's machine (`after_is`, and over a list `after_all_is`). For every
-- statement over a run of calls.
use Rattle.std.specs.Prelude.{ℕ, Bool, true, false, cond, ◌||◌, List, [], ◌∷◌, eqb, ℤ, length}
use Rattle.std.specs.Prelude.{Result, Ok, Err}
use Rattle.numbers.specs.declared.Refusal.{Refusal}
use Rattle.messages.specs.declared.received.Message.{Message}
use Rattle.settings.specs.declared.Settings.{Settings}
use Rattle.messages.specs.declared.received.Message.TheVariants as message
use Rattle.messages.specs.Identifier.{parts_of}
use Rattle.messages.specs.Received.{recognized_of}
use Rattle.readings.specs.declared.Readings.{Readings}
use Rattle.settings.specs.Read.{read_of}
use Rattle.controller.specs.declared.Controller.{Controller}
use Rattle.session_states.specs.States.{is_idle}
use Rattle.controller.specs.Frame.{frame_to}
use Rattle.refusals.specs.Tick.{tick_number}
use Rattle.controller.specs.Start.{fresh_of}
use Rattle.demands.specs.Machine.{Call, Read, Receive, Tick, Write, paper_next}

-- whether a tick is accepted is told by what it lends
unfoldable pub accepts : Readings → List ℕ → List ℤ → List ℕ → Bool
accepts r v t old = eqb (tick_number r v t (length old)) 0

-- a record is accepted
unfoldable pub is_read : Result Settings Refusal → Bool
is_read (Ok x) = true
is_read (Err refusal) = false

-- a record that is accepted makes a fresh controller; one that is refused leaves the one in use
unfoldable pub read_into : Result Settings Refusal → Controller → Controller
read_into (Ok x) c = fresh_of x
read_into (Err refusal) c = c

unfoldable pub after : Controller → Call → Controller
after c (Receive id s) = (frame_to c id s).controller
after c (Tick r v t old) = cond (accepts r v t old) (paper_next c r v t) c
after c (Write old) = c
after c (Read s) = read_into (read_of s) c

unfoldable pub after_all : Controller → List Call → Controller
after_all c [] = c
after_all c (e ∷ es) = after_all (after c e) es

-- no session
unfoldable pub no_session : Controller → Bool
no_session c = is_idle c.session.state

-- there is no session at some place of the list: before it, between two calls or after the last
unfoldable pub ends_within : Controller → List Call → Bool
ends_within c [] = no_session c
ends_within c (e ∷ es) = no_session c || ends_within (after c e) es

-- by its PF a frame is one of the seven charge messages, or one of the two queries
unfoldable pub charge_in : Result Message Refusal → Bool
charge_in (Ok (message.Charge k)) = true
charge_in (Ok (message.Query q)) = false
charge_in (Err refusal) = false

unfoldable pub query_in : Result Message Refusal → Bool
query_in (Ok (message.Charge k)) = false
query_in (Ok (message.Query q)) = true
query_in (Err refusal) = false

unfoldable pub is_charge : ℕ → Bool
is_charge id = charge_in (recognized_of (parts_of id).pf)

unfoldable pub is_query : ℕ → Bool
is_query id = query_in (recognized_of (parts_of id).pf)
