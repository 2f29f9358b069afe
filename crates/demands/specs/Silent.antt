-- A session whose station falls silent ends within 801 accepted ticks (01, "What a reader can rely on"). Silence is the
-- paper's: the station need not be still, it says nothing that the session heeds. For `within_801`, `silent_station`
-- and `eight_hundred_are_not_enough`; that the table is what messages do: `unfed_refused` and `fed_silence`.
use Rattle.std.specs.Prelude.{ℕ, ◌+◌, ◌≤◌, ◌≡◌, Bool, true, false, not, cond, ◌&&◌, List, [], ◌∷◌}
use Rattle.charge_messages.specs.declared.ChargeMessage.{ChargeMessage}
use Rattle.charge_messages.specs.declared.ChargeMessage.TheVariants.{Cim, Cvm, Cmp, Crm, Ccs, Cst, Cem}
use Rattle.session_states.specs.declared.states.State.{State}
use Rattle.session_states.specs.declared.states.State.TheVariants.{Idle, Offered, Unverified, Parameters, Ready, Charging, Stopping, Error}
use Rattle.controller.specs.declared.Controller.{Controller}
use Rattle.session_states.specs.Limits.{silence_limit, closing_limit}
use Rattle.demands.specs.Machine.{Call, Receive, Tick, Write, Read}
use Rattle.demands.specs.After.{accepts, after, no_session, ends_within}
use Rattle.demands.specs.Apart.{from_station}
use Rattle.demands.specs.Says.{Says}

-- Which charge messages of its station a session heeds, by its state (01, "Session by message", and number 11). In
-- Offered every one, the CIM that does nothing and those out of step too; from there to Ready every one, "unless it is
-- a CIM"; in Charging "only CCS", and CST and CEM, by which it leaves Charging; in Stopping CST and CEM; in Error CEM.
-- In Idle there is no session. All others are silence
unfoldable pub feeds : State → ChargeMessage → Bool
feeds Idle m = false
feeds Offered m = true
feeds Unverified Cim = false
feeds Unverified (Cvm b) = true
feeds Unverified (Cmp o) = true
feeds Unverified (Crm b) = true
feeds Unverified (Ccs b) = true
feeds Unverified (Cst b) = true
feeds Unverified Cem = true
feeds Parameters Cim = false
feeds Parameters (Cvm b) = true
feeds Parameters (Cmp o) = true
feeds Parameters (Crm b) = true
feeds Parameters (Ccs b) = true
feeds Parameters (Cst b) = true
feeds Parameters Cem = true
feeds (Ready accepted maximum) Cim = false
feeds (Ready accepted maximum) (Cvm b) = true
feeds (Ready accepted maximum) (Cmp o) = true
feeds (Ready accepted maximum) (Crm b) = true
feeds (Ready accepted maximum) (Ccs b) = true
feeds (Ready accepted maximum) (Cst b) = true
feeds (Ready accepted maximum) Cem = true
feeds (Charging p) Cim = false
feeds (Charging p) (Cvm b) = false
feeds (Charging p) (Cmp o) = false
feeds (Charging p) (Crm b) = false
feeds (Charging p) (Ccs b) = true
feeds (Charging p) (Cst b) = true
feeds (Charging p) Cem = true
feeds (Stopping acknowledged est) Cim = false
feeds (Stopping acknowledged est) (Cvm b) = false
feeds (Stopping acknowledged est) (Cmp o) = false
feeds (Stopping acknowledged est) (Crm b) = false
feeds (Stopping acknowledged est) (Ccs b) = false
feeds (Stopping acknowledged est) (Cst b) = true
feeds (Stopping acknowledged est) Cem = true
feeds Error Cim = false
feeds Error (Cvm b) = false
feeds Error (Cmp o) = false
feeds Error (Crm b) = false
feeds Error (Ccs b) = false
feeds Error (Cst b) = false
feeds Error Cem = true

-- a call by which the session's station says nothing that the session heeds. By another's frame, a cell query, and a
-- frame that 3 to 10 refuse, it says nothing at all
unfoldable pub Unheeded : Controller → Call → Type 0
Unheeded c (Receive id s) =
    (m : ChargeMessage) → Says c.settings c.session.station m id s → feeds c.session.state m ≡ false
Unheeded c (Tick r v t old) = Unit {0}
Unheeded c (Write old) = Unit {0}
Unheeded c (Read s) = Unit {0}

-- as long as there is a session, nothing that its station says is heeded
unfoldable pub Silence : Controller → List Call → Type 0
Silence c [] = Unit {0}
Silence c (e ∷ es) = no_session c ≡ false → Unheeded c e × Silence (after c e) es

-- a station that falls still altogether: no frame has `st` as its source part, but for cell queries
unfoldable pub quiet_at : ℕ → Call → Bool
quiet_at st (Receive id s) = not (from_station st id)
quiet_at st (Tick r v t old) = true
quiet_at st (Write old) = true
quiet_at st (Read s) = true

unfoldable pub sends_nothing : ℕ → List Call → Bool
sends_nothing st [] = true
sends_nothing st (e ∷ es) = quiet_at st e && sends_nothing st es

-- the ticks that are accepted
unfoldable pub is_accepted_tick : Call → Bool
is_accepted_tick (Receive id s) = false
is_accepted_tick (Tick r v t old) = accepts r v t old
is_accepted_tick (Write old) = false
is_accepted_tick (Read s) = false

unfoldable pub ticks_in : List Call → ℕ
ticks_in [] = 0
ticks_in (e ∷ es) = cond (is_accepted_tick e) 1 0 + ticks_in es

-- a session whose station falls silent has ended by so many accepted ticks, whatever others send
abbrev pub EndsBy : ℕ → Type 0
EndsBy n = (c : Controller) (es : List Call) → Silence c es → n ≤ ticks_in es → ends_within c es ≡ true

-- "within 801 accepted ticks": silence runs up to its limit, the next tick enters Error, and its count runs up to its
-- own
abbrev pub longest : ℕ
longest = silence_limit + 1 + closing_limit
