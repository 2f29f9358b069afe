-- No charge begins sooner than the handshake allows: from Idle, whoever sends what, a session is in Charging only after
-- eight accepted ticks or more (`no_sooner`): one for the EIM AA of Offered, six up to the first ECP of Parameters, one
-- for the ERM AA of Ready. Each state with its count needs so many ticks; a frame never raises that number, and an
-- accepted tick raises it by one at the most. That eight are enough is `eight_are_enough` (proofs/ReachRun.antt).
-- Assumes nothing.
use Prim.Native.Nat.{ℕ, ◌+◌, ◌≤◌}
use Rattle.std.specs.declared.ops.ControlFlow.{ControlFlow}
use Rattle.session_states.specs.declared.phases.Phase.{Phase}
use Rattle.std.specs.declared.ops.ControlFlow.TheVariants.{Continue, Break}
use Rattle.std.proofs.Common.{Result, Ok, Err}
use Rattle.numbers.specs.declared.Refusal.{Refusal}
use native.Mathlib.Omega.{arith}
use mathlib.Core.Path.{◌≡◌, refl, ap, ◌∙◌}
use mathlib.Core.Bool.{Bool, true, false, cond, false≢true}
use mathlib.Core.List.{List, [], ◌∷◌}
use lib.Dec.{leb}
use lib.IntN.{ℤ}
use borrow.Author.Tests.{ltb-true}
use Rattle.messages.specs.Identifier.{parts_of}
use Rattle.settings.specs.declared.Settings.{Settings}
use Rattle.settings.specs.Read.{read_of}
use Rattle.controller.specs.Start.{fresh_of}
use Rattle.readings.specs.declared.Readings.{Readings}
use Rattle.readings.specs.Readings.{wanted_of}
use Rattle.cells.specs.declared.Cells.{Cells}
use Rattle.cells.specs.Summaries.{cells_of}
use Rattle.charge_messages.specs.declared.ChargeMessage.{ChargeMessage}
use Rattle.session_states.specs.declared.phases.Cause.{Cause}
use Rattle.session_states.specs.declared.phases.Cause.TheVariants.{PackVoltage, Other}
use Rattle.session_states.specs.Phases.{phase_after}
use Rattle.session_states.specs.declared.states.State.{State}
use Rattle.session_states.specs.declared.states.State.TheVariants.{Idle, Offered, Unverified, Parameters, Ready, Charging, Stopping, Error}
use Rattle.session_by_message.specs.declared.Outcome.{Outcome}
use Rattle.session_by_message.specs.Message.{outcome_of}
use Rattle.session_by_tick.specs.declared.Turn.{Turn}
use Rattle.session_by_tick.specs.declared.Turn.TheVariants as turn
use Rattle.session_by_tick.specs.Turns.{current_above, stop_of, est_then, waiting_of, phase_on, phase_turn, stops_of, charging_of, stopping_of, error_of, turn_of, cell_full, pack_full}
use Rattle.session.specs.declared.Session.{Session}
use Rattle.session.specs.Session.{with_state}
use Rattle.session.specs.Message.{session_after, applied_of, message_of}
use Rattle.session.specs.Tick.{turned_by, turn_in}
use Rattle.session_paper_counts.specs.Literal.{grown, counted, literal_in, literal_advance, literal_tick}
use Rattle.controller.specs.declared.Controller.{Controller}
use Rattle.controller.specs.Frame.{Answer}
use Rattle.controller.specs.Frame.{frame_to}
use Rattle.session_states.specs.Limits.{silence_limit, closing_limit, first_ecp}
use Rattle.demands.specs.Machine.{Call, Receive, Tick, Write, Read, paper_next}
use Rattle.demands.specs.After.{accepts, read_into, after, after_all}
use Rattle.session_states.specs.States.{is_charging}
use Rattle.demands.specs.Silent.{is_accepted_tick, ticks_in}
use Rattle.controller.specs.Frame.{session_moved}
use Rattle.demands.proofs.Comes.{Comes, Left, Took, came}
use Rattle.demands.proofs.Outcomes.{Leads, NotTaken, NotInStep, DoesNothing, OpensOne, ToUnverified, ToParameters, ToParametersLater, ToReady, ToReadyAgain, ToCharging, ToStopping, MarksIt, EndsIt, outcome_leads}

-- the accepted ticks since Idle that a state with this count needs, at the least
unfoldable needs : State → ℕ → ℕ
needs Idle n = 0
needs Offered n = n
needs Unverified n = 1
needs Parameters n = 1 + n
needs (Ready y maximum) n = 7 + n
needs (Charging p) n = 8
needs (Stopping k e) n = 0
needs Error n = 0

unfoldable needed : Session → ℕ
needed s = needs s.state s.count

-- ---- a message
module _ (x : Settings) (source : ℕ) (s : Session) where
  abbrev n : ℕ
  n = s.count

  -- what it comes to needs no more than there was
  abbrev NoMore : State → Outcome → Type 0
  NoMore st o = needed (session_after source (with_state s st) o) ≤ needs st n

  -- CVM is taken once an EIM AA has gone out, after one tick at the least; CMP once an ECP has, after six ticks of
  -- Parameters; CRM once an ERM AA has since the last CMP, after one
  outcome_needs : (st : State) (o : Outcome) → Leads x n st o → NoMore st o
  unfolding needed needs session_after
  outcome_needs st o NotTaken = omega arith
  outcome_needs st o NotInStep = omega arith
  outcome_needs st o DoesNothing = omega arith
  outcome_needs st o OpensOne = omega arith
  outcome_needs st o (ToUnverified g) = omega (arith, ltb-true 0 n g)
  outcome_needs st o (ToParameters g) = omega (arith, ltb-true 0 n g)
  outcome_needs st o ToParametersLater = omega arith
  outcome_needs st o (ToReady g) = omega (arith, ltb-true first_ecp n g)
  outcome_needs st o ToReadyAgain = omega arith
  outcome_needs st o (ToCharging g) = omega (arith, ltb-true 0 n g)
  outcome_needs st o (ToStopping f) = omega arith
  outcome_needs st o MarksIt = omega arith
  outcome_needs st o EndsIt = omega arith

  message_needs : (st : State) (m : ChargeMessage) → NoMore st (outcome_of x st n m)
  message_needs st m = outcome_needs st (outcome_of x st n m) (outcome_leads x n st m)

-- a frame, whoever sends it
frame_needs : (c : Controller) (id : ℕ) (s : List ℕ) (a : Answer) → Comes c id s a
    → needed a.controller.session ≤ needed c.session
unfolding needed session_moved message_of applied_of
frame_needs c id s a (Left u h n) = let e : needed a.controller.session ≡ needed c.session = ap needed h in omega (arith, e)
frame_needs c id s a (Took m says may h) =
    let e : needed a.controller.session ≡ needed (message_of c.settings (parts_of id).source c.session m).session =
    ap (λ (z : Answer). needed z.controller.session) h in
    omega (
      arith,
      e,
      message_needs c.settings (parts_of id).source c.session c.session.state m,
    )

-- ---- a tick
-- what is needed after a tick's turn
unfoldable next : Session → Turn → ℕ
next s t = needed (literal_advance (turned_by s t))

-- a state that goes on
next_on : (s : Session) (st : State) → next s (turn.On st) ≤ needs st s.count + 1
unfolding next needed needs literal_advance literal_in grown counted turned_by
next_on s Idle = omega arith
next_on s Offered = omega arith
next_on s Unverified = omega arith
next_on s Parameters = omega arith
next_on s (Ready y maximum) = omega arith
next_on s (Charging p) = omega arith
next_on s (Stopping k e) = omega arith
next_on s Error = omega arith

next_error : (s : Session) → next s (turn.Enter Error) ≡ 0
unfolding next needed needs literal_advance literal_in counted turned_by
next_error s = refl

next_stop : (x : Settings) (r : Readings) (c : Cells) (s : Session) (k : Cause) → next s (stop_of x r c k) ≡ 0
unfolding next needed needs literal_advance literal_in counted turned_by stop_of
next_stop x r c s k = refl

next_farewell : (s : Session) → next s turn.Farewell ≡ 0
unfolding next needed needs literal_advance literal_in turned_by
next_farewell s = refl

next_end : (s : Session) → next s turn.End ≡ 0
unfolding next needed needs literal_advance literal_in turned_by
next_end s = refl

-- Offered to Ready: silence 200 enters Error, and a charge that is not wanted ends to Idle
waiting_needs : (s : Session) (st : State) (silent wanted : Bool)
    → next s (cond silent (turn.Enter Error) (cond wanted (turn.On st) turn.Farewell)) ≤ needs st s.count + 1
waiting_needs s st true wanted = omega (arith, next_error s)
waiting_needs s st false true = next_on s st
waiting_needs s st false false = omega (arith, next_farewell s)

-- Stopping and Error end to Idle at count 600
closing_needs : (s : Session) (st : State) (over : Bool)
    → next s (cond over turn.End (turn.On st)) ≤ needs st s.count + 1
closing_needs s st true = omega (arith, next_end s)
closing_needs s st false = next_on s st

module _ (x : Settings) (r : Readings) (c : Cells) (s : Session) where
  -- Charging goes on or stops
  phase_needs : (q : (ControlFlow Cause Phase)) → next s (phase_on x r c q) ≤ 8 + 1
  unfolding phase_on needs
  phase_needs (Continue p) = next_on s (Charging p)
  phase_needs (Break k) = omega (arith, next_stop x r c s k)

  charging_turn : (q : (ControlFlow Cause Phase)) (silent wanted above full : Bool)
      → next s (cond silent (turn.Enter Error)
      (cond wanted (cond above (stop_of x r c Other) (cond full (stop_of x r c PackVoltage) (phase_on x r c q))) (stop_of x r c Other)))
      ≤ 8 + 1
  charging_turn q true wanted above full = omega (arith, next_error s)
  charging_turn q false false above full = omega (arith, next_stop x r c s Other)
  charging_turn q false true true full = omega (arith, next_stop x r c s Other)
  charging_turn q false true false true = omega (arith, next_stop x r c s PackVoltage)
  charging_turn q false true false false = phase_needs q

  turn_needs : (st : State) → next s (turn_of x r c st s.count s.silence) ≤ needs st s.count + 1
  unfolding turn_of waiting_of charging_of stops_of phase_turn stopping_of error_of needs
  turn_needs Idle = next_on s Idle
  turn_needs Offered = waiting_needs s Offered (leb silence_limit s.silence) (wanted_of r)
  turn_needs Unverified = waiting_needs s Unverified (leb silence_limit s.silence) (wanted_of r)
  turn_needs Parameters = waiting_needs s Parameters (leb silence_limit s.silence) (wanted_of r)
  turn_needs (Ready y maximum) = waiting_needs s (Ready y maximum) (leb silence_limit s.silence) (wanted_of r)
  turn_needs (Charging p) =
      charging_turn (phase_after p (cell_full x c)) (leb silence_limit s.silence) (wanted_of r) (current_above x r) (pack_full x r)
  turn_needs (Stopping k e) = closing_needs s (Stopping k (est_then x r c e)) (leb closing_limit s.count)
  turn_needs Error = closing_needs s Error (leb closing_limit s.count)

  -- a tick raises what is needed by one at the most
  tick_needs : needed (literal_tick x r c s) ≤ needed s + 1
  unfolding needed literal_tick next turn_in
  tick_needs = turn_needs s.state

-- ---- any call, any list of calls
paper_needs : (c : Controller) (r : Readings) (v : List ℕ) (t : List ℤ)
    → needed (paper_next c r v t).session ≤ needed c.session + 1
unfolding paper_next
paper_needs c r v t = tick_needs c.settings r (cells_of v t) c.session

read_needs : (a : Result Settings Refusal) (c : Controller) → needed (read_into a c).session ≤ needed c.session + 0
unfolding read_into fresh_of needed needs
read_needs (Ok x) c = omega arith
read_needs (Err n) c = omega arith

call_needs : (c : Controller) (e : Call)
    → needed (after c e).session ≤ needed c.session + cond (is_accepted_tick e) 1 0
unfolding after is_accepted_tick
call_needs c (Receive id s) =
    let h : needed (frame_to c id s).controller.session ≤ needed c.session = frame_needs c id s (frame_to c id s) (came c id s) in
    omega (arith, h)
call_needs c (Tick r v t old) = go (accepts r v t old)
  where
    go : (f : Bool) → needed (cond f (paper_next c r v t) c).session ≤ needed c.session + cond f 1 0
    go true = paper_needs c r v t
    go false = omega arith
call_needs c (Write old) = omega arith
call_needs c (Read s) = read_needs (read_of s) c

run_needs : (c : Controller) (es : List Call) → needed (after_all c es).session ≤ needed c.session + ticks_in es
unfolding after_all ticks_in
run_needs c [] = omega arith
run_needs c (e ∷ es) =
    let h : needed (after_all (after c e) es).session ≤ needed (after c e).session + ticks_in es = run_needs (after c e) es in
    omega (arith, h, call_needs c e)

charging_eight : (st : State) (n : ℕ) → is_charging st ≡ true → needs st n ≡ 8
unfolding is_charging needs
charging_eight Idle n h = absurd (false≢true h)
charging_eight Offered n h = absurd (false≢true h)
charging_eight Unverified n h = absurd (false≢true h)
charging_eight Parameters n h = absurd (false≢true h)
charging_eight (Ready y maximum) n h = absurd (false≢true h)
charging_eight (Charging p) n h = refl
charging_eight (Stopping k e) n h = absurd (false≢true h)
charging_eight Error n h = absurd (false≢true h)

idle_none : (n : ℕ) → needs Idle n ≡ 0
unfolding needs
idle_none n = refl

-- from Idle to Charging no fewer than eight accepted ticks, whatever comes in between, and from whom
pub no_sooner : (c : Controller) (es : List Call)
    → c.session.state ≡ Idle → is_charging (after_all c es).session.state ≡ true → 8 ≤ ticks_in es
unfolding needed
no_sooner c es i h =
    let f : needs c.session.state c.session.count ≡ 0 =
    ap (λ (z : State). needs z c.session.count) i ∙ idle_none c.session.count in
    let g : needs (after_all c es).session.state (after_all c es).session.count ≡ 8 =
    charging_eight (after_all c es).session.state (after_all c es).session.count h in
    omega (arith, f, g, run_needs c es)
