-- "Request R is the smaller of maximum current and the station's maximum": over any run, what a session asks for is
-- never above the maximum current of the settings in use; and tag 3 allows no more than 4000 (`read_in_range`,
-- settings), so 4000 minus it is what ECR says. Assumes nothing.
use Prim.Native.Nat.{ℕ, ◌≤◌}
use Rattle.std.specs.declared.ops.ControlFlow.{ControlFlow}
use Rattle.session_states.specs.declared.phases.Cause.{Cause}
use Rattle.std.specs.declared.ops.ControlFlow.TheVariants.{Continue, Break}
use Rattle.std.proofs.Common.{Result, Ok, Err}
use Rattle.numbers.specs.declared.Refusal.{Refusal}
use native.Mathlib.Omega.{arith}
use mathlib.Core.Path.{◌≡◌, refl, sym, ap, subst, ◌∙◌}
use mathlib.Core.Bool.{Bool, true, false, cond}
use mathlib.Core.List.{List, [], ◌∷◌}
use lib.Dec.{leb}
use lib.IntN.{ℤ}
use borrow.Author.Tests.{leb-true, leb-false}
use Rattle.messages.specs.Identifier.{parts_of}
use Rattle.units.specs.declared.TenthAmps.{TenthAmps}
use Rattle.units.specs.Units.{lesser_amps, halved_amps}
use Rattle.settings.specs.declared.Settings.{Settings}
use Rattle.settings.specs.Read.{read_of}
use Rattle.readings.specs.declared.Readings.{Readings}
use Rattle.readings.specs.Readings.{wanted_of}
use Rattle.cells.specs.declared.Cells.{Cells}
use Rattle.cells.specs.Summaries.{cells_of}
use Rattle.session_states.specs.declared.phases.Phase.{Phase}
use Rattle.session_states.specs.declared.phases.Phase.TheVariants.{Drive, Rest, Hold}
use Rattle.session_states.specs.Phases.{too_small, start_phase, drive_rules, hold_rules, after_rest, phase_after}
use Rattle.session_states.specs.declared.states.State.{State}
use Rattle.session_states.specs.declared.states.State.TheVariants.{Idle, Offered, Unverified, Parameters, Ready, Charging, Stopping, Error}
use Rattle.session_by_message.specs.declared.Outcome.{Outcome}
use Rattle.session_by_message.specs.declared.Outcome.TheVariants as outcome
use Rattle.session_by_message.specs.Message.{outcome_of}
use Rattle.session_by_tick.specs.declared.Turn.{Turn}
use Rattle.session_by_tick.specs.declared.Turn.TheVariants as turn
use Rattle.session_by_tick.specs.Turns.{cell_full, pack_full, current_above, stop_of, waiting_of, phase_on, phase_turn, stops_of, charging_of, stopping_of, error_of, turn_of}
use Rattle.session.specs.declared.Session.{Session}
use Rattle.session.specs.Message.{session_after, applied_of, message_of}
use Rattle.session.specs.Tick.{turned_by, turn_in}
use Rattle.session_paper_counts.specs.Folds.{fold_phase}
use Rattle.session_paper_counts.specs.Literal.{older, grown, counted, literal_in, literal_advance, literal_tick}
use Rattle.controller.specs.declared.Controller.{Controller}
use Rattle.controller.specs.Frame.{Answer}
use Rattle.controller.specs.Start.{fresh_of}
use Rattle.controller.specs.Frame.{frame_to}
use Rattle.session_states.specs.Limits.{silence_limit, closing_limit, drive_limit, rest_limit, hold_limit, most_drives}
use Rattle.demands.specs.Machine.{Call, Receive, Tick, Write, Read, paper_next}
use Rattle.demands.specs.After.{accepts, read_into, after, after_all}
use Rattle.demands.specs.Requests.{request_of, request_in}
use Rattle.controller.specs.Frame.{session_moved}
use Rattle.demands.proofs.Outcomes.{Leads, NotTaken, NotInStep, DoesNothing, OpensOne, ToUnverified, ToParameters, ToParametersLater, ToReady, ToReadyAgain, ToCharging, ToStopping, MarksIt, EndsIt, outcome_leads}
use Rattle.demands.proofs.Comes.{Comes, Left, Took, came}

-- ---- the start
lesser_least : (a b : ℕ) (t : Bool) → leb a b ≡ t → cond t a b ≤ a
lesser_least a b true h = omega arith
lesser_least a b false h = omega (arith, leb-false a b h)

pub lesser_second : (a b : ℕ) (t : Bool) → leb a b ≡ t → cond t a b ≤ b
lesser_second a b true h = leb-true a b h
lesser_second a b false h = omega arith

hold_asks : (maximum : ℕ) → request_of (Hold 0) ≤ maximum
unfolding request_of
hold_asks maximum = omega arith

drive_is : (request : TenthAmps) → request_of (Drive request 1 0) ≡ request.0
unfolding request_of
drive_is request = refl

start_asks : (maximum station : TenthAmps) → request_of (start_phase maximum station) ≤ maximum.0
unfolding start_phase
start_asks maximum station = either (too_small (lesser_amps maximum station))
  where
    either : (t : Bool) → request_of (cond t (Hold 0) (Drive (lesser_amps maximum station) 1 0)) ≤ maximum.0
    either true = hold_asks maximum.0
    either false =
        rw (drive_is (lesser_amps maximum station))
        (lesser_least maximum.0 station.0 (leb maximum.0 station.0) refl)

-- ---- a message
module _ (x : Settings) (n : ℕ) where
  -- what the state asks that an outcome enters
  unfoldable asks_by : Outcome → ℕ
  asks_by outcome.Refuse = 0
  asks_by outcome.OutOfStep = 0
  asks_by outcome.Open = 0
  asks_by outcome.Heard = 0
  asks_by (outcome.Enter st) = request_in st
  asks_by (outcome.Keep st) = request_in st
  asks_by outcome.End = 0

  -- only Charging asks for current
  outcome_asks : (st : State) (o : Outcome) → Leads x n st o → asks_by o ≤ x.limits.current.0
  unfolding asks_by request_in
  outcome_asks st o NotTaken = omega arith
  outcome_asks st o NotInStep = omega arith
  outcome_asks st o DoesNothing = omega arith
  outcome_asks st o OpensOne = omega arith
  outcome_asks st o (ToUnverified g) = omega arith
  outcome_asks st o (ToParameters g) = omega arith
  outcome_asks st o ToParametersLater = omega arith
  outcome_asks st o (ToReady g) = omega arith
  outcome_asks st o ToReadyAgain = omega arith
  outcome_asks st o (ToCharging {maximum = maximum} g) = start_asks x.limits.current maximum
  outcome_asks st o (ToStopping f) = omega arith
  outcome_asks st o MarksIt = omega arith
  outcome_asks st o EndsIt = omega arith

  after_asks : (source : ℕ) (s : Session) (o : Outcome) → request_in s.state ≤ x.limits.current.0
      → asks_by o ≤ x.limits.current.0
      → request_in (session_after source s o).state ≤ x.limits.current.0
  unfolding asks_by session_after request_in
  after_asks source s outcome.Refuse h k = h
  after_asks source s outcome.OutOfStep h k = h
  after_asks source s outcome.Open h k = omega arith
  after_asks source s outcome.Heard h k = h
  after_asks source s (outcome.Enter st) h k = k
  after_asks source s (outcome.Keep st) h k = k
  after_asks source s outcome.End h k = omega arith

-- ---- a tick
unfoldable phase_asks : ControlFlow Cause Phase → ℕ
phase_asks (Continue p) = request_of p
phase_asks (Break cause) = 0

lower : (m : ℕ) (t : Bool) (a b : (ControlFlow Cause Phase)) → phase_asks a ≤ m → phase_asks b ≤ m → phase_asks (cond t a b) ≤ m
lower m true a b h k = h
lower m false a b h k = k

drive_asks : (m : ℕ) (request : TenthAmps) (cycle time : ℕ) (full : Bool) → request.0 ≤ m
    → phase_asks (drive_rules request cycle time full) ≤ m
unfolding phase_asks drive_rules request_of
drive_asks m request cycle time full h = lower m (leb drive_limit time) _ _ (omega arith) (lower m full _ _ h h)

hold_rules_ask : (m time : ℕ) (full : Bool) → phase_asks (hold_rules time full) ≤ m
unfolding phase_asks hold_rules request_of
hold_rules_ask m time full = lower m (leb hold_limit time) _ _ (omega arith) (lower m full _ _ (omega arith) (omega arith))

rest_asks : (request : TenthAmps) (cycle time : ℕ) → phase_asks (Continue (Rest request cycle time)) ≤ request.0
unfolding phase_asks request_of
rest_asks request cycle time = omega arith

phase_after_asks : (p : Phase) (full : Bool) → phase_asks (phase_after p full) ≤ request_of p
unfolding phase_after after_rest request_of
phase_after_asks (Drive request cycle time) full = drive_asks request.0 request cycle time full (omega arith)
phase_after_asks (Rest request cycle time) full =
    let m = request.0 in
    lower m (leb rest_limit time) _ _
    (lower m (too_small (halved_amps request)) _ _ (hold_rules_ask m 0 full)
    (lower m (leb most_drives cycle) _ _ (hold_rules_ask m 0 full) (drive_asks m (halved_amps request) _ 0 full (omega arith))))
    (rest_asks request cycle time)
phase_after_asks (Hold time) full = hold_rules_ask 0 time full

-- the state that a turn leads to asks no more than the one before
unfoldable pub turn_asks : Turn → ℕ
turn_asks (turn.On st) = request_in st
turn_asks (turn.Enter st) = request_in st
turn_asks turn.Farewell = 0
turn_asks turn.End = 0

fewer : (m : ℕ) (t : Bool) (a b : Turn) → turn_asks a ≤ m → turn_asks b ≤ m → turn_asks (cond t a b) ≤ m
fewer m true a b h k = h
fewer m false a b h k = k

-- a phase asks the same with its time folded, and one tick older
pub asks_phase : (p : Phase) → request_of (fold_phase p) ≡ request_of p
unfolding request_of fold_phase
asks_phase (Drive request cycle time) = refl
asks_phase (Rest request cycle time) = refl
asks_phase (Hold time) = refl

pub older_asks : (p : Phase) → request_of (older p) ≡ request_of p
unfolding older request_of
older_asks (Drive request cycle time) = refl
older_asks (Rest request cycle time) = refl
older_asks (Hold time) = refl

module _ (x : Settings) (r : Readings) (c : Cells) where
  phase_asks_lem : (m : ℕ) (t : (ControlFlow Cause Phase)) → phase_asks t ≤ m → turn_asks (phase_on x r c t) ≤ m
  unfolding phase_asks turn_asks phase_on stop_of request_in
  phase_asks_lem m (Continue p) h = h
  phase_asks_lem m (Break cause) h = omega arith

  wait_asks : (m silence : ℕ) (st : State) → request_in st ≤ m → turn_asks (waiting_of r silence st) ≤ m
  unfolding turn_asks waiting_of request_in
  wait_asks m silence st h = fewer m (leb silence_limit silence) _ _ (omega arith) (fewer m (wanted_of r) _ _ h (omega arith))

  pub turn_asks_lem : (n silence : ℕ) (st : State) → turn_asks (turn_of x r c st n silence) ≤ request_in st
  unfolding turn_asks turn_of charging_of stops_of phase_turn stop_of stopping_of error_of request_in
  turn_asks_lem n silence Idle = omega arith
  turn_asks_lem n silence Offered = wait_asks 0 silence Offered (omega arith)
  turn_asks_lem n silence Unverified = wait_asks 0 silence Unverified (omega arith)
  turn_asks_lem n silence Parameters = wait_asks 0 silence Parameters (omega arith)
  turn_asks_lem n silence (Ready y maximum) = wait_asks 0 silence (Ready y maximum) (omega arith)
  turn_asks_lem n silence (Charging p) =
      let m = request_of p in
      fewer m (leb silence_limit silence) _ _ (omega arith)
      (fewer m (wanted_of r) _ _
      (fewer m (current_above x r) _ _ (omega arith)
      (fewer m (pack_full x r) _ _ (omega arith) (phase_asks_lem m (phase_after p (cell_full x c)) (phase_after_asks p (cell_full x c)))))
      (omega arith))
  turn_asks_lem n silence (Stopping k e) = fewer 0 (leb closing_limit n) _ _ (omega arith) (omega arith)
  turn_asks_lem n silence Error = fewer 0 (leb closing_limit n) _ _ (omega arith) (omega arith)

  pub turned_is : (s : Session) (t : Turn) → request_in (turned_by s t).state ≡ turn_asks t
  unfolding turned_by turn_asks request_in
  turned_is s (turn.On st) = refl
  turned_is s (turn.Enter st) = refl
  turned_is s turn.Farewell = refl
  turned_is s turn.End = refl

  counts_ask : (s : Session) (st : State) → s.state ≡ st → request_in (literal_in s st).state ≡ request_in st
  unfolding literal_in grown counted request_in
  counts_ask s Idle h = ap request_in h
  counts_ask s Offered h = refl
  counts_ask s Unverified h = refl
  counts_ask s Parameters h = refl
  counts_ask s (Ready y maximum) h = refl
  counts_ask s (Charging p) h = older_asks p
  counts_ask s (Stopping k e) h = refl
  counts_ask s Error h = refl

  pub tick_asks : (s : Session) → request_in (literal_tick x r c s).state ≤ request_in s.state
  unfolding literal_tick literal_advance turn_in
  tick_asks s =
      let t = turn_of x r c s.state s.count s.silence in
      let e : request_in (literal_in (turned_by s t) (turned_by s t).state).state ≡ turn_asks t =
      counts_ask (turned_by s t) (turned_by s t).state refl ∙ turned_is s t in
      rw e (turn_asks_lem s.count s.silence s.state)

-- ---- any call, any run
abbrev pub Within : Controller → Type 0
Within c = request_in c.session.state ≤ c.settings.limits.current.0

frame_within : (c : Controller) (id : ℕ) (s : List ℕ) (a : Answer) → Comes c id s a → Within c → Within a.controller
unfolding session_moved message_of applied_of
frame_within c id s a (Left k e n) h =
    subst (λ (z : Settings). request_in a.controller.session.state ≤ z.limits.current.0) (sym k)
    (subst (λ (z : Session). request_in z.state ≤ c.settings.limits.current.0) (sym e) h)
frame_within c id s a (Took m says may e) h =
    subst (λ (z : Answer). Within z.controller) (sym e)
    (after_asks c.settings c.session.count (parts_of id).source c.session (outcome_of c.settings c.session.state c.session.count m) h
    (outcome_asks c.settings c.session.count c.session.state _ (outcome_leads c.settings c.session.count c.session.state m)))

read_within : (a : Result Settings Refusal) (c : Controller) → Within c → Within (read_into a c)
unfolding read_into fresh_of request_in
read_within (Ok x) c h = omega arith
read_within (Err n) c h = h

tick_within : (c : Controller) (r : Readings) (v : List ℕ) (t : List ℤ) (b : Bool) → Within c
    → Within (cond b (paper_next c r v t) c)
unfolding paper_next
tick_within c r v t true h = omega (arith, h, tick_asks c.settings r (cells_of v t) c.session)
tick_within c r v t false h = h

call_within : (c : Controller) (e : Call) → Within c → Within (after c e)
unfolding after
call_within c (Receive id s) h = frame_within c id s (frame_to c id s) (came c id s) h
call_within c (Tick r v t old) h = tick_within c r v t (accepts r v t old) h
call_within c (Write old) h = h
call_within c (Read s) h = read_within (read_of s) c h

run_within : (c : Controller) (es : List Call) → Within c → Within (after_all c es)
unfolding after_all
run_within c [] h = h
run_within c (e ∷ es) h = run_within (after c e) es (call_within c e h)

fresh_within : (x : Settings) → Within (fresh_of x)
unfolding fresh_of request_in
fresh_within x = omega arith

-- over any run from a fresh controller
pub never_above_the_maximum : (x : Settings) (es : List Call)
    → request_in (after_all (fresh_of x) es).session.state ≤ (after_all (fresh_of x) es).settings.limits.current.0
never_above_the_maximum x es = run_within (fresh_of x) es (fresh_within x)
