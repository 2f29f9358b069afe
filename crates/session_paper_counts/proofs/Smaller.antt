-- Each step of the code's session leaves its counts small. Assumes nothing.
use mathlib.Core.Path.{◌≡◌, refl}
use Rattle.std.proofs.Common.{Option, None}
use Rattle.std.specs.declared.ops.ControlFlow.{ControlFlow}
use Rattle.std.specs.declared.ops.ControlFlow.TheVariants.{Continue, Break}
use mathlib.Core.Bool.{Bool, true, false, cond, ◌&&◌}
use Prim.Native.Nat.{ℕ, ◌+◌, ◌≤◌}
use native.Mathlib.Omega.{arith}
use borrow.Author.Tests.{leb-false}
use lib.Dec.{leb, ltb}
use Rattle.units.specs.declared.TenthAmps.{TenthAmps}
use Rattle.units.specs.Units.{halved_amps, lesser_amps}
use Rattle.settings.specs.declared.Settings.{Settings}
use Rattle.readings.specs.declared.Readings.{Readings}
use Rattle.readings.specs.Readings.{wanted_of}
use Rattle.cells.specs.declared.Cells.{Cells}
use Rattle.charge_messages.specs.declared.Offer.{Offer}
use Rattle.charge_messages.specs.declared.ChargeMessage.{ChargeMessage}
use Rattle.charge_messages.specs.declared.ChargeMessage.TheVariants.{Cim, Cvm, Cmp, Crm, Ccs, Cst, Cem}
use Rattle.session_states.specs.declared.phases.Phase.{Phase}
use Rattle.session_states.specs.declared.phases.Phase.TheVariants.{Drive, Rest, Hold}
use Rattle.session_states.specs.declared.phases.Cause.{Cause}
use Rattle.session_states.specs.declared.phases.Cause.TheVariants.{PackVoltage, HoldCell, Other}
use Rattle.session_states.specs.Limits.{silence_limit, closing_limit, first_ecp, drive_limit, rest_limit, hold_limit, most_drives}
use Rattle.session_states.specs.Counts.{next_count, next_each_five, next_ecp, next_up_to}
use Rattle.session_states.specs.Phases.{too_small, aged_of, drive_rules, hold_rules, after_rest, phase_after, start_phase}
use Rattle.session_states.specs.declared.states.Est.{Est}
use Rattle.session_states.specs.declared.states.State.{State}
use Rattle.session_states.specs.declared.states.State.TheVariants.{Idle, Offered, Unverified, Parameters, Ready, Charging, Stopping, Error}
use Rattle.session_by_tick.specs.declared.Turn.{Turn}
use Rattle.session_by_tick.specs.declared.Turn.TheVariants as turn
use Rattle.session_by_tick.specs.Turns.{turn_of, waiting_of, charging_of, stops_of, stop_of, phase_turn, phase_on, cell_full, pack_full, current_above, stopping_of, est_then, error_of, est_of}
use Rattle.session_by_message.specs.declared.Outcome.{Outcome}
use Rattle.session_by_message.specs.declared.Outcome.TheVariants.{Refuse, OutOfStep, Open, Heard, Enter, Keep, End}
use Rattle.session_by_message.specs.Message.{outcome_of, in_idle, in_offered, in_unverified, in_parameters, in_ready, ready_of, crm_in_ready, in_charging, in_stopping, in_error}
use Rattle.session_by_message.specs.Offer.{accepted_of, station_maximum}
use Rattle.session.specs.declared.Session.{Session}
use Rattle.session.specs.Message.{applied_of, session_after, message_of}
use Rattle.session.specs.Tick.{turn_in, turned_by, waited_of, closing_of, advance_in, advance_of, tick_of}
use Rattle.session_paper_counts.specs.Small.{phase_time, phase_cycle, in_phase, Small}

-- ---- the counts after a tick
next_any : (top back n : ℕ) → back ≤ top → (t : Bool) → leb top n ≡ t → cond t back (n + 1) ≤ top
next_any top back n h true e = h
next_any top back n h false e = omega (arith, leb-false top n e)

pub next_low : (top back n : ℕ) → back ≤ top → next_count top back n ≤ top
next_low top back n h = next_any top back n h (leb top n) refl

up_to_low : (limit n : ℕ) → next_up_to limit n ≤ limit
up_to_low limit n = next_low limit limit n (omega arith)

aged_time : (p : Phase) → phase_time (aged_of p) ≤ drive_limit
unfolding phase_time aged_of
aged_time (Drive request cycle time) = up_to_low drive_limit time
aged_time (Rest request cycle time) = let h : next_up_to rest_limit time ≤ rest_limit = up_to_low rest_limit time in omega arith
aged_time (Hold time) = up_to_low hold_limit time

aged_cycle : (p : Phase) → phase_cycle (aged_of p) ≡ phase_cycle p
unfolding phase_cycle aged_of
aged_cycle (Drive request cycle time) = refl
aged_cycle (Rest request cycle time) = refl
aged_cycle (Hold time) = refl

waited_small : (s : Session) (count : ℕ) (st : State) → count ≤ closing_limit → in_phase phase_time st ≤ drive_limit
    → in_phase phase_cycle st ≤ most_drives → Small (waited_of s count st)
unfolding waited_of
waited_small s count st h time cycle =
    record { count_small = h; silence_small = up_to_low silence_limit s.silence; time_small = time; cycle_small = cycle }

closing_small : (s : Session) (st : State) → Small s → in_phase phase_time st ≤ drive_limit → in_phase phase_cycle st ≤ most_drives
    → Small (closing_of s st)
unfolding closing_of
closing_small s st h time cycle =
    record { count_small = up_to_low closing_limit s.count; silence_small = h.silence_small; time_small = time; cycle_small = cycle }

each_five_low : (n : ℕ) → next_each_five n ≤ closing_limit
each_five_low n = let h : next_each_five n ≤ 5 = next_low 5 1 n (omega arith) in omega arith

ecp_low : (n : ℕ) → next_ecp n ≤ closing_limit
ecp_low n = let h : next_ecp n ≤ 15 = next_low 15 6 n (omega arith) in omega arith

advance_in_lem : (s : Session) (st : State) → Small s → in_phase phase_cycle st ≤ most_drives → Small (advance_in s st)
unfolding advance_in in_phase
advance_in_lem s Idle h k = h
advance_in_lem s Offered h k = waited_small s (next_each_five s.count) Offered (each_five_low s.count) (omega arith) (omega arith)
advance_in_lem s Unverified h k = waited_small s (next_each_five s.count) Unverified (each_five_low s.count) (omega arith) (omega arith)
advance_in_lem s Parameters h k = waited_small s (next_ecp s.count) Parameters (ecp_low s.count) (omega arith) (omega arith)
advance_in_lem s (Ready accepted maximum) h k =
    waited_small s (next_each_five s.count) (Ready accepted maximum) (each_five_low s.count) (omega arith) (omega arith)
advance_in_lem s (Charging p) h k =
    waited_small s (next_each_five s.count) (Charging (aged_of p)) (each_five_low s.count) (aged_time p) (rw (aged_cycle p) k)
advance_in_lem s (Stopping acknowledged est) h k = closing_small s (Stopping acknowledged est) h (omega arith) (omega arith)
advance_in_lem s Error h k = closing_small s Error h (omega arith) (omega arith)

advance_small : (s : Session) → Small s → Small (advance_of s)
unfolding advance_of
advance_small s h = advance_in_lem s s.state h h.cycle_small

-- ---- the state change of a tick
-- a turn that leaves a small session small
record Fine (t : Turn) : Type 0 where
  fine : (s : Session) → Small s → Small (turned_by s t)

either : (t : Bool) {u v : Turn} → (t ≡ true → Fine u) → (t ≡ false → Fine v) → Fine (cond t u v)
either true h k = h refl
either false h k = k refl

on : (st : State) → in_phase phase_time st ≤ drive_limit → in_phase phase_cycle st ≤ most_drives → Fine (turn.On st)
unfolding turned_by
on st time cycle =
    record { fine = λ s h. record { count_small = h.count_small; silence_small = h.silence_small; time_small = time; cycle_small = cycle } }

begins : (st : State) → in_phase phase_time st ≤ drive_limit → in_phase phase_cycle st ≤ most_drives → Fine (turn.Enter st)
unfolding turned_by
begins st time cycle =
    record { fine = λ s h. record { count_small = omega arith; silence_small = omega arith; time_small = time; cycle_small = cycle } }

farewell : Fine turn.Farewell
unfolding turned_by in_phase
farewell =
    record { fine = λ s h. record { count_small = omega arith; silence_small = omega arith; time_small = omega arith; cycle_small = omega arith } }

ends : Fine turn.End
unfolding turned_by in_phase
ends =
    record { fine = λ s h. record { count_small = omega arith; silence_small = omega arith; time_small = omega arith; cycle_small = omega arith } }

error : Fine (turn.Enter Error)
unfolding in_phase
error = begins Error (omega arith) (omega arith)

module _ (x : Settings) (r : Readings) (c : Cells) where
  stop : (cause : Cause) → Fine (stop_of x r c cause)
  unfolding stop_of in_phase
  stop cause = begins (Stopping false (est_of x r c cause)) (omega arith) (omega arith)

  record FinePhase (t : (ControlFlow Cause Phase)) : Type 0 where
    fine_phase : Fine (phase_on x r c t)

  phase_either : (t : Bool) {u v : (ControlFlow Cause Phase)} → (t ≡ true → FinePhase u) → (t ≡ false → FinePhase v) → FinePhase (cond t u v)
  phase_either true h k = h refl
  phase_either false h k = k refl

  goes_on_lem : (p : Phase) → phase_time p ≤ drive_limit → phase_cycle p ≤ most_drives → FinePhase (Continue p)
  unfolding phase_on in_phase
  goes_on_lem p time cycle = record { fine_phase = on (Charging p) time cycle }

  stops : (cause : Cause) → FinePhase (Break cause)
  unfolding phase_on
  stops cause = record { fine_phase = stop cause }

  drive : (request : TenthAmps) (cycle time : ℕ) (cell : Bool) → time ≤ drive_limit → cycle ≤ most_drives → FinePhase (drive_rules request cycle time cell)
  unfolding drive_rules phase_time phase_cycle
  drive request cycle time cell h k =
      phase_either (leb drive_limit time) (λ e. stops Other)
      (λ e. phase_either cell (λ e. goes_on_lem (Rest request cycle 0) (omega arith) k) (λ e. goes_on_lem (Drive request cycle time) h k))

  hold : (time : ℕ) (cell : Bool) → time ≤ drive_limit → FinePhase (hold_rules time cell)
  unfolding hold_rules phase_time phase_cycle
  hold time cell h =
      phase_either (leb drive_limit time) (λ e. stops Other)
      (λ e. phase_either cell (λ e. stops HoldCell) (λ e. goes_on_lem (Hold time) h (omega arith)))

  rest : (request : TenthAmps) (cycle : ℕ) (cell : Bool) → FinePhase (after_rest request cycle cell)
  unfolding after_rest
  rest request cycle cell =
      phase_either (too_small (halved_amps request)) (λ e. hold 0 cell (omega arith))
      (λ e. phase_either (leb most_drives cycle) (λ e. hold 0 cell (omega arith))
      (λ e. drive (halved_amps request) (cycle + 1) 0 cell (omega arith) (omega (arith, leb-false most_drives cycle e))))

  phase : (p : Phase) (cell : Bool) → phase_time p ≤ drive_limit → phase_cycle p ≤ most_drives → FinePhase (phase_after p cell)
  unfolding phase_after phase_time phase_cycle
  phase (Drive request cycle time) cell h k = drive request cycle time cell h k
  phase (Rest request cycle time) cell h k =
      phase_either (leb rest_limit time) (λ e. rest request cycle cell) (λ e. goes_on_lem (Rest request cycle time) h k)
  phase (Hold time) cell h k = hold time cell h

  charging : (b : ℕ) (p : Phase) → phase_time p ≤ drive_limit → phase_cycle p ≤ most_drives → Fine (charging_of x r c b p)
  unfolding charging_of stops_of phase_turn
  charging b p h k =
      either (leb silence_limit b) (λ e. error)
      (λ e. either (wanted_of r)
      (λ e. either (current_above x r) (λ e. stop Other)
      (λ e. either (pack_full x r) (λ e. stop PackVoltage) (λ e. (phase p (cell_full x c) h k).fine_phase)))
      (λ e. stop Other))

  waiting : (b : ℕ) (st : State) → in_phase phase_time st ≤ drive_limit → in_phase phase_cycle st ≤ most_drives → Fine (waiting_of r b st)
  unfolding waiting_of
  waiting b st h k = either (leb silence_limit b) (λ e. error) (λ e. either (wanted_of r) (λ e. on st h k) (λ e. farewell))

  turn_fine : (st : State) (n b : ℕ) → in_phase phase_time st ≤ drive_limit → in_phase phase_cycle st ≤ most_drives → Fine (turn_of x r c st n b)
  unfolding turn_of stopping_of error_of in_phase
  turn_fine Idle n b h k = on Idle h k
  turn_fine Offered n b h k = waiting b Offered h k
  turn_fine Unverified n b h k = waiting b Unverified h k
  turn_fine Parameters n b h k = waiting b Parameters h k
  turn_fine (Ready accepted maximum) n b h k = waiting b (Ready accepted maximum) h k
  turn_fine (Charging p) n b h k = charging b p h k
  turn_fine (Stopping acknowledged est) n b h k =
      either (leb closing_limit n) (λ e. ends) (λ e. on (Stopping acknowledged (est_then x r c est)) h k)
  turn_fine Error n b h k = either (leb closing_limit n) (λ e. ends) (λ e. on Error h k)

  pub tick_small : (s : Session) → Small s → Small (tick_of x r c s)
  unfolding tick_of turn_in
  tick_small s h =
      advance_small (turned_by s (turn_of x r c s.state s.count s.silence))
      ((turn_fine s.state s.count s.silence h.time_small h.cycle_small).fine s h)

-- ---- a message
-- an outcome that leaves a small session small
record Good (o : Outcome) : Type 0 where
  good : (source : ℕ) (s : Session) → Small s → Small (applied_of source s o).session

whether : (t : Bool) {u v : Outcome} → Good u → Good v → Good (cond t u v)
whether true h k = h
whether false h k = k

refuse : Good Refuse
unfolding applied_of session_after
refuse = record { good = λ source s h. h }

out_of_step : Good OutOfStep
unfolding applied_of session_after
out_of_step =
    record { good = λ source s h. record { count_small = h.count_small; silence_small = omega arith; time_small = h.time_small; cycle_small = h.cycle_small } }

heard : Good Heard
unfolding applied_of session_after
heard =
    record { good = λ source s h. record { count_small = h.count_small; silence_small = omega arith; time_small = h.time_small; cycle_small = h.cycle_small } }

opens : Good Open
unfolding applied_of session_after in_phase
opens =
    record { good = λ source s h. record { count_small = omega arith; silence_small = omega arith; time_small = omega arith; cycle_small = omega arith } }

finish : Good End
unfolding applied_of session_after in_phase
finish =
    record { good = λ source s h. record { count_small = omega arith; silence_small = omega arith; time_small = omega arith; cycle_small = omega arith } }

enter : (st : State) → in_phase phase_time st ≤ drive_limit → in_phase phase_cycle st ≤ most_drives → Good (Enter st)
unfolding applied_of session_after
enter st time cycle =
    record { good = λ source s h. record { count_small = omega arith; silence_small = omega arith; time_small = time; cycle_small = cycle } }

keep : (est : (Option Est)) → Good (Keep (Stopping true est))
unfolding applied_of session_after in_phase
keep est =
    record { good = λ source s h. record { count_small = h.count_small; silence_small = omega arith; time_small = omega arith; cycle_small = omega arith } }

parameters : Good (Enter Parameters)
unfolding in_phase
parameters = enter Parameters (omega arith) (omega arith)

unverified : Good (Enter Unverified)
unfolding in_phase
unverified = enter Unverified (omega arith) (omega arith)

ready : (x : Settings) (o : Offer) → Good (ready_of x o)
unfolding ready_of in_phase
ready x o = enter (Ready (accepted_of x o) (station_maximum o)) (omega arith) (omega arith)

stopping : (acknowledged : Bool) → Good (Enter (Stopping acknowledged None))
unfolding in_phase
stopping acknowledged = enter (Stopping acknowledged None) (omega arith) (omega arith)

starts_any : (t : Bool) (request : TenthAmps) → Good (Enter (Charging (cond t (Hold 0) (Drive request 1 0))))
unfolding in_phase phase_time phase_cycle
starts_any true request = enter (Charging (Hold 0)) (omega arith) (omega arith)
starts_any false request = enter (Charging (Drive request 1 0)) (omega arith) (omega arith)

starts : (maximum station : TenthAmps) → Good (Enter (Charging (start_phase maximum station)))
unfolding start_phase
starts maximum station = starts_any (too_small (lesser_amps maximum station)) (lesser_amps maximum station)

outcome_good : (x : Settings) (st : State) (n : ℕ) (m : ChargeMessage) → Good (outcome_of x st n m)
unfolding outcome_of in_idle in_offered in_unverified in_parameters in_ready crm_in_ready in_charging in_stopping in_error
outcome_good x Idle n Cim = opens
outcome_good x Idle n (Cvm b) = refuse
outcome_good x Idle n (Cmp o) = refuse
outcome_good x Idle n (Crm b) = refuse
outcome_good x Idle n (Ccs b) = refuse
outcome_good x Idle n (Cst b) = refuse
outcome_good x Idle n Cem = refuse
outcome_good x Offered n Cim = heard
outcome_good x Offered n (Cvm b) = whether (ltb 0 n) (whether b parameters unverified) out_of_step
outcome_good x Offered n (Cmp o) = out_of_step
outcome_good x Offered n (Crm b) = out_of_step
outcome_good x Offered n (Ccs b) = out_of_step
outcome_good x Offered n (Cst b) = stopping true
outcome_good x Offered n Cem = finish
outcome_good x Unverified n Cim = refuse
outcome_good x Unverified n (Cvm b) = whether b parameters heard
outcome_good x Unverified n (Cmp o) = out_of_step
outcome_good x Unverified n (Crm b) = out_of_step
outcome_good x Unverified n (Ccs b) = out_of_step
outcome_good x Unverified n (Cst b) = stopping true
outcome_good x Unverified n Cem = finish
outcome_good x Parameters n Cim = refuse
outcome_good x Parameters n (Cvm b) = whether b heard out_of_step
outcome_good x Parameters n (Cmp o) = whether (ltb first_ecp n) (ready x o) out_of_step
outcome_good x Parameters n (Crm b) = out_of_step
outcome_good x Parameters n (Ccs b) = out_of_step
outcome_good x Parameters n (Cst b) = stopping true
outcome_good x Parameters n Cem = finish
outcome_good x (Ready accepted maximum) n Cim = refuse
outcome_good x (Ready accepted maximum) n (Cvm b) = out_of_step
outcome_good x (Ready accepted maximum) n (Cmp o) = ready x o
outcome_good x (Ready accepted maximum) n (Crm b) = whether (accepted && ltb 0 n) (whether b (starts x.limits.current maximum) heard) out_of_step
outcome_good x (Ready accepted maximum) n (Ccs b) = out_of_step
outcome_good x (Ready accepted maximum) n (Cst b) = stopping true
outcome_good x (Ready accepted maximum) n Cem = finish
outcome_good x (Charging p) n Cim = refuse
outcome_good x (Charging p) n (Cvm b) = refuse
outcome_good x (Charging p) n (Cmp o) = refuse
outcome_good x (Charging p) n (Crm b) = refuse
outcome_good x (Charging p) n (Ccs b) = whether b heard (stopping false)
outcome_good x (Charging p) n (Cst b) = stopping true
outcome_good x (Charging p) n Cem = finish
outcome_good x (Stopping acknowledged est) n Cim = refuse
outcome_good x (Stopping acknowledged est) n (Cvm b) = refuse
outcome_good x (Stopping acknowledged est) n (Cmp o) = refuse
outcome_good x (Stopping acknowledged est) n (Crm b) = refuse
outcome_good x (Stopping acknowledged est) n (Ccs b) = refuse
outcome_good x (Stopping acknowledged est) n (Cst b) = whether b (whether (ltb 0 n) finish refuse) (keep est)
outcome_good x (Stopping acknowledged est) n Cem = finish
outcome_good x Error n Cim = refuse
outcome_good x Error n (Cvm b) = refuse
outcome_good x Error n (Cmp o) = refuse
outcome_good x Error n (Crm b) = refuse
outcome_good x Error n (Ccs b) = refuse
outcome_good x Error n (Cst b) = refuse
outcome_good x Error n Cem = finish

pub message_small : (x : Settings) (source : ℕ) (s : Session) (m : ChargeMessage) → Small s → Small (message_of x source s m).session
unfolding message_of
message_small x source s m h = (outcome_good x s.state s.count m).good source s h
