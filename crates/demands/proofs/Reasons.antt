-- What a tick makes of each state, by the first of the paper's rules that holds: the reason of specs/Stops.antt leads
-- where it says. Assumes nothing.
use Prim.Native.Nat.{ℕ}
use Rattle.std.specs.declared.ops.ControlFlow.{ControlFlow}
use Rattle.session_states.specs.declared.phases.Cause.{Cause}
use Rattle.std.specs.declared.ops.ControlFlow.TheVariants.{Continue, Break}
use mathlib.Core.Path.{◌≡◌, refl, subst}
use mathlib.Core.Bool.{Bool, true, false, cond, ◌&&◌, ◌||◌}
use lib.Dec.{leb}
use Rattle.units.specs.declared.TenthAmps.{TenthAmps}
use Rattle.units.specs.Units.{halved_amps}
use Rattle.settings.specs.declared.Settings.{Settings}
use Rattle.readings.specs.declared.Readings.{Readings}
use Rattle.readings.specs.Readings.{wanted_of}
use Rattle.cells.specs.declared.Cells.{Cells}
use Rattle.session_states.specs.declared.phases.Phase.{Phase}
use Rattle.session_states.specs.declared.phases.Phase.TheVariants.{Drive, Rest, Hold}
use Rattle.session_states.specs.declared.phases.Cause.TheVariants.{PackVoltage, HoldCell, Other}
use Rattle.session_states.specs.Phases.{too_small, drive_rules, hold_rules, after_rest, phase_after}
use Rattle.session_states.specs.declared.states.State.{State}
use Rattle.session_states.specs.declared.states.State.TheVariants.{Idle, Offered, Unverified, Parameters, Ready, Charging, Stopping, Error}
use Rattle.session_by_tick.specs.declared.Turn.{Turn}
use Rattle.session_by_tick.specs.declared.Turn.TheVariants.{On, Enter, Farewell, End}
use Rattle.session_by_tick.specs.Turns.{cell_full, pack_full, current_above, stop_of, waiting_of, phase_on, phase_turn, stops_of, charging_of, stopping_of, error_of, turn_of}
use Rattle.session.specs.declared.Session.{Session}
use Rattle.session.specs.Tick.{turned_by, turn_in}
use Rattle.session_paper_counts.specs.Literal.{grown, counted, literal_in, literal_advance, literal_tick}
use Rattle.session_states.specs.Limits.{silence_limit, closing_limit, drive_limit, rest_limit, hold_limit, most_drives}
use Rattle.demands.specs.Stops.{Why, GoesOn, AtSilenceLimit, NotWantedBefore, NotWantedCharging, CurrentAbove, PackFull, TimeUp, CellFull, AtClosingLimit}
use Rattle.demands.specs.Stops.{time_up, in_hold, why_in, why_of, ChargesAs, GoesOnAs, LeadsTo}

-- ---- what a phase comes to
unfoldable turned_why : ControlFlow Cause Phase → Why
turned_why (Continue p) = GoesOn
turned_why (Break PackVoltage) = PackFull
turned_why (Break HoldCell) = CellFull
turned_why (Break Other) = TimeUp

abbrev phase_why : Bool → Bool → Why
phase_why time cell = cond time TimeUp (cond cell CellFull GoesOn)

drive_why : (up full : Bool) (d e : Phase)
    → turned_why (cond up (Break Other) (cond full (Continue d) (Continue e))) ≡ phase_why up (false && full)
unfolding turned_why
drive_why true full d e = refl
drive_why false true d e = refl
drive_why false false d e = refl

hold_why : (up full : Bool) (d : Phase)
    → turned_why (cond up (Break Other) (cond full (Break HoldCell) (Continue d))) ≡ phase_why up (true && full)
unfolding turned_why
hold_why true full d = refl
hold_why false true d = refl
hold_why false false d = refl

rest_why : (over small done full : Bool) (request : TenthAmps) (cycle : ℕ) (d : Phase)
    → turned_why (cond over (cond small (hold_rules 0 full) (cond done (hold_rules 0 full) (drive_rules request cycle 0 full))) (Continue d))
    ≡ phase_why false ((over && (small || done)) && full)
unfolding turned_why hold_rules drive_rules
rest_why false small done full request cycle d = refl
rest_why true true done true request cycle d = refl
rest_why true true done false request cycle d = refl
rest_why true false true true request cycle d = refl
rest_why true false true false request cycle d = refl
rest_why true false false true request cycle d = refl
rest_why true false false false request cycle d = refl

phase_why_lem : (p : Phase) (full : Bool) → turned_why (phase_after p full) ≡ phase_why (time_up p) (in_hold p && full)
unfolding phase_after drive_rules hold_rules after_rest time_up in_hold
phase_why_lem (Drive request cycle time) full = drive_why (leb drive_limit time) full _ _
phase_why_lem (Rest request cycle time) full = rest_why (leb rest_limit time) (too_small (halved_amps request)) (leb most_drives cycle) full _ _ _
phase_why_lem (Hold time) full = hold_why (leb hold_limit time) full _

-- ---- what a tick comes to
module _ (x : Settings) (r : Readings) (c : Cells) (s : Session) where
  -- the state after a tick whose turn is this
  unfoldable reached : Turn → State
  reached t = (literal_advance (turned_by s t)).state

  wait_why : (st : State) (late wanted : Bool) → GoesOnAs x r c st (reached (On st))
      → LeadsTo x r c st (cond late AtSilenceLimit (cond wanted GoesOn NotWantedBefore)) (reached (cond late (Enter Error) (cond wanted (On st) Farewell)))
  unfolding LeadsTo reached turned_by literal_advance literal_in counted
  wait_why st true wanted h = refl
  wait_why st false true h = h
  wait_why st false false h = refl

  charge_why : (p : Phase) (late wanted above full : Bool) (t : (ControlFlow Cause Phase)) → phase_after p (cell_full x c) ≡ t
      → LeadsTo x r c (Charging p)
      (cond late AtSilenceLimit (cond wanted (cond above CurrentAbove (cond full PackFull (turned_why t))) NotWantedCharging))
      (reached
      (cond late (Enter Error)
      (cond wanted (cond above (stop_of x r c Other) (cond full (stop_of x r c PackVoltage) (phase_on x r c t))) (stop_of x r c Other))))
  unfolding LeadsTo GoesOnAs ChargesAs reached turned_by literal_advance literal_in counted grown stop_of phase_on turned_why
  charge_why p true wanted above full t e = refl
  charge_why p false false above full t e = refl
  charge_why p false true true full t e = refl
  charge_why p false true false true t e = refl
  charge_why p false true false false (Continue q) e = rw e
  charge_why p false true false false (Break PackVoltage) e = refl
  charge_why p false true false false (Break HoldCell) e = refl
  charge_why p false true false false (Break Other) e = refl

  close_why : (st to : State) (over : Bool) → GoesOnAs x r c st (reached (On to))
      → LeadsTo x r c st (cond over AtClosingLimit GoesOn) (reached (cond over End (On to)))
  unfolding LeadsTo reached turned_by literal_advance literal_in
  close_why st to true h = refl
  close_why st to false h = h

  turn_why : (n silence : ℕ) (st : State)
      → LeadsTo x r c st (why_in x r c n silence st) (reached (turn_of x r c st n silence))
  unfolding why_in LeadsTo GoesOnAs reached turned_by literal_advance literal_in grown counted turn_of waiting_of charging_of stops_of phase_turn stopping_of error_of
  turn_why n silence Idle = refl
  turn_why n silence Offered = wait_why Offered (leb silence_limit silence) (wanted_of r) refl
  turn_why n silence Unverified = wait_why Unverified (leb silence_limit silence) (wanted_of r) refl
  turn_why n silence Parameters = wait_why Parameters (leb silence_limit silence) (wanted_of r) refl
  turn_why n silence (Ready y most) = wait_why (Ready y most) (leb silence_limit silence) (wanted_of r) refl
  turn_why n silence (Charging p) =
      subst (λ (w : Why). LeadsTo x r c (Charging p)
      (cond (leb silence_limit silence) AtSilenceLimit
      (cond (wanted_of r) (cond (current_above x r) CurrentAbove (cond (pack_full x r) PackFull w)) NotWantedCharging))
      (reached (turn_of x r c (Charging p) n silence)))
      (phase_why_lem p (cell_full x c))
      (charge_why p (leb silence_limit silence) (wanted_of r) (current_above x r) (pack_full x r) (phase_after p (cell_full x c)) refl)
  turn_why n silence (Stopping k e) = close_why (Stopping k e) _ (leb closing_limit n) refl
  turn_why n silence Error = close_why Error Error (leb closing_limit n) refl

  -- a tick leads where its reason says
  pub tick_why : LeadsTo x r c s.state (why_of x r c s) (literal_tick x r c s).state
  unfolding why_of literal_tick turn_in reached
  tick_why = turn_why s.count s.silence s.state
