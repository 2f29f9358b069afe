-- The state change of a tick, its frames and the counts after it, for a session and for its fold. Assumes nothing.
use mathlib.Core.Path.{◌≡◌, refl, ap, ◌∙◌}
use Rattle.std.proofs.Common.{Option}
use Rattle.std.specs.declared.ops.ControlFlow.{ControlFlow}
use Rattle.std.specs.declared.ops.ControlFlow.TheVariants.{Continue, Break}
use mathlib.Core.Bool.{Bool, true, false, cond}
use mathlib.Core.List.{List, [], ◌∷◌}
use Prim.Native.Nat.{ℕ, ◌+◌}
use native.Mathlib.Omega.{arith}
use borrow.Author.Tests.{leb-false}
use lib.Dec.{leb}
use Rattle.units.specs.declared.TenthAmps.{TenthAmps}
use Rattle.units.specs.Units.{halved_amps}
use Rattle.frames.specs.declared.Frame.{Frame}
use Rattle.settings.specs.declared.Settings.{Settings}
use Rattle.readings.specs.declared.Readings.{Readings}
use Rattle.readings.specs.Readings.{wanted_of}
use Rattle.cells.specs.declared.Cells.{Cells}
use Rattle.session_states.specs.declared.phases.Phase.{Phase}
use Rattle.session_states.specs.declared.phases.Phase.TheVariants.{Drive, Rest, Hold}
use Rattle.session_states.specs.declared.phases.Cause.{Cause}
use Rattle.session_states.specs.declared.phases.Cause.TheVariants.{PackVoltage, Other}
use Rattle.session_states.specs.Limits.{silence_limit, closing_limit, drive_limit, rest_limit, hold_limit, most_drives}
use Rattle.session_states.specs.Counts.{next_each_five, next_ecp, next_up_to}
use Rattle.session_states.specs.Phases.{too_small, aged_of, drive_rules, hold_rules, after_rest, phase_after}
use Rattle.session_states.specs.declared.states.Est.{Est}
use Rattle.session_states.specs.declared.states.State.{State}
use Rattle.session_states.specs.declared.states.State.TheVariants.{Idle, Offered, Unverified, Parameters, Ready, Charging, Stopping, Error}
use Rattle.session_by_tick.specs.declared.Turn.{Turn}
use Rattle.session_by_tick.specs.declared.Turn.TheVariants.{On, Enter, Farewell, End}
use Rattle.session_by_tick.specs.Turns.{turn_of, waiting_of, charging_of, stops_of, stop_of, phase_turn, phase_on, cell_full, pack_full, current_above, stopping_of, est_then, error_of}
use Rattle.session_frames.specs.Layouts.{eim_of, evm_of, erm_of, ecr_of, ecs_of, esm_of}
use Rattle.session.specs.declared.Session.{Session}
use Rattle.session.specs.Session.{with_silence, with_count, with_state}
use Rattle.session.specs.Frames.{is_fifth, each5, parameters_frames, charging_frames, frames_in, frames_of}
use Rattle.session.specs.Tick.{turn_in, turned_by, waited_of, closing_of, advance_in, advance_of}
use Rattle.session_paper_counts.specs.Literal.{older, grown, counted, literal_in, literal_advance}
use Rattle.session_paper_counts.specs.Folds.{fold, fold_phase, fold_state, fold_count, folds}
use Rattle.session_paper_counts.proofs.Fold.{fold_next, fold_leb, fold_mod, fold_zero, fold_up_to}

-- ---- the counts after a tick
older_folds : (p : Phase) → fold_phase (older p) ≡ aged_of (fold_phase p)
unfolding fold_phase older aged_of
older_folds (Drive request cycle time) = rw (fold_next (next_up_to drive_limit) time)
older_folds (Rest request cycle time) = rw (fold_next (next_up_to rest_limit) time)
older_folds (Hold time) = rw (fold_next (next_up_to hold_limit) time)

-- what is shown of a session in a state is shown whatever the rest of it is
waited_folds : (s : Session) (next : ℕ → ℕ) (st : State) →
    with_state (with_count (with_silence s (fold (next_up_to silence_limit) (s.silence + 1))) (fold next (s.count + 1))) st
    ≡ with_state
    (with_count (with_silence s (next_up_to silence_limit (fold (next_up_to silence_limit) s.silence))) (next (fold next s.count)))
    st
waited_folds s next st = rw (fold_next (next_up_to silence_limit) s.silence, fold_next next s.count)

counted_folds : (s : Session) (n : ℕ) (st : State) →
    with_state (with_count s (fold (next_up_to closing_limit) (n + 1))) st
    ≡ with_state (with_count s (next_up_to closing_limit (fold (next_up_to closing_limit) n))) st
counted_folds s n st = rw (fold_next (next_up_to closing_limit) n)

advance_in_lem : (s : Session) (st : State) → folds (literal_in (with_state s st) st) ≡ advance_in (folds (with_state s st)) (fold_state st)
unfolding folds fold_state fold_count literal_in grown counted advance_in waited_of closing_of
advance_in_lem s Idle = refl
advance_in_lem s Offered = waited_folds s next_each_five Offered
advance_in_lem s Unverified = waited_folds s next_each_five Unverified
advance_in_lem s Parameters = waited_folds s next_ecp Parameters
advance_in_lem s (Ready accepted maximum) = waited_folds s next_each_five (Ready accepted maximum)
advance_in_lem s (Charging p) = rw (older_folds p) (waited_folds s next_each_five (Charging (aged_of (fold_phase p))))
advance_in_lem s (Stopping acknowledged est) =
    counted_folds (with_silence s (fold (next_up_to silence_limit) s.silence)) s.count (Stopping acknowledged est)
advance_in_lem s Error = counted_folds (with_silence s (fold (next_up_to silence_limit) s.silence)) s.count Error

pub advance_folds : (s : Session) → folds (literal_advance s) ≡ advance_of (folds s)
unfolding folds literal_advance advance_of
advance_folds s = advance_in_lem s s.state

-- ---- the frames of a state
-- Stopping and Error have frames up to their limit only, where the count is its own fold; in the other states any count will do
abbrev Fits : State → ℕ → Type 0
Fits Idle n = Unit {0}
Fits Offered n = Unit {0}
Fits Unverified n = Unit {0}
Fits Parameters n = Unit {0}
Fits (Ready accepted maximum) n = Unit {0}
Fits (Charging p) n = Unit {0}
Fits (Stopping acknowledged est) n = fold (next_up_to closing_limit) n ≡ n
Fits Error n = fold (next_up_to closing_limit) n ≡ n

-- a state that begins
fits_zero : (st : State) → Fits st 0
unfolding fold
fits_zero Idle = tt
fits_zero Offered = tt
fits_zero Unverified = tt
fits_zero Parameters = tt
fits_zero (Ready accepted maximum) = tt
fits_zero (Charging p) = tt
fits_zero (Stopping acknowledged est) = refl
fits_zero Error = refl

each5_folds : (n : ℕ) (fs : List Frame) → each5 n fs ≡ each5 (fold next_each_five n) fs
unfolding each5 is_fifth
each5_folds n fs = rw (fold_mod 5 1 1 4 n refl)

ecr_folds : (x : Settings) (station : ℕ) (c : Cells) (p : Phase) → ecr_of x station c p ≡ ecr_of x station c (fold_phase p)
unfolding ecr_of fold_phase
ecr_folds x station c (Drive request cycle time) = refl
ecr_folds x station c (Rest request cycle time) = refl
ecr_folds x station c (Hold time) = refl

module _ (x : Settings) (r : Readings) (c : Cells) where
  parameters_folds : (a n : ℕ) → parameters_frames x r a n ≡ parameters_frames x r a (fold next_ecp n)
  unfolding parameters_frames
  parameters_folds a n = rw (fold_zero 6 9 n (omega arith), fold_mod 10 1 6 9 n refl)

  charging_folds : (a n : ℕ) (p : Phase) → charging_frames x r c a n p ≡ charging_frames x r c a (fold next_each_five n) (fold_phase p)
  unfolding charging_frames
  charging_folds a n p = rw (← ecr_folds x a c p, ← each5_folds n (ecs_of x a r c ∷ esm_of x a c ∷ []))

  frames_in_lem : (a n : ℕ) (st : State) → Fits st n → frames_in x r c a n st ≡ frames_in x r c a (fold_count st n) (fold_state st)
  unfolding frames_in fold_count fold_state
  frames_in_lem a n Idle h = refl
  frames_in_lem a n Offered h = each5_folds n (eim_of x a true ∷ [])
  frames_in_lem a n Unverified h = each5_folds n (evm_of x a r false ∷ [])
  frames_in_lem a n Parameters h = parameters_folds a n
  frames_in_lem a n (Ready accepted maximum) h = each5_folds n (erm_of x a accepted ∷ [])
  frames_in_lem a n (Charging p) h = charging_folds a n p
  frames_in_lem a n (Stopping acknowledged est) h = rw h
  frames_in_lem a n Error h = rw h

-- ---- the state change
abbrev pub fold_turn : Turn → Turn
fold_turn (On st) = On (fold_state st)
fold_turn (Enter st) = Enter (fold_state st)
fold_turn Farewell = Farewell
fold_turn End = End

abbrev fold_after : ControlFlow Cause Phase → ControlFlow Cause Phase
fold_after (Continue p) = Continue (fold_phase p)
fold_after (Break cause) = Break cause

pub both : {A B : Type 0} (f : A → B) (t : Bool) {x y : A} {x' y' : B} → f x ≡ x' → f y ≡ y' → f (cond t x y) ≡ cond t x' y'
both f true h k = h
both f false h k = k

drive_folds : (request : TenthAmps) (cycle time : ℕ) (cell : Bool) →
    fold_after (drive_rules request cycle time cell) ≡ drive_rules request cycle (fold (next_up_to drive_limit) time) cell
unfolding drive_rules fold_phase fold
drive_folds request cycle time cell =
    rw (fold_leb drive_limit drive_limit 0 time (omega arith))
    (both fold_after (leb drive_limit time) refl (both fold_after cell refl refl))

hold_folds : (time : ℕ) (cell : Bool) → fold_after (hold_rules time cell) ≡ hold_rules (fold (next_up_to hold_limit) time) cell
unfolding hold_rules fold_phase
hold_folds time cell =
    rw (fold_leb drive_limit drive_limit 0 time (omega arith))
    (both fold_after (leb drive_limit time) refl (both fold_after cell refl refl))

-- a phase that begins has time 0, which is its own fold
rest_folds : (request : TenthAmps) (cycle : ℕ) (cell : Bool) → fold_after (after_rest request cycle cell) ≡ after_rest request cycle cell
unfolding after_rest fold
rest_folds request cycle cell =
    both fold_after (too_small (halved_amps request)) (hold_folds 0 cell)
    (both fold_after (leb most_drives cycle) (hold_folds 0 cell) (drive_folds (halved_amps request) (cycle + 1) 0 cell))

phase_folds : (p : Phase) (cell : Bool) → fold_after (phase_after p cell) ≡ phase_after (fold_phase p) cell
unfolding phase_after fold_phase
phase_folds (Drive request cycle time) cell = drive_folds request cycle time cell
phase_folds (Rest request cycle time) cell =
    rw (fold_leb rest_limit rest_limit 0 time (omega arith))
    (both fold_after (leb rest_limit time) (rest_folds request cycle cell) refl)
phase_folds (Hold time) cell = hold_folds time cell

module _ (x : Settings) (r : Readings) (c : Cells) where
  phase_on_lem : (t : (ControlFlow Cause Phase)) → fold_turn (phase_on x r c t) ≡ phase_on x r c (fold_after t)
  unfolding phase_on stop_of fold_state
  phase_on_lem (Continue p) = refl
  phase_on_lem (Break cause) = refl

  stops_folds : (p : Phase) → fold_turn (stops_of x r c p) ≡ stops_of x r c (fold_phase p)
  unfolding stops_of phase_turn stop_of fold_state
  stops_folds p =
      both fold_turn (current_above x r) refl
      (both fold_turn (pack_full x r) refl (phase_on_lem (phase_after p (cell_full x c)) ∙ ap (phase_on x r c) (phase_folds p (cell_full x c))))

  waiting_folds : (b : ℕ) (st : State) → fold_turn (waiting_of r b st) ≡ waiting_of r (fold (next_up_to silence_limit) b) (fold_state st)
  unfolding waiting_of fold_state
  waiting_folds b st =
      rw (fold_leb silence_limit silence_limit 0 b (omega arith)) (both fold_turn (leb silence_limit b) refl (both fold_turn (wanted_of r) refl refl))

  charging_turn : (b : ℕ) (p : Phase) → fold_turn (charging_of x r c b p) ≡ charging_of x r c (fold (next_up_to silence_limit) b) (fold_phase p)
  unfolding charging_of stop_of fold_state
  charging_turn b p =
      rw (fold_leb silence_limit silence_limit 0 b (omega arith))
      (both fold_turn (leb silence_limit b) refl (both fold_turn (wanted_of r) (stops_folds p) refl))

  pub turn_folds : (st : State) (n b : ℕ) → fold_turn (turn_of x r c st n b) ≡ turn_of x r c (fold_state st) (fold_count st n) (fold (next_up_to silence_limit) b)
  unfolding turn_of stopping_of error_of fold_state fold_count
  turn_folds Idle n b = refl
  turn_folds Offered n b = waiting_folds b Offered
  turn_folds Unverified n b = waiting_folds b Unverified
  turn_folds Parameters n b = waiting_folds b Parameters
  turn_folds (Ready accepted maximum) n b = waiting_folds b (Ready accepted maximum)
  turn_folds (Charging p) n b = charging_turn b p
  turn_folds (Stopping acknowledged est) n b =
      rw (fold_leb closing_limit closing_limit 0 n (omega arith)) (both fold_turn (leb closing_limit n) refl refl)
  turn_folds Error n b = rw (fold_leb closing_limit closing_limit 0 n (omega arith)) (both fold_turn (leb closing_limit n) refl refl)

-- ---- the session after the state change
-- a state that goes on leaves the count in the same cycle; one that begins has count 0, which is its own fold
record Steps (st : State) (t : Turn) : Type 0 where
  steps : (s : Session) → folds (turned_by (with_state s st) t) ≡ turned_by (folds (with_state s st)) (fold_turn t)

either : {st : State} (t : Bool) {u v : Turn} → Steps st u → Steps st v → Steps st (cond t u v)
either true h k = h
either false h k = k

error : {st : State} → Steps st (Enter Error)
unfolding folds turned_by fold_count fold_state fold
error = record { steps = λ s. refl }

farewell : {st : State} → Steps st Farewell
unfolding folds turned_by fold_count fold_state fold
farewell = record { steps = λ s. refl }

ends : {st : State} → Steps st End
unfolding folds turned_by fold_count fold_state fold
ends = record { steps = λ s. refl }

on : (st : State) → Steps st (On st)
unfolding folds turned_by
on st = record { steps = λ s. refl }

stays : (k : Bool) (est later : (Option Est)) → Steps (Stopping k est) (On (Stopping k later))
unfolding folds turned_by fold_count fold_state
stays k est later = record { steps = λ s. refl }

module _ (x : Settings) (r : Readings) (c : Cells) where
  stop : {st : State} (cause : Cause) → Steps st (stop_of x r c cause)
  unfolding folds turned_by stop_of fold_count fold_state fold
  stop cause = record { steps = λ s. refl }

  by_phase : (p : Phase) (t : (ControlFlow Cause Phase)) → Steps (Charging p) (phase_on x r c t)
  unfolding phase_on folds turned_by fold_count fold_state
  by_phase p (Continue q) = record { steps = λ s. refl }
  by_phase p (Break cause) = stop cause

  waiting_steps : (st : State) (b : ℕ) → Steps st (waiting_of r b st)
  unfolding waiting_of
  waiting_steps st b = either (leb silence_limit b) error (either (wanted_of r) (on st) farewell)

  charging_steps : (p : Phase) (b : ℕ) → Steps (Charging p) (charging_of x r c b p)
  unfolding charging_of stops_of phase_turn
  charging_steps p b =
      either (leb silence_limit b) error
      (either (wanted_of r)
      (either (current_above x r) (stop Other)
      (either (pack_full x r) (stop PackVoltage) (by_phase p (phase_after p (cell_full x c)))))
      (stop Other))

  turn_steps : (st : State) (n b : ℕ) → Steps st (turn_of x r c st n b)
  unfolding turn_of stopping_of error_of
  turn_steps Idle n b = on Idle
  turn_steps Offered n b = waiting_steps Offered b
  turn_steps Unverified n b = waiting_steps Unverified b
  turn_steps Parameters n b = waiting_steps Parameters b
  turn_steps (Ready accepted maximum) n b = waiting_steps (Ready accepted maximum) b
  turn_steps (Charging p) n b = charging_steps p b
  turn_steps (Stopping acknowledged est) n b =
      either (leb closing_limit n) ends (stays acknowledged est (est_then x r c est))
  turn_steps Error n b = either (leb closing_limit n) ends (on Error)

  pub turn_in_lem : (s : Session) → fold_turn (turn_in x r c s) ≡ turn_in x r c (folds s)
  unfolding turn_in folds
  turn_in_lem s = turn_folds x r c s.state s.count s.silence

  pub turned_folds : (s : Session) → folds (turned_by s (turn_in x r c s)) ≡ turned_by (folds s) (turn_in x r c (folds s))
  unfolding turn_in
  turned_folds s =
      (turn_steps s.state s.count s.silence).steps s
      ∙ ap (turned_by (folds s)) (turn_in_lem s)

  -- the state that a turn leaves has a count that fits it
  abbrev FitsTurn : ℕ → Turn → Type 0
  FitsTurn n (On st) = Fits st n
  FitsTurn n (Enter st) = Unit {0}
  FitsTurn n Farewell = Unit {0}
  FitsTurn n End = Unit {0}

  record Fitting (n : ℕ) (t : Turn) : Type 0 where
    fitting : FitsTurn n t

  picked : (n : ℕ) (t : Bool) {u v : Turn} → (t ≡ true → Fitting n u) → (t ≡ false → Fitting n v) → Fitting n (cond t u v)
  picked n true h k = h refl
  picked n false h k = k refl

  phase_fits : (n : ℕ) (t : (ControlFlow Cause Phase)) → Fitting n (phase_on x r c t)
  unfolding phase_on stop_of
  phase_fits n (Continue p) = record { fitting = tt }
  phase_fits n (Break cause) = record { fitting = tt }

  waiting_fits : (n b : ℕ) (st : State) → Fits st n → Fitting n (waiting_of r b st)
  unfolding waiting_of
  waiting_fits n b st h =
      picked n (leb silence_limit b) (λ e. record { fitting = tt })
      (λ e. picked n (wanted_of r) (λ w. record { fitting = h }) (λ w. record { fitting = tt }))

  stop_fits : (n : ℕ) (cause : Cause) → Fitting n (stop_of x r c cause)
  unfolding stop_of
  stop_fits n cause = record { fitting = tt }

  charging_fits : (n b : ℕ) (p : Phase) → Fitting n (charging_of x r c b p)
  unfolding charging_of stops_of phase_turn
  charging_fits n b p =
      picked n (leb silence_limit b) (λ e. record { fitting = tt })
      (λ e. picked n (wanted_of r)
      (λ w. picked n (current_above x r) (λ a. stop_fits n Other)
      (λ a. picked n (pack_full x r) (λ f. stop_fits n PackVoltage) (λ f. phase_fits n (phase_after p (cell_full x c)))))
      (λ w. stop_fits n Other))

  closing_fits : (n : ℕ) → leb closing_limit n ≡ false → fold (next_up_to closing_limit) n ≡ n
  closing_fits n e = fold_up_to closing_limit n (omega (arith, leb-false closing_limit n e))

  turn_fits : (st : State) (n b : ℕ) → Fitting n (turn_of x r c st n b)
  unfolding turn_of stopping_of error_of
  turn_fits Idle n b = record { fitting = tt }
  turn_fits Offered n b = waiting_fits n b Offered tt
  turn_fits Unverified n b = waiting_fits n b Unverified tt
  turn_fits Parameters n b = waiting_fits n b Parameters tt
  turn_fits (Ready accepted maximum) n b = waiting_fits n b (Ready accepted maximum) tt
  turn_fits (Charging p) n b = charging_fits n b p
  turn_fits (Stopping acknowledged est) n b =
      picked n (leb closing_limit n) (λ e. record { fitting = tt }) (λ e. record { fitting = closing_fits n e })
  turn_fits Error n b =
      picked n (leb closing_limit n) (λ e. record { fitting = tt }) (λ e. record { fitting = closing_fits n e })

  frames_after : (a : ℕ) (s : Session) (t : Turn) → FitsTurn s.count t
      → frames_of x r c a t (turned_by s t) ≡ frames_of x r c a (fold_turn t) (folds (turned_by s t))
  unfolding frames_of turned_by folds
  frames_after a s (On st) h = frames_in_lem x r c s.station s.count st h
  frames_after a s (Enter st) h = frames_in_lem x r c s.station 0 st (fits_zero st)
  frames_after a s Farewell h = refl
  frames_after a s End h = frames_in_lem x r c 0 0 Idle tt

  -- the frames of a tick are those of its fold
  pub frames_of_lem : (a : ℕ) (s : Session)
      → frames_of x r c a (turn_in x r c s) (turned_by s (turn_in x r c s))
      ≡ frames_of x r c a (fold_turn (turn_in x r c s)) (folds (turned_by s (turn_in x r c s)))
  unfolding turn_in
  frames_of_lem a s =
      frames_after a s (turn_of x r c s.state s.count s.silence) (turn_fits s.state s.count s.silence).fitting
