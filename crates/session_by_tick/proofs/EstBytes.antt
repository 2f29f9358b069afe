-- After a tick's state change a session in Stopping has its EST bytes fixed, so no EST goes out without them. Assumes nothing.
use Prim.Native.Nat.{ℕ}
use Rattle.std.proofs.Common.{Option, Some, None}
use Rattle.std.specs.declared.ops.ControlFlow.{ControlFlow}
use Rattle.session_states.specs.declared.phases.Cause.{Cause}
use Rattle.std.specs.declared.ops.ControlFlow.TheVariants.{Continue, Break}
use mathlib.Core.Path.{◌≡◌, refl}
use mathlib.Core.Bool.{Bool, true, false, cond}
use lib.Dec.{leb}
use Rattle.settings.specs.declared.Settings.{Settings}
use Rattle.readings.specs.declared.Readings.{Readings}
use Rattle.readings.specs.Readings.{wanted_of}
use Rattle.cells.specs.declared.Cells.{Cells}
use Rattle.session_states.specs.declared.phases.Phase.{Phase}
use Rattle.session_states.specs.Limits.{silence_limit, closing_limit}
use Rattle.session_states.specs.Phases.{phase_after}
use Rattle.session_states.specs.declared.states.Est.{Est}
use Rattle.session_states.specs.declared.states.State.{State}
use Rattle.session_states.specs.declared.states.State.TheVariants.{Idle, Offered, Unverified, Parameters, Ready, Charging, Stopping, Error}
use Rattle.session_by_tick.specs.declared.Turn.{Turn}
use Rattle.session_by_tick.specs.declared.Turn.TheVariants.{On, Enter, Farewell, End}
use Rattle.session_by_tick.specs.Turns.{pack_full, current_above, cell_full, est_of, stop_of, waiting_of, phase_on, phase_turn, stops_of, charging_of, est_then, stopping_of, error_of, turn_of}

-- the EST bytes of a state are fixed, where it is Stopping
abbrev pub fixed_est : Option Est → Bool
fixed_est None = false
fixed_est (Some bytes) = true

abbrev pub fixed_in : State → Bool
fixed_in Idle = true
fixed_in Offered = true
fixed_in Unverified = true
fixed_in Parameters = true
fixed_in (Ready a b) = true
fixed_in (Charging p) = true
fixed_in (Stopping a est) = fixed_est est
fixed_in Error = true

-- and of the state that a turn leaves
abbrev pub fixed_after : Turn → Bool
fixed_after (On st) = fixed_in st
fixed_after (Enter st) = fixed_in st
fixed_after Farewell = true
fixed_after End = true

either : (b : Bool) (t u : Turn) → fixed_after t ≡ true → fixed_after u ≡ true → fixed_after (cond b t u) ≡ true
either true t u h k = h
either false t u h k = k

module _ (x : Settings) (r : Readings) (c : Cells) where
  phase_on_lem : (t : (ControlFlow Cause Phase)) → fixed_after (phase_on x r c t) ≡ true
  unfolding phase_on stop_of est_of
  phase_on_lem (Continue p) = refl
  phase_on_lem (Break cause) = refl

  charging : (silence : ℕ) (p : Phase) → fixed_after (charging_of x r c silence p) ≡ true
  unfolding charging_of stops_of stop_of est_of phase_turn
  charging silence p =
      either (leb silence_limit silence) _ _ refl
      (either (wanted_of r) _ _
      (either (current_above x r) _ _ refl
      (either (pack_full x r) _ _ refl (phase_on_lem (phase_after p (cell_full x c))))) refl)

  waiting : (silence : ℕ) (st : State) → fixed_in st ≡ true → fixed_after (waiting_of r silence st) ≡ true
  unfolding waiting_of
  waiting silence st h = either (leb silence_limit silence) _ _ refl (either (wanted_of r) _ _ h refl)

  est_then_lem : (est : (Option Est)) → fixed_est (est_then x r c est) ≡ true
  unfolding est_then est_of
  est_then_lem None = refl
  est_then_lem (Some bytes) = refl

  -- and once fixed they stay, however many ticks Stopping lasts
  pub est_stays : (bytes : Est) → est_then x r c (Some bytes) ≡ Some bytes
  unfolding est_then
  est_stays bytes = refl

  pub turn_fixes_est : (st : State) (count silence : ℕ) → fixed_after (turn_of x r c st count silence) ≡ true
  unfolding turn_of stopping_of error_of
  turn_fixes_est Idle count silence = refl
  turn_fixes_est Offered count silence = waiting silence Offered refl
  turn_fixes_est Unverified count silence = waiting silence Unverified refl
  turn_fixes_est Parameters count silence = waiting silence Parameters refl
  turn_fixes_est (Ready a b) count silence = waiting silence (Ready a b) refl
  turn_fixes_est (Charging p) count silence = charging silence p
  turn_fixes_est (Stopping a est) count silence = either (leb closing_limit count) _ _ refl (est_then_lem est)
  turn_fixes_est Error count silence = either (leb closing_limit count) _ _ refl refl
