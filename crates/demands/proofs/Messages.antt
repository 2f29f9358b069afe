-- Which charge messages end a session, which end a charge, and what they make of Stopping's count, state by state.
-- Assumes nothing.
use Prim.Native.Nat.{ℕ}
use mathlib.Core.Path.{◌≡◌, refl, sym}
use mathlib.Core.Bool.{Bool, true, false, not, cond, ◌&&◌, false≢true}
use lib.Dec.{ltb}
use Rattle.settings.specs.declared.Settings.{Settings}
use Rattle.charge_messages.specs.declared.ChargeMessage.{ChargeMessage}
use Rattle.charge_messages.specs.declared.ChargeMessage.TheVariants.{Cim, Cvm, Cmp, Crm, Ccs, Cst, Cem}
use Rattle.session_states.specs.declared.states.State.{State}
use Rattle.session_states.specs.declared.states.State.TheVariants.{Idle, Offered, Unverified, Parameters, Ready, Charging, Stopping, Error}
use Rattle.session_by_message.specs.declared.Outcome.{Outcome}
use Rattle.session_by_message.specs.Message.{outcome_of, in_offered, in_unverified, in_parameters, in_ready, ready_of, crm_in_ready, in_charging, in_stopping, in_error}
use Rattle.session.specs.declared.Session.{Session}
use Rattle.session.specs.Session.{with_state}
use Rattle.session.specs.Message.{session_after}
use Rattle.session_states.specs.States.{is_idle}
use Rattle.session_states.specs.Limits.{first_ecp}
use Rattle.session_states.specs.States.{is_charging, is_stopping}
use Rattle.demands.specs.Ends.{message_ends, message_leaves}
use Rattle.demands.proofs.Tests.{same}

-- a session by its parts
abbrev pub mk : ℕ → ℕ → ℕ → State → Session
mk station silence count st = record { station = station; silence = silence; count = count; state = st }

module _ (x : Settings) (source : ℕ) (s : Session) where
  abbrev n : ℕ
  n = s.count

  abbrev pub idle_after : State → Outcome → Bool
  idle_after st o = is_idle (session_after source (with_state s st) o).state

  cst_after : (st : State) (v g : Bool) (u w k : Outcome) → idle_after st u ≡ true → idle_after st w ≡ false
      → idle_after st k ≡ false
      → idle_after st (cond v (cond g u w) k) ≡ (v && g)
  cst_after st true true u w k h i j = h
  cst_after st true false u w k h i j = i
  cst_after st false g u w k h i j = j

  and_false : (v : Bool) → false ≡ (v && false)
  and_false true = refl
  and_false false = refl

  pub ends_message : (st : State) (m : ChargeMessage) → is_idle st ≡ false
      → idle_after st (outcome_of x st n m) ≡ message_ends st n m
  unfolding is_idle is_stopping message_ends session_after outcome_of in_offered in_unverified in_parameters in_ready ready_of crm_in_ready in_charging in_stopping in_error
  ends_message Idle m h = absurd (false≢true (sym h))
  ends_message Offered Cim h = refl
  ends_message Offered (Cvm v) h = same (idle_after Offered) (ltb 0 n) (same (idle_after Offered) v refl refl) refl
  ends_message Offered (Cmp o) h = refl
  ends_message Offered (Crm v) h = refl
  ends_message Offered (Ccs v) h = refl
  ends_message Offered (Cst v) h = and_false v
  ends_message Offered Cem h = refl
  ends_message Unverified Cim h = refl
  ends_message Unverified (Cvm v) h = same (idle_after Unverified) v refl refl
  ends_message Unverified (Cmp o) h = refl
  ends_message Unverified (Crm v) h = refl
  ends_message Unverified (Ccs v) h = refl
  ends_message Unverified (Cst v) h = and_false v
  ends_message Unverified Cem h = refl
  ends_message Parameters Cim h = refl
  ends_message Parameters (Cvm v) h = same (idle_after Parameters) v refl refl
  ends_message Parameters (Cmp o) h = same (idle_after Parameters) (ltb first_ecp n) refl refl
  ends_message Parameters (Crm v) h = refl
  ends_message Parameters (Ccs v) h = refl
  ends_message Parameters (Cst v) h = and_false v
  ends_message Parameters Cem h = refl
  ends_message (Ready y maximum) Cim h = refl
  ends_message (Ready y maximum) (Cvm v) h = refl
  ends_message (Ready y maximum) (Cmp o) h = refl
  ends_message (Ready y maximum) (Crm v) h =
      same (idle_after (Ready y maximum)) (y && ltb 0 n) (same (idle_after (Ready y maximum)) v refl refl) refl
  ends_message (Ready y maximum) (Ccs v) h = refl
  ends_message (Ready y maximum) (Cst v) h = and_false v
  ends_message (Ready y maximum) Cem h = refl
  ends_message (Charging p) Cim h = refl
  ends_message (Charging p) (Cvm v) h = refl
  ends_message (Charging p) (Cmp o) h = refl
  ends_message (Charging p) (Crm v) h = refl
  ends_message (Charging p) (Ccs v) h = same (idle_after (Charging p)) v refl refl
  ends_message (Charging p) (Cst v) h = and_false v
  ends_message (Charging p) Cem h = refl
  ends_message (Stopping k e) Cim h = refl
  ends_message (Stopping k e) (Cvm v) h = refl
  ends_message (Stopping k e) (Cmp o) h = refl
  ends_message (Stopping k e) (Crm v) h = refl
  ends_message (Stopping k e) (Ccs v) h = refl
  ends_message (Stopping k e) (Cst v) h = cst_after (Stopping k e) v (ltb 0 n) _ _ _ refl refl refl
  ends_message (Stopping k e) Cem h = refl
  ends_message Error Cim h = refl
  ends_message Error (Cvm v) h = refl
  ends_message Error (Cmp o) h = refl
  ends_message Error (Crm v) h = refl
  ends_message Error (Ccs v) h = refl
  ends_message Error (Cst v) h = and_false v
  ends_message Error Cem h = refl

  abbrev pub charging_after : State → Outcome → Bool
  charging_after st o = is_charging (session_after source (with_state s st) o).state

  ccs_after : (st : State) (v : Bool) (u w : Outcome) → charging_after st u ≡ true → charging_after st w ≡ false
      → charging_after st (cond v u w) ≡ not (not v)
  ccs_after st true u w h i = h
  ccs_after st false u w h i = i

  pub leaves_message : (st : State) (m : ChargeMessage) → is_charging st ≡ true
      → charging_after st (outcome_of x st n m) ≡ not (message_leaves m)
  unfolding is_charging message_leaves session_after outcome_of in_charging
  leaves_message Idle m h = absurd (false≢true h)
  leaves_message Offered m h = absurd (false≢true h)
  leaves_message Unverified m h = absurd (false≢true h)
  leaves_message Parameters m h = absurd (false≢true h)
  leaves_message (Ready y maximum) m h = absurd (false≢true h)
  leaves_message (Charging p) Cim h = refl
  leaves_message (Charging p) (Cvm v) h = refl
  leaves_message (Charging p) (Cmp o) h = refl
  leaves_message (Charging p) (Crm v) h = refl
  leaves_message (Charging p) (Ccs v) h = ccs_after (Charging p) v _ _ refl refl
  leaves_message (Charging p) (Cst v) h = refl
  leaves_message (Charging p) Cem h = refl
  leaves_message (Stopping k e) m h = absurd (false≢true h)
  leaves_message Error m h = absurd (false≢true h)
