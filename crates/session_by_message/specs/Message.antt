-- What a charge message comes to: 01, "Session by message", each state with a line for each message. A state's count is
-- 0 at its first tick and is moved on after that tick's frames, so a frame that goes out at count k has gone out once
-- the count has passed k.
use Rattle.std.specs.Prelude.{ℕ, Bool, true, false, cond, ◌&&◌, ltb}
use Rattle.std.specs.Prelude.{Option, None}
use Rattle.settings.specs.declared.Settings.{Settings}
use Rattle.charge_messages.specs.declared.Offer.{Offer}
use Rattle.charge_messages.specs.declared.ChargeMessage.{ChargeMessage}
use Rattle.charge_messages.specs.declared.ChargeMessage.TheVariants.{Cim, Cvm, Cmp, Crm, Ccs, Cst, Cem}
use Rattle.units.specs.declared.TenthAmps.{TenthAmps}
use Rattle.session_states.specs.Limits.{first_ecp}
use Rattle.session_states.specs.Phases.{start_phase}
use Rattle.session_states.specs.declared.states.Est.{Est}
use Rattle.session_states.specs.declared.states.State.{State}
use Rattle.session_states.specs.declared.states.State.TheVariants.{Idle, Offered, Unverified, Parameters, Ready, Charging, Stopping, Error}
use Rattle.session_by_message.specs.declared.Outcome.{Outcome}
use Rattle.session_by_message.specs.declared.Outcome.TheVariants.{Refuse, OutOfStep, Open, Heard, Enter, Keep, End}
use Rattle.session_by_message.specs.Offer.{accepted_of, station_maximum}

-- the paper's number for each outcome: 0 is taken, 11 is not taken in this state
abbrev pub outcome_number : Outcome → ℕ
outcome_number Refuse = 11
outcome_number OutOfStep = 11
outcome_number Open = 0
outcome_number Heard = 0
outcome_number (Enter st) = 0
outcome_number (Keep st) = 0
outcome_number End = 0

-- a frame that the state sends at count k has gone out since the state's entry
abbrev pub gone_out : ℕ → ℕ → Bool
gone_out k count = ltb k count

-- CST, either value, from Offered to Charging enters Stopping marked acknowledged
abbrev pub stop_by_cst : Outcome
stop_by_cst = Enter (Stopping true None)

-- CEM in any session ends it to Idle
abbrev pub end_by_cem : Outcome
end_by_cem = End

-- Idle: CIM from a listed station opens Offered with it
unfoldable pub in_idle : ChargeMessage → Outcome
in_idle Cim = Open
in_idle (Cvm b) = Refuse
in_idle (Cmp o) = Refuse
in_idle (Crm b) = Refuse
in_idle (Ccs b) = Refuse
in_idle (Cst b) = Refuse
in_idle Cem = Refuse

-- Offered: CIM does nothing. CVM is taken once an EIM AA has gone out: 00 to Unverified, AA to Parameters
unfoldable pub in_offered : ℕ → ChargeMessage → Outcome
in_offered count Cim = Heard
in_offered count (Cvm b) = cond (gone_out 0 count) (cond b (Enter Parameters) (Enter Unverified)) OutOfStep
in_offered count (Cmp o) = OutOfStep
in_offered count (Crm b) = OutOfStep
in_offered count (Ccs b) = OutOfStep
in_offered count (Cst b) = stop_by_cst
in_offered count Cem = end_by_cem

-- Unverified: CVM 00 stays, AA to Parameters
unfoldable pub in_unverified : ChargeMessage → Outcome
in_unverified Cim = Refuse
in_unverified (Cvm b) = cond b (Enter Parameters) Heard
in_unverified (Cmp o) = OutOfStep
in_unverified (Crm b) = OutOfStep
in_unverified (Ccs b) = OutOfStep
in_unverified (Cst b) = stop_by_cst
in_unverified Cem = end_by_cem

-- each CMP, the entering one too, sets yes or no and returns the count to 0
unfoldable pub ready_of : Settings → Offer → Outcome
ready_of x o = Enter (Ready (accepted_of x o) (station_maximum o))

-- Parameters: CVM AA does nothing; CVM 00 is out of step. CMP is taken once an ECP has gone out, to Ready
unfoldable pub in_parameters : Settings → ℕ → ChargeMessage → Outcome
in_parameters x count Cim = Refuse
in_parameters x count (Cvm b) = cond b Heard OutOfStep
in_parameters x count (Cmp o) = cond (gone_out first_ecp count) (ready_of x o) OutOfStep
in_parameters x count (Crm b) = OutOfStep
in_parameters x count (Ccs b) = OutOfStep
in_parameters x count (Cst b) = stop_by_cst
in_parameters x count Cem = end_by_cem

-- Ready: CRM is taken if yes and an ERM AA has gone out since that CMP (which set the count to 0): AA to Charging, 00
-- and FF stay
unfoldable pub crm_in_ready : Settings → Bool → TenthAmps → ℕ → Bool → Outcome
crm_in_ready x accepted maximum count b =
    cond (accepted && gone_out 0 count)
    (cond b (Enter (Charging (start_phase x.limits.current maximum))) Heard)
    OutOfStep

unfoldable pub in_ready : Settings → Bool → TenthAmps → ℕ → ChargeMessage → Outcome
in_ready x accepted maximum count Cim = Refuse
in_ready x accepted maximum count (Cvm b) = OutOfStep
in_ready x accepted maximum count (Cmp o) = ready_of x o
in_ready x accepted maximum count (Crm b) = crm_in_ready x accepted maximum count b
in_ready x accepted maximum count (Ccs b) = OutOfStep
in_ready x accepted maximum count (Cst b) = stop_by_cst
in_ready x accepted maximum count Cem = end_by_cem

-- Charging: CCS 01 stays, CCS 00 to Stopping
unfoldable pub in_charging : ChargeMessage → Outcome
in_charging Cim = Refuse
in_charging (Cvm b) = Refuse
in_charging (Cmp o) = Refuse
in_charging (Crm b) = Refuse
in_charging (Ccs b) = cond b Heard (Enter (Stopping false None))
in_charging (Cst b) = stop_by_cst
in_charging Cem = end_by_cem

-- Stopping: CST 00 marks acknowledged. CST AA ends to Idle if an EST has gone out since entry, else 11
unfoldable pub in_stopping : Option Est → ℕ → ChargeMessage → Outcome
in_stopping est count Cim = Refuse
in_stopping est count (Cvm b) = Refuse
in_stopping est count (Cmp o) = Refuse
in_stopping est count (Crm b) = Refuse
in_stopping est count (Ccs b) = Refuse
in_stopping est count (Cst b) = cond b (cond (gone_out 0 count) End Refuse) (Keep (Stopping true est))
in_stopping est count Cem = end_by_cem

-- Error: CEM ends it. Everything else is 11
unfoldable pub in_error : ChargeMessage → Outcome
in_error Cim = Refuse
in_error (Cvm b) = Refuse
in_error (Cmp o) = Refuse
in_error (Crm b) = Refuse
in_error (Ccs b) = Refuse
in_error (Cst b) = Refuse
in_error Cem = end_by_cem

unfoldable pub outcome_of : Settings → State → ℕ → ChargeMessage → Outcome
outcome_of x Idle count m = in_idle m
outcome_of x Offered count m = in_offered count m
outcome_of x Unverified count m = in_unverified m
outcome_of x Parameters count m = in_parameters x count m
outcome_of x (Ready accepted maximum) count m = in_ready x accepted maximum count m
outcome_of x (Charging p) count m = in_charging m
outcome_of x (Stopping acknowledged est) count m = in_stopping est count m
outcome_of x Error count m = in_error m
