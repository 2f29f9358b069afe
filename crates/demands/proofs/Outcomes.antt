-- What a charge message may come to, state by state (01, "Session by message"), told once, by the cases that every
-- statement over all messages goes by. Assumes nothing.
use Prim.Native.Nat.{ℕ}
use Rattle.std.proofs.Common.{Option, None}
use mathlib.Core.Path.{◌≡◌, refl}
use mathlib.Core.Bool.{Bool, true, false, cond, ◌&&◌}
use lib.Dec.{ltb}
use Rattle.std.proofs.lemmas.Bool.{and_parts}
use Rattle.units.specs.declared.TenthAmps.{TenthAmps}
use Rattle.settings.specs.declared.Settings.{Settings}
use Rattle.charge_messages.specs.declared.ChargeMessage.{ChargeMessage}
use Rattle.charge_messages.specs.declared.ChargeMessage.TheVariants.{Cim, Cvm, Cmp, Crm, Ccs, Cst, Cem}
use Rattle.session_states.specs.Phases.{start_phase}
use Rattle.session_states.specs.declared.states.Est.{Est}
use Rattle.session_states.specs.declared.states.State.{State}
use Rattle.session_states.specs.declared.states.State.TheVariants.{Idle, Offered, Unverified, Parameters, Ready, Charging, Stopping, Error}
use Rattle.session_by_message.specs.declared.Outcome.{Outcome}
use Rattle.session_by_message.specs.declared.Outcome.TheVariants.{Refuse, OutOfStep, Open, Heard, Enter, Keep, End}
use Rattle.session_by_message.specs.Message.{outcome_of, in_idle, in_offered, in_unverified, in_parameters, in_ready, ready_of, crm_in_ready, in_charging, in_stopping, in_error}
use Rattle.session_states.specs.Limits.{first_ecp}
use Rattle.session_states.specs.States.{is_stopping}

module _ (x : Settings) (n : ℕ) where
  -- from a state with the count `n`
  pub data Leads : State → Outcome → Type 0 where
    NotTaken : {st : State} → Leads st Refuse
    NotInStep : {st : State} → Leads st OutOfStep
    DoesNothing : {st : State} → Leads st Heard
    OpensOne : Leads Idle Open
    ToUnverified : ltb 0 n ≡ true → Leads Offered (Enter Unverified)
    ToParameters : ltb 0 n ≡ true → Leads Offered (Enter Parameters)
    ToParametersLater : Leads Unverified (Enter Parameters)
    ToReady : {y : Bool} {maximum : TenthAmps} → ltb first_ecp n ≡ true → Leads Parameters (Enter (Ready y maximum))
    ToReadyAgain : {y z : Bool} {maximum k : TenthAmps} → Leads (Ready y maximum) (Enter (Ready z k))
    ToCharging : {y : Bool} {maximum : TenthAmps} → ltb 0 n ≡ true
        → Leads (Ready y maximum) (Enter (Charging (start_phase x.limits.current maximum)))
    ToStopping : {st : State} {k : Bool} → is_stopping st ≡ false → Leads st (Enter (Stopping k None))
    MarksIt : {k : Bool} {e : (Option Est)} → Leads (Stopping k e) (Keep (Stopping true e))
    EndsIt : {st : State} → Leads st End

  pick : {st : State} (t : Bool) (o p : Outcome) → (t ≡ true → Leads st o) → Leads st p → Leads st (cond t o p)
  pick true o p h k = h refl
  pick false o p h k = k

  -- the one walk of the table
  pub outcome_leads : (st : State) (m : ChargeMessage) → Leads st (outcome_of x st n m)
  unfolding outcome_of in_idle in_offered in_unverified in_parameters in_ready ready_of crm_in_ready in_charging in_stopping in_error is_stopping
  outcome_leads Idle Cim = OpensOne
  outcome_leads Idle (Cvm v) = NotTaken
  outcome_leads Idle (Cmp o) = NotTaken
  outcome_leads Idle (Crm v) = NotTaken
  outcome_leads Idle (Ccs v) = NotTaken
  outcome_leads Idle (Cst v) = NotTaken
  outcome_leads Idle Cem = NotTaken
  outcome_leads Offered Cim = DoesNothing
  outcome_leads Offered (Cvm v) = pick (ltb 0 n) _ _ (λ g. pick v _ _ (λ h. ToParameters g) (ToUnverified g)) NotInStep
  outcome_leads Offered (Cmp o) = NotInStep
  outcome_leads Offered (Crm v) = NotInStep
  outcome_leads Offered (Ccs v) = NotInStep
  outcome_leads Offered (Cst v) = ToStopping refl
  outcome_leads Offered Cem = EndsIt
  outcome_leads Unverified Cim = NotTaken
  outcome_leads Unverified (Cvm v) = pick v _ _ (λ h. ToParametersLater) DoesNothing
  outcome_leads Unverified (Cmp o) = NotInStep
  outcome_leads Unverified (Crm v) = NotInStep
  outcome_leads Unverified (Ccs v) = NotInStep
  outcome_leads Unverified (Cst v) = ToStopping refl
  outcome_leads Unverified Cem = EndsIt
  outcome_leads Parameters Cim = NotTaken
  outcome_leads Parameters (Cvm v) = pick v _ _ (λ h. DoesNothing) NotInStep
  outcome_leads Parameters (Cmp o) = pick (ltb first_ecp n) _ _ (λ g. ToReady g) NotInStep
  outcome_leads Parameters (Crm v) = NotInStep
  outcome_leads Parameters (Ccs v) = NotInStep
  outcome_leads Parameters (Cst v) = ToStopping refl
  outcome_leads Parameters Cem = EndsIt
  outcome_leads (Ready y most) Cim = NotTaken
  outcome_leads (Ready y most) (Cvm v) = NotInStep
  outcome_leads (Ready y most) (Cmp o) = ToReadyAgain
  outcome_leads (Ready y most) (Crm v) = pick (y && ltb 0 n) _ _ (λ g. pick v _ _ (λ h. ToCharging (and_parts y (ltb 0 n) g).1) DoesNothing) NotInStep
  outcome_leads (Ready y most) (Ccs v) = NotInStep
  outcome_leads (Ready y most) (Cst v) = ToStopping refl
  outcome_leads (Ready y most) Cem = EndsIt
  outcome_leads (Charging p) Cim = NotTaken
  outcome_leads (Charging p) (Cvm v) = NotTaken
  outcome_leads (Charging p) (Cmp o) = NotTaken
  outcome_leads (Charging p) (Crm v) = NotTaken
  outcome_leads (Charging p) (Ccs v) = pick v _ _ (λ h. DoesNothing) (ToStopping refl)
  outcome_leads (Charging p) (Cst v) = ToStopping refl
  outcome_leads (Charging p) Cem = EndsIt
  outcome_leads (Stopping k e) Cim = NotTaken
  outcome_leads (Stopping k e) (Cvm v) = NotTaken
  outcome_leads (Stopping k e) (Cmp o) = NotTaken
  outcome_leads (Stopping k e) (Crm v) = NotTaken
  outcome_leads (Stopping k e) (Ccs v) = NotTaken
  outcome_leads (Stopping k e) (Cst v) = pick v _ _ (λ h. pick (ltb 0 n) _ _ (λ g. EndsIt) NotTaken) MarksIt
  outcome_leads (Stopping k e) Cem = EndsIt
  outcome_leads Error Cim = NotTaken
  outcome_leads Error (Cvm v) = NotTaken
  outcome_leads Error (Cmp o) = NotTaken
  outcome_leads Error (Crm v) = NotTaken
  outcome_leads Error (Ccs v) = NotTaken
  outcome_leads Error (Cst v) = NotTaken
  outcome_leads Error Cem = EndsIt
