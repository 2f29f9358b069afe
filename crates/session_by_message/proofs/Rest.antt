-- The arm `_` of each state's match: every message that falls to it comes to the arm's outcome. Each law is handed what the arm is told,
-- that the message's tag is one of the arm's keys. Assumes nothing.
use Prim.Native.Nat.{ℕ}
use Rattle.std.proofs.Common.{Option}
use mathlib.Core.Path.{◌≡◌, refl}
use mathlib.Core.Bool.{Bool}
use mathlib.Core.List.{[], ◌∷◌}
use types.Run.{OneOf, miss}
use denote.Enum.Declared.{tag_of}
use Rattle.charge_messages.specs.contracts.ChargeMessage.{the_type}
use Rattle.charge_messages.specs.declared.ChargeMessage.{ChargeMessage}
use Rattle.charge_messages.specs.declared.ChargeMessage.TheVariants.{Cim, Cvm, Cmp, Crm, Ccs, Cst, Cem}
use Rattle.units.specs.declared.TenthAmps.{TenthAmps}
use Rattle.settings.specs.declared.Settings.{Settings}
use Rattle.session_states.specs.declared.states.Est.{Est}
use Rattle.session_by_message.specs.declared.Outcome.TheVariants.{Refuse, OutOfStep}
use Rattle.session_by_message.specs.Message.{in_idle, in_offered, in_unverified, in_parameters, in_ready, in_charging, in_stopping, in_error}

pub rest_idle : (m : ChargeMessage) → OneOf (1 ∷ 2 ∷ 3 ∷ 4 ∷ 5 ∷ 6 ∷ []) (tag_of the_type m) → Refuse ≡ in_idle m
unfolding in_idle
rest_idle Cim h = absurd (miss (1 ∷ 2 ∷ 3 ∷ 4 ∷ 5 ∷ 6 ∷ []) 0 tt h)
rest_idle (Cvm b) h = refl
rest_idle (Cmp o) h = refl
rest_idle (Crm b) h = refl
rest_idle (Ccs b) h = refl
rest_idle (Cst b) h = refl
rest_idle Cem h = refl

pub rest_offered :
    (count : ℕ) (m : ChargeMessage) →
    OneOf (2 ∷ 3 ∷ 4 ∷ []) (tag_of the_type m) → OutOfStep ≡ in_offered count m
unfolding in_offered
rest_offered count Cim h = absurd (miss (2 ∷ 3 ∷ 4 ∷ []) 0 tt h)
rest_offered count (Cvm b) h = absurd (miss (2 ∷ 3 ∷ 4 ∷ []) 1 tt h)
rest_offered count (Cmp o) h = refl
rest_offered count (Crm b) h = refl
rest_offered count (Ccs b) h = refl
rest_offered count (Cst b) h = absurd (miss (2 ∷ 3 ∷ 4 ∷ []) 5 tt h)
rest_offered count Cem h = absurd (miss (2 ∷ 3 ∷ 4 ∷ []) 6 tt h)

pub rest_unverified : (m : ChargeMessage) → OneOf (2 ∷ 3 ∷ 4 ∷ []) (tag_of the_type m) → OutOfStep ≡ in_unverified m
unfolding in_unverified
rest_unverified Cim h = absurd (miss (2 ∷ 3 ∷ 4 ∷ []) 0 tt h)
rest_unverified (Cvm b) h = absurd (miss (2 ∷ 3 ∷ 4 ∷ []) 1 tt h)
rest_unverified (Cmp o) h = refl
rest_unverified (Crm b) h = refl
rest_unverified (Ccs b) h = refl
rest_unverified (Cst b) h = absurd (miss (2 ∷ 3 ∷ 4 ∷ []) 5 tt h)
rest_unverified Cem h = absurd (miss (2 ∷ 3 ∷ 4 ∷ []) 6 tt h)

pub rest_parameters :
    (x : Settings) (count : ℕ) (m : ChargeMessage) →
    OneOf (3 ∷ 4 ∷ []) (tag_of the_type m) → OutOfStep ≡ in_parameters x count m
unfolding in_parameters
rest_parameters x count Cim h = absurd (miss (3 ∷ 4 ∷ []) 0 tt h)
rest_parameters x count (Cvm b) h = absurd (miss (3 ∷ 4 ∷ []) 1 tt h)
rest_parameters x count (Cmp o) h = absurd (miss (3 ∷ 4 ∷ []) 2 tt h)
rest_parameters x count (Crm b) h = refl
rest_parameters x count (Ccs b) h = refl
rest_parameters x count (Cst b) h = absurd (miss (3 ∷ 4 ∷ []) 5 tt h)
rest_parameters x count Cem h = absurd (miss (3 ∷ 4 ∷ []) 6 tt h)

pub rest_ready :
    (x : Settings) (accepted : Bool) (maximum : TenthAmps) (count : ℕ) (m : ChargeMessage) →
    OneOf (1 ∷ 4 ∷ []) (tag_of the_type m) → OutOfStep ≡ in_ready x accepted maximum count m
unfolding in_ready
rest_ready x accepted maximum count Cim h = absurd (miss (1 ∷ 4 ∷ []) 0 tt h)
rest_ready x accepted maximum count (Cvm b) h = refl
rest_ready x accepted maximum count (Cmp o) h = absurd (miss (1 ∷ 4 ∷ []) 2 tt h)
rest_ready x accepted maximum count (Crm b) h = absurd (miss (1 ∷ 4 ∷ []) 3 tt h)
rest_ready x accepted maximum count (Ccs b) h = refl
rest_ready x accepted maximum count (Cst b) h = absurd (miss (1 ∷ 4 ∷ []) 5 tt h)
rest_ready x accepted maximum count Cem h = absurd (miss (1 ∷ 4 ∷ []) 6 tt h)

pub rest_charging : (m : ChargeMessage) → OneOf (0 ∷ 1 ∷ 2 ∷ 3 ∷ []) (tag_of the_type m) → Refuse ≡ in_charging m
unfolding in_charging
rest_charging Cim h = refl
rest_charging (Cvm b) h = refl
rest_charging (Cmp o) h = refl
rest_charging (Crm b) h = refl
rest_charging (Ccs b) h = absurd (miss (0 ∷ 1 ∷ 2 ∷ 3 ∷ []) 4 tt h)
rest_charging (Cst b) h = absurd (miss (0 ∷ 1 ∷ 2 ∷ 3 ∷ []) 5 tt h)
rest_charging Cem h = absurd (miss (0 ∷ 1 ∷ 2 ∷ 3 ∷ []) 6 tt h)

pub rest_stopping :
    (est : (Option Est)) (count : ℕ) (m : ChargeMessage) →
    OneOf (0 ∷ 1 ∷ 2 ∷ 3 ∷ 4 ∷ []) (tag_of the_type m) → Refuse ≡ in_stopping est count m
unfolding in_stopping
rest_stopping est count Cim h = refl
rest_stopping est count (Cvm b) h = refl
rest_stopping est count (Cmp o) h = refl
rest_stopping est count (Crm b) h = refl
rest_stopping est count (Ccs b) h = refl
rest_stopping est count (Cst b) h = absurd (miss (0 ∷ 1 ∷ 2 ∷ 3 ∷ 4 ∷ []) 5 tt h)
rest_stopping est count Cem h = absurd (miss (0 ∷ 1 ∷ 2 ∷ 3 ∷ 4 ∷ []) 6 tt h)

pub rest_error : (m : ChargeMessage) → OneOf (0 ∷ 1 ∷ 2 ∷ 3 ∷ 4 ∷ 5 ∷ []) (tag_of the_type m) → Refuse ≡ in_error m
unfolding in_error
rest_error Cim h = refl
rest_error (Cvm b) h = refl
rest_error (Cmp o) h = refl
rest_error (Crm b) h = refl
rest_error (Ccs b) h = refl
rest_error (Cst b) h = refl
rest_error Cem h = absurd (miss (0 ∷ 1 ∷ 2 ∷ 3 ∷ 4 ∷ 5 ∷ []) 6 tt h)
