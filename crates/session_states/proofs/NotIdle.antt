-- A state that is not Idle. Assumes nothing.
use mathlib.Core.Path.{◌≡◌, refl}
use mathlib.Core.Bool.{false}
use mathlib.Core.List.{[], ◌∷◌}
use types.Run.{OneOf, miss}
use denote.Enum.Declared.{tag_of}
use Rattle.session_states.specs.contracts.states.State.{the_type}
use Rattle.session_states.specs.declared.states.State.{State}
use Rattle.session_states.specs.declared.states.State.TheVariants.{Idle, Offered, Unverified, Parameters, Ready, Charging, Stopping, Error}
use Rattle.session_states.specs.States.{is_idle}

pub not_idle : (st : State) → OneOf (1 ∷ 2 ∷ 3 ∷ 4 ∷ 5 ∷ 6 ∷ 7 ∷ []) (tag_of the_type st) → false ≡ is_idle st
unfolding is_idle
not_idle Idle h = absurd (miss (1 ∷ 2 ∷ 3 ∷ 4 ∷ 5 ∷ 6 ∷ 7 ∷ []) 0 tt h)
not_idle Offered h = refl
not_idle Unverified h = refl
not_idle Parameters h = refl
not_idle (Ready a b) h = refl
not_idle (Charging p) h = refl
not_idle (Stopping a e) h = refl
not_idle Error h = refl
