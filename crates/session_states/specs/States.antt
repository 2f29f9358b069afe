-- The states by their kind (01, "Session by message").
use Rattle.std.specs.Prelude.{Bool, true, false}
use Rattle.session_states.specs.declared.states.State.{State}
use Rattle.session_states.specs.declared.states.State.TheVariants.{Idle, Offered, Unverified, Parameters, Ready, Charging, Stopping, Error}

-- no session
unfoldable pub is_idle : State → Bool
is_idle Idle = true
is_idle Offered = false
is_idle Unverified = false
is_idle Parameters = false
is_idle (Ready accepted maximum) = false
is_idle (Charging p) = false
is_idle (Stopping acknowledged est) = false
is_idle Error = false

unfoldable pub is_offered : State → Bool
is_offered Idle = false
is_offered Offered = true
is_offered Unverified = false
is_offered Parameters = false
is_offered (Ready accepted maximum) = false
is_offered (Charging p) = false
is_offered (Stopping acknowledged est) = false
is_offered Error = false

unfoldable pub is_parameters : State → Bool
is_parameters Idle = false
is_parameters Offered = false
is_parameters Unverified = false
is_parameters Parameters = true
is_parameters (Ready accepted maximum) = false
is_parameters (Charging p) = false
is_parameters (Stopping acknowledged est) = false
is_parameters Error = false

unfoldable pub is_ready : State → Bool
is_ready Idle = false
is_ready Offered = false
is_ready Unverified = false
is_ready Parameters = false
is_ready (Ready accepted maximum) = true
is_ready (Charging p) = false
is_ready (Stopping acknowledged est) = false
is_ready Error = false

-- from Offered to Ready
unfoldable pub is_before_charging : State → Bool
is_before_charging Idle = false
is_before_charging Offered = true
is_before_charging Unverified = true
is_before_charging Parameters = true
is_before_charging (Ready accepted maximum) = true
is_before_charging (Charging p) = false
is_before_charging (Stopping acknowledged est) = false
is_before_charging Error = false

unfoldable pub is_charging : State → Bool
is_charging Idle = false
is_charging Offered = false
is_charging Unverified = false
is_charging Parameters = false
is_charging (Ready accepted maximum) = false
is_charging (Charging p) = true
is_charging (Stopping acknowledged est) = false
is_charging Error = false

unfoldable pub is_stopping : State → Bool
is_stopping Idle = false
is_stopping Offered = false
is_stopping Unverified = false
is_stopping Parameters = false
is_stopping (Ready accepted maximum) = false
is_stopping (Charging p) = false
is_stopping (Stopping acknowledged est) = true
is_stopping Error = false

-- Stopping or Error
unfoldable pub is_closing : State → Bool
is_closing Idle = false
is_closing Offered = false
is_closing Unverified = false
is_closing Parameters = false
is_closing (Ready accepted maximum) = false
is_closing (Charging p) = false
is_closing (Stopping acknowledged est) = true
is_closing Error = true
