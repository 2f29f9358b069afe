-- The code's session for one with the paper's counts. Each count is folded: it is what as many ticks of the code's
-- count make of 0. That the two run in step is `tick_in_step`, `frames_in_step` and `message_in_step`
-- (proofs/InStep.antt).
use Rattle.std.specs.Prelude.{ℕ, zero, suc}
use Rattle.session_states.specs.declared.phases.Phase.{Phase}
use Rattle.session_states.specs.declared.phases.Phase.TheVariants.{Drive, Rest, Hold}
use Rattle.session_states.specs.Limits.{silence_limit, closing_limit, drive_limit, rest_limit, hold_limit}
use Rattle.session_states.specs.Counts.{next_each_five, next_ecp, next_up_to}
use Rattle.session_states.specs.declared.states.State.{State}
use Rattle.session_states.specs.declared.states.State.TheVariants.{Idle, Offered, Unverified, Parameters, Ready, Charging, Stopping, Error}
use Rattle.session.specs.declared.Session.{Session}
use Rattle.session.specs.Session.{with_silence, with_count, with_state}

-- what n ticks make of a count of 0
unfoldable pub fold : (ℕ → ℕ) → ℕ → ℕ
fold next zero = 0
fold next (suc n) = next (fold next n)

-- a phase's time stays at the limit that ends it
unfoldable pub fold_phase : Phase → Phase
fold_phase (Drive request cycle time) = Drive request cycle (fold (next_up_to drive_limit) time)
fold_phase (Rest request cycle time) = Rest request cycle (fold (next_up_to rest_limit) time)
fold_phase (Hold time) = Hold (fold (next_up_to hold_limit) time)

unfoldable pub fold_state : State → State
fold_state Idle = Idle
fold_state Offered = Offered
fold_state Unverified = Unverified
fold_state Parameters = Parameters
fold_state (Ready accepted maximum) = Ready accepted maximum
fold_state (Charging p) = Charging (fold_phase p)
fold_state (Stopping acknowledged est) = Stopping acknowledged est
fold_state Error = Error

-- Idle has no frames and its count does not move
unfoldable pub fold_count : State → ℕ → ℕ
fold_count Idle n = n
fold_count Offered n = fold next_each_five n
fold_count Unverified n = fold next_each_five n
fold_count Parameters n = fold next_ecp n
fold_count (Ready accepted maximum) n = fold next_each_five n
fold_count (Charging p) n = fold next_each_five n
fold_count (Stopping acknowledged est) n = fold (next_up_to closing_limit) n
fold_count Error n = fold (next_up_to closing_limit) n

unfoldable pub folds : Session → Session
folds s =
    with_state
    (with_count (with_silence s (fold (next_up_to silence_limit) s.silence)) (fold_count s.state s.count))
    (fold_state s.state)
