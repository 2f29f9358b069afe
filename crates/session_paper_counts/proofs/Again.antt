-- A session of the code is its own fold: to fold a second time changes nothing. Assumes nothing.
use Prim.Native.Nat.{ℕ}
use mathlib.Core.Path.{◌≡◌, refl, ap}
use Rattle.session_states.specs.declared.phases.Phase.{Phase}
use Rattle.session_states.specs.declared.phases.Phase.TheVariants.{Drive, Rest, Hold}
use Rattle.session_states.specs.Limits.{silence_limit, closing_limit, drive_limit, rest_limit, hold_limit}
use Rattle.session_states.specs.declared.states.State.{State}
use Rattle.session_states.specs.declared.states.State.TheVariants.{Idle, Offered, Unverified, Parameters, Ready, Charging, Stopping, Error}
use Rattle.session.specs.declared.Session.{Session}
use Rattle.session_paper_counts.specs.Folds.{fold_phase, fold_state, fold_count, folds}
use Rattle.session_paper_counts.proofs.Fold.{fold_again}

phase_again : (p : Phase) → fold_phase (fold_phase p) ≡ fold_phase p
unfolding fold_phase
phase_again (Drive request cycle time) = ap (Drive request cycle) (fold_again drive_limit 0 time)
phase_again (Rest request cycle time) = ap (Rest request cycle) (fold_again rest_limit 0 time)
phase_again (Hold time) = ap Hold (fold_again hold_limit 0 time)

state_again : (st : State) → fold_state (fold_state st) ≡ fold_state st
unfolding fold_state
state_again Idle = refl
state_again Offered = refl
state_again Unverified = refl
state_again Parameters = refl
state_again (Ready accepted maximum) = refl
state_again (Charging p) = ap Charging (phase_again p)
state_again (Stopping acknowledged est) = refl
state_again Error = refl

count_again : (st : State) (n : ℕ) → fold_count (fold_state st) (fold_count st n) ≡ fold_count st n
unfolding fold_state fold_count
count_again Idle n = refl
count_again Offered n = fold_again 1 4 n
count_again Unverified n = fold_again 1 4 n
count_again Parameters n = fold_again 6 9 n
count_again (Ready accepted maximum) n = fold_again 1 4 n
count_again (Charging p) n = fold_again 1 4 n
count_again (Stopping acknowledged est) n = fold_again closing_limit 0 n
count_again Error n = fold_again closing_limit 0 n

pub folds_again : (s : Session) → folds (folds s) ≡ folds s
unfolding folds
folds_again s = rw (fold_again silence_limit 0 s.silence, count_again s.state s.count, state_again s.state)
