-- In the code's session no count is ever large, so none can overflow, in any run from Idle: a state's count is at most 600, the limit of
-- Stopping and Error. A count that moves up to a limit comes back to it where a larger one is handed in. Assumes nothing.
use mathlib.Core.List.{List, [], ◌∷◌}
use mathlib.Core.Path.{◌≡◌}
use Prim.Native.Nat.{ℕ, ◌≤◌}
use native.Mathlib.Omega.{arith}
use borrow.Author.Tests.{le-leb}
use Rattle.settings.specs.declared.Settings.{Settings}
use Rattle.session_states.specs.Counts.{next_up_to}
use Rattle.session.specs.declared.Session.{Session}
use Rattle.session.specs.Session.{idle_session}
use Rattle.session_paper_counts.specs.Runs.{Step, Message, Tick, code_next, last_of}
use Rattle.session_paper_counts.specs.Small.{in_phase, Small}
use Rattle.session_paper_counts.proofs.Smaller.{tick_small, message_small}

pub idle_small : Small idle_session
unfolding in_phase
idle_small =
    record { count_small = omega arith; silence_small = omega arith; time_small = omega arith; cycle_small = omega arith }

-- a step leaves a small session small
pub next_small : (x : Settings) (s : Session) (k : Step) → Small s → Small (code_next x s k)
unfolding code_next
next_small x s (Message source m) h = message_small x source s m h
next_small x s (Tick r c) h = tick_small x r c s h

small_from : (x : Settings) (s : Session) (ks : List Step) → Small s → Small (last_of code_next x s ks)
unfolding last_of
small_from x s [] h = h
small_from x s (k ∷ ks) h = small_from x (code_next x s k) ks (next_small x s k h)

pub counts_stay_small : (x : Settings) (ks : List Step) → Small (last_of code_next x idle_session ks)
counts_stay_small x ks = small_from x idle_session ks idle_small

-- a count that is handed in at its limit or above comes back to the limit, however large it is
pub back_to_the_limit : (limit n : ℕ) → limit ≤ n → next_up_to limit n ≡ limit
back_to_the_limit limit n h = rw (le-leb limit n h)
