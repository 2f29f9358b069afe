-- Every run from Idle shows the same with the paper's counts and with the code's. Assumes nothing.
use mathlib.Core.Path.{◌≡◌, refl, ap, ◌∙◌}
use mathlib.Core.List.{List, [], ◌∷◌}
use Rattle.settings.specs.declared.Settings.{Settings}
use Rattle.session.specs.declared.Session.{Session}
use Rattle.session.specs.Session.{idle_session}
use Rattle.session_paper_counts.specs.Folds.{folds}
use Rattle.session_paper_counts.specs.Runs.{Step, Message, Tick, Number, Frames, step_seen, literal_next, code_next, steps_seen, last_of}
use Rattle.session_paper_counts.proofs.InStep.{start_in_step, tick_in_step, frames_in_step, message_in_step}

seen_at : (x : Settings) (s : Session) (k : Step) → step_seen x s k ≡ step_seen x (folds s) k
unfolding step_seen
seen_at x s (Message source m) = ap Number (message_in_step x source s m).0
seen_at x s (Tick r c) = ap Frames (frames_in_step x r c s)

next_at : (x : Settings) (s : Session) (k : Step) → folds (literal_next x s k) ≡ code_next x (folds s) k
unfolding literal_next code_next
next_at x s (Message source m) = (message_in_step x source s m).1
next_at x s (Tick r c) = tick_in_step x r c s

-- from every session value
pub seen_from : (x : Settings) (s : Session) (ks : List Step) → steps_seen literal_next x s ks ≡ steps_seen code_next x (folds s) ks
unfolding steps_seen
seen_from x s [] = refl
seen_from x s (k ∷ ks) = rw (← next_at x s k, ← seen_at x s k, seen_from x (literal_next x s k) ks)

pub last_from : (x : Settings) (s : Session) (ks : List Step) → folds (last_of literal_next x s ks) ≡ last_of code_next x (folds s) ks
unfolding last_of
last_from x s [] = refl
last_from x s (k ∷ ks) = rw (← next_at x s k) (last_from x (literal_next x s k) ks)

-- the same numbers and the same frames, and the sessions stay in step
pub runs_in_step : (x : Settings) (ks : List Step) →
    (steps_seen literal_next x idle_session ks ≡ steps_seen code_next x idle_session ks) × (folds (last_of literal_next x idle_session ks) ≡ last_of code_next x idle_session ks)
runs_in_step x ks = (
  seen_from x idle_session ks ∙ ap (λ (s : Session). steps_seen code_next x s ks) start_in_step,
  last_from x idle_session ks ∙ ap (λ (s : Session). last_of code_next x s ks) start_in_step,
)
