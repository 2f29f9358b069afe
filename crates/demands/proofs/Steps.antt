-- One call of the paper's machine beside one of the code's, from every controller. Assumes nothing.
use Prim.Native.Nat.{ℕ}
use Rattle.std.proofs.Common.{Result, Ok, Err}
use Rattle.numbers.specs.declared.Refusal.{Refusal}
use Rattle.charge_messages.specs.declared.ChargeMessage.{ChargeMessage}
use mathlib.Core.Path.{◌≡◌, refl, ap}
use mathlib.Core.Bool.{Bool, true, false, cond}
use mathlib.Core.List.{List}
use lib.IntN.{ℤ}
use Rattle.messages.specs.declared.received.Charge.{Charge}
use Rattle.messages.specs.Identifier.{parts_of}
use Rattle.readings.specs.declared.Readings.{Readings}
use Rattle.settings.specs.declared.Settings.{Settings}
use Rattle.cells.specs.Summaries.{cells_of}
use Rattle.charge_messages.specs.Content.{content_of}
use Rattle.session_states.specs.declared.states.State.{State}
use Rattle.session_states.specs.declared.states.State.TheVariants.{Idle, Offered, Unverified, Parameters, Ready, Charging, Stopping, Error}
use Rattle.session.specs.declared.Session.{Session}
use Rattle.broadcasts.proofs.InStep.{next_kept, broadcasts_kept}
use Rattle.session_states.specs.declared.phases.Phase.{Phase}
use Rattle.session_paper_counts.specs.Folds.{folds, fold_phase, fold_state}
use Rattle.session_paper_counts.proofs.InStep.{tick_in_step, frames_in_step}
use Rattle.session_paper_counts.proofs.Outcomes.{fold_taken, message_folds}
use Rattle.controller.specs.declared.Controller.{Controller}
use Rattle.controller.specs.Frame.{Answer}
use Rattle.session_states.specs.States.{is_idle}
use Rattle.refusals.specs.Frame.{may_speak}
use Rattle.controller.specs.Frame.{frame_to}
use Rattle.controller.specs.Tick.{tick_frames, charge_frames, broadcast_frames, cell_frames, tick_next}
use Rattle.demands.specs.Machine.{paper_next}
use Rattle.demands.specs.InStep.{code_of}
use Rattle.controller.specs.Frame.{session_moved, queries_moved}
use Rattle.demands.proofs.View.{content_on, charge_on, View, Refused, Asks, Charges, view}

abbrev pub code_answer : Answer → Answer
code_answer a = record { number = a.number; controller = code_of a.controller }

-- what asks of a state nothing but its kind, or of a phase nothing but what is no count, is told alike of its fold
pub kind_folds : {A : Type 0} (f : State → A) → ((p : Phase) → f (Charging (fold_phase p)) ≡ f (Charging p))
    → (st : State) → f (fold_state st) ≡ f st
unfolding fold_state
kind_folds f h Idle = refl
kind_folds f h Offered = refl
kind_folds f h Unverified = refl
kind_folds f h Parameters = refl
kind_folds f h (Ready accepted maximum) = refl
kind_folds f h (Charging p) = h p
kind_folds f h (Stopping acknowledged est) = refl
kind_folds f h Error = refl

pub idle_folds : (st : State) → is_idle (fold_state st) ≡ is_idle st
unfolding is_idle
idle_folds = kind_folds is_idle (λ p. refl)

-- a charge message does the same to the folded session
module _ (x : Settings) (source : ℕ) (t : Session) where
  content_folds : (m : Result ChargeMessage Refusal) → fold_taken (content_on x source t m) ≡ content_on x source (folds t) m
  unfolding content_on
  content_folds (Ok m) = message_folds x source t m
  content_folds (Err n) = refl

  charge_folds : (k : Charge) (s : List ℕ) → fold_taken (charge_on x source k s t) ≡ charge_on x source k s (folds t)
  unfolding charge_on folds
  charge_folds k s = rw (idle_folds t.state) (either (may_speak t.state t.station x.stations source))
    where
      either : (b : Bool)
          → fold_taken (cond b (content_on x source t (content_of k s)) (record { number = 9; session = t }))
          ≡ cond b (content_on x source (folds t) (content_of k s)) (record { number = 9; session = folds t })
      either true = content_folds (content_of k s)
      either false = refl

-- a received frame, by the cases of the view: the same number, and the code's next controller stands for the paper's
by_case : (c : Controller) (id : ℕ) (s : List ℕ) → View c.settings.own id s
    → code_answer (frame_to c id s) ≡ frame_to (code_of c) id s
unfolding code_of session_moved queries_moved
by_case c id s (Refused n each) = rw (each c refl, each (code_of c) refl)
by_case c id s (Asks q h each) = rw (each c refl, each (code_of c) refl)
by_case c id s (Charges k h p each) =
    rw (each c refl, each (code_of c) refl)
    (ap (session_moved (code_of c)) (charge_folds c.settings (parts_of id).source c.session k s))

pub frame_steps : (c : Controller) (id : ℕ) (s : List ℕ) → code_answer (frame_to c id s) ≡ frame_to (code_of c) id s
frame_steps c id s = by_case c id s (view c.settings.own id s)

module _ (c : Controller) (r : Readings) (v : List ℕ) (t : List ℤ) where
  -- an accepted tick: the same frames, and the code's next controller stands for the paper's
  pub frames_step : tick_frames c r v t ≡ tick_frames (code_of c) r v t
  unfolding tick_frames charge_frames broadcast_frames cell_frames code_of
  frames_step = rw (
    ← frames_in_step c.settings r (cells_of v t) c.session,
    ← broadcasts_kept c.beat.tick c.settings.own c.settings.versions r (cells_of v t),
  )

  pub next_steps : code_of (paper_next c r v t) ≡ tick_next (code_of c) r v t
  unfolding paper_next tick_next code_of
  next_steps = rw (
    tick_in_step c.settings r (cells_of v t) c.session,
    next_kept c.beat.tick,
  )
