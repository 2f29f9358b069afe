-- The session with the paper's counts and the code's run in step, from every session value. Assumes nothing.
use mathlib.Core.Path.{◌≡◌, refl, ap, ◌∙◌}
use Prim.Native.Nat.{ℕ}
use Rattle.settings.specs.declared.Settings.{Settings}
use Rattle.readings.specs.declared.Readings.{Readings}
use Rattle.cells.specs.declared.Cells.{Cells}
use Rattle.charge_messages.specs.declared.ChargeMessage.{ChargeMessage}
use Rattle.session_by_tick.specs.declared.Turn.{Turn}
use Rattle.session.specs.declared.Session.{Session}
use Rattle.session.specs.Message.{Told}
use Rattle.session.specs.Session.{idle_session}
use Rattle.session.specs.Message.{message_of}
use Rattle.session.specs.Frames.{frames_of}
use Rattle.session.specs.Tick.{turn_in, turned_by, advance_of, tick_of, sent_of}
use Rattle.session_paper_counts.specs.Literal.{literal_tick}
use Rattle.session_paper_counts.specs.Folds.{fold, fold_state, fold_count, folds}
use Rattle.session_paper_counts.proofs.Turns.{advance_folds, turn_in_lem, turned_folds, frames_of_lem}
use Rattle.session_paper_counts.proofs.Outcomes.{message_folds}

-- the session of Idle is its own fold
pub start_in_step : folds idle_session ≡ idle_session
unfolding folds fold_state fold_count fold
start_in_step = refl

-- a tick: the code's next session is the fold of the paper's
pub tick_in_step : (x : Settings) (r : Readings) (c : Cells) (s : Session) → folds (literal_tick x r c s) ≡ tick_of x r c (folds s)
unfolding literal_tick tick_of
tick_in_step x r c s = advance_folds (turned_by s (turn_in x r c s)) ∙ ap advance_of (turned_folds x r c s)

sent_after : (x : Settings) (r : Readings) (c : Cells) (s : Session) (a : ℕ) →
    frames_of x r c a (turn_in x r c s) (turned_by s (turn_in x r c s)) ≡ frames_of x r c a (turn_in x r c (folds s)) (turned_by (folds s) (turn_in x r c (folds s)))
sent_after x r c s a =
    frames_of_lem x r c a s
    ∙ (ap (λ (t : Turn). frames_of x r c a t (folds (turned_by s (turn_in x r c s)))) (turn_in_lem x r c s)
    ∙ ap (frames_of x r c a (turn_in x r c (folds s))) (turned_folds x r c s))

-- and it sends the same frames
pub frames_in_step : (x : Settings) (r : Readings) (c : Cells) (s : Session) → sent_of x r c s ≡ sent_of x r c (folds s)
unfolding sent_of folds
frames_in_step x r c s = sent_after x r c s s.station

-- a message: the same number, and the code's next session is the fold of the paper's
pub message_in_step : (x : Settings) (source : ℕ) (s : Session) (m : ChargeMessage) →
    ((message_of x source s m).number ≡ (message_of x source (folds s) m).number) × (folds (message_of x source s m).session ≡ (message_of x source (folds s) m).session)
message_in_step x source s m =
    (ap (λ (t : Told). t.number) (message_folds x source s m), ap (λ (t : Told). t.session) (message_folds x source s m))
