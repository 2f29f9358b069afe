-- What a charge message comes to, for a session and for its fold. Assumes nothing.
use mathlib.Core.Path.{◌≡◌, refl, ap}
use Rattle.std.proofs.Common.{Option, None}
use mathlib.Core.Bool.{Bool, true, false, cond, ◌&&◌}
use Prim.Native.Nat.{ℕ}
use native.Mathlib.Omega.{arith}
use lib.Dec.{ltb}
use Rattle.units.specs.declared.TenthAmps.{TenthAmps}
use Rattle.units.specs.Units.{lesser_amps}
use Rattle.settings.specs.declared.Settings.{Settings}
use Rattle.charge_messages.specs.declared.ChargeMessage.{ChargeMessage}
use Rattle.charge_messages.specs.declared.Offer.{Offer}
use Rattle.charge_messages.specs.declared.ChargeMessage.TheVariants.{Cim, Cvm, Cmp, Crm, Ccs, Cst, Cem}
use Rattle.session_states.specs.Limits.{closing_limit, first_ecp}
use Rattle.session_states.specs.Counts.{next_each_five, next_ecp, next_up_to}
use Rattle.session_states.specs.Phases.{too_small, start_phase}
use Rattle.session_states.specs.declared.states.Est.{Est}
use Rattle.session_states.specs.declared.states.State.{State}
use Rattle.session_states.specs.declared.states.State.TheVariants.{Idle, Offered, Unverified, Parameters, Ready, Charging, Stopping, Error}
use Rattle.session_by_message.specs.declared.Outcome.{Outcome}
use Rattle.session_by_message.specs.declared.Outcome.TheVariants.{Refuse, OutOfStep, Open, Heard, Enter, Keep, End}
use Rattle.session_by_message.specs.Message.{outcome_of, in_idle, in_offered, in_unverified, in_parameters, in_ready, ready_of, crm_in_ready, in_charging, in_stopping, in_error}
use Rattle.session_by_message.specs.Offer.{accepted_of, station_maximum}
use Rattle.session.specs.declared.Session.{Session}
use Rattle.session.specs.Session.{with_state}
use Rattle.session.specs.Message.{Told}
use Rattle.session.specs.Message.{applied_of, session_after, message_of}
use Rattle.session_paper_counts.specs.Folds.{fold, fold_phase, fold_state, fold_count, folds}
use Rattle.session_paper_counts.proofs.Fold.{fold_ltb}
use Rattle.session_paper_counts.proofs.Turns.{both}

-- a phase that begins has time 0, which is its own fold
start_folds : (maximum station : TenthAmps) → fold_phase (start_phase maximum station) ≡ start_phase maximum station
unfolding start_phase fold_phase fold
start_folds maximum station = both fold_phase (too_small (lesser_amps maximum station)) refl refl

-- "has one gone out" is the same of the fold
gone_five : (n : ℕ) → ltb 0 (fold next_each_five n) ≡ ltb 0 n
gone_five n = fold_ltb 0 1 4 n (omega arith)

gone_ecp : (n : ℕ) → ltb first_ecp (fold next_ecp n) ≡ ltb first_ecp n
gone_ecp n = fold_ltb first_ecp 6 9 n (omega arith)

gone_closing : (n : ℕ) → ltb 0 (fold (next_up_to closing_limit) n) ≡ ltb 0 n
gone_closing n = fold_ltb 0 closing_limit 0 n (omega arith)

abbrev pub fold_taken : Told → Told
fold_taken t = record { number = t.number; session = folds t.session }

-- an outcome of a session in the state and one of its fold come to the same
record Alike (st : State) (o o' : Outcome) : Type 0 where
  alike : (source : ℕ) (s : Session)
      → fold_taken (applied_of source (with_state s st) o) ≡ applied_of source (folds (with_state s st)) o'

either : {st : State} (t : Bool) {u v u' v' : Outcome} → Alike st u u' → Alike st v v' → Alike st (cond t u v) (cond t u' v')
either true h k = h
either false h k = k

-- a state that begins has count 0, which is its own fold
begins : (st : State) → fold_count st 0 ≡ 0
unfolding fold_count fold
begins Idle = refl
begins Offered = refl
begins Unverified = refl
begins Parameters = refl
begins (Ready accepted maximum) = refl
begins (Charging p) = refl
begins (Stopping acknowledged est) = refl
begins Error = refl

refuse : {st : State} → Alike st Refuse Refuse
unfolding applied_of session_after folds
refuse = record { alike = λ source s. refl }

out_of_step : {st : State} → Alike st OutOfStep OutOfStep
unfolding applied_of session_after folds fold
out_of_step = record { alike = λ source s. refl }

opens : {st : State} → Alike st Open Open
unfolding applied_of session_after folds fold_state fold_count fold
opens = record { alike = λ source s. refl }

heard : {st : State} → Alike st Heard Heard
unfolding applied_of session_after folds fold
heard = record { alike = λ source s. refl }

enter : {st : State} (later later' : State) → fold_state later ≡ later' → Alike st (Enter later) (Enter later')
unfolding applied_of session_after folds fold
enter later later' e = record { alike = λ source s. rw (begins later, e) }

ends : {st : State} → Alike st End End
unfolding applied_of session_after folds fold_state fold_count fold
ends = record { alike = λ source s. refl }

-- Stopping that goes on leaves the count in the same cycle
keeps : (acknowledged : Bool) (est : (Option Est)) → Alike (Stopping acknowledged est) (Keep (Stopping true est)) (Keep (Stopping true est))
unfolding applied_of session_after folds fold_state fold_count fold
keeps acknowledged est = record { alike = λ source s. refl }

parameters : {st : State} → Alike st (Enter Parameters) (Enter Parameters)
unfolding fold_state
parameters = enter Parameters Parameters refl

unverified : {st : State} → Alike st (Enter Unverified) (Enter Unverified)
unfolding fold_state
unverified = enter Unverified Unverified refl

ready : {st : State} (x : Settings) (o : Offer) → Alike st (ready_of x o) (ready_of x o)
unfolding ready_of fold_state
ready x o = enter (Ready (accepted_of x o) (station_maximum o)) (Ready (accepted_of x o) (station_maximum o)) refl

charging : {st : State} (maximum station : TenthAmps) → Alike st (Enter (Charging (start_phase maximum station))) (Enter (Charging (start_phase maximum station)))
unfolding fold_state
charging maximum station = enter (Charging (start_phase maximum station)) (Charging (start_phase maximum station)) (ap Charging (start_folds maximum station))

stopping : {st : State} (acknowledged : Bool) → Alike st (Enter (Stopping acknowledged None)) (Enter (Stopping acknowledged None))
unfolding fold_state
stopping acknowledged = enter (Stopping acknowledged None) (Stopping acknowledged None) refl

outcome_alike : (x : Settings) (st : State) (n : ℕ) (m : ChargeMessage) → Alike st (outcome_of x st n m) (outcome_of x (fold_state st) (fold_count st n) m)
unfolding outcome_of in_idle in_offered in_unverified in_parameters in_ready crm_in_ready in_charging in_stopping in_error fold_state fold_count
outcome_alike x Idle n Cim = opens
outcome_alike x Idle n (Cvm b) = refuse
outcome_alike x Idle n (Cmp o) = refuse
outcome_alike x Idle n (Crm b) = refuse
outcome_alike x Idle n (Ccs b) = refuse
outcome_alike x Idle n (Cst b) = refuse
outcome_alike x Idle n Cem = refuse
outcome_alike x Offered n Cim = heard
outcome_alike x Offered n (Cvm b) = rw (gone_five n) (either (ltb 0 n) (either b parameters unverified) out_of_step)
outcome_alike x Offered n (Cmp o) = out_of_step
outcome_alike x Offered n (Crm b) = out_of_step
outcome_alike x Offered n (Ccs b) = out_of_step
outcome_alike x Offered n (Cst b) = stopping true
outcome_alike x Offered n Cem = ends
outcome_alike x Unverified n Cim = refuse
outcome_alike x Unverified n (Cvm b) = either b parameters heard
outcome_alike x Unverified n (Cmp o) = out_of_step
outcome_alike x Unverified n (Crm b) = out_of_step
outcome_alike x Unverified n (Ccs b) = out_of_step
outcome_alike x Unverified n (Cst b) = stopping true
outcome_alike x Unverified n Cem = ends
outcome_alike x Parameters n Cim = refuse
outcome_alike x Parameters n (Cvm b) = either b heard out_of_step
outcome_alike x Parameters n (Cmp o) = rw (gone_ecp n) (either (ltb first_ecp n) (ready x o) out_of_step)
outcome_alike x Parameters n (Crm b) = out_of_step
outcome_alike x Parameters n (Ccs b) = out_of_step
outcome_alike x Parameters n (Cst b) = stopping true
outcome_alike x Parameters n Cem = ends
outcome_alike x (Ready accepted maximum) n Cim = refuse
outcome_alike x (Ready accepted maximum) n (Cvm b) = out_of_step
outcome_alike x (Ready accepted maximum) n (Cmp o) = ready x o
outcome_alike x (Ready accepted maximum) n (Crm b) = rw (gone_five n) (either (accepted && ltb 0 n) (either b (charging x.limits.current maximum) heard) out_of_step)
outcome_alike x (Ready accepted maximum) n (Ccs b) = out_of_step
outcome_alike x (Ready accepted maximum) n (Cst b) = stopping true
outcome_alike x (Ready accepted maximum) n Cem = ends
outcome_alike x (Charging p) n Cim = refuse
outcome_alike x (Charging p) n (Cvm b) = refuse
outcome_alike x (Charging p) n (Cmp o) = refuse
outcome_alike x (Charging p) n (Crm b) = refuse
outcome_alike x (Charging p) n (Ccs b) = either b heard (stopping false)
outcome_alike x (Charging p) n (Cst b) = stopping true
outcome_alike x (Charging p) n Cem = ends
outcome_alike x (Stopping acknowledged est) n Cim = refuse
outcome_alike x (Stopping acknowledged est) n (Cvm b) = refuse
outcome_alike x (Stopping acknowledged est) n (Cmp o) = refuse
outcome_alike x (Stopping acknowledged est) n (Crm b) = refuse
outcome_alike x (Stopping acknowledged est) n (Ccs b) = refuse
outcome_alike x (Stopping acknowledged est) n (Cst b) = rw (gone_closing n) (either b (either (ltb 0 n) ends refuse) (keeps acknowledged est))
outcome_alike x (Stopping acknowledged est) n Cem = ends
outcome_alike x Error n Cim = refuse
outcome_alike x Error n (Cvm b) = refuse
outcome_alike x Error n (Cmp o) = refuse
outcome_alike x Error n (Crm b) = refuse
outcome_alike x Error n (Ccs b) = refuse
outcome_alike x Error n (Cst b) = refuse
outcome_alike x Error n Cem = ends

pub message_folds : (x : Settings) (source : ℕ) (s : Session) (m : ChargeMessage) → fold_taken (message_of x source s m) ≡ message_of x source (folds s) m
unfolding message_of folds
message_folds x source s m =
    (outcome_alike x s.state s.count m).alike source s
