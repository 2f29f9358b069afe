-- What an accepted tick does, of the calls that were made: the code's controller enters the state that the paper's
-- rules lead to, with the phase one tick older as the paper counts, since a phase that goes on is below its limit.
-- Assumes nothing.
use Prim.Native.Nat.{ℕ, ◌+◌, ◌<◌}
use Rattle.std.specs.declared.ops.ControlFlow.{ControlFlow}
use Rattle.session_states.specs.declared.phases.Cause.{Cause}
use Rattle.std.specs.declared.ops.ControlFlow.TheVariants.{Continue, Break}
use native.Mathlib.Omega.{arith}
use mathlib.Core.Path.{◌≡◌, refl, sym, ap, subst, ◌∙◌}
use mathlib.Core.Bool.{Bool, true, false, cond}
use borrow.Author.Tests.{leb-false}
use lib.Dec.{leb}
use Rattle.units.specs.declared.TenthAmps.{TenthAmps}
use Rattle.units.specs.Units.{halved_amps}
use Rattle.settings.specs.declared.Settings.{Settings}
use Rattle.readings.specs.declared.Readings.{Readings}
use Rattle.cells.specs.declared.Cells.{Cells}
use Rattle.cells.specs.Summaries.{cells_of}
use Rattle.session_states.specs.declared.phases.Phase.{Phase}
use Rattle.session_states.specs.declared.phases.Phase.TheVariants.{Drive, Rest, Hold}
use Rattle.session_states.specs.Limits.{drive_limit, rest_limit, hold_limit, most_drives}
use Rattle.session_states.specs.Phases.{too_small, drive_rules, hold_rules, after_rest, phase_after}
use Rattle.session_states.specs.declared.states.State.{State}
use Rattle.session_states.specs.declared.states.State.TheVariants.{Idle, Offered, Unverified, Parameters, Ready, Charging, Stopping, Error}
use Rattle.session_by_tick.specs.Turns.{cell_full}
use Rattle.session.specs.declared.Session.{Session}
use Rattle.session_paper_counts.specs.Folds.{fold_phase, fold_state, folds}
use Rattle.session_paper_counts.specs.Literal.{older}
use Rattle.session_paper_counts.proofs.Fold.{fold_up_to}
use Rattle.demands.specs.Machine.{Tick}
use Rattle.demands.specs.Calls.{DidTick, call_in}
use Rattle.demands.specs.Since.{use_then}
use Rattle.demands.specs.After.{after}
use Rattle.demands.specs.Stops.{Why, GoesOn, AtSilenceLimit, NotWantedBefore, NotWantedCharging, CurrentAbove, PackFull, TimeUp, CellFull, AtClosingLimit, why_of, ChargesAs, GoesOnAs, LeadsTo}
use Rattle.demands.specs.Statements.{WhatATickDoes}
use Rattle.demands.proofs.Stops as stops
use Rattle.demands.proofs.OfCalls.{accepted_as, session_use}

-- ---- a phase that goes on is below its limit, so one tick older it is its own fold
unfoldable Young : ControlFlow Cause Phase → Type 0
Young (Continue p) = fold_phase (older p) ≡ older p
Young (Break cause) = Unit {0}

if_young : (b : Bool) (x y : (ControlFlow Cause Phase)) → (b ≡ true → Young x) → (b ≡ false → Young y) → Young (cond b x y)
if_young true x y h k = h refl
if_young false x y h k = k refl

drive_on : (request : TenthAmps) (cycle time : ℕ) → time < drive_limit → Young (Continue (Drive request cycle time))
unfolding Young fold_phase older
drive_on request cycle time h = ap (Drive request cycle) (fold_up_to drive_limit (time + 1) (omega arith))

rest_on : (request : TenthAmps) (cycle time : ℕ) → time < rest_limit → Young (Continue (Rest request cycle time))
unfolding Young fold_phase older
rest_on request cycle time h = ap (Rest request cycle) (fold_up_to rest_limit (time + 1) (omega arith))

hold_on : (time : ℕ) → time < hold_limit → Young (Continue (Hold time))
unfolding Young fold_phase older
hold_on time h = ap Hold (fold_up_to hold_limit (time + 1) (omega arith))

drive_young : (request : TenthAmps) (cycle time : ℕ) (full : Bool) → Young (drive_rules request cycle time full)
unfolding drive_rules Young
drive_young request cycle time full =
    if_young (leb drive_limit time) _ _ (λ h. tt)
    (λ h. if_young full _ _ (λ k. rest_on request cycle 0 (omega arith)) (λ k. drive_on request cycle time (leb-false drive_limit time h)))

hold_young : (time : ℕ) (full : Bool) → Young (hold_rules time full)
unfolding hold_rules Young
hold_young time full =
    if_young (leb hold_limit time) _ _ (λ h. tt) (λ h. if_young full _ _ (λ k. tt) (λ k. hold_on time (leb-false hold_limit time h)))

phase_young : (p : Phase) (full : Bool) → Young (phase_after p full)
unfolding phase_after after_rest
phase_young (Drive request cycle time) full = drive_young request cycle time full
phase_young (Rest request cycle time) full =
    if_young (leb rest_limit time) _ _
    (λ h. if_young (too_small (halved_amps request)) _ _ (λ k. hold_young 0 full)
    (λ k. if_young (leb most_drives cycle) _ _ (λ l. hold_young 0 full) (λ l. drive_young (halved_amps request) (cycle + 1) 0 full)))
    (λ h. rest_on request cycle time (leb-false rest_limit time h))
phase_young (Hold time) full = hold_young time full

-- ---- so where a tick leads, its fold leads
module _ (x : Settings) (r : Readings) (k : Cells) where
  charges_fold : (q : (ControlFlow Cause Phase)) → Young q → (to : State) → ChargesAs x r k q to → ChargesAs x r k q (fold_state to)
  unfolding ChargesAs Young fold_state
  charges_fold (Continue p) h to e = ap fold_state e ∙ ap Charging h
  charges_fold (Break cause) h to e = e

  goes_fold : (from to : State) → GoesOnAs x r k from to → GoesOnAs x r k from (fold_state to)
  unfolding GoesOnAs fold_state
  goes_fold Idle to e = ap fold_state e
  goes_fold Offered to e = ap fold_state e
  goes_fold Unverified to e = ap fold_state e
  goes_fold Parameters to e = ap fold_state e
  goes_fold (Ready accepted maximum) to e = ap fold_state e
  goes_fold (Charging p) to e = charges_fold (phase_after p (cell_full x k)) (phase_young p (cell_full x k)) to e
  goes_fold (Stopping acknowledged est) to e = ap fold_state e
  goes_fold Error to e = ap fold_state e

  leads_fold : (why : Why) (from to : State) → LeadsTo x r k from why to → LeadsTo x r k from why (fold_state to)
  unfolding LeadsTo fold_state
  leads_fold GoesOn from to e = goes_fold from to e
  leads_fold AtSilenceLimit from to e = ap fold_state e
  leads_fold NotWantedBefore from to e = ap fold_state e
  leads_fold NotWantedCharging from to e = ap fold_state e
  leads_fold CurrentAbove from to e = ap fold_state e
  leads_fold PackFull from to e = ap fold_state e
  leads_fold TimeUp from to e = ap fold_state e
  leads_fold CellFull from to e = ap fold_state e
  leads_fold AtClosingLimit from to e = ap fold_state e

state_of : (s : Session) → (folds s).state ≡ fold_state s.state
unfolding folds
state_of s = refl

pub what_a_tick_does : WhatATickDoes
unfolding use_then call_in
what_a_tick_does ms c r v t old new k a h z =
    let e : k.controller.session.state ≡ fold_state (after c (Tick r v t old)).session.state =
    ap (λ (s : Session). s.state) (session_use ms c (DidTick r v t old new k) a h) ∙ state_of (after c (Tick r v t old)).session in
    subst (LeadsTo c.settings r (cells_of v t) c.session.state (why_of c.settings r (cells_of v t) c.session)) (sym e)
    (leads_fold c.settings r (cells_of v t) _ c.session.state _
    (stops.what_a_tick_does c r v t old (accepted_as c r v t old new k h z)))
