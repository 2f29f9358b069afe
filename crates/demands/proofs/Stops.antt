-- "Exactly which tick ends or stops a session, and why" (01, "Session by tick"): an accepted tick leads where the first
-- of the paper's rules that holds says, from every state, and a refused one changes nothing. So which ticks end a
-- session, and which end a charge. Assumes nothing.
use Prim.Native.Nat.{ℕ}
use Rattle.std.specs.declared.ops.ControlFlow.{ControlFlow}
use Rattle.session_states.specs.declared.phases.Cause.{Cause}
use Rattle.session_states.specs.declared.phases.Phase.{Phase}
use Rattle.std.specs.declared.ops.ControlFlow.TheVariants.{Continue, Break}
use mathlib.Core.Path.{◌≡◌, refl, sym, ap, ◌∙◌}
use mathlib.Core.Bool.{Bool, true, false, not, cond, ◌&&◌, false≢true}
use mathlib.Core.List.{List}
use lib.IntN.{ℤ}
use Rattle.settings.specs.declared.Settings.{Settings}
use Rattle.readings.specs.declared.Readings.{Readings}
use Rattle.cells.specs.declared.Cells.{Cells}
use Rattle.cells.specs.Summaries.{cells_of}
use Rattle.session_states.specs.declared.states.State.{State}
use Rattle.session_states.specs.declared.states.State.TheVariants.{Idle, Offered, Unverified, Parameters, Ready, Charging, Stopping, Error}
use Rattle.session_states.specs.Phases.{phase_after}
use Rattle.session_by_tick.specs.Turns.{cell_full, turn_of}
use Rattle.session.specs.declared.Session.{Session}
use Rattle.session.specs.Session.{with_state}
use Rattle.session.specs.Tick.{turned_by, turn_in}
use Rattle.session_paper_counts.specs.Literal.{literal_in, literal_advance, literal_tick}
use Rattle.controller.specs.declared.Controller.{Controller}
use Rattle.session_states.specs.States.{is_idle}
use Rattle.demands.specs.Machine.{Tick, paper_next}
use Rattle.demands.specs.After.{accepts, after, no_session}
use Rattle.session_states.specs.States.{is_charging}
use Rattle.demands.specs.Stops.{Why, GoesOn, AtSilenceLimit, NotWantedBefore, NotWantedCharging, CurrentAbove, PackFull, TimeUp, CellFull, AtClosingLimit}
use Rattle.demands.specs.Stops.{why_of, ChargesAs, GoesOnAs, LeadsTo, ends_for, leaves_for}
use Rattle.demands.proofs.Reasons.{tick_why}

pub charging_open : (st : State) → is_charging st ≡ true → is_idle st ≡ false
unfolding is_charging is_idle
charging_open Idle h = absurd (false≢true h)
charging_open Offered h = refl
charging_open Unverified h = refl
charging_open Parameters h = refl
charging_open (Ready y most) h = refl
charging_open (Charging p) h = refl
charging_open (Stopping k e) h = refl
charging_open Error h = refl

module _ (x : Settings) (r : Readings) (c : Cells) where
  charges_on : (t : (ControlFlow Cause Phase)) (to : State) → ChargesAs x r c t to → is_charging to ≡ true
  unfolding ChargesAs is_charging
  charges_on (Continue p) to e = ap is_charging e
  charges_on (Break cause) to e = absurd e

  on_open : (from to : State) → is_idle from ≡ false → GoesOnAs x r c from to → is_idle to ≡ false
  unfolding GoesOnAs is_idle
  on_open Idle to h e = absurd (false≢true (sym h))
  on_open Offered to h e = ap is_idle e
  on_open Unverified to h e = ap is_idle e
  on_open Parameters to h e = ap is_idle e
  on_open (Ready y most) to h e = ap is_idle e
  on_open (Charging p) to h e = charging_open to (charges_on (phase_after p (cell_full x c)) to e)
  on_open (Stopping k f) to h e = ap is_idle e
  on_open Error to h e = ap is_idle e

  leads_idle : (w : Why) (from to : State) → is_idle from ≡ false → LeadsTo x r c from w to → is_idle to ≡ ends_for w
  unfolding LeadsTo ends_for is_idle
  leads_idle GoesOn from to h e = on_open from to h e
  leads_idle AtSilenceLimit from to h e = ap is_idle e
  leads_idle NotWantedBefore from to h e = ap is_idle e
  leads_idle NotWantedCharging from to h e = ap is_idle e
  leads_idle CurrentAbove from to h e = ap is_idle e
  leads_idle PackFull from to h e = ap is_idle e
  leads_idle TimeUp from to h e = ap is_idle e
  leads_idle CellFull from to h e = ap is_idle e
  leads_idle AtClosingLimit from to h e = ap is_idle e

  on_charging : (from to : State) → is_charging from ≡ true → GoesOnAs x r c from to → is_charging to ≡ true
  unfolding GoesOnAs is_charging
  on_charging Idle to h e = absurd (false≢true h)
  on_charging Offered to h e = absurd (false≢true h)
  on_charging Unverified to h e = absurd (false≢true h)
  on_charging Parameters to h e = absurd (false≢true h)
  on_charging (Ready y most) to h e = absurd (false≢true h)
  on_charging (Charging p) to h e = charges_on (phase_after p (cell_full x c)) to e
  on_charging (Stopping k f) to h e = absurd (false≢true h)
  on_charging Error to h e = absurd (false≢true h)

  leads_charging : (w : Why) (from to : State) → is_charging from ≡ true → LeadsTo x r c from w to
      → is_charging to ≡ not (leaves_for w)
  unfolding LeadsTo leaves_for is_charging
  leads_charging GoesOn from to h e = on_charging from to h e
  leads_charging AtSilenceLimit from to h e = ap is_charging e
  leads_charging NotWantedBefore from to h e = ap is_charging e
  leads_charging NotWantedCharging from to h e = ap is_charging e
  leads_charging CurrentAbove from to h e = ap is_charging e
  leads_charging PackFull from to h e = ap is_charging e
  leads_charging TimeUp from to h e = ap is_charging e
  leads_charging CellFull from to h e = ap is_charging e
  leads_charging AtClosingLimit from to h e = ap is_charging e

  idle_in : (s : Session) (st : State) → st ≡ Idle → literal_tick x r c (with_state s st) ≡ with_state s st
  unfolding literal_tick literal_advance literal_in turned_by turn_in turn_of
  idle_in s st h =
      ap (λ (z : State). literal_tick x r c (with_state s z)) h ∙ ap (λ (z : State). with_state s z) (sym h)

module _ (c : Controller) (r : Readings) (v : List ℕ) (t : List ℤ) (old : List ℕ) where
  abbrev why : Why
  why = why_of c.settings r (cells_of v t) c.session

  -- THE ANSWER for ticks: an accepted one leads where its reason says
  pub what_a_tick_does : accepts r v t old ≡ true
      → LeadsTo c.settings r (cells_of v t) c.session.state why (after c (Tick r v t old)).session.state
  unfolding after paper_next
  what_a_tick_does h = rw h (tick_why c.settings r (cells_of v t) c.session)

  -- a refused one changes nothing
  pub what_a_refused_tick_does : accepts r v t old ≡ false → after c (Tick r v t old) ≡ c
  unfolding after
  what_a_refused_tick_does h = rw h

  -- in Idle the session's record is the same, accepted or not
  pub what_a_tick_does_in_idle : c.session.state ≡ Idle → (after c (Tick r v t old)).session ≡ c.session
  unfolding after paper_next
  what_a_tick_does_in_idle h = either (accepts r v t old)
    where
      either : (b : Bool) → (cond b (paper_next c r v t) c).session ≡ c.session
      either true = idle_in c.settings r (cells_of v t) c.session c.session.state h
      either false = refl

  pub which_tick_ends_a_session : no_session c ≡ false
      → no_session (after c (Tick r v t old)) ≡ (accepts r v t old && ends_for why)
  unfolding no_session
  which_tick_ends_a_session o = either (accepts r v t old) refl
    where
      either : (b : Bool) → accepts r v t old ≡ b
          → is_idle (after c (Tick r v t old)).session.state ≡ (b && ends_for why)
      either true h = leads_idle c.settings r (cells_of v t) why c.session.state _ o (what_a_tick_does h)
      either false h = ap (λ (z : Controller). is_idle z.session.state) (what_a_refused_tick_does h) ∙ o

  pub which_tick_ends_a_charge : is_charging c.session.state ≡ true
      → is_charging (after c (Tick r v t old)).session.state ≡ not (accepts r v t old && leaves_for why)
  which_tick_ends_a_charge o = either (accepts r v t old) refl
    where
      either : (b : Bool) → accepts r v t old ≡ b
          → is_charging (after c (Tick r v t old)).session.state ≡ not (b && leaves_for why)
      either true h = leads_charging c.settings r (cells_of v t) why c.session.state _ o (what_a_tick_does h)
      either false h = ap (λ (z : Controller). is_charging z.session.state) (what_a_refused_tick_does h) ∙ o
