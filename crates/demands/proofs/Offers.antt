-- The last CMP taken, over any run of the paper's machine (specs/Offers.antt): after any calls from the start, in Ready
-- yes or no and the station's maximum are those of its offer, and in Charging no more is asked than it offers. Assumes
-- nothing.
use Prim.Native.Nat.{ℕ, ◌≤◌}
use Rattle.std.specs.declared.ops.ControlFlow.{ControlFlow}
use Rattle.session_states.specs.declared.phases.Cause.{Cause}
use Rattle.std.specs.declared.ops.ControlFlow.TheVariants.{Continue, Break}
use Rattle.std.proofs.Common.{Result, Ok, Err}
use Rattle.numbers.specs.declared.Refusal.{Refusal}
use native.Mathlib.Omega.{arith}
use mathlib.Core.Path.{◌≡◌, refl, sym, ap, subst, ◌∙◌}
use mathlib.Core.Bool.{Bool, true, false, cond, ◌&&◌, false≢true}
use mathlib.Core.List.{List, [], ◌∷◌}
use lib.Dec.{eqb, leb}
use lib.IntN.{ℤ}
use lib.ListN.{length}
use Rattle.messages.specs.declared.received.Charge.TheVariants as charge
use Rattle.messages.specs.declared.received.Message.TheVariants as message
use Rattle.messages.specs.Identifier.{parts_of}
use Rattle.messages.specs.Received.{recognized_of}
use Rattle.units.specs.declared.TenthAmps.{TenthAmps}
use Rattle.units.specs.Units.{lesser_amps}
use Rattle.settings.specs.declared.Settings.{Settings}
use Rattle.settings.specs.Read.{read_of}
use Rattle.readings.specs.declared.Readings.{Readings}
use Rattle.cells.specs.declared.Cells.{Cells}
use Rattle.cells.specs.Summaries.{cells_of}
use Rattle.charge_messages.specs.declared.Offer.{Offer}
use Rattle.charge_messages.specs.declared.ChargeMessage.{ChargeMessage}
use Rattle.charge_messages.specs.declared.ChargeMessage.TheVariants.{Cim, Cvm, Cmp, Crm, Ccs, Cst, Cem}
use Rattle.charge_messages.specs.Content.{content_of}
use Rattle.session_states.specs.Limits.{first_ecp}
use Rattle.session_states.specs.declared.phases.Phase.{Phase}
use Rattle.session_states.specs.declared.phases.Phase.TheVariants.{Drive, Hold}
use Rattle.session_states.specs.Phases.{too_small, start_phase, phase_after}
use Rattle.session_states.specs.declared.states.State.{State}
use Rattle.session_states.specs.declared.states.State.TheVariants.{Idle, Offered, Unverified, Parameters, Ready, Charging, Stopping, Error}
use Rattle.session_states.specs.States.{is_ready}
use Rattle.session_by_message.specs.declared.Outcome.{Outcome}
use Rattle.session_by_message.specs.declared.Outcome.TheVariants.{Refuse, OutOfStep, Open, Heard, Enter, Keep, End}
use Rattle.session_by_message.specs.Offer.{accepted_of, station_maximum}
use Rattle.session_by_message.specs.Message.{gone_out, outcome_number, outcome_of, in_idle, in_offered, in_unverified, in_parameters, in_ready, ready_of, crm_in_ready, in_charging, in_stopping, in_error}
use Rattle.session_by_tick.specs.Turns.{cell_full}
use Rattle.session.specs.declared.Session.{Session}
use Rattle.session.specs.Message.{applied_of, message_of}
use Rattle.session_paper_counts.specs.Literal.{literal_tick}
use Rattle.controller.specs.declared.Controller.{Controller}
use Rattle.controller.specs.Frame.{Answer}
use Rattle.controller.specs.Start.{fresh_of, start_with, start_of}
use Rattle.controller.specs.Frame.{frame_to, session_moved}
use Rattle.controller.specs.Tick.{accepted}
use Rattle.demands.specs.Machine.{Call, Read, Receive, Tick, Write, Box, NoController, Using, paper_next, started, box_after, seen_of, box_at, number_seen}
use Rattle.demands.specs.After.{is_charge}
use Rattle.demands.specs.Says.{charge_of}
use Rattle.demands.specs.Steps.{Step, steps_of}
use Rattle.demands.specs.Stops.{Why, GoesOn, AtSilenceLimit, NotWantedBefore, NotWantedCharging, CurrentAbove, PackFull, TimeUp, CellFull, AtClosingLimit, why_of, ChargesAs, GoesOnAs, LeadsTo}
use Rattle.demands.specs.GoneOut.{is_one_of, takes, is_cmp}
use Rattle.demands.specs.Requests.{request_of, request_in}
use Rattle.demands.specs.Offers.{LastOffer, NoOffer, offer_in, offer_of, offer_by, offer_after, offer_through, last_offer, OfOffer, WithinOffer, LastWas}
use Rattle.demands.proofs.View.{pf_is}
use Rattle.demands.proofs.Comes.{Comes, Left, Took, came}
use Rattle.demands.proofs.Outcomes.{Leads, NotTaken, NotInStep, DoesNothing, OpensOne, ToUnverified, ToParameters, ToParametersLater, ToReady, ToReadyAgain, ToCharging, ToStopping, MarksIt, EndsIt, outcome_leads}
use Rattle.demands.proofs.Requests.{lesser_second, tick_asks}
use Rattle.demands.proofs.Reasons.{tick_why}
use Rattle.demands.proofs.GoneOutMoves.{state_after, state_is, left_untaken}

-- what is shown after each call, of settings, last offer and state
unfoldable pub Held : Settings → LastOffer → State → Type 0
Held x l Idle = Unit {0}
Held x l Offered = Unit {0}
Held x l Unverified = Unit {0}
Held x l Parameters = Unit {0}
Held x l (Ready y most) = OfOffer x l y most
Held x l (Charging p) = WithinOffer l (request_of p)
Held x l (Stopping k e) = Unit {0}
Held x l Error = Unit {0}

-- ---- the start of a charge: R is at most the station's maximum
start_within : (maximum station : TenthAmps) → request_of (start_phase maximum station) ≤ station.0
unfolding start_phase request_of
start_within maximum station = either (too_small (lesser_amps maximum station))
  where
    either : (t : Bool) → request_of (cond t (Hold 0) (Drive (lesser_amps maximum station) 1 0)) ≤ station.0
    either true = omega arith
    either false = lesser_second maximum.0 station.0 (leb maximum.0 station.0) refl

-- ---- a message
unfoldable enters_ready : Outcome → Bool
enters_ready Refuse = false
enters_ready OutOfStep = false
enters_ready Open = false
enters_ready Heard = false
enters_ready (Enter st) = is_ready st
enters_ready (Keep st) = false
enters_ready End = false

either_enters : {A : Type 0} (t : Bool) (o u : Outcome) → (enters_ready o ≡ true → A) → (enters_ready u ≡ true → A)
    → enters_ready (cond t o u) ≡ true → A
either_enters true o u h k e = h e
either_enters false o u h k e = k e

module _ (x : Settings) (n : ℕ) where
  -- only a CMP enters Ready, from Parameters and from Ready
  parameters_cmp : (m : ChargeMessage) → enters_ready (in_parameters x n m) ≡ true → is_cmp (charge_of m) ≡ true
  unfolding in_parameters enters_ready is_ready is_cmp
  parameters_cmp Cim h = absurd (false≢true h)
  parameters_cmp (Cvm b) h = either_enters b Heard OutOfStep (λ e. absurd (false≢true e)) (λ e. absurd (false≢true e)) h
  parameters_cmp (Cmp o) h = refl
  parameters_cmp (Crm b) h = absurd (false≢true h)
  parameters_cmp (Ccs b) h = absurd (false≢true h)
  parameters_cmp (Cst b) h = absurd (false≢true h)
  parameters_cmp Cem h = absurd (false≢true h)

  ready_cmp : (y : Bool) (most : TenthAmps) (m : ChargeMessage) → enters_ready (in_ready x y most n m) ≡ true
      → is_cmp (charge_of m) ≡ true
  unfolding in_ready crm_in_ready enters_ready is_ready is_cmp
  ready_cmp y most Cim h = absurd (false≢true h)
  ready_cmp y most (Cvm b) h = absurd (false≢true h)
  ready_cmp y most (Cmp o) h = refl
  ready_cmp y most (Crm b) h =
      either_enters (y && gone_out 0 n) _ OutOfStep
      (either_enters b (Enter (Charging (start_phase x.limits.current most))) Heard (λ e. absurd (false≢true e)) (λ e. absurd (false≢true e)))
      (λ e. absurd (false≢true e)) h
  ready_cmp y most (Ccs b) h = absurd (false≢true h)
  ready_cmp y most (Cst b) h = absurd (false≢true h)
  ready_cmp y most Cem h = absurd (false≢true h)

  module _ (l : LastOffer) where
    -- one that is no CMP
    other_held : (m : ChargeMessage) → is_cmp (charge_of m) ≡ false → (st : State) (o : Outcome) → Leads x n st o
        → o ≡ outcome_of x st n m
        → Held x l st → Held x l (state_after st o)
    unfolding Held state_after outcome_of enters_ready is_ready
    other_held m f st o NotTaken e h = h
    other_held m f st o NotInStep e h = h
    other_held m f st o DoesNothing e h = h
    other_held m f st o OpensOne e h = tt
    other_held m f st o (ToUnverified g) e h = tt
    other_held m f st o (ToParameters g) e h = tt
    other_held m f st o ToParametersLater e h = tt
    other_held m f st o (ToReady g) e h = absurd (false≢true (sym f ∙ parameters_cmp m (ap enters_ready (sym e))))
    other_held m f st o (ToReadyAgain {y} {z} {maximum} {k}) e h = absurd (false≢true (sym f ∙ ready_cmp y maximum m (ap enters_ready (sym e))))
    other_held m f st o (ToCharging {y} {maximum} g) e h =
        record {
          offer = h.offer;
          made = h.made;
          within = subst (λ (k : TenthAmps). request_of (start_phase x.limits.current maximum) ≤ k.0) h.most
              (start_within x.limits.current maximum);
        }
    other_held m f st o (ToStopping g) e h = tt
    other_held m f st o MarksIt e h = tt
    other_held m f st o EndsIt e h = tt

    -- a CMP
    abbrev last_after : Offer → Outcome → LastOffer
    last_after o u = cond (eqb (outcome_number u) 0) (LastWas o) l

    own_offer : (o : Offer) → OfOffer x (LastWas o) (accepted_of x o) (station_maximum o)
    own_offer o = record { offer = o; made = refl; answer = refl; most = refl }

    enters_held : (o : Offer) (g : Bool)
        → Held x (last_after o (cond g (ready_of x o) OutOfStep)) (state_after Parameters (cond g (ready_of x o) OutOfStep))
    unfolding Held state_after ready_of
    enters_held o true = own_offer o
    enters_held o false = tt

    cmp_held : (o : Offer) (st : State) → Held x l st
        → Held x (last_after o (outcome_of x st n (Cmp o))) (state_after st (outcome_of x st n (Cmp o)))
    unfolding Held state_after outcome_of in_idle in_offered in_unverified in_parameters in_ready ready_of in_charging in_stopping in_error
    cmp_held o Idle h = tt
    cmp_held o Offered h = tt
    cmp_held o Unverified h = tt
    cmp_held o Parameters h = enters_held o (gone_out first_ecp n)
    cmp_held o (Ready y most) h = own_offer o
    cmp_held o (Charging p) h = h
    cmp_held o (Stopping k e) h = tt
    cmp_held o Error h = tt

    -- any
    message_held : (m : ChargeMessage) (s : List ℕ) → content_of (charge_of m) s ≡ Ok m → (st : State) → Held x l st
        → Held x (cond (is_cmp (charge_of m) && eqb (outcome_number (outcome_of x st n m)) 0) (offer_of (content_of charge.Cmp s)) l)
        (state_after st (outcome_of x st n m))
    unfolding is_cmp offer_of offer_in
    message_held Cim s e st h = other_held Cim refl st _ (outcome_leads x n st Cim) refl h
    message_held (Cvm b) s e st h = other_held (Cvm b) refl st _ (outcome_leads x n st (Cvm b)) refl h
    message_held (Cmp o) s e st h = rw e (cmp_held o st h)
    message_held (Crm b) s e st h = other_held (Crm b) refl st _ (outcome_leads x n st (Crm b)) refl h
    message_held (Ccs b) s e st h = other_held (Ccs b) refl st _ (outcome_leads x n st (Ccs b)) refl h
    message_held (Cst b) s e st h = other_held (Cst b) refl st _ (outcome_leads x n st (Cst b)) refl h
    message_held Cem s e st h = other_held Cem refl st _ (outcome_leads x n st Cem) refl h

-- ---- a tick asks no more than was asked
module _ (x : Settings) (r : Readings) (c : Cells) where
  module _ (l : LastOffer) where
    charges_held : (p : Phase) (q : (ControlFlow Cause Phase)) (to : State) → ChargesAs x r c q to → request_in to ≤ request_of p
        → Held x l (Charging p) → Held x l to
    unfolding ChargesAs Held request_in
    charges_held p (Continue k) to e a h =
        subst (Held x l) (sym e)
        (record { offer = h.offer; made = h.made; within = omega (arith, h.within, ap request_in e, a) })
    charges_held p (Break cause) to e a h = absurd e

    on_held : (from to : State) → GoesOnAs x r c from to → request_in to ≤ request_in from → Held x l from → Held x l to
    unfolding GoesOnAs Held request_in
    on_held Idle to e a h = subst (Held x l) (sym e) tt
    on_held Offered to e a h = subst (Held x l) (sym e) tt
    on_held Unverified to e a h = subst (Held x l) (sym e) tt
    on_held Parameters to e a h = subst (Held x l) (sym e) tt
    on_held (Ready y most) to e a h = subst (Held x l) (sym e) h
    on_held (Charging p) to e a h = charges_held p (phase_after p (cell_full x c)) to e a h
    on_held (Stopping k f) to e a h = subst (Held x l) (sym e) tt
    on_held Error to e a h = subst (Held x l) (sym e) tt

    leads_held : (w : Why) (from to : State) → LeadsTo x r c from w to → request_in to ≤ request_in from → Held x l from
        → Held x l to
    unfolding LeadsTo Held
    leads_held GoesOn from to e a h = on_held from to e a h
    leads_held AtSilenceLimit from to e a h = subst (Held x l) (sym e) tt
    leads_held NotWantedBefore from to e a h = subst (Held x l) (sym e) tt
    leads_held NotWantedCharging from to e a h = subst (Held x l) (sym e) tt
    leads_held CurrentAbove from to e a h = subst (Held x l) (sym e) tt
    leads_held PackFull from to e a h = subst (Held x l) (sym e) tt
    leads_held TimeUp from to e a h = subst (Held x l) (sym e) tt
    leads_held CellFull from to e a h = subst (Held x l) (sym e) tt
    leads_held AtClosingLimit from to e a h = subst (Held x l) (sym e) tt

    pub tick_held : (s : Session) → Held x l s.state → Held x l (literal_tick x r c s).state
    tick_held s h = leads_held (why_of x r c s) s.state (literal_tick x r c s).state (tick_why x r c s) (tick_asks x r c s) h

-- ---- any call
unfoldable HeldIn : LastOffer → Box → Type 0
HeldIn l NoController = Unit {0}
HeldIn l (Using c) = Held c.settings l c.session.state

module _ (l : LastOffer) where
  frame_held : (c : Controller) (id : ℕ) (s : List ℕ) (a : Answer) → Comes c id s a
      → Held c.settings l c.session.state
      → Held a.controller.settings
      (cond (is_one_of is_cmp (recognized_of (parts_of id).pf) && eqb a.number 0) (offer_of (content_of charge.Cmp s)) l)
      a.controller.session.state
  unfolding session_moved message_of applied_of is_charge is_one_of
  frame_held c id s a (Left u e f) h =
      rw (u, e, left_untaken is_cmp (recognized_of (parts_of id).pf) a.number (λ i. (f i).number)) h
  frame_held c id s a (Took m says may e) h =
      let o = outcome_of c.settings c.session.state c.session.count m in
      rw (
        e,
        pf_is c.settings.own id s (message.Charge (charge_of m)) says.checks,
        state_is (parts_of id).source c.session o,
      )
      (message_held c.settings c.session.count l m s says.content c.session.state h)

  abbrev step_at : Box → Call → Step
  step_at b k = record { before = b; call = k; seen = seen_of paper_next b k; after = box_after paper_next b k }

  read_held : (a : Result Settings Refusal) (b : Box) → HeldIn l b → HeldIn l (started (start_with a) b)
  unfolding HeldIn started start_with fresh_of Held
  read_held (Ok x) b h = tt
  read_held (Err n) b h = h

  taken_tick : (c : Controller) (r : Readings) (v : List ℕ) (t : List ℤ) (took : Bool) → HeldIn l (Using c)
      → HeldIn l (Using (cond took (paper_next c r v t) c))
  unfolding HeldIn paper_next
  taken_tick c r v t true h = tick_held c.settings r (cells_of v t) l c.session h
  taken_tick c r v t false h = h

  call_held : (b : Box) (k : Call) → HeldIn l b → HeldIn (offer_after l (step_at b k)) (box_after paper_next b k)
  unfolding HeldIn offer_after offer_by takes number_seen box_after seen_of start_of
  call_held b (Read s) h = read_held (read_of s) b h
  call_held NoController (Receive id s) h = tt
  call_held (Using c) (Receive id s) h = frame_held c id s (frame_to c id s) (came c id s) h
  call_held NoController (Tick r v t old) h = tt
  call_held (Using c) (Tick r v t old) h = taken_tick c r v t (accepted c r v t (length old)) h
  call_held NoController (Write old) h = tt
  call_held (Using c) (Write old) h = h

-- ---- any run
run_held : (l : LastOffer) (b : Box) (ks : List Call) → HeldIn l b
    → HeldIn (offer_through l (steps_of b ks)) (box_at paper_next b ks)
unfolding offer_through steps_of box_at
run_held l b [] h = h
run_held l b (k ∷ ks) h = run_held (offer_after l (step_at l b k)) (box_after paper_next b k) ks (call_held l b k h)

-- after any calls from the start
pub last_held : (ks : List Call) (c : Controller) → box_at paper_next NoController ks ≡ Using c
    → Held c.settings (last_offer (steps_of NoController ks)) c.session.state
unfolding HeldIn
last_held ks c e = subst (HeldIn (last_offer (steps_of NoController ks))) e (run_held NoOffer NoController ks tt)
