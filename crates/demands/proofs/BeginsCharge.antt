-- What begins a charge, and what the last CMP taken has to do with it (specs/Offers.antt): of one call of any
-- controller, then carried over, with what is known of the last CMP, to the calls that were made. Assumes nothing.
use Prim.Native.Nat.{ℕ}
use Rattle.std.proofs.Common.{Result, Ok, Err}
use Rattle.numbers.specs.declared.Refusal.{Refusal}
use mathlib.Core.Path.{◌≡◌, refl, sym, ap, subst, ◌∙◌}
use mathlib.Core.Bool.{Bool, true, false, cond, ◌&&◌, false≢true}
use mathlib.Core.List.{List, [], ◌∷◌, map}
use lib.IntN.{ℤ}
use Rattle.messages.specs.Identifier.{parts_of}
use Rattle.units.specs.declared.TenthAmps.{TenthAmps}
use Rattle.settings.specs.declared.Settings.{Settings}
use Rattle.settings.specs.Read.{read_of}
use Rattle.readings.specs.declared.Readings.{Readings}
use Rattle.cells.specs.declared.Cells.{Cells}
use Rattle.cells.specs.Summaries.{cells_of}
use Rattle.charge_messages.specs.declared.ChargeMessage.{ChargeMessage}
use Rattle.charge_messages.specs.declared.ChargeMessage.TheVariants.{Cim, Cvm, Cmp, Crm, Ccs, Cst, Cem}
use Rattle.session_states.specs.Phases.{start_phase}
use Rattle.session_states.specs.declared.states.State.{State}
use Rattle.session_states.specs.declared.states.State.TheVariants.{Idle, Offered, Unverified, Parameters, Ready, Charging, Stopping, Error}
use Rattle.session_states.specs.States.{is_idle, is_ready, is_charging}
use Rattle.session_by_message.specs.declared.Outcome.{Outcome}
use Rattle.session_by_message.specs.declared.Outcome.TheVariants.{OutOfStep, Heard, Enter}
use Rattle.session_by_message.specs.Message.{gone_out, outcome_number, outcome_of, in_ready, ready_of, crm_in_ready}
use Rattle.session.specs.declared.Session.{Session}
use Rattle.session.specs.Message.{applied_of, message_of}
use Rattle.session_paper_counts.specs.Folds.{fold_state, folds}
use Rattle.controller.specs.declared.Controller.{Controller}
use Rattle.controller.specs.Frame.{Answer}
use Rattle.controller.specs.Start.{fresh_of}
use Rattle.controller.specs.Frame.{session_moved}
use Rattle.demands.specs.Machine.{Receive, Tick, NoController}
use Rattle.demands.specs.InStep.{code_of}
use Rattle.demands.specs.Calls.{CallMade, DidRead, DidReceive, DidTick, DidWrite, call_in, KeepsPromise, calls_in}
use Rattle.demands.specs.Steps.{Step, steps_of}
use Rattle.demands.specs.Since.{AfterCalls, use_then}
use Rattle.demands.specs.After.{accepts, read_into, after}
use Rattle.demands.specs.Says.{Says}
use Rattle.demands.specs.Stops.{Why, GoesOn, AtSilenceLimit, NotWantedBefore, NotWantedCharging, CurrentAbove, PackFull, TimeUp, CellFull, AtClosingLimit, GoesOnAs, LeadsTo}
use Rattle.demands.specs.GoneOut.{erm}
use Rattle.demands.specs.Requests.{request_in}
use Rattle.demands.specs.Statements.{NextCall, has_gone, WhatBeginsACharge, TheLastCmpCounts, NotAboveTheStation}
use Rattle.demands.specs.Offers.{LastOffer, NoOffer, offer_after, offer_through, last_offer, last_taken, OfOffer, WithinOffer, BeginsCharge}
use Rattle.demands.proofs.Comes.{Comes, Left, Took, came, station_is}
use Rattle.demands.proofs.Outcomes.{Leads, NotTaken, NotInStep, DoesNothing, OpensOne, ToUnverified, ToParameters, ToParametersLater, ToReady, ToReadyAgain, ToCharging, ToStopping, MarksIt, EndsIt, outcome_leads}
use Rattle.demands.proofs.GoneOutMoves.{state_after, state_is}
use Rattle.demands.proofs.Stops as stops
use Rattle.demands.proofs.StepsMade.{code_step, Behind, behind, its_own, use_is, steps_from_start}
use Rattle.demands.proofs.Requests.{asks_phase}
use Rattle.demands.proofs.OfCalls.{charging_code, crm_taken}
use Rattle.demands.proofs.Offers.{Held, last_held}

-- ---- a message
module _ (x : Settings) (n : ℕ) where
  abbrev begun : TenthAmps → Outcome
  begun most = Enter (Charging (start_phase x.limits.current most))

  -- a CRM AA, in Ready with yes
  record Enters (st : State) (m : ChargeMessage) : Type 0 where
    most : TenthAmps
    is : st ≡ Ready true most
    message : m ≡ Crm true
    outcome : outcome_of x st n m ≡ begun most

  crm_enters : (y : Bool) (most : TenthAmps) (g b : Bool)
      → is_charging (state_after (Ready y most) (cond (y && g) (cond b (begun most) Heard) OutOfStep)) ≡ true
      → (y ≡ true) × ((b ≡ true) × (cond (y && g) (cond b (begun most) Heard) OutOfStep ≡ begun most))
  unfolding is_charging state_after
  crm_enters true most true true h = (refl, (refl, refl))
  crm_enters true most true false h = absurd (false≢true h)
  crm_enters true most false b h = absurd (false≢true h)
  crm_enters false most g b h = absurd (false≢true h)

  ready_enters : (y : Bool) (most : TenthAmps) (m : ChargeMessage)
      → is_charging (state_after (Ready y most) (outcome_of x (Ready y most) n m)) ≡ true → Enters (Ready y most) m
  unfolding is_charging state_after outcome_of in_ready ready_of crm_in_ready
  ready_enters y most Cim h = absurd (false≢true h)
  ready_enters y most (Cvm b) h = absurd (false≢true h)
  ready_enters y most (Cmp o) h = absurd (false≢true h)
  ready_enters y most (Crm b) h =
      let t = crm_enters y most (gone_out 0 n) b h in
      record { most = most; is = ap (λ (z : Bool). Ready z most) t.0; message = ap Crm t.1.0; outcome = t.1.1 }
  ready_enters y most (Ccs b) h = absurd (false≢true h)
  ready_enters y most (Cst b) h = absurd (false≢true h)
  ready_enters y most Cem h = absurd (false≢true h)

  -- and no other message begins a charge
  enters : (m : ChargeMessage) (st : State) (o : Outcome) → Leads x n st o → o ≡ outcome_of x st n m
      → is_charging st ≡ false
      → is_charging (state_after st o) ≡ true → Enters st m
  unfolding is_charging state_after
  enters m st o NotTaken e f h = absurd (false≢true (sym f ∙ h))
  enters m st o NotInStep e f h = absurd (false≢true (sym f ∙ h))
  enters m st o DoesNothing e f h = absurd (false≢true (sym f ∙ h))
  enters m st o OpensOne e f h = absurd (false≢true h)
  enters m st o (ToUnverified g) e f h = absurd (false≢true h)
  enters m st o (ToParameters g) e f h = absurd (false≢true h)
  enters m st o ToParametersLater e f h = absurd (false≢true h)
  enters m st o (ToReady g) e f h = absurd (false≢true h)
  enters m st o ToReadyAgain e f h = absurd (false≢true h)
  enters m st o (ToCharging {y} {maximum} g) e f h =
      ready_enters y maximum m (ap (λ (z : Outcome). is_charging (state_after (Ready y maximum) z)) (sym e))
  enters m st o (ToStopping g) e f h = absurd (false≢true h)
  enters m st o MarksIt e f h = absurd (false≢true h)
  enters m st o EndsIt e f h = absurd (false≢true h)

-- ---- a frame
record Begins (c : Controller) (id : ℕ) (s : List ℕ) (a : Answer) : Type 0 where
  says : Says c.settings c.session.station (Crm true) id s
  most : TenthAmps
  is : c.session.state ≡ Ready true most
  number : a.number ≡ 0
  to : a.controller.session.state ≡ Charging (start_phase c.settings.limits.current most)

module _ (c : Controller) (id : ℕ) (s : List ℕ) where
  abbrev source : ℕ
  source = (parts_of id).source

  ready_open : (most : TenthAmps) → c.session.state ≡ Ready true most → is_idle c.session.state ≡ false
  unfolding is_idle
  ready_open most e = ap is_idle e

  frame_begins : (a : Answer) → Comes c id s a → is_charging c.session.state ≡ false
      → is_charging a.controller.session.state ≡ true → Begins c id s a
  unfolding session_moved message_of applied_of state_after
  frame_begins a (Left u k n) f h = absurd (false≢true (sym f ∙ (ap (λ (t : Session). is_charging t.state) (sym k) ∙ h)))
  frame_begins a (Took m says may k) f h =
      let st = c.session.state in
      let o = outcome_of c.settings st c.session.count m in
      let later : a.controller.session.state ≡ state_after st o =
      ap (λ (t : Answer). t.controller.session.state) k ∙ state_is source c.session o in
      let e : Enters c.settings c.session.count st m =
      enters c.settings c.session.count m st o (outcome_leads c.settings c.session.count st m) refl f
      (ap is_charging (sym later) ∙ h) in
      let at : source ≡ c.session.station = station_is c source (ready_open e.most e.is) may in
      record {
        says = subst (λ (z : ChargeMessage). Says c.settings c.session.station z id s) e.message
            (subst (λ (z : ℕ). Says c.settings z m id s) at says);
        most = e.most;
        is = e.is;
        number = ap (λ (t : Answer). t.number) k ∙ ap outcome_number e.outcome;
        to = later ∙ ap (state_after st) e.outcome;
      }

-- ---- no other call begins one
module _ (x : Settings) (r : Readings) (k : Cells) where
  on_not : (from to : State) → is_charging from ≡ false → GoesOnAs x r k from to → is_charging to ≡ false
  unfolding GoesOnAs is_charging
  on_not Idle to h e = ap is_charging e
  on_not Offered to h e = ap is_charging e
  on_not Unverified to h e = ap is_charging e
  on_not Parameters to h e = ap is_charging e
  on_not (Ready y most) to h e = ap is_charging e
  on_not (Charging p) to h e = absurd (false≢true (sym h))
  on_not (Stopping a f) to h e = ap is_charging e
  on_not Error to h e = ap is_charging e

  leads_not : (w : Why) (from to : State) → is_charging from ≡ false → LeadsTo x r k from w to → is_charging to ≡ false
  unfolding LeadsTo is_charging
  leads_not GoesOn from to h e = on_not from to h e
  leads_not AtSilenceLimit from to h e = ap is_charging e
  leads_not NotWantedBefore from to h e = ap is_charging e
  leads_not NotWantedCharging from to h e = ap is_charging e
  leads_not CurrentAbove from to h e = ap is_charging e
  leads_not PackFull from to h e = ap is_charging e
  leads_not TimeUp from to h e = ap is_charging e
  leads_not CellFull from to h e = ap is_charging e
  leads_not AtClosingLimit from to h e = ap is_charging e

module _ (c : Controller) (f : is_charging c.session.state ≡ false) where
  tick_not : (r : Readings) (v : List ℕ) (t : List ℤ) (old : List ℕ)
      → is_charging (after c (Tick r v t old)).session.state ≡ false
  tick_not r v t old = either (accepts r v t old) refl
    where
      either : (b : Bool) → accepts r v t old ≡ b → is_charging (after c (Tick r v t old)).session.state ≡ false
      either true h = leads_not c.settings r (cells_of v t) _ c.session.state _ f (stops.what_a_tick_does c r v t old h)
      either false h = ap (λ (z : Controller). is_charging z.session.state) (stops.what_a_refused_tick_does c r v t old h) ∙ f

  read_not : (a : Result Settings Refusal) → is_charging (read_into a c).session.state ≡ false
  unfolding read_into fresh_of is_charging
  read_not (Ok x) = refl
  read_not (Err n) = f

-- ---- the last CMP, of the calls made: the steps' calls and numbers are the machine's
through_folds : (l : LastOffer) (xs : List Step) → offer_through l (map code_step xs) ≡ offer_through l xs
unfolding offer_through offer_after
through_folds l [] = refl
through_folds l (x ∷ xs) = through_folds (offer_after l x) xs

last_made : (ms : List CallMade) (c : Controller) → AfterCalls ms c
    → last_taken ms ≡ last_offer (steps_of NoController (calls_in ms))
last_made ms c a = ap last_offer (steps_from_start ms a.kept) ∙ through_folds NoOffer (steps_of NoController (calls_in ms))

held_folds : (x : Settings) (l : LastOffer) (st : State) → Held x l st → Held x l (fold_state st)
unfolding Held fold_state
held_folds x l Idle h = tt
held_folds x l Offered h = tt
held_folds x l Unverified h = tt
held_folds x l Parameters h = tt
held_folds x l (Ready y most) h = h
held_folds x l (Charging p) h = subst (WithinOffer l) (sym (asks_phase p)) h
held_folds x l (Stopping k e) h = tt
held_folds x l Error h = tt

pub held_made : (ms : List CallMade) (c : Controller) → AfterCalls ms c
    → Held c.settings (last_taken ms) c.session.state
unfolding code_of folds
held_made ms c a =
    let b : Behind ms c = behind ms c a in
    subst (λ (z : Controller). Held z.settings (last_taken ms) z.session.state) b.code
    (rw (last_made ms c a) (held_folds b.paper.settings _ b.paper.session.state (last_held (calls_in ms) b.paper b.run)))

-- ---- THE STATEMENTS
pub the_last_cmp_counts : TheLastCmpCounts
unfolding Held
the_last_cmp_counts ms c accepted maximum a e = subst (Held c.settings (last_taken ms)) e (held_made ms c a)

within_in : (x : Settings) (l : LastOffer) (st : State) → is_charging st ≡ true → Held x l st
    → WithinOffer l (request_in st)
unfolding Held is_charging request_in
within_in x l Idle e h = absurd (false≢true e)
within_in x l Offered e h = absurd (false≢true e)
within_in x l Unverified e h = absurd (false≢true e)
within_in x l Parameters e h = absurd (false≢true e)
within_in x l (Ready y most) e h = absurd (false≢true e)
within_in x l (Charging p) e h = h
within_in x l (Stopping k f) e h = absurd (false≢true e)
within_in x l Error e h = absurd (false≢true e)

pub not_above_the_station : NotAboveTheStation
not_above_the_station ms c a e = within_in c.settings (last_taken ms) c.session.state e (held_made ms c a)

never : (ms : List CallMade) (c : Controller) (m : CallMade) → AfterCalls ms c → NextCall c m
    → is_charging (after c (call_in m)).session.state ≡ false → is_charging (use_then c m).session.state ≡ true → ⊥
never ms c m a h f e =
    false≢true
    (sym f
    ∙ (sym (charging_code (after c (call_in m)))
    ∙ (ap (λ (z : Controller). is_charging z.session.state) (sym (use_is c (its_own ms c a) m h)) ∙ e)))

frame_made : (ms : List CallMade) (c : Controller) (id : ℕ) (s : List ℕ) (a : Answer) → AfterCalls ms c
    → NextCall c (DidReceive id s a)
    → Begins c id s a → BeginsCharge (has_gone erm ms) (last_taken ms) c (Receive id s) a.controller.session.state
unfolding is_ready
frame_made ms c id s a u h b =
    let ready : is_ready c.session.state ≡ true = ap is_ready b.is in
    let o : OfOffer c.settings (last_taken ms) true b.most = the_last_cmp_counts ms c true b.most u b.is in
    record {
      id = id;
      bytes = s;
      frame = refl;
      says = b.says;
      ready = ready;
      sent = crm_taken ms c true id s a u h b.says ready b.number;
      offer = o.offer;
      made = o.made;
      answer = sym o.answer;
      phase = b.to ∙ ap (λ (k : TenthAmps). Charging (start_phase c.settings.limits.current k)) o.most;
    }

pub what_begins_a_charge : WhatBeginsACharge
unfolding call_in use_then KeepsPromise after
what_begins_a_charge ms c (DidRead s a) u h f e = absurd (never ms c (DidRead s a) u h (read_not c f (read_of s)) e)
what_begins_a_charge ms c (DidReceive id s a) u h f e =
    frame_made ms c id s a u h (frame_begins c id s a (subst (Comes c id s) (sym h) (came c id s)) f e)
what_begins_a_charge ms c (DidTick r v t old new k) u h f e = absurd (never ms c (DidTick r v t old new k) u h (tick_not c f r v t old) e)
what_begins_a_charge ms c (DidWrite old new w) u h f e = absurd (false≢true (sym f ∙ e))
