-- The statements of one call more: after any calls from the start, what the next call does (specs/Statements.antt).
-- Each is its lemma of one call of any controller, carried over to the calls that were made. Assumes nothing.
use Prim.Native.Nat.{ℕ}
use Rattle.refusals.specs.Frame.{listed}
use mathlib.Core.Bool.{cond}
use Rattle.numbers.specs.Numbers.{number_of}
use Rattle.numbers.specs.declared.Refusal.TheVariants.{NotTheStation, NotInThisState}
use native.Mathlib.Omega.{arith}
use mathlib.Core.Logic.{◌⊎◌}
use mathlib.Core.Path.{◌≡◌, refl, sym, ap, subst, ◌∙◌}
use mathlib.Core.Bool.{Bool, true, false, not, ◌&&◌, ◌||◌, false≢true}
use mathlib.Core.List.{List, [], ◌∷◌, map}
use borrow.Author.Tests.{eq-eqb}
use lib.Dec.{ltb}
use lib.IntN.{ℤ}
use lib.ListN.{length}
use Rattle.frames.specs.declared.Frame.{Frame}
use Rattle.readings.specs.declared.Readings.{Readings}
use Rattle.charge_messages.specs.declared.ChargeMessage.{ChargeMessage}
use Rattle.charge_messages.specs.declared.ChargeMessage.TheVariants.{Cvm, Cmp, Crm}
use Rattle.refusals.specs.Tick.{tick_number}
use Rattle.session_states.specs.declared.states.State.{State}
use Rattle.session_states.specs.declared.states.State.TheVariants.{Idle, Offered, Unverified, Parameters, Ready, Charging, Stopping, Error}
use Rattle.session_states.specs.States.{is_idle, is_charging, is_stopping, is_offered, is_parameters, is_ready}
use Rattle.session_states.specs.Limits.{closing_limit, first_ecp}
use Rattle.session_paper_counts.specs.Folds.{fold_state, fold_count, folds}
use Rattle.session_paper_counts.proofs.Fold.{fold_ltb}
use Rattle.controller.specs.declared.Controller.{Controller}
use Rattle.controller.specs.Frame.{Answer}
use Rattle.controller.specs.Tick.{Ticked}
use Rattle.session.specs.Message.{applied_of, message_of}
use Rattle.controller.specs.Frame.{frame_to, session_moved}
use Rattle.controller.specs.Tick.{accepted, tick_frames}
use Rattle.demands.specs.Machine.{Box, NoController, Using, number_seen, frames_seen}
use Rattle.demands.specs.InStep.{code_of, code_box}
use Rattle.demands.specs.Calls.{CallMade, DidReceive, DidTick, call_in, KeepsPromise, box_then, in_hand, calls_in}
use Rattle.demands.specs.Steps.{Step, steps_of}
use Rattle.demands.specs.Since.{AfterCalls, use_then}
use Rattle.demands.specs.Refusals.{left_by, box_left_by, lent_before, lent_after}
use Rattle.demands.specs.Says.{Says}
use Rattle.demands.specs.After.{accepts, after, no_session}
use Rattle.demands.specs.Apart.{Alike}
use Rattle.demands.specs.Over.{Opens, Ignored}
use Rattle.demands.specs.GoneOut.{Watch, is_here, sends, takes, goes_on, gone_after, gone, is_ready_yes, eim, ecp, erm, est}
use Rattle.demands.specs.Statements.{NextCall, has_gone, WhatEndsASession, EachEndsASession, EstGone, EarlyAcknowledgement, WhatEndsACharge, EachEndsACharge, WhatARefusedTickDoes, WhatATickDoesInIdle, Over, EachOpens, ReplayedAcknowledgement, CvmTaken, CmpTaken, CrmTaken, Unreached, EimGone, ErmGone, WhatAMessageDoes, WhatATickSends, EcpGone}
use Rattle.demands.proofs.Steps.{kind_folds, idle_folds}
use Rattle.demands.proofs.Demand2.{frame_in_step}
use Rattle.demands.proofs.StepsMade.{code_step, Behind, behind, its_own, use_is, steps_from_start}
use Rattle.demands.proofs.Since.{using_same}
use Rattle.demands.proofs.Stops as stops
use Rattle.demands.proofs.Ends as ends
use Rattle.demands.proofs.Calls.{left_in_the_buffer}
use Rattle.demands.proofs.Comes.{says_taken}
use Rattle.demands.proofs.Over as idle
use Rattle.demands.proofs.GoneOut as out
use Rattle.demands.proofs.EcpSent.{ecp_exactly}
use Rattle.demands.proofs.Apart as apart
use Rattle.demands.proofs.Demand1.{demand_1}

-- ---- what the code's controller shows of the machine's
charging_folds : (st : State) → is_charging (fold_state st) ≡ is_charging st
unfolding is_charging
charging_folds = kind_folds is_charging (λ p. refl)

pub stopping_folds : (st : State) → is_stopping (fold_state st) ≡ is_stopping st
unfolding is_stopping
stopping_folds = kind_folds is_stopping (λ p. refl)

offered_folds : (st : State) → is_offered (fold_state st) ≡ is_offered st
unfolding is_offered
offered_folds = kind_folds is_offered (λ p. refl)

parameters_folds : (st : State) → is_parameters (fold_state st) ≡ is_parameters st
unfolding is_parameters
parameters_folds = kind_folds is_parameters (λ p. refl)

yes_folds : (st : State) → is_ready_yes (fold_state st) ≡ is_ready_yes st
unfolding is_ready_yes
yes_folds = kind_folds is_ready_yes (λ p. refl)

ready_folds : (st : State) → is_ready (fold_state st) ≡ is_ready st
unfolding is_ready
ready_folds = kind_folds is_ready (λ p. refl)

pub no_session_code : (c : Controller) → no_session (code_of c) ≡ no_session c
unfolding no_session code_of folds
no_session_code c = idle_folds c.session.state

pub charging_code : (c : Controller) → is_charging (code_of c).session.state ≡ is_charging c.session.state
unfolding code_of folds
charging_code c = charging_folds c.session.state

-- ---- what has gone out is told alike by the code's controllers
module _ (w : Watch) (same : (st : State) → w.here (fold_state st) ≡ w.here st) where
  here_folds : (b : Box) → is_here w (code_box b) ≡ is_here w b
  unfolding is_here code_box code_of folds
  here_folds NoController = refl
  here_folds (Using c) = same c.session.state

  sends_folds : (b : Box) → sends w (code_box b) ≡ sends w b
  unfolding sends code_box code_of folds
  sends_folds NoController = refl
  sends_folds (Using c) = refl

  goes_folds : (x : Step) → goes_on w (code_step x) ≡ goes_on w x
  unfolding goes_on
  goes_folds x = ap (λ (b : Bool). b && not (takes w.anew x.call x.seen)) (here_folds x.before)

  after_folds : (g : Bool) (x : Step) → gone_after w g (code_step x) ≡ gone_after w g x
  unfolding gone_after
  after_folds g x =
      ap (λ (b : Bool). b && ((goes_on w (code_step x) && g) || sends w (code_box x.after) (frames_seen x.seen))) (here_folds x.after)
      ∙ (ap (λ (b : Bool). is_here w x.after && ((b && g) || sends w (code_box x.after) (frames_seen x.seen))) (goes_folds x)
      ∙ ap (λ (f : List Frame → Bool). is_here w x.after && ((goes_on w x && g) || f (frames_seen x.seen))) (sends_folds x.after))

  gone_folds : (g : Bool) (xs : List Step) → gone w g (map code_step xs) ≡ gone w g xs
  unfolding gone
  gone_folds g [] = refl
  gone_folds g (x ∷ xs) = ap (λ (b : Bool). gone w b (map code_step xs)) (after_folds g x) ∙ gone_folds (gone_after w g x) xs

  gone_made : (ms : List CallMade) (c : Controller) → AfterCalls ms c
      → has_gone w ms ≡ gone w false (steps_of NoController (calls_in ms))
  gone_made ms c a = ap (gone w false) (steps_from_start ms a.kept) ∙ gone_folds false (steps_of NoController (calls_in ms))

-- ---- what has gone out, told by the state's count
zero_kept : (st : State) (n : ℕ) → ltb 0 (fold_count st n) ≡ ltb 0 n
unfolding fold_count
zero_kept Idle n = refl
zero_kept Offered n = fold_ltb 0 1 4 n (omega arith)
zero_kept Unverified n = fold_ltb 0 1 4 n (omega arith)
zero_kept Parameters n = fold_ltb 0 6 9 n (omega arith)
zero_kept (Ready accepted maximum) n = fold_ltb 0 1 4 n (omega arith)
zero_kept (Charging p) n = fold_ltb 0 1 4 n (omega arith)
zero_kept (Stopping acknowledged est) n = fold_ltb 0 closing_limit 0 n (omega arith)
zero_kept Error n = fold_ltb 0 closing_limit 0 n (omega arith)

ecp_kept : (st : State) (n : ℕ) → is_parameters st ≡ true → ltb first_ecp (fold_count st n) ≡ ltb first_ecp n
unfolding fold_count is_parameters
ecp_kept Idle n h = refl
ecp_kept Offered n h = absurd (false≢true h)
ecp_kept Unverified n h = absurd (false≢true h)
ecp_kept Parameters n h = fold_ltb first_ecp 6 9 n (omega arith)
ecp_kept (Ready accepted maximum) n h = absurd (false≢true h)
ecp_kept (Charging p) n h = absurd (false≢true h)
ecp_kept (Stopping acknowledged est) n h = absurd (false≢true h)
ecp_kept Error n h = absurd (false≢true h)

-- the count of the one in use, and its state, are the fold of those behind it
module _ (ms : List CallMade) (c : Controller) (a : AfterCalls ms c) where
  abbrev paper : Controller
  paper = (behind ms c a).paper

  in_state : (f : State → Bool) → ((st : State) → f (fold_state st) ≡ f st) → f c.session.state ≡ true
      → f paper.session.state ≡ true
  unfolding code_of folds
  in_state f k e = sym (k paper.session.state) ∙ (ap (λ (d : Controller). f d.session.state) (behind ms c a).code ∙ e)

  count_behind : c.session.count ≡ fold_count paper.session.state paper.session.count
  unfolding code_of folds
  count_behind = ap (λ (d : Controller). d.session.count) (sym (behind ms c a).code)

  first_behind : ltb 0 c.session.count ≡ ltb 0 paper.session.count
  first_behind = ap (ltb 0) count_behind ∙ zero_kept paper.session.state paper.session.count

est_same : (st : State) → est.here (fold_state st) ≡ est.here st
unfolding est
est_same st = stopping_folds st

eim_same : (st : State) → eim.here (fold_state st) ≡ eim.here st
unfolding eim
eim_same st = offered_folds st

ecp_same : (st : State) → ecp.here (fold_state st) ≡ ecp.here st
unfolding ecp
ecp_same st = parameters_folds st

erm_same : (st : State) → erm.here (fold_state st) ≡ erm.here st
unfolding erm
erm_same st = ready_folds st

pub est_gone : EstGone
est_gone ms c a h =
    let b : Behind ms c = behind ms c a in
    first_behind ms c a
    ∙ (out.est_told (calls_in ms) b.paper b.run (in_state ms c a is_stopping stopping_folds h) ∙ sym (gone_made est est_same ms c a))

pub eim_gone : EimGone
eim_gone ms c a h =
    let b : Behind ms c = behind ms c a in
    first_behind ms c a
    ∙ (out.eim_told (calls_in ms) b.paper b.run (in_state ms c a is_offered offered_folds h) ∙ sym (gone_made eim eim_same ms c a))

pub erm_gone : ErmGone
erm_gone ms c a h =
    let b : Behind ms c = behind ms c a in
    first_behind ms c a
    ∙ (out.erm_told (calls_in ms) b.paper b.run (in_state ms c a is_ready_yes yes_folds h) ∙ sym (gone_made erm erm_same ms c a))

pub ecp_gone : EcpGone
ecp_gone ms c a h =
    let b : Behind ms c = behind ms c a in
    let q = in_state ms c a is_parameters parameters_folds h in
    ap (ltb first_ecp) (count_behind ms c a)
    ∙ (ecp_kept b.paper.session.state b.paper.session.count q
    ∙ (ecp_exactly (calls_in ms) b.paper b.run q ∙ sym (gone_made ecp ecp_same ms c a)))

-- ---- what ends a session, and what ends a charge
over_use : (ms : List CallMade) (c : Controller) (m : CallMade) → AfterCalls ms c → NextCall c m
    → no_session (use_then c m) ≡ no_session (after c (call_in m))
over_use ms c m a h = ap no_session (use_is c (its_own ms c a) m h) ∙ no_session_code (after c (call_in m))

charging_use : (ms : List CallMade) (c : Controller) (m : CallMade) → AfterCalls ms c → NextCall c m
    → is_charging (use_then c m).session.state ≡ is_charging (after c (call_in m)).session.state
charging_use ms c m a h =
    ap (λ (z : Controller). is_charging z.session.state) (use_is c (its_own ms c a) m h) ∙ charging_code (after c (call_in m))

pub what_ends_a_session : WhatEndsASession
what_ends_a_session ms c m a h o e =
    ends.what_ends_a_session c (has_gone est ms) (est_gone ms c a) (call_in m) o (sym (over_use ms c m a h) ∙ e)

pub each_ends_a_session : EachEndsASession
each_ends_a_session ms c m a h o e =
    over_use ms c m a h ∙ ends.each_ends_a_session c (has_gone est ms) (est_gone ms c a) (call_in m) o e

pub early_acknowledgement : EarlyAcknowledgement
unfolding KeepsPromise
early_acknowledgement ms c id s a u h says st g =
    let e = h ∙ ends.early_acknowledgement c (has_gone est ms) (est_gone ms c u) id s st g says in
    (ap (λ (z : Answer). z.number) e, ap (λ (z : Answer). z.controller) e)

pub what_ends_a_charge : WhatEndsACharge
what_ends_a_charge ms c m a h o e = ends.what_ends_a_charge c (call_in m) o (sym (charging_use ms c m a h) ∙ e)

pub each_ends_a_charge : EachEndsACharge
each_ends_a_charge ms c m a h o e = charging_use ms c m a h ∙ ends.each_ends_a_charge c (call_in m) o e

-- ---- what a tick does
pub accepted_as : (c : Controller) (r : Readings) (v : List ℕ) (t : List ℤ) (old new : List ℕ) (k : Ticked)
    → NextCall c (DidTick r v t old new k)
    → k.number ≡ 0 → accepts r v t old ≡ true
unfolding KeepsPromise accepts
accepted_as c r v t old new k h z = eq-eqb (tick_number r v t (length old)) 0 (sym h.number ∙ z)

pub what_a_refused_tick_does : WhatARefusedTickDoes
unfolding box_then box_left_by left_by call_in lent_before lent_after in_hand number_seen
what_a_refused_tick_does ms c r v t old new k a h n =
    let l = demand_1 (Using c) (DidTick r v t old new k) h n in (using_same k.controller c l.controller, l.buffer)

idle_state : (st : State) → is_idle st ≡ true → st ≡ Idle
unfolding is_idle
idle_state Idle h = refl
idle_state Offered h = absurd (false≢true h)
idle_state Unverified h = absurd (false≢true h)
idle_state Parameters h = absurd (false≢true h)
idle_state (Ready accepted maximum) h = absurd (false≢true h)
idle_state (Charging p) h = absurd (false≢true h)
idle_state (Stopping acknowledged est) h = absurd (false≢true h)
idle_state Error h = absurd (false≢true h)

pub in_idle_lem : (c : Controller) → no_session c ≡ true → c.session.state ≡ Idle
unfolding no_session
in_idle_lem c h = idle_state c.session.state h

-- the session that the next call leaves
pub session_use : (ms : List CallMade) (c : Controller) (m : CallMade) → AfterCalls ms c → NextCall c m
    → (use_then c m).session ≡ folds (after c (call_in m)).session
unfolding code_of
session_use ms c m a h = ap (λ (z : Controller). z.session) (use_is c (its_own ms c a) m h)

pub own_session : (ms : List CallMade) (c : Controller) → AfterCalls ms c → folds c.session ≡ c.session
unfolding code_of
own_session ms c a = ap (λ (z : Controller). z.session) (its_own ms c a)

pub what_a_tick_does_in_idle : WhatATickDoesInIdle
unfolding use_then call_in
what_a_tick_does_in_idle ms c r v t old new k a h o =
    session_use ms c (DidTick r v t old new k) a h
    ∙ (ap folds (stops.what_a_tick_does_in_idle c r v t old (in_idle_lem c o)) ∙ own_session ms c a)

-- ---- once its session is over
pub over : Over
unfolding KeepsPromise
over ms c id s a u h o = subst (λ (z : Answer). Opens c id s z ⊎ Ignored c id s z) (sym h) (idle.over c id s (in_idle_lem c o))

pub each_opens : EachOpens
unfolding KeepsPromise
each_opens ms c id s a u h o says l = subst (Opens c id s) (sym h) (idle.each_opens c id s (in_idle_lem c o) says l)

either_number : (l : Bool) → number_of (cond l NotInThisState NotTheStation) ≡ cond l 11 9
either_number true = refl
either_number false = refl

pub replayed_acknowledgement : ReplayedAcknowledgement
unfolding KeepsPromise
replayed_acknowledgement ms c source id s a u h o says =
    let e = h ∙ idle.replayed_acknowledgement c id s (in_idle_lem c o) source says in
    (ap (λ (z : Answer). z.number) e ∙ either_number (listed source c.settings.stations), ap (λ (z : Answer). z.controller) e)

-- ---- what has gone out before a message is taken: of the machine's controller behind, which answers the same
module _ (ms : List CallMade) (c : Controller) (u : AfterCalls ms c) (id : ℕ) (s : List ℕ) (a : Answer) (h : NextCall c (DidReceive id s a)) where
  number_behind : a.number ≡ 0 → (frame_to (paper ms c u) id s).number ≡ 0
  unfolding KeepsPromise
  number_behind z =
      (frame_in_step (paper ms c u) id s).0
      ∙ (ap (λ (d : Controller). (frame_to d id s).number) (behind ms c u).code ∙ (ap (λ (d : Answer). d.number) (sym h) ∙ z))

  says_behind : (m : ChargeMessage) → Says c.settings c.session.station m id s
      → Says (paper ms c u).settings (paper ms c u).session.station m id s
  unfolding code_of folds
  says_behind m k = subst (λ (d : Controller). Says d.settings d.session.station m id s) (sym (behind ms c u).code) k

pub cvm_taken : CvmTaken
cvm_taken ms c b id s a u h says st z =
    gone_made eim eim_same ms c u
    ∙ out.cvm_taken (calls_in ms) (behind ms c u).paper (behind ms c u).run id s b (in_state ms c u is_offered offered_folds st)
    (says_behind ms c u id s a h (Cvm b) says) (number_behind ms c u id s a h z)

pub cmp_taken : CmpTaken
cmp_taken ms c o id s a u h says st z =
    gone_made ecp ecp_same ms c u
    ∙ out.cmp_taken (calls_in ms) (behind ms c u).paper (behind ms c u).run id s o (in_state ms c u is_parameters parameters_folds st)
    (says_behind ms c u id s a h (Cmp o) says) (number_behind ms c u id s a h z)

pub crm_taken : CrmTaken
crm_taken ms c b id s a u h says st z =
    gone_made erm erm_same ms c u
    ∙ out.crm_taken (calls_in ms) (behind ms c u).paper (behind ms c u).run id s b (in_state ms c u is_ready ready_folds st)
    (says_behind ms c u id s a h (Crm b) says) (number_behind ms c u id s a h z)

-- ---- what cannot reach a session
settings_use : (ms : List CallMade) (c : Controller) (m : CallMade) → AfterCalls ms c → NextCall c m
    → (use_then c m).settings ≡ (after c (call_in m)).settings
unfolding code_of
settings_use ms c m a h = ap (λ (z : Controller). z.settings) (use_is c (its_own ms c a) m h)

pub unreached : Unreached
unreached ms c m a h o r =
    let u : Alike (after c (call_in m)) c = apart.unreached c (call_in m) o r in
    (settings_use ms c m a h ∙ u.settings, session_use ms c m a h ∙ (ap folds u.session ∙ own_session ms c a))

-- ---- what a message does, and what a tick sends
pub what_a_message_does : WhatAMessageDoes
unfolding KeepsPromise session_moved message_of applied_of
what_a_message_does ms c source m id s a u h says may =
    let e = h ∙ says_taken c id s source m says may in (ap (λ (z : Answer). z.number) e, ap (λ (z : Answer). z.controller) e)

pub what_a_tick_sends : WhatATickSends
unfolding KeepsPromise accepts accepted tick_frames
what_a_tick_sends ms c r v t old new k a h z =
    left_in_the_buffer c r v t old new k h ∙ rw (accepted_as c r v t old new k h z)
