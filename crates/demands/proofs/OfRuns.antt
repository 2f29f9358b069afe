-- The statements of further calls: after any calls from the start, what becomes of a session over any list of calls
-- more (specs/Statements.antt). Each is its lemma over a run from any controller, carried over to the calls that were
-- made. Assumes nothing.
use Prim.Native.Nat.{ℕ, ◌≤◌}
use mathlib.Core.Path.{◌≡◌, refl, sym, ap, subst, ◌∙◌}
use mathlib.Core.Bool.{Bool, true, false, cond}
use mathlib.Core.List.{List, [], ◌∷◌, map}
use Rattle.units.specs.declared.TenthAmps.{TenthAmps}
use Rattle.units.specs.Units.{lesser_amps}
use Rattle.settings.specs.declared.Settings.{Settings}
use Rattle.charge_messages.specs.declared.ChargeMessage.{ChargeMessage}
use Rattle.charge_messages.specs.declared.ChargeMessage.TheVariants.{Cim, Cvm, Cmp, Crm, Ccs, Cst, Cem}
use Rattle.charge_messages.specs.declared.Offer.{Offer}
use Rattle.session_states.specs.declared.phases.Phase.{Phase}
use Rattle.session_states.specs.declared.phases.Phase.TheVariants.{Drive, Hold}
use Rattle.session_states.specs.Phases.{too_small, start_phase}
use Rattle.session_states.specs.declared.states.State.{State}
use Rattle.session_states.specs.declared.states.State.TheVariants.{Parameters, Charging}
use Rattle.session_states.specs.States.{is_idle, is_charging}
use Rattle.session_by_message.specs.Offer.{station_maximum}
use Rattle.session_paper_counts.specs.Folds.{fold, fold_phase, fold_state, fold_count, folds}
use Rattle.controller.specs.declared.Controller.{Controller}
use Rattle.demands.specs.Machine.{Call, Read, Receive, Tick, Write, Box, Using, Seen, paper_next, seen_of, frames_seen}
use Rattle.demands.specs.InStep.{code_of, code_box}
use Rattle.demands.specs.Calls.{CallMade, DidReceive, DidTick, call_in, KeepsPromise, box_then, in_hand, AllKeepPromises, calls_in}
use Rattle.demands.specs.Steps.{Step, steps_of, steps_made}
use Rattle.demands.specs.Since.{AfterCalls, use_then, use_last, Since}
use Rattle.demands.specs.After.{after, after_all, no_session, ends_within}
use Rattle.demands.specs.Silent.{feeds, Unheeded, Silence}
use Rattle.demands.specs.SilentIn.{UnheededIn, SilentIn}
use Rattle.demands.specs.Reach.{charging_with}
use Rattle.demands.specs.Requests.{request_in, AllAskWithin}
use Rattle.demands.specs.Told.{is_over, ends_in}
use Rattle.demands.specs.Statements.{NextCalls, Undisturbed, Unmoved, Within801, SilentStation, CimHoldsNothing, CrmHoldsNothing, ReachesCharging, FromCimToCharging, NoSooner, Demand1, Demand2, NeverAboveTheMaximum, NoRequestAbove}
use Rattle.demands.proofs.Steps.{kind_folds}
use Rattle.demands.proofs.Since.{after_is, using_same, since}
use Rattle.demands.proofs.StepsMade.{code_step, in_hand_seen, then_code, then_use, Behind, behind, its_own, steps_from_use}
use Rattle.demands.proofs.Told.{over_folds, ends_told, undisturbed_life, undisturbed_end, unmoved_outputs}
use Rattle.demands.proofs.OfCalls.{no_session_code, charging_code, in_idle_lem}
use Rattle.demands.proofs.Silent as silent
use Rattle.demands.proofs.SilentSlips as slips
use Rattle.demands.proofs.Reach as reach
use Rattle.demands.proofs.ReachLeast as least
use Rattle.demands.proofs.Requests as requests
use Rattle.demands.proofs.Requests.{asks_phase}
use Rattle.demands.proofs.RequestsSent as sent
use Rattle.demands.proofs.Demand1 as one
use Rattle.demands.proofs.Calls as two

-- ---- demand 3
pub undisturbed : Undisturbed
undisturbed ps c ms ns a hm hn o h = (undisturbed_life ps c a ms ns hm hn o h, undisturbed_end ps c a ms ns hm hn o h)

pub unmoved : Unmoved
unmoved ps c ms ns a hm hn h = unmoved_outputs ps c a ms ns hm hn h

-- ---- demands 1 and 2
pub demand_1 : Demand1
demand_1 = one.demand_1

pub demand_2 : Demand2
demand_2 = two.demand_2_of_calls

-- ---- the controller after several calls is the code's for the machine's
code_box_lem : (p c : Controller) → code_of p ≡ c → code_box (Using p) ≡ Using c
unfolding code_box
code_box_lem p c e = ap Using e

use_code : (p c : Controller) → code_of p ≡ c → (m : CallMade) → KeepsPromise (Using c) m
    → use_then c m ≡ code_of (after p (call_in m))
unfolding code_box
use_code p c e m h =
    using_same _ _
    (sym (then_use c m)
    ∙ (ap (λ (z : Box). box_then z m) (sym (code_box_lem p c e))
    ∙ (then_code (Using p) m (subst (λ (z : Box). KeepsPromise z m) (sym (code_box_lem p c e)) h)
    ∙ ap code_box (after_is p (call_in m)))))

pub use_all : (ms : List CallMade) (p c : Controller) → code_of p ≡ c → AllKeepPromises (Using c) ms
    → use_last c ms ≡ code_of (after_all p (calls_in ms))
unfolding AllKeepPromises use_last calls_in after_all
use_all [] p c e h = sym e
use_all (m ∷ ms) p c e h =
    use_all ms (after p (call_in m)) (use_then c m) (sym (use_code p c e m h.0)) (subst (λ (z : Box). AllKeepPromises z ms) (then_use c m) h.1)

-- ---- the end, over further calls
ends_fold : (xs : List Step) → ends_in (map code_step xs) ≡ ends_in xs
unfolding ends_in
ends_fold [] = refl
ends_fold (x ∷ xs) = rw (over_folds x.after, ends_fold xs)

pub ends_made : (ps : List CallMade) (c : Controller) (ms : List CallMade) → AfterCalls ps c → NextCalls c ms
    → no_session c ≡ false
    → ends_in (steps_made (Using c) ms) ≡ ends_within c (calls_in ms)
ends_made ps c ms a h o =
    ap ends_in (steps_from_use c (its_own ps c a) ms h) ∙ (ends_fold (steps_of (Using c) (calls_in ms)) ∙ ends_told (calls_in ms) c o)

-- ---- a silent station
in_charging_lem : (m : ChargeMessage) (p q : Phase) → feeds (Charging p) m ≡ feeds (Charging q) m
unfolding feeds
in_charging_lem Cim p q = refl
in_charging_lem (Cvm b) p q = refl
in_charging_lem (Cmp o) p q = refl
in_charging_lem (Crm b) p q = refl
in_charging_lem (Ccs b) p q = refl
in_charging_lem (Cst b) p q = refl
in_charging_lem Cem p q = refl

feeds_folds : (m : ChargeMessage) (st : State) → feeds (fold_state st) m ≡ feeds st m
feeds_folds m = kind_folds (λ (st : State). feeds st m) (λ p. in_charging_lem m (fold_phase p) p)

unheeded_from : (c : Controller) (k : Call) → Unheeded (code_of c) k → Unheeded c k
unfolding Unheeded code_of folds
unheeded_from c (Receive id s) u = λ m says. sym (feeds_folds m c.session.state) ∙ u m says
unheeded_from c (Tick r v t old) u = tt
unheeded_from c (Write old) u = tt
unheeded_from c (Read s) u = tt

unheeded_to : (c : Controller) (k : Call) → Unheeded c k → Unheeded (code_of c) k
unfolding Unheeded code_of folds
unheeded_to c (Receive id s) u = λ m says. feeds_folds m c.session.state ∙ u m says
unheeded_to c (Tick r v t old) u = tt
unheeded_to c (Write old) u = tt
unheeded_to c (Read s) u = tt

silence_from : (ks : List Call) (c : Controller) → SilentIn (map code_step (steps_of (Using c) ks)) → Silence c ks
unfolding SilentIn steps_of Silence UnheededIn code_box is_over
silence_from [] c h = tt
silence_from (k ∷ ks) c h = λ o.
    let g = h (no_session_code c ∙ o) in
    (unheeded_from c k g.0, silence_from ks (after c k) (subst (λ (z : Box). SilentIn (map code_step (steps_of z ks))) (after_is c k) g.1))

pub silence_to : (ks : List Call) (c : Controller) → Silence c ks → SilentIn (map code_step (steps_of (Using c) ks))
unfolding SilentIn steps_of Silence UnheededIn code_box is_over
silence_to [] c h = tt
silence_to (k ∷ ks) c h = λ o.
    let g = h (sym (no_session_code c) ∙ o) in
    (unheeded_to c k g.0, subst (λ (z : Box). SilentIn (map code_step (steps_of z ks))) (sym (after_is c k)) (silence_to ks (after c k) g.1))

pub within_801 : Within801
within_801 ps c ms a h o q n =
    ends_made ps c ms a h o
    ∙ silent.within_801 c (calls_in ms) (silence_from (calls_in ms) c (subst SilentIn (steps_from_use c (its_own ps c a) ms h) q)) n

pub silent_station : SilentStation
silent_station ps c ms a h q =
    subst SilentIn (sym (steps_from_use c (its_own ps c a) ms h)) (silence_to (calls_in ms) c (silent.silent_station c (calls_in ms) q))

open_in : (c : Controller) (st : State) → c.session.state ≡ st → is_idle st ≡ false → no_session c ≡ false
unfolding no_session
open_in c st e h = ap is_idle e ∙ h

pub cim_holds_nothing : CimHoldsNothing
unfolding is_idle
cim_holds_nothing ps c ms a h e q n =
    ends_made ps c ms a h (open_in c Parameters e refl) ∙ slips.cim_holds_nothing c (calls_in ms) e q n

pub crm_holds_nothing : CrmHoldsNothing
unfolding is_idle
crm_holds_nothing ps c p ms a h e q n =
    ends_made ps c ms a h (open_in c (Charging p) e refl) ∙ slips.crm_holds_nothing c p (calls_in ms) e q n

-- ---- to Charging
start_fold : (a b : TenthAmps) → fold_phase (start_phase a b) ≡ start_phase a b
unfolding start_phase fold_phase fold
start_fold a b = either (too_small (lesser_amps a b))
  where
    either : (t : Bool)
        → fold_phase (cond t (Hold 0) (Drive (lesser_amps a b) 1 0)) ≡ cond t (Hold 0) (Drive (lesser_amps a b) 1 0)
    either true = refl
    either false = refl

charging_fold : (x : Settings) (st : ℕ) (o : Offer) → folds (charging_with x st o) ≡ charging_with x st o
unfolding folds fold_state fold_count fold
charging_fold x st o = rw (start_fold x.limits.current (station_maximum o))

pub last_session : (ps : List CallMade) (c : Controller) (ms : List CallMade) → AfterCalls ps c → NextCalls c ms
    → (use_last c ms).session ≡ folds (after_all c (calls_in ms)).session
unfolding code_of
last_session ps c ms a h = ap (λ (z : Controller). z.session) (use_all ms c c (its_own ps c a) h)

pub reaches_charging : ReachesCharging
reaches_charging ps c st o ms a h e f =
    last_session ps c ms a h
    ∙ (ap folds (reach.reaches_charging c st o (calls_in ms) e f) ∙ charging_fold c.settings st o)

pub from_cim_to_charging : FromCimToCharging
unfolding calls_in call_in
from_cim_to_charging ps c st id s a o ms u h i l says f =
    last_session ps c (DidReceive id s a ∷ ms) u h
    ∙ (ap folds (reach.from_cim_to_charging c st id s o (calls_in ms) (in_idle_lem c i) l says f) ∙ charging_fold c.settings st o)

pub no_sooner : NoSooner
no_sooner ps c ms a h i e =
    least.no_sooner c (calls_in ms) (in_idle_lem c i)
    (sym (charging_code (after_all c (calls_in ms)))
    ∙ (ap (λ (z : Controller). is_charging z.session.state) (sym (use_all ms c c (its_own ps c a) h)) ∙ e))

-- ---- never above the maximum
asks_fold : (st : State) → request_in (fold_state st) ≡ request_in st
unfolding request_in
asks_fold = kind_folds request_in asks_phase

asks_code : (c : Controller) → request_in (code_of c).session.state ≡ request_in c.session.state
unfolding code_of folds
asks_code c = asks_fold c.session.state

settings_code : (c : Controller) → (code_of c).settings ≡ c.settings
unfolding code_of
settings_code c = refl

pub never_above_the_maximum : NeverAboveTheMaximum
never_above_the_maximum ms c a =
    let b : Behind ms c = behind ms c a in
    let s : Since (calls_in ms) b.paper = since b.paper (calls_in ms) b.run in
    let h : request_in b.paper.session.state ≤ b.paper.settings.limits.current.0 =
    subst (λ (z : Controller). request_in z.session.state ≤ z.settings.limits.current.0) s.run
    (requests.never_above_the_maximum s.settings s.later) in
    subst (λ (z : Controller). request_in z.session.state ≤ z.settings.limits.current.0) b.code
    (rw (asks_code b.paper, settings_code b.paper) h)

-- nor as sent: the frames in the buffer are those that the machine's controller behind sends
pub no_request_above : NoRequestAbove
unfolding call_in in_hand frames_seen
no_request_above ms c r v t old new k a h =
    let b : Behind ms c = behind ms c a in
    let m : CallMade = DidTick r v t old new k in
    let e : in_hand m ≡ seen_of paper_next (Using b.paper) (Tick r v t old) =
    in_hand_seen (Using b.paper) m (subst (λ (z : Box). KeepsPromise z m) (sym (code_box_lem b.paper c b.code)) h) in
    let x : (code_of b.paper).settings ≡ c.settings = ap (λ (z : Controller). z.settings) b.code in
    subst (λ (z : Settings). AllAskWithin z (frames_seen (in_hand m))) (sym (settings_code b.paper) ∙ x)
    (subst (λ (z : Seen). AllAskWithin b.paper.settings (frames_seen z)) (sym e)
    (sent.no_request_above (calls_in ms) b.paper b.run (Tick r v t old)))
