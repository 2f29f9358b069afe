-- "Gone out", of the four frames that the paper asks for (01, "Session by message"): after any calls, what a state's
-- rule asks of its count is what the frames sent since its entry tell. So a CVM is taken in Offered only if an EIM AA
-- has been sent, a CMP in Parameters only if an ECP has, a CRM in Ready only if an ERM AA has been sent since the last
-- CMP. Assumes nothing.
use Prim.Native.Nat.{ℕ, ◌+◌}
use Rattle.std.proofs.Common.{Option, Some, None}
use Rattle.numbers.specs.Numbers.{answered}
use native.Mathlib.Omega.{arith}
use mathlib.Core.Path.{◌≡◌, refl, sym, ap, ◌∙◌}
use mathlib.Core.Bool.{Bool, true, false, cond, ◌&&◌, ◌||◌, false≢true}
use mathlib.Core.List.{List, [], ◌∷◌, ◌++◌}
use lib.Dec.{eqb}
use borrow.Author.Tests.{lt-ltb, ltb-true, ltb-false, eq-eqb}
use Rattle.std.proofs.lemmas.Bool.{and_parts}
use Rattle.messages.specs.declared.table.Row.{Row}
use Rattle.messages.specs.Table.{EIM, ECP, ERM, EST}
use Rattle.messages.specs.Identifier.{identifier_of}
use Rattle.frames.specs.declared.Frame.{Frame}
use Rattle.frames.specs.Frame.{frame_of}
use Rattle.units.specs.declared.TenthAmps.{TenthAmps}
use Rattle.settings.specs.declared.Settings.{Settings}
use Rattle.readings.specs.declared.Readings.{Readings}
use Rattle.cells.specs.declared.Cells.{Cells}
use Rattle.charge_messages.specs.declared.ChargeMessage.{ChargeMessage}
use Rattle.charge_messages.specs.declared.ChargeMessage.TheVariants.{Cim, Cvm, Cmp, Crm, Ccs, Cst, Cem}
use Rattle.charge_messages.specs.declared.Offer.{Offer}
use Rattle.session_states.specs.Limits.{first_ecp}
use Rattle.session_states.specs.States.{is_idle, is_stopping, is_offered, is_parameters, is_ready}
use Rattle.session_states.specs.declared.states.Est.{Est}
use Rattle.session_states.specs.declared.states.State.{State}
use Rattle.session_states.specs.declared.states.State.TheVariants.{Idle, Offered, Unverified, Parameters, Ready, Charging, Stopping, Error}
use Rattle.session_states.specs.declared.phases.Phase.{Phase}
use Rattle.session_by_message.specs.declared.Outcome.{Outcome}
use Rattle.session_by_message.specs.declared.Outcome.TheVariants.{OutOfStep, Heard, Enter}
use Rattle.session_by_message.specs.Message.{gone_out, outcome_number, outcome_of, in_offered, in_parameters, ready_of, in_ready, crm_in_ready}
use Rattle.session_frames.specs.Layouts.{eim_of, ecp_of, erm_of, est_frame}
use Rattle.session.specs.Frames.{is_fifth, each5, parameters_frames, est_bytes, stopping_frames, frames_in}
use Rattle.session.specs.Message.{message_of, applied_of}
use Rattle.controller.specs.declared.Controller.{Controller}
use Rattle.controller.specs.Frame.{Answer}
use Rattle.controller.specs.Frame.{frame_to, session_moved}
use Rattle.demands.specs.Machine.{Call, NoController, Using, paper_next, box_at}
use Rattle.demands.specs.Says.{charge_of, Says}
use Rattle.demands.specs.Steps.{steps_of}
use Rattle.demands.specs.GoneOut.{Watch, holds, gone, is_ready_yes, is_ours, says_yes, is_cmp, eim, ecp, erm, est, since_first_tick, since_first_ecp}
use Rattle.demands.proofs.Tests.{or_left, or_right}
use Rattle.demands.proofs.Comes.{taken_in}
use Rattle.demands.proofs.Outcomes.{outcome_leads}
use Rattle.demands.proofs.GoneOutMoves.{place, Alike, AsItWas, OtherPhase, OtherMarks, begins, state_after, begun_from_elsewhere}
use Rattle.demands.proofs.GoneOutLaw.{Law, told_by_count}

-- ---- the two ways in which a count tells
-- a frame that goes out at count 0
abbrev SinceFirst : ℕ → Bool → Type 0
SinceFirst n before = since_first_tick n ≡ before

since_first : (n : ℕ) (before now : Bool) → SinceFirst n before → (n ≡ 0 → now ≡ true)
    → SinceFirst (n + 1) (before || now)
since_first n true now h k = lt-ltb 0 (n + 1) (omega arith)
since_first n false now h k = lt-ltb 0 (n + 1) (omega arith) ∙ sym (k (omega (arith, ltb-false 0 n h)))

-- an ECP: it has gone out if the count has passed the first
abbrev SinceEcp : ℕ → Bool → Type 0
SinceEcp n before = since_first_ecp n ≡ true → before ≡ true

since_ecp : (n : ℕ) (before now : Bool) (past : Bool) → since_first_ecp n ≡ past → SinceEcp n before
    → (n ≡ first_ecp → now ≡ true) → SinceEcp (n + 1) (before || now)
since_ecp n before now true e h k g = or_left before now (h e)
since_ecp n before now false e h k g = or_right before now (k (omega (arith, ltb-true _ (n + 1) g, ltb-false _ n e)))

-- ---- frames
first_holds : (such : Frame → Bool) (f : Frame) (fs : List Frame) → such f ≡ true → holds such (f ∷ fs) ≡ true
unfolding holds
first_holds such f fs h = or_left (such f) (holds such fs) h

at_first : (n : ℕ) (fs : List Frame) → n ≡ 0 → each5 n fs ≡ fs
unfolding each5 is_fifth
at_first n fs h = rw h

abbrev sent_as : Row → Settings → ℕ → List ℕ → Frame
sent_as row x station bytes = frame_of row station x.own bytes

own_is : (row : Row) (x : Settings) (station : ℕ) (bytes : List ℕ)
    → is_ours row x station (sent_as row x station bytes) ≡ true
unfolding is_ours
own_is row x station bytes = eq-eqb (identifier_of row station x.own) _ refl

module _ (x : Settings) (station n : ℕ) (others : List Frame) where
  eim_first : n ≡ 0 → holds (eim.ours x station) (each5 n (eim_of x station true ∷ []) ++ others) ≡ true
  unfolding eim eim_of says_yes
  eim_first h = rw (at_first n (eim_of x station true ∷ []) h) (first_holds (eim.ours x station) (eim_of x station true) others (rw (own_is EIM x station _)))

  ecp_first : (r : Readings) → n ≡ first_ecp
      → holds (ecp.ours x station) (parameters_frames x r station n ++ others) ≡ true
  unfolding ecp ecp_of parameters_frames
  ecp_first r h = rw h (first_holds (ecp.ours x station) (ecp_of x station) others (own_is ECP x station _))

  erm_first : n ≡ 0 → holds (erm.ours x station) (each5 n (erm_of x station true ∷ []) ++ others) ≡ true
  unfolding erm erm_of says_yes
  erm_first h = rw (at_first n (erm_of x station true ∷ []) h) (first_holds (erm.ours x station) (erm_of x station true) others (rw (own_is ERM x station _)))

  est_always : (r : Readings) (k : Cells) (y : Bool) (e : (Option Est))
      → holds (est.ours x station) (stopping_frames x r k station n y e ++ others) ≡ true
  unfolding est stopping_frames est_bytes est_frame
  est_always r k y None = first_holds (est.ours x station) _ _ (own_is EST x station _)
  est_always r k y (Some bytes) = first_holds (est.ours x station) _ _ (own_is EST x station _)

-- no message begins the state anew: of any state but Ready
module _ (here : State → Bool) (at : ℕ) (elsewhere : at ≡ 4 → ⊥) (here_at : (st : State) → here st ≡ true → place st ≡ at) where
  never_anew : (x : Settings) (n : ℕ) (st : State) (m : ChargeMessage) → here st ≡ true
      → here (state_after st (outcome_of x st n m)) ≡ true → false ≡ begins (outcome_of x st n m)
  never_anew x n st m h k =
      sym (begun_from_elsewhere x n at elsewhere st (outcome_of x st n m) (outcome_leads x n st m) (here_at st h) (here_at _ k))

-- ---- Offered: EIM AA
offered_is : (st : State) → is_offered st ≡ true → st ≡ Offered
unfolding is_offered
offered_is Idle h = absurd (false≢true h)
offered_is Offered h = refl
offered_is Unverified h = absurd (false≢true h)
offered_is Parameters h = absurd (false≢true h)
offered_is (Ready y most) h = absurd (false≢true h)
offered_is (Charging p) h = absurd (false≢true h)
offered_is (Stopping k e) h = absurd (false≢true h)
offered_is Error h = absurd (false≢true h)

offered_at : (st : State) → is_offered st ≡ true → place st ≡ 1
unfolding place
offered_at st h = ap place (offered_is st h)

offered_alike : (st to : State) → Alike st to → is_offered st ≡ is_offered to
unfolding is_offered
offered_alike st to AsItWas = refl
offered_alike st to OtherPhase = refl
offered_alike st to OtherMarks = refl

eim_law : Law eim is_offered SinceFirst
unfolding eim frames_in
eim_law =
    record {
      at = 1;
      not_idle = λ e. omega (arith, e);
      here_at = offered_at;
      sure_here = λ st h. h;
      alike = offered_alike;
      none = refl;
      tick = λ x r k station n st others before h t. rw (offered_is st h) (since_first n before _ t (eim_first x station n others));
      message = never_anew is_offered 1 (λ e. omega (arith, e)) offered_at;
    }

-- ---- Parameters: ECP
pub parameters_is : (st : State) → is_parameters st ≡ true → st ≡ Parameters
unfolding is_parameters
parameters_is Idle h = absurd (false≢true h)
parameters_is Offered h = absurd (false≢true h)
parameters_is Unverified h = absurd (false≢true h)
parameters_is Parameters h = refl
parameters_is (Ready y most) h = absurd (false≢true h)
parameters_is (Charging p) h = absurd (false≢true h)
parameters_is (Stopping k e) h = absurd (false≢true h)
parameters_is Error h = absurd (false≢true h)

pub parameters_at : (st : State) → is_parameters st ≡ true → place st ≡ 3
unfolding place
parameters_at st h = ap place (parameters_is st h)

pub parameters_alike : (st to : State) → Alike st to → is_parameters st ≡ is_parameters to
unfolding is_parameters
parameters_alike st to AsItWas = refl
parameters_alike st to OtherPhase = refl
parameters_alike st to OtherMarks = refl

ecp_law : Law ecp is_parameters SinceEcp
unfolding ecp frames_in
ecp_law =
    record {
      at = 3;
      not_idle = λ e. omega (arith, e);
      here_at = parameters_at;
      sure_here = λ st h. h;
      alike = parameters_alike;
      none = λ h. h;
      tick = λ x r k station n st others before h t. rw (parameters_is st h) (since_ecp n before _ _ refl t (ecp_first x station n others r));
      message = never_anew is_parameters 3 (λ e. omega (arith, e)) parameters_at;
    }

-- ---- Stopping: EST
record IsStopping (st : State) : Type 0 where
  acknowledged : Bool
  bytes : Option Est
  is : st ≡ Stopping acknowledged bytes

stopping_is : (st : State) → is_stopping st ≡ true → IsStopping st
unfolding is_stopping
stopping_is Idle h = absurd (false≢true h)
stopping_is Offered h = absurd (false≢true h)
stopping_is Unverified h = absurd (false≢true h)
stopping_is Parameters h = absurd (false≢true h)
stopping_is (Ready y most) h = absurd (false≢true h)
stopping_is (Charging p) h = absurd (false≢true h)
stopping_is (Stopping k e) h = record { acknowledged = k; bytes = e; is = refl }
stopping_is Error h = absurd (false≢true h)

stopping_at : (st : State) → is_stopping st ≡ true → place st ≡ 6
unfolding place
stopping_at st h = ap place (stopping_is st h).is

stopping_alike : (st to : State) → Alike st to → is_stopping st ≡ is_stopping to
unfolding is_stopping
stopping_alike st to AsItWas = refl
stopping_alike st to OtherPhase = refl
stopping_alike st to OtherMarks = refl

est_law : Law est is_stopping SinceFirst
unfolding est frames_in
est_law =
    record {
      at = 6;
      not_idle = λ e. omega (arith, e);
      here_at = stopping_at;
      sure_here = λ st h. h;
      alike = stopping_alike;
      none = refl;
      tick = λ x r k station n st others before h t.
          rw (stopping_is st h).is (since_first n before _ t (λ e. est_always x station n others r k _ _));
      message = never_anew is_stopping 6 (λ e. omega (arith, e)) stopping_at;
    }

-- ---- Ready: ERM AA, since the last CMP
record IsReady (st : State) : Type 0 where
  accepted : Bool
  most : TenthAmps
  is : st ≡ Ready accepted most

ready_is : (st : State) → is_ready st ≡ true → IsReady st
unfolding is_ready
ready_is Idle h = absurd (false≢true h)
ready_is Offered h = absurd (false≢true h)
ready_is Unverified h = absurd (false≢true h)
ready_is Parameters h = absurd (false≢true h)
ready_is (Ready y most) h = record { accepted = y; most = most; is = refl }
ready_is (Charging p) h = absurd (false≢true h)
ready_is (Stopping k e) h = absurd (false≢true h)
ready_is Error h = absurd (false≢true h)

yes_ready : (st : State) → is_ready_yes st ≡ true → is_ready st ≡ true
unfolding is_ready_yes is_ready
yes_ready Idle h = absurd (false≢true h)
yes_ready Offered h = absurd (false≢true h)
yes_ready Unverified h = absurd (false≢true h)
yes_ready Parameters h = absurd (false≢true h)
yes_ready (Ready y most) h = refl
yes_ready (Charging p) h = absurd (false≢true h)
yes_ready (Stopping k e) h = absurd (false≢true h)
yes_ready Error h = absurd (false≢true h)

yes_is : (st : State) → (h : is_ready_yes st ≡ true) → (ready_is st (yes_ready st h)).accepted ≡ true
unfolding is_ready_yes ready_is yes_ready
yes_is Idle h = absurd (false≢true h)
yes_is Offered h = absurd (false≢true h)
yes_is Unverified h = absurd (false≢true h)
yes_is Parameters h = absurd (false≢true h)
yes_is (Ready y most) h = h
yes_is (Charging p) h = absurd (false≢true h)
yes_is (Stopping k e) h = absurd (false≢true h)
yes_is Error h = absurd (false≢true h)

ready_at : (st : State) → is_ready st ≡ true → place st ≡ 4
unfolding place
ready_at st h = ap place (ready_is st h).is

yes_alike : (st to : State) → Alike st to → is_ready_yes st ≡ is_ready_yes to
unfolding is_ready_yes
yes_alike st to AsItWas = refl
yes_alike st to OtherPhase = refl
yes_alike st to OtherMarks = refl

-- a CRM does not begin Ready
crm_begins : (y : Bool) (most : TenthAmps) (p : Phase) (t b : Bool)
    → is_ready (state_after (Ready y most) (cond t (cond b (Enter (Charging p)) Heard) OutOfStep)) ≡ true
    → false ≡ begins (cond t (cond b (Enter (Charging p)) Heard) OutOfStep)
unfolding is_ready state_after begins
crm_begins y most p true true h = absurd (false≢true h)
crm_begins y most p true false h = refl
crm_begins y most p false b h = refl

ready_message : (x : Settings) (n : ℕ) (y : Bool) (most : TenthAmps) (m : ChargeMessage)
    → is_ready (state_after (Ready y most) (in_ready x y most n m)) ≡ true
    → (is_cmp (charge_of m) && eqb (outcome_number (in_ready x y most n m)) 0) ≡ begins (in_ready x y most n m)
unfolding in_ready ready_of crm_in_ready is_cmp begins state_after is_ready
ready_message x n y most Cim h = refl
ready_message x n y most (Cvm b) h = refl
ready_message x n y most (Cmp o) h = refl
ready_message x n y most (Crm b) h = crm_begins y most _ (y && gone_out 0 n) b h
ready_message x n y most (Ccs b) h = refl
ready_message x n y most (Cst b) h = absurd (false≢true h)
ready_message x n y most Cem h = refl

erm_message : (x : Settings) (n : ℕ) (st : State) (m : ChargeMessage) → IsReady st
    → is_ready (state_after st (outcome_of x st n m)) ≡ true
    → (is_cmp (charge_of m) && eqb (outcome_number (outcome_of x st n m)) 0) ≡ begins (outcome_of x st n m)
unfolding outcome_of
erm_message x n st m s = rw s.is (ready_message x n s.accepted s.most m)

erm_law : Law erm is_ready_yes SinceFirst
unfolding erm frames_in
erm_law =
    record {
      at = 4;
      not_idle = λ e. omega (arith, e);
      here_at = ready_at;
      sure_here = yes_ready;
      alike = yes_alike;
      none = refl;
      tick = λ x r k station n st others before h t.
          rw ((ready_is st (yes_ready st h)).is, yes_is st h) (since_first n before _ t (erm_first x station n others));
      message = λ x n st m h. erm_message x n st m (ready_is st h);
    }

-- ---- the messages
-- an outcome that a test guards is taken only where the test holds
only_if : (t : Bool) (o : Outcome) → outcome_number (cond t o OutOfStep) ≡ 0 → t ≡ true
only_if true o h = refl
only_if false o h = absurd (omega (arith, h))

-- the number that the session's station is answered
number_is : (c : Controller) (id : ℕ) (s : List ℕ) (m : ChargeMessage) → is_idle c.session.state ≡ false
    → Says c.settings c.session.station m id s
    → (frame_to c id s).number ≡ outcome_number (outcome_of c.settings c.session.state c.session.count m)
unfolding session_moved message_of applied_of
number_is c id s m h says = ap (λ (a : Answer). a.number) (taken_in c id s m h says)

module _ (x : Settings) (n : ℕ) (st : State) where
  cvm_asks : (b : Bool) → st ≡ Offered → outcome_number (outcome_of x st n (Cvm b)) ≡ 0 → gone_out 0 n ≡ true
  unfolding outcome_of in_offered
  cvm_asks b e = rw e (only_if (gone_out 0 n) _)

  cmp_asks : (o : Offer) → st ≡ Parameters → outcome_number (outcome_of x st n (Cmp o)) ≡ 0 → gone_out first_ecp n ≡ true
  unfolding outcome_of in_parameters
  cmp_asks o e = rw e (only_if (gone_out first_ecp n) _)

  crm_asks : (b : Bool) (s : IsReady st) → outcome_number (outcome_of x st n (Crm b)) ≡ 0
      → (s.accepted && gone_out 0 n) ≡ true
  unfolding outcome_of in_ready crm_in_ready
  crm_asks b s h = only_if (s.accepted && gone_out 0 n) _ (rw s.is at h)

offered_open : (st : State) → is_offered st ≡ true → is_idle st ≡ false
unfolding is_idle
offered_open st h = ap is_idle (offered_is st h)

parameters_open : (st : State) → is_parameters st ≡ true → is_idle st ≡ false
unfolding is_idle
parameters_open st h = ap is_idle (parameters_is st h)

ready_open : (st : State) → is_ready st ≡ true → is_idle st ≡ false
unfolding is_idle
ready_open st h = ap is_idle (ready_is st h).is

yes_in : (st : State) (s : IsReady st) → s.accepted ≡ true → is_ready_yes st ≡ true
unfolding is_ready_yes
yes_in st s h = ap is_ready_yes s.is ∙ h

-- ---- after any calls
module _ (ks : List Call) (c : Controller) (e : box_at paper_next NoController ks ≡ Using c) where
  -- what has gone out since the state that the session is in began, by the frames sent
  abbrev sent : Watch → Bool
  sent w = gone w false (steps_of NoController ks)

  pub eim_told : is_offered c.session.state ≡ true → since_first_tick c.session.count ≡ sent eim
  eim_told = told_by_count eim is_offered SinceFirst eim_law ks c e

  pub ecp_told : is_parameters c.session.state ≡ true → since_first_ecp c.session.count ≡ true → sent ecp ≡ true
  ecp_told = told_by_count ecp is_parameters SinceEcp ecp_law ks c e

  pub erm_told : is_ready_yes c.session.state ≡ true → since_first_tick c.session.count ≡ sent erm
  erm_told = told_by_count erm is_ready_yes SinceFirst erm_law ks c e

  pub est_told : is_stopping c.session.state ≡ true → since_first_tick c.session.count ≡ sent est
  est_told = told_by_count est is_stopping SinceFirst est_law ks c e

  -- of the frames: what the session's station says is taken only if ours has been sent
  module _ (id : ℕ) (s : List ℕ) where
    abbrev Its : ChargeMessage → Type 0
    Its m = Says c.settings c.session.station m id s

    pub cvm_taken : (b : Bool) → is_offered c.session.state ≡ true → Its (Cvm b) → (frame_to c id s).number ≡ 0
        → sent eim ≡ true
    cvm_taken b h says z =
        let n = sym (number_is c id s (Cvm b) (offered_open c.session.state h) says) ∙ z in
        sym (eim_told h) ∙ cvm_asks c.settings c.session.count c.session.state b (offered_is c.session.state h) n

    pub cmp_taken : (o : Offer) → is_parameters c.session.state ≡ true → Its (Cmp o) → (frame_to c id s).number ≡ 0
        → sent ecp ≡ true
    cmp_taken o h says z =
        let n = sym (number_is c id s (Cmp o) (parameters_open c.session.state h) says) ∙ z in
        ecp_told h (cmp_asks c.settings c.session.count c.session.state o (parameters_is c.session.state h) n)

    pub crm_taken : (b : Bool) → is_ready c.session.state ≡ true → Its (Crm b) → (frame_to c id s).number ≡ 0
        → sent erm ≡ true
    crm_taken b h says z =
        let st = c.session.state in
        let y = ready_is st h in
        let n = sym (number_is c id s (Crm b) (ready_open st h) says) ∙ z in
        let both = crm_asks c.settings c.session.count st b y n in
        sym (erm_told (yes_in st y (and_parts y.accepted _ both).0)) ∙ (and_parts y.accepted (gone_out 0 c.session.count) both).1
