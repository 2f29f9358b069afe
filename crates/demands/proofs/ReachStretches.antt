-- A session in a stretch of the handshake (specs/Reach.antt): where it may be, and what the station's messages and a
-- tick make of it. Assumes nothing.
use Prim.Native.Nat.{ℕ, ◌+◌, ◌≤◌}
use native.Mathlib.Omega.{arith}
use mathlib.Core.Path.{◌≡◌, refl}
use mathlib.Core.Bool.{Bool, true, false, not, cond, ◌&&◌, false≢true}
use lib.Dec.{leb, ltb}
use borrow.Author.Tests.{lt-ltb, ltb-true}
use Rattle.units.specs.declared.TenthAmps.{TenthAmps}
use Rattle.settings.specs.declared.Settings.{Settings}
use Rattle.readings.specs.declared.Readings.{Readings}
use Rattle.readings.specs.Readings.{wanted_of}
use Rattle.cells.specs.declared.Cells.{Cells}
use Rattle.charge_messages.specs.declared.Offer.{Offer}
use Rattle.charge_messages.specs.declared.ChargeMessage.{ChargeMessage}
use Rattle.charge_messages.specs.declared.ChargeMessage.TheVariants.{Cim, Cvm, Cmp, Crm, Ccs, Cst, Cem}
use Rattle.session_states.specs.Phases.{start_phase}
use Rattle.session_states.specs.declared.states.State.{State}
use Rattle.session_states.specs.declared.states.State.TheVariants.{Offered, Unverified, Parameters, Ready, Charging}
use Rattle.session_by_message.specs.declared.Outcome.{Outcome}
use Rattle.session_by_message.specs.declared.Outcome.TheVariants.{OutOfStep, Heard, Enter}
use Rattle.session_by_message.specs.Offer.{accepted_of, station_maximum}
use Rattle.session_by_message.specs.Message.{outcome_of, in_offered, in_unverified, in_parameters, in_ready, ready_of, crm_in_ready}
use Rattle.session_by_tick.specs.Turns.{waiting_of, turn_of}
use Rattle.session.specs.declared.Session.{Session}
use Rattle.session.specs.Message.{session_after}
use Rattle.session.specs.Tick.{turned_by, turn_in}
use Rattle.session_paper_counts.specs.Literal.{grown, literal_in, literal_advance, literal_tick}
use Rattle.session_states.specs.States.{is_idle}
use Rattle.session_states.specs.Limits.{silence_limit, first_ecp}
use Rattle.demands.specs.Reach.{charging_with, Stretch, UntilCvm, UntilVerified, UntilCmp, UntilCrm, besides}
use Rattle.demands.proofs.Messages.{mk}

-- ---- where a session may be
-- `n` ticks into a stretch: a state and its count. Until its last CMP the station may have sent others, so that the
-- session is in Ready
pub data At (o : Offer) : Stretch → ℕ → State → ℕ → Type 0 where
  AtOffered : {n : ℕ} → At o UntilCvm n Offered n
  AtUnverified : {n : ℕ} → At o UntilVerified n Unverified n
  AtParameters : {n : ℕ} → At o UntilCmp n Parameters n
  AtReady : {n m : ℕ} {maximum : TenthAmps} {accepted : Bool} → first_ecp + 1 ≤ n
      → At o UntilCmp n (Ready accepted maximum) m
  AtLast : {n : ℕ} → At o UntilCrm n (Ready true (station_maximum o)) n

pub at_next : (o : Offer) (k : Stretch) (n m : ℕ) (st : State) → At o k n st m → At o k (n + 1) st (m + 1)
at_next o k n m st AtOffered = AtOffered
at_next o k n m st AtUnverified = AtUnverified
at_next o k n m st AtParameters = AtParameters
at_next o k n m st (AtReady l) = AtReady {n = n + 1} (omega arith)
at_next o k n m st AtLast = AtLast

pub at_open : (o : Offer) (k : Stretch) (n m : ℕ) (st : State) → At o k n st m → is_idle st ≡ false
unfolding is_idle
at_open o k n m st AtOffered = refl
at_open o k n m st AtUnverified = refl
at_open o k n m st AtParameters = refl
at_open o k n m st (AtReady l) = refl
at_open o k n m st AtLast = refl

-- a tick that wants charge
pub at_tick : (o : Offer) (k : Stretch) (n m : ℕ) (st : State) → At o k n st m
    → (x : Settings) (r : Readings) (c : Cells) (a b : ℕ)
    → leb silence_limit b ≡ false → wanted_of r ≡ true → literal_tick x r c (mk a b m st) ≡ mk a (b + 1) (m + 1) st
unfolding literal_tick literal_advance literal_in grown turned_by turn_in turn_of waiting_of
at_tick o k n m st AtOffered x r c a b h w = rw (h, w)
at_tick o k n m st AtUnverified x r c a b h w = rw (h, w)
at_tick o k n m st AtParameters x r c a b h w = rw (h, w)
at_tick o k n m st (AtReady l) x r c a b h w = rw (h, w)
at_tick o k n m st AtLast x r c a b h w = rw (h, w)

-- CRM AA is not said besides once it would count
not_both : (g : Bool) → g ≡ true → not (true && g) ≡ true → false ≡ true
not_both true e h = h
not_both false e h = e

module _ (x : Settings) (a : ℕ) (o : Offer) where
  -- ---- a message besides: the session is in the stretch, and its station was heeded just now
  pub record Word (k : Stretch) (n : ℕ) (z : Session) : Type 0 where
    pub state : State
    pub count : ℕ
    pub is : z ≡ mk a 0 count state
    pub place : At o k n state count

  module _ (b : ℕ) where
    abbrev comes : ℕ → State → Outcome → Session
    comes m st w = session_after a (mk a b m st) w

    -- a message that does nothing, and one that is out of step
    stays_heard : (k : Stretch) (n m : ℕ) (st : State) → At o k n st m → Word k n (comes m st Heard)
    unfolding session_after
    stays_heard k n m st p = record { state = st; count = m; is = refl; place = p }

    stays_out : (k : Stretch) (n m : ℕ) (st : State) → At o k n st m → Word k n (comes m st OutOfStep)
    unfolding session_after
    stays_out k n m st p = record { state = st; count = m; is = refl; place = p }

    enters : (k : Stretch) (n m : ℕ) (st to : State) → At o k n to 0 → Word k n (comes m st (Enter to))
    unfolding session_after
    enters k n m st to p = record { state = to; count = 0; is = refl; place = p }

    cvm_early : (n : ℕ) (g : Bool) (w : Outcome) → not g ≡ true → Word UntilCvm n (comes n Offered (cond g w OutOfStep))
    cvm_early n true w h = absurd (false≢true h)
    cvm_early n false w h = stays_out UntilCvm n n Offered AtOffered

    in_offered_lem : (n : ℕ) (w : ChargeMessage) → besides UntilCvm n w ≡ true
        → Word UntilCvm n (comes n Offered (in_offered n w))
    unfolding besides in_offered
    in_offered_lem n Cim h = stays_heard UntilCvm n n Offered AtOffered
    in_offered_lem n (Cvm v) h = cvm_early n (ltb 0 n) (cond v (Enter Parameters) (Enter Unverified)) h
    in_offered_lem n (Cmp p) h = stays_out UntilCvm n n Offered AtOffered
    in_offered_lem n (Crm v) h = stays_out UntilCvm n n Offered AtOffered
    in_offered_lem n (Ccs v) h = stays_out UntilCvm n n Offered AtOffered
    in_offered_lem n (Cst v) h = absurd (false≢true h)
    in_offered_lem n Cem h = absurd (false≢true h)

    in_unverified_lem : (n : ℕ) (w : ChargeMessage) → besides UntilVerified n w ≡ true
        → Word UntilVerified n (comes n Unverified (in_unverified w))
    unfolding besides in_unverified
    in_unverified_lem n Cim h = absurd (false≢true h)
    in_unverified_lem n (Cvm true) h = absurd (false≢true h)
    in_unverified_lem n (Cvm false) h = stays_heard UntilVerified n n Unverified AtUnverified
    in_unverified_lem n (Cmp p) h = stays_out UntilVerified n n Unverified AtUnverified
    in_unverified_lem n (Crm v) h = stays_out UntilVerified n n Unverified AtUnverified
    in_unverified_lem n (Ccs v) h = stays_out UntilVerified n n Unverified AtUnverified
    in_unverified_lem n (Cst v) h = absurd (false≢true h)
    in_unverified_lem n Cem h = absurd (false≢true h)

    cvm_parameters : (n : ℕ) (v : Bool) → Word UntilCmp n (comes n Parameters (cond v Heard OutOfStep))
    cvm_parameters n true = stays_heard UntilCmp n n Parameters AtParameters
    cvm_parameters n false = stays_out UntilCmp n n Parameters AtParameters

    cmp_parameters : (n : ℕ) (p : Offer) (g : Bool) → ltb first_ecp n ≡ g
        → Word UntilCmp n (comes n Parameters (cond g (ready_of x p) OutOfStep))
    unfolding ready_of
    cmp_parameters n p true e = enters UntilCmp n n Parameters (Ready (accepted_of x p) (station_maximum p)) (AtReady (ltb-true first_ecp n e))
    cmp_parameters n p false e = stays_out UntilCmp n n Parameters AtParameters

    in_parameters_lem : (n : ℕ) (w : ChargeMessage) → besides UntilCmp n w ≡ true
        → Word UntilCmp n (comes n Parameters (in_parameters x n w))
    unfolding besides in_parameters
    in_parameters_lem n Cim h = absurd (false≢true h)
    in_parameters_lem n (Cvm v) h = cvm_parameters n v
    in_parameters_lem n (Cmp p) h = cmp_parameters n p (ltb first_ecp n) refl
    in_parameters_lem n (Crm v) h = stays_out UntilCmp n n Parameters AtParameters
    in_parameters_lem n (Ccs v) h = stays_out UntilCmp n n Parameters AtParameters
    in_parameters_lem n (Cst v) h = absurd (false≢true h)
    in_parameters_lem n Cem h = absurd (false≢true h)

    -- CRM 00 and FF stay in Ready, taken or not
    crm_stays : (k : Stretch) (n m : ℕ) (maximum : TenthAmps) (accepted g : Bool) → At o k n (Ready accepted maximum) m
        → Word k n (comes m (Ready accepted maximum) (cond g (cond false (Enter (Charging (start_phase x.limits.current maximum))) Heard) OutOfStep))
    crm_stays k n m maximum accepted true p = stays_heard k n m (Ready accepted maximum) p
    crm_stays k n m maximum accepted false p = stays_out k n m (Ready accepted maximum) p

    in_ready_lem : (n m : ℕ) (maximum : TenthAmps) (accepted : Bool) (w : ChargeMessage) → first_ecp + 1 ≤ n
        → besides UntilCmp n w ≡ true
        → Word UntilCmp n (comes m (Ready accepted maximum) (in_ready x accepted maximum m w))
    unfolding besides in_ready ready_of crm_in_ready
    in_ready_lem n m maximum accepted Cim l h = absurd (false≢true h)
    in_ready_lem n m maximum accepted (Cvm v) l h = stays_out UntilCmp n m (Ready accepted maximum) (AtReady l)
    in_ready_lem n m maximum accepted (Cmp p) l h =
        enters UntilCmp n m (Ready accepted maximum) (Ready (accepted_of x p) (station_maximum p)) (AtReady l)
    in_ready_lem n m maximum accepted (Crm true) l h = absurd (false≢true (not_both (ltb first_ecp n) (lt-ltb first_ecp n l) h))
    in_ready_lem n m maximum accepted (Crm false) l h = crm_stays UntilCmp n m maximum accepted (accepted && ltb 0 m) (AtReady l)
    in_ready_lem n m maximum accepted (Ccs v) l h = stays_out UntilCmp n m (Ready accepted maximum) (AtReady l)
    in_ready_lem n m maximum accepted (Cst v) l h = absurd (false≢true h)
    in_ready_lem n m maximum accepted Cem l h = absurd (false≢true h)

    abbrev last_ready : State
    last_ready = Ready true (station_maximum o)

    crm_last : (n : ℕ) (v g : Bool) → not (v && g) ≡ true
        → Word UntilCrm n (comes n last_ready (cond g (cond v (Enter (Charging (start_phase x.limits.current (station_maximum o)))) Heard) OutOfStep))
    crm_last n true true h = absurd (false≢true h)
    crm_last n true false h = stays_out UntilCrm n n last_ready AtLast
    crm_last n false g h = crm_stays UntilCrm n n (station_maximum o) true g AtLast

    in_last : (n : ℕ) (w : ChargeMessage) → besides UntilCrm n w ≡ true
        → Word UntilCrm n (comes n last_ready (in_ready x true (station_maximum o) n w))
    unfolding besides in_ready crm_in_ready
    in_last n Cim h = absurd (false≢true h)
    in_last n (Cvm v) h = stays_out UntilCrm n n last_ready AtLast
    in_last n (Cmp p) h = absurd (false≢true h)
    in_last n (Crm v) h = crm_last n v (ltb 0 n) h
    in_last n (Ccs v) h = stays_out UntilCrm n n last_ready AtLast
    in_last n (Cst v) h = absurd (false≢true h)
    in_last n Cem h = absurd (false≢true h)

    pub at_word : (k : Stretch) (n m : ℕ) (st : State) (w : ChargeMessage) → At o k n st m → besides k n w ≡ true
        → Word k n (comes m st (outcome_of x st m w))
    unfolding outcome_of
    at_word k n m st w AtOffered h = in_offered_lem n w h
    at_word k n m st w AtUnverified h = in_unverified_lem n w h
    at_word k n m st w AtParameters h = in_parameters_lem n w h
    at_word k n m st w (AtReady {maximum = maximum} {accepted = accepted} l) h = in_ready_lem n m maximum accepted w l h
    at_word k n m st w AtLast h = in_last n w h

  -- ---- CIM: taken in Offered, refused elsewhere, and the session stands where it stood
  pub record Still (b m : ℕ) (st : State) (z : Session) : Type 0 where
    pub silence : ℕ
    pub is : z ≡ mk a silence m st
    pub quiet : silence ≤ b

  pub at_cim : (k : Stretch) (n b m : ℕ) (st : State) → At o k n st m
      → Still b m st (session_after a (mk a b m st) (outcome_of x st m Cim))
  unfolding outcome_of in_offered in_unverified in_parameters in_ready session_after
  at_cim k n b m st AtOffered = record { silence = 0; is = refl; quiet = omega arith }
  at_cim k n b m st AtUnverified = record { silence = b; is = refl; quiet = omega arith }
  at_cim k n b m st AtParameters = record { silence = b; is = refl; quiet = omega arith }
  at_cim k n b m st (AtReady l) = record { silence = b; is = refl; quiet = omega arith }
  at_cim k n b m st AtLast = record { silence = b; is = refl; quiet = omega arith }

  -- ---- the messages that end a stretch
  pub cvm_delays : (n b m : ℕ) (st : State) → At o UntilCvm n st m → 1 ≤ n
      → session_after a (mk a b m st) (outcome_of x st m (Cvm false)) ≡ mk a 0 0 Unverified
  unfolding session_after outcome_of in_offered
  cvm_delays n b m st AtOffered l = rw (lt-ltb 0 n l)

  pub cvm_verifies : (n b m : ℕ) (st : State) → At o UntilCvm n st m → 1 ≤ n
      → session_after a (mk a b m st) (outcome_of x st m (Cvm true)) ≡ mk a 0 0 Parameters
  unfolding session_after outcome_of in_offered
  cvm_verifies n b m st AtOffered l = rw (lt-ltb 0 n l)

  pub cvm_later : (n b m : ℕ) (st : State) → At o UntilVerified n st m
      → session_after a (mk a b m st) (outcome_of x st m (Cvm true)) ≡ mk a 0 0 Parameters
  unfolding session_after outcome_of in_unverified
  cvm_later n b m st AtUnverified = refl

  pub cmp_offers : (n b m : ℕ) (st : State) → At o UntilCmp n st m → accepted_of x o ≡ true → first_ecp + 1 ≤ n
      → session_after a (mk a b m st) (outcome_of x st m (Cmp o)) ≡ mk a 0 0 (Ready true (station_maximum o))
  unfolding session_after outcome_of in_parameters in_ready ready_of
  cmp_offers n b m st AtParameters y l = rw (lt-ltb first_ecp n l, y)
  cmp_offers n b m st (AtReady h) y l = rw y

  pub crm_starts : (n b m : ℕ) (st : State) → At o UntilCrm n st m → 1 ≤ n
      → session_after a (mk a b m st) (outcome_of x st m (Crm true)) ≡ charging_with x a o
  unfolding session_after outcome_of in_ready crm_in_ready
  crm_starts n b m st AtLast l = rw (lt-ltb 0 n l)
