-- What a session heeds is `feeds`, no more and no less: a charge message that does not feed it is refused and leaves it
-- as it was, one that does returns its silence to 0. So a frame by which its station says nothing that is heeded leaves
-- the session as it was. Assumes nothing.
use Prim.Native.Nat.{ℕ}
use Rattle.std.proofs.Common.{Option}
use mathlib.Core.Path.{◌≡◌, refl, ap, sym, subst, ◌∙◌}
use mathlib.Core.Bool.{Bool, true, false, ◌&&◌, false≢true}
use mathlib.Core.List.{List}
use lib.Dec.{ltb}
use Rattle.units.specs.declared.TenthAmps.{TenthAmps}
use Rattle.settings.specs.declared.Settings.{Settings}
use Rattle.charge_messages.specs.declared.ChargeMessage.{ChargeMessage}
use Rattle.charge_messages.specs.declared.ChargeMessage.TheVariants.{Cim, Cvm, Cmp, Crm, Ccs, Cst, Cem}
use Rattle.session_states.specs.declared.phases.Phase.{Phase}
use Rattle.session_states.specs.declared.states.Est.{Est}
use Rattle.session_states.specs.declared.states.State.{State}
use Rattle.session_states.specs.declared.states.State.TheVariants.{Idle, Offered, Unverified, Parameters, Ready, Charging, Stopping, Error}
use Rattle.session_by_message.specs.declared.Outcome.{Outcome}
use Rattle.session_by_message.specs.declared.Outcome.TheVariants.{Refuse}
use Rattle.session_by_message.specs.Message.{outcome_of, in_offered, in_unverified, in_parameters, in_ready, ready_of, crm_in_ready, in_charging, in_stopping, in_error}
use Rattle.session.specs.declared.Session.{Session}
use Rattle.session.specs.Message.{session_after, applied_of, message_of}
use Rattle.controller.specs.declared.Controller.{Controller}
use Rattle.session_states.specs.States.{is_idle}
use Rattle.controller.specs.Frame.{frame_to}
use Rattle.session_states.specs.Limits.{first_ecp}
use Rattle.demands.specs.Machine.{Receive}
use Rattle.demands.specs.After.{no_session}
use Rattle.demands.specs.Apart.{from_station}
use Rattle.demands.specs.Says.{Says}
use Rattle.session_states.specs.States.{is_stopping}
use Rattle.demands.specs.Silent.{feeds, Unheeded}
use Rattle.demands.proofs.Tests.{same}
use Rattle.demands.proofs.Apart.{says_from}
use Rattle.demands.proofs.ReachFrames.{frame_says, Spoken, Unsaid, Said, spoken}

-- ---- the table against the outcomes
module _ (x : Settings) (source : ℕ) (s : Session) (n : ℕ) where
  silence_after : Outcome → ℕ
  silence_after o = (session_after source s o).silence

  -- heeded: silence returns to 0; not heeded: refused
  unfoldable Fits : Bool → Outcome → Type 0
  Fits true o = silence_after o ≡ 0
  Fits false o = o ≡ Refuse

  fits_offered : (m : ChargeMessage) → Fits (feeds Offered m) (in_offered n m)
  unfolding Fits silence_after session_after in_offered feeds
  fits_offered Cim = refl
  fits_offered (Cvm b) = same silence_after (ltb 0 n) (same silence_after b refl refl) refl
  fits_offered (Cmp o) = refl
  fits_offered (Crm b) = refl
  fits_offered (Ccs b) = refl
  fits_offered (Cst b) = refl
  fits_offered Cem = refl

  fits_unverified : (m : ChargeMessage) → Fits (feeds Unverified m) (in_unverified m)
  unfolding Fits silence_after session_after in_unverified feeds
  fits_unverified Cim = refl
  fits_unverified (Cvm b) = same silence_after b refl refl
  fits_unverified (Cmp o) = refl
  fits_unverified (Crm b) = refl
  fits_unverified (Ccs b) = refl
  fits_unverified (Cst b) = refl
  fits_unverified Cem = refl

  fits_parameters : (m : ChargeMessage) → Fits (feeds Parameters m) (in_parameters x n m)
  unfolding Fits silence_after session_after in_parameters ready_of feeds
  fits_parameters Cim = refl
  fits_parameters (Cvm b) = same silence_after b refl refl
  fits_parameters (Cmp o) = same silence_after (ltb first_ecp n) refl refl
  fits_parameters (Crm b) = refl
  fits_parameters (Ccs b) = refl
  fits_parameters (Cst b) = refl
  fits_parameters Cem = refl

  fits_ready : (y : Bool) (k : TenthAmps) (m : ChargeMessage) → Fits (feeds (Ready y k) m) (in_ready x y k n m)
  unfolding Fits silence_after session_after in_ready ready_of crm_in_ready feeds
  fits_ready y k Cim = refl
  fits_ready y k (Cvm b) = refl
  fits_ready y k (Cmp o) = refl
  fits_ready y k (Crm b) = same silence_after (y && ltb 0 n) (same silence_after b refl refl) refl
  fits_ready y k (Ccs b) = refl
  fits_ready y k (Cst b) = refl
  fits_ready y k Cem = refl

  fits_charging : (p : Phase) (m : ChargeMessage) → Fits (feeds (Charging p) m) (in_charging m)
  unfolding Fits silence_after session_after in_charging feeds
  fits_charging p Cim = refl
  fits_charging p (Cvm b) = refl
  fits_charging p (Cmp o) = refl
  fits_charging p (Crm b) = refl
  fits_charging p (Ccs b) = same silence_after b refl refl
  fits_charging p (Cst b) = refl
  fits_charging p Cem = refl

  -- in Stopping a CST AA is refused until an EST has gone out
  unfed_stopping : (a : Bool) (e : (Option Est)) (m : ChargeMessage) → feeds (Stopping a e) m ≡ false → in_stopping e n m ≡ Refuse
  unfolding in_stopping feeds
  unfed_stopping a e Cim h = refl
  unfed_stopping a e (Cvm b) h = refl
  unfed_stopping a e (Cmp o) h = refl
  unfed_stopping a e (Crm b) h = refl
  unfed_stopping a e (Ccs b) h = refl
  unfed_stopping a e (Cst b) h = absurd (false≢true (sym h))
  unfed_stopping a e Cem h = absurd (false≢true (sym h))

  fits_stopping : (a : Bool) (e : (Option Est)) (m : ChargeMessage) → ltb 0 n ≡ true
      → Fits (feeds (Stopping a e) m) (in_stopping e n m)
  unfolding Fits silence_after session_after in_stopping feeds
  fits_stopping a e Cim g = refl
  fits_stopping a e (Cvm b) g = refl
  fits_stopping a e (Cmp o) g = refl
  fits_stopping a e (Crm b) g = refl
  fits_stopping a e (Ccs b) g = refl
  fits_stopping a e (Cst b) g = rw g (same silence_after b refl refl)
  fits_stopping a e Cem g = refl

  fits_error : (m : ChargeMessage) → Fits (feeds Error m) (in_error m)
  unfolding Fits silence_after session_after in_error feeds
  fits_error Cim = refl
  fits_error (Cvm b) = refl
  fits_error (Cmp o) = refl
  fits_error (Crm b) = refl
  fits_error (Ccs b) = refl
  fits_error (Cst b) = refl
  fits_error Cem = refl

  refused_if : {t : Bool} {o : Outcome} → Fits t o → t ≡ false → o ≡ Refuse
  unfolding Fits
  refused_if {t} {o} f h = subst (λ (b : Bool). Fits b o) h f

  silence_if : {t : Bool} (o : Outcome) → Fits t o → t ≡ true → silence_after o ≡ 0
  unfolding Fits
  silence_if {t} o f h = subst (λ (b : Bool). Fits b o) h f

  -- a message that the session does not heed is refused
  pub unfed_refused : (st : State) (m : ChargeMessage) → is_idle st ≡ false → feeds st m ≡ false
      → outcome_of x st n m ≡ Refuse
  unfolding is_idle outcome_of
  unfed_refused Idle m o h = absurd (false≢true (sym o))
  unfed_refused Offered m o h = refused_if (fits_offered m) h
  unfed_refused Unverified m o h = refused_if (fits_unverified m) h
  unfed_refused Parameters m o h = refused_if (fits_parameters m) h
  unfed_refused (Ready y k) m o h = refused_if (fits_ready y k m) h
  unfed_refused (Charging p) m o h = refused_if (fits_charging p m) h
  unfed_refused (Stopping a e) m o h = unfed_stopping a e m h
  unfed_refused Error m o h = refused_if (fits_error m) h

  -- one that it heeds returns silence to 0; in Stopping once an EST has gone out
  pub fed_silence : (st : State) (m : ChargeMessage) → (is_stopping st ≡ true → ltb 0 n ≡ true) → feeds st m ≡ true
      → (session_after source s (outcome_of x st n m)).silence ≡ 0
  unfolding feeds outcome_of silence_after is_stopping
  fed_silence Idle m g h = absurd (false≢true h)
  fed_silence Offered m g h = silence_if (in_offered n m) (fits_offered m) h
  fed_silence Unverified m g h = silence_if (in_unverified m) (fits_unverified m) h
  fed_silence Parameters m g h = silence_if (in_parameters x n m) (fits_parameters m) h
  fed_silence (Ready y k) m g h = silence_if (in_ready x y k n m) (fits_ready y k m) h
  fed_silence (Charging p) m g h = silence_if (in_charging m) (fits_charging p m) h
  fed_silence (Stopping a e) m g h = silence_if (in_stopping e n m) (fits_stopping a e m (g refl)) h
  fed_silence Error m g h = silence_if (in_error m) (fits_error m) h

-- ---- over frames
-- what the station says in vain leaves the session as it was
said_in_vain : (c : Controller) (m : ChargeMessage) (id : ℕ) (s : List ℕ) → no_session c ≡ false
    → Says c.settings c.session.station m id s
    → feeds c.session.state m ≡ false → (frame_to c id s).controller.session ≡ c.session
unfolding no_session message_of applied_of session_after
said_in_vain c m id s o says h =
    frame_says c m id s says o
    ∙ ap (session_after c.session.station c.session)
    (unfed_refused c.settings c.session.station c.session c.session.count c.session.state m o h)

unheeded_spoken : (c : Controller) (id : ℕ) (s : List ℕ) → no_session c ≡ false → Unheeded c (Receive id s)
    → Spoken c id s (frame_to c id s)
    → (frame_to c id s).controller.session ≡ c.session
unfolding Unheeded
unheeded_spoken c id s o u (Unsaid k) = k
unheeded_spoken c id s o u (Said m says) = said_in_vain c m id s o says (u m says)

-- a frame by which its station says nothing that is heeded leaves an open session as it was
pub unheeded_kept : (c : Controller) (id : ℕ) (s : List ℕ) → no_session c ≡ false → Unheeded c (Receive id s)
    → (frame_to c id s).controller.session ≡ c.session
unheeded_kept c id s o u = unheeded_spoken c id s o u (spoken c id s o)

-- ---- a station that sends nothing
pub still_unheeded : (c : Controller) (id : ℕ) (s : List ℕ) → from_station c.session.station id ≡ false
    → Unheeded c (Receive id s)
unfolding Unheeded
still_unheeded c id s h m says = absurd (false≢true (sym h ∙ says_from c.settings c.session.station m id s says))
