-- Two slips to shut out (01): a restarted station's CIM does not hold a session open in Parameters, and neither CRM nor
-- any other message of the handshake holds one open in Charging. Whatever else comes, the session has ended within 801
-- accepted ticks. Assumes nothing.
use Prim.Native.Nat.{ℕ, ◌≤◌}
use Rattle.std.proofs.Common.{Option}
use Rattle.std.specs.declared.ops.ControlFlow.{ControlFlow}
use Rattle.session_states.specs.declared.phases.Cause.{Cause}
use Rattle.std.specs.declared.ops.ControlFlow.TheVariants.{Continue, Break}
use Rattle.std.proofs.Common.{Result, Ok, Err}
use Rattle.numbers.specs.declared.Refusal.{Refusal}
use mathlib.Core.Path.{◌≡◌, refl, sym, ap, subst, ◌∙◌}
use mathlib.Core.Bool.{Bool, true, false, cond, false≢true}
use mathlib.Core.List.{List, [], ◌∷◌}
use lib.Dec.{leb}
use lib.IntN.{ℤ}
use Rattle.settings.specs.declared.Settings.{Settings}
use Rattle.settings.specs.Read.{read_of}
use Rattle.controller.specs.Start.{fresh_of}
use Rattle.readings.specs.declared.Readings.{Readings}
use Rattle.readings.specs.Readings.{wanted_of}
use Rattle.cells.specs.declared.Cells.{Cells}
use Rattle.cells.specs.Summaries.{cells_of}
use Rattle.charge_messages.specs.declared.ChargeMessage.{ChargeMessage}
use Rattle.charge_messages.specs.declared.ChargeMessage.TheVariants.{Cim, Cvm, Cmp, Crm, Ccs, Cst, Cem}
use Rattle.session_states.specs.declared.phases.Phase.{Phase}
use Rattle.session_states.specs.Phases.{phase_after}
use Rattle.session_states.specs.declared.states.Est.{Est}
use Rattle.session_states.specs.declared.states.State.{State}
use Rattle.session_states.specs.declared.states.State.TheVariants.{Idle, Offered, Unverified, Parameters, Ready, Charging, Stopping, Error}
use Rattle.session_by_tick.specs.declared.Turn.{Turn}
use Rattle.session_by_tick.specs.declared.Turn.TheVariants as turn
use Rattle.session_by_tick.specs.Turns.{current_above, stop_of, est_then, waiting_of, phase_on, phase_turn, stops_of, charging_of, stopping_of, error_of, turn_of, cell_full, pack_full}
use Rattle.session.specs.declared.Session.{Session}
use Rattle.session.specs.Tick.{turned_by, turn_in}
use Rattle.session_paper_counts.specs.Literal.{older, grown, counted, literal_in, literal_advance, literal_tick}
use Rattle.controller.specs.declared.Controller.{Controller}
use Rattle.session_states.specs.Limits.{silence_limit, closing_limit}
use Rattle.demands.specs.Machine.{Call, Receive, Tick, Write, Read, paper_next}
use Rattle.session_states.specs.States.{is_idle}
use Rattle.demands.specs.After.{accepts, read_into, after, no_session, ends_within}
use Rattle.demands.specs.Says.{Says}
use Rattle.demands.specs.Silent.{feeds, Unheeded, Silence, ticks_in, longest}
use Rattle.demands.specs.SilentSlips.{is_cim, is_handshake, SaysOnly}
use Rattle.demands.proofs.Comes.{kept_settings}
use Rattle.demands.proofs.Apart.{kept_open}
use Rattle.demands.proofs.SilentFrames.{unheeded_kept}
use Rattle.demands.proofs.Silent.{within_801}

either : (P : Turn → Type 0) (t : Bool) {a b : Turn} → P a → P b → P (cond t a b)
either P true f g = f
either P false f g = g

-- some states that no tick leaves, and in which the session heeds none of some messages
module _ (among : State → Bool) (these : ChargeMessage → Bool)
    (idle : among Idle ≡ true) (error : among Error ≡ true) (stopping : (a : Bool) (e : (Option Est)) → among (Stopping a e) ≡ true)
    (charging : (p q : Phase) → among (Charging p) ≡ true → among (Charging q) ≡ true)
    (deaf : (st : State) (m : ChargeMessage) → among st ≡ true → these m ≡ true → feeds st m ≡ false) where
  unfoldable Stays : Turn → Type 0
  Stays (turn.On st) = among st ≡ true
  Stays (turn.Enter st) = among st ≡ true
  Stays turn.Farewell = Unit {0}
  Stays turn.End = Unit {0}

  stays_advance : (s : Session) (st : State) → s.state ≡ st → among st ≡ true → among (literal_in s st).state ≡ true
  unfolding literal_in grown counted
  stays_advance s Idle e h = ap among e ∙ h
  stays_advance s Offered e h = h
  stays_advance s Unverified e h = h
  stays_advance s Parameters e h = h
  stays_advance s (Ready y k) e h = h
  stays_advance s (Charging p) e h = charging p (older p) h
  stays_advance s (Stopping a f) e h = h
  stays_advance s Error e h = h

  stays_turned : (s : Session) (t : Turn) → Stays t → among (turned_by s t).state ≡ true
  unfolding Stays turned_by
  stays_turned s (turn.On st) h = h
  stays_turned s (turn.Enter st) h = h
  stays_turned s turn.Farewell h = idle
  stays_turned s turn.End h = idle

  module _ (x : Settings) (r : Readings) (c : Cells) where
    stays_waiting : (b : ℕ) (st : State) → among st ≡ true → Stays (waiting_of r b st)
    unfolding Stays waiting_of
    stays_waiting b st h = either Stays (leb silence_limit b) error (either Stays (wanted_of r) h tt)

    stays_phase : (q : (ControlFlow Cause Phase)) → ((p : Phase) → among (Charging p) ≡ true) → Stays (phase_on x r c q)
    unfolding Stays phase_on stop_of
    stays_phase (Continue p) h = h p
    stays_phase (Break k) h = stopping _ _

    stays_charging : (b : ℕ) (p : Phase) → among (Charging p) ≡ true → Stays (charging_of x r c b p)
    unfolding Stays charging_of stops_of phase_turn stop_of
    stays_charging b p h =
        either Stays (leb silence_limit b) error
        (either Stays (wanted_of r)
        (either Stays (current_above x r) (stopping _ _)
        (either Stays (pack_full x r) (stopping _ _) (stays_phase (phase_after p (cell_full x c)) (λ q. charging p q h))))
        (stopping _ _))

    stays_turn : (n b : ℕ) (st : State) → among st ≡ true → Stays (turn_of x r c st n b)
    unfolding Stays turn_of stopping_of error_of
    stays_turn n b Idle h = h
    stays_turn n b Offered h = stays_waiting b Offered h
    stays_turn n b Unverified h = stays_waiting b Unverified h
    stays_turn n b Parameters h = stays_waiting b Parameters h
    stays_turn n b (Ready y k) h = stays_waiting b (Ready y k) h
    stays_turn n b (Charging p) h = stays_charging b p h
    stays_turn n b (Stopping a e) h = either Stays (leb closing_limit n) tt (stopping a (est_then x r c e))
    stays_turn n b Error h = either Stays (leb closing_limit n) tt h

    stays_tick : (s : Session) → among s.state ≡ true → among (literal_tick x r c s).state ≡ true
    unfolding literal_tick literal_advance turn_in
    stays_tick s h =
        stays_advance (turned_by s (turn_in x r c s)) (turned_by s (turn_in x r c s)).state refl
        (stays_turned s (turn_in x r c s) (stays_turn s.count s.silence s.state h))

  -- ---- over calls
  record Deaf (x : Settings) (st : ℕ) (c : Controller) : Type 0 where
    settings : c.settings ≡ x
    station : no_session c ≡ false → c.session.station ≡ st
    state : among c.session.state ≡ true

  unheard_frame : (x : Settings) (st : ℕ) (c : Controller) (id : ℕ) (s : List ℕ) → Deaf x st c → no_session c ≡ false
      → ((m : ChargeMessage) → Says x st m id s → these m ≡ true) → Unheeded c (Receive id s)
  unfolding Unheeded
  unheard_frame x st c id s d o f m says =
      deaf c.session.state m d.state
      (f m (subst (λ (z : ℕ). Says x z m id s) (d.station o) (subst (λ (y : Settings). Says y c.session.station m id s) d.settings says)))

  deaf_frame : (x : Settings) (st : ℕ) (c : Controller) (id : ℕ) (s : List ℕ) → Deaf x st c → no_session c ≡ false
      → Unheeded c (Receive id s)
      → Deaf x st (after c (Receive id s))
  unfolding after
  deaf_frame x st c id s d o u =
      record {
        settings = kept_settings c id s ∙ d.settings;
        station = λ p. ap (λ (z : Session). z.station) (unheeded_kept c id s o u) ∙ d.station o;
        state = ap (λ (z : Session). among z.state) (unheeded_kept c id s o u) ∙ d.state;
      }

  state_tick : (c : Controller) (r : Readings) (v : List ℕ) (t : List ℤ) (b : Bool) → among c.session.state ≡ true
      → among (cond b (paper_next c r v t) c).session.state ≡ true
  unfolding paper_next
  state_tick c r v t true h = stays_tick c.settings r (cells_of v t) c.session h
  state_tick c r v t false h = h

  settings_tick : (c : Controller) (r : Readings) (v : List ℕ) (t : List ℤ) (b : Bool)
      → (cond b (paper_next c r v t) c).settings ≡ c.settings
  unfolding paper_next
  settings_tick c r v t true = refl
  settings_tick c r v t false = refl

  deaf_tick : (x : Settings) (st : ℕ) (c : Controller) (r : Readings) (v : List ℕ) (t : List ℤ) (old : List ℕ)
      → Deaf x st c → no_session c ≡ false
      → Deaf x st (after c (Tick r v t old))
  unfolding after
  deaf_tick x st c r v t old d o =
      record {
        settings = settings_tick c r v t (accepts r v t old) ∙ d.settings;
        station = λ p. kept_open c (Tick r v t old) o p ∙ d.station o;
        state = state_tick c r v t (accepts r v t old) d.state;
      }

  over_silence : (c : Controller) (es : List Call) → no_session c ≡ true → Silence c es
  unfolding Silence
  over_silence c [] h = tt
  over_silence c (e ∷ es) h = λ o. absurd (false≢true (sym o ∙ h))

  -- new settings end the session, and a record that is refused changes nothing
  either_read : (a : Result Settings Refusal) (c : Controller) (es : List Call) → Silence c es → Silence (read_into a c) es
  unfolding read_into fresh_of no_session is_idle
  either_read (Ok y) c es h = over_silence (fresh_of y) es refl
  either_read (Err n) c es h = h

  deaf_silence : (x : Settings) (st : ℕ) (es : List Call) (c : Controller) → Deaf x st c → SaysOnly these x st es
      → Silence c es
  unfolding SaysOnly Silence Unheeded after
  deaf_silence x st [] c d f = tt
  deaf_silence x st (Receive id s ∷ es) c d f = λ o.
      let u : Unheeded c (Receive id s) = unheard_frame x st c id s d o f.0 in
      (u, deaf_silence x st es (after c (Receive id s)) (deaf_frame x st c id s d o u) f.1)
  deaf_silence x st (Tick r v t old ∷ es) c d f = λ o.
      (tt, deaf_silence x st es (after c (Tick r v t old)) (deaf_tick x st c r v t old d o) f)
  deaf_silence x st (Write old ∷ es) c d f = λ o. (tt, deaf_silence x st es (after c (Write old)) d f)
  deaf_silence x st (Read s ∷ es) c d f = λ o. (tt, either_read (read_of s) c es (deaf_silence x st es c d f))

  deaf_ends : (c : Controller) (es : List Call) → among c.session.state ≡ true
      → SaysOnly these c.settings c.session.station es
      → longest ≤ ticks_in es → ends_within c es ≡ true
  deaf_ends c es h f n =
      within_801 c es (deaf_silence c.settings c.session.station es c (record { settings = refl; station = λ o. refl; state = h }) f) n

-- ---- the two slips
-- every state after Offered: a restarted station's CIM is not heeded there
after_offered : State → Bool
after_offered Idle = true
after_offered Offered = false
after_offered Unverified = true
after_offered Parameters = true
after_offered (Ready y k) = true
after_offered (Charging p) = true
after_offered (Stopping a e) = true
after_offered Error = true

deaf_cim : (st : State) → after_offered st ≡ true → feeds st Cim ≡ false
unfolding after_offered feeds
deaf_cim Idle h = refl
deaf_cim Offered h = absurd (false≢true h)
deaf_cim Unverified h = refl
deaf_cim Parameters h = refl
deaf_cim (Ready y k) h = refl
deaf_cim (Charging p) h = refl
deaf_cim (Stopping a e) h = refl
deaf_cim Error h = refl

deaf_to_cim : (st : State) (m : ChargeMessage) → after_offered st ≡ true → is_cim m ≡ true → feeds st m ≡ false
unfolding is_cim
deaf_to_cim st Cim h e = deaf_cim st h
deaf_to_cim st (Cvm b) h e = absurd (false≢true e)
deaf_to_cim st (Cmp o) h e = absurd (false≢true e)
deaf_to_cim st (Crm b) h e = absurd (false≢true e)
deaf_to_cim st (Ccs b) h e = absurd (false≢true e)
deaf_to_cim st (Cst b) h e = absurd (false≢true e)
deaf_to_cim st Cem h e = absurd (false≢true e)

-- a station that says nothing but CIM holds no session open in Parameters
pub cim_holds_nothing : (c : Controller) (es : List Call) → c.session.state ≡ Parameters
    → SaysOnly is_cim c.settings c.session.station es → longest ≤ ticks_in es → ends_within c es ≡ true
unfolding after_offered
cim_holds_nothing c es h f n =
    deaf_ends after_offered is_cim refl refl (λ a e. refl) (λ p q k. refl) deaf_to_cim c es (ap after_offered h) f n

-- Charging and what comes after it: no message of the handshake is heeded there
from_charging : State → Bool
from_charging Idle = true
from_charging Offered = false
from_charging Unverified = false
from_charging Parameters = false
from_charging (Ready y k) = false
from_charging (Charging p) = true
from_charging (Stopping a e) = true
from_charging Error = true

-- the three of them in which there is a session
deaf_charging : (p : Phase) (m : ChargeMessage) → is_handshake m ≡ true → feeds (Charging p) m ≡ false
unfolding is_handshake feeds
deaf_charging p Cim h = refl
deaf_charging p (Cvm b) h = refl
deaf_charging p (Cmp o) h = refl
deaf_charging p (Crm b) h = refl
deaf_charging p (Ccs b) h = absurd (false≢true h)
deaf_charging p (Cst b) h = absurd (false≢true h)
deaf_charging p Cem h = absurd (false≢true h)

deaf_stopping : (a : Bool) (e : (Option Est)) (m : ChargeMessage) → is_handshake m ≡ true → feeds (Stopping a e) m ≡ false
unfolding is_handshake feeds
deaf_stopping a e Cim h = refl
deaf_stopping a e (Cvm b) h = refl
deaf_stopping a e (Cmp o) h = refl
deaf_stopping a e (Crm b) h = refl
deaf_stopping a e (Ccs b) h = absurd (false≢true h)
deaf_stopping a e (Cst b) h = absurd (false≢true h)
deaf_stopping a e Cem h = absurd (false≢true h)

deaf_error : (m : ChargeMessage) → is_handshake m ≡ true → feeds Error m ≡ false
unfolding is_handshake feeds
deaf_error Cim h = refl
deaf_error (Cvm b) h = refl
deaf_error (Cmp o) h = refl
deaf_error (Crm b) h = refl
deaf_error (Ccs b) h = absurd (false≢true h)
deaf_error (Cst b) h = absurd (false≢true h)
deaf_error Cem h = absurd (false≢true h)

deaf_to_handshake : (st : State) (m : ChargeMessage) → from_charging st ≡ true → is_handshake m ≡ true
    → feeds st m ≡ false
unfolding from_charging feeds
deaf_to_handshake Idle m h e = refl
deaf_to_handshake Offered m h e = absurd (false≢true h)
deaf_to_handshake Unverified m h e = absurd (false≢true h)
deaf_to_handshake Parameters m h e = absurd (false≢true h)
deaf_to_handshake (Ready y k) m h e = absurd (false≢true h)
deaf_to_handshake (Charging p) m h e = deaf_charging p m e
deaf_to_handshake (Stopping a f) m h e = deaf_stopping a f m e
deaf_to_handshake Error m h e = deaf_error m e

-- a station that says nothing but CIM, CVM, CMP and CRM holds none open in Charging
pub crm_holds_nothing : (c : Controller) (p : Phase) (es : List Call) → c.session.state ≡ Charging p
    → SaysOnly is_handshake c.settings c.session.station es → longest ≤ ticks_in es → ends_within c es ≡ true
unfolding from_charging
crm_holds_nothing c p es h f n =
    deaf_ends from_charging is_handshake refl refl (λ a e. refl) (λ q u k. refl) deaf_to_handshake c es (ap from_charging h) f n
