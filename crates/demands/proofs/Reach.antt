-- A session cannot be kept from Charging by others: a station whose CIM was taken and which then follows the handshake
-- (specs/Reach.antt) is in Charging after its CRM AA, whatever other addresses send in between (`reaches_charging`). In
-- ticks: eight accepted ones are enough (proofs/ReachRun.antt has such a run), and with fewer no session comes to
-- Charging (proofs/ReachLeast.antt). Assumes nothing.
use Prim.Native.Nat.{ℕ, ◌+◌, ◌≤◌, ◌<◌}
use Rattle.std.proofs.Common.{Result, Ok, Err}
use Rattle.numbers.specs.declared.Refusal.{Refusal}
use native.Mathlib.Omega.{arith}
use mathlib.Core.Path.{◌≡◌, refl, ap, sym, subst, ◌∙◌}
use mathlib.Core.Bool.{true, false, false≢true}
use mathlib.Core.List.{List, [], ◌∷◌}
use lib.IntN.{ℤ}
use borrow.Author.Tests.{lt-leb}
use Rattle.messages.specs.Identifier.{parts_of}
use Rattle.settings.specs.declared.Settings.{Settings}
use Rattle.settings.specs.Read.{read_of}
use Rattle.readings.specs.declared.Readings.{Readings}
use Rattle.readings.specs.Readings.{wanted_of}
use Rattle.cells.specs.Summaries.{cells_of}
use Rattle.charge_messages.specs.declared.Offer.{Offer}
use Rattle.charge_messages.specs.declared.ChargeMessage.{ChargeMessage}
use Rattle.charge_messages.specs.declared.ChargeMessage.TheVariants.{Cim, Cvm, Cmp, Crm}
use Rattle.session_states.specs.declared.states.State.{State}
use Rattle.session_states.specs.declared.states.State.TheVariants.{Idle, Offered, Unverified, Parameters, Ready}
use Rattle.session_by_message.specs.Offer.{station_maximum}
use Rattle.session_by_message.specs.Message.{outcome_of}
use Rattle.session.specs.declared.Session.{Session}
use Rattle.session.specs.Message.{session_after, applied_of, message_of}
use Rattle.session_paper_counts.specs.Literal.{literal_tick}
use Rattle.controller.specs.declared.Controller.{Controller}
use Rattle.session_states.specs.States.{is_idle}
use Rattle.refusals.specs.Frame.{listed}
use Rattle.controller.specs.Frame.{frame_to}
use Rattle.session_states.specs.Limits.{silence_limit}
use Rattle.demands.specs.Machine.{Call, Receive, Tick, Write, Read, paper_next}
use Rattle.demands.specs.After.{accepts, read_into, is_read, after, after_all, no_session, ends_within}
use Rattle.demands.specs.Apart.{reaching}
use Rattle.demands.specs.Says.{Says}
use Rattle.session.specs.Session.{opened}
use Rattle.demands.specs.Reach.{charging_with, Stretch, UntilCvm, UntilVerified, UntilCmp, UntilCrm, besides, Passing}
use Rattle.demands.specs.Reach.{Follows, Passes, Ticks, Speaks, Delays, VerifiesLater, Verifies, Offers, Starts}
use Rattle.demands.proofs.Tests.{or_false}
use Rattle.demands.proofs.Comes.{kept_settings}
use Rattle.demands.proofs.Over.{each_opens}
use Rattle.demands.proofs.Together.{left_out}
use Rattle.demands.proofs.ReachFrames.{frame_says, Spoken, Unsaid, Said, spoken}
use Rattle.demands.proofs.ReachStretches.{At, AtOffered, AtUnverified, AtParameters, AtLast, at_next, at_open, at_tick, Word, at_word}
use Rattle.demands.proofs.Messages.{mk}
use Rattle.demands.proofs.ReachStretches.{Still, at_cim, cvm_delays, cvm_verifies, cvm_later, cmp_offers, crm_starts}

-- ---- a list after which the session is `z`, and in which it stays open
record Good (z : Session) (c : Controller) (es : List Call) : Type 0 where
  stays : ends_within c es ≡ false
  last : (after_all c es).session ≡ z

good_step : (z : Session) (c : Controller) (e : Call) (es : List Call) → no_session c ≡ false → Good z (after c e) es
    → Good z c (e ∷ es)
unfolding ends_within after_all
good_step z c e es o g = record { stays = or_false (no_session c) (ends_within (after c e) es) o g.stays; last = g.last }

good_end : (c : Controller) (z : Session) → is_idle z.state ≡ false → c.session ≡ z → Good z c []
unfolding ends_within after_all no_session
good_end c z o h = record { stays = rw h o; last = h }

-- ---- a controller in a stretch: `n` ticks into it, and no more than `b` since its station was heeded
after_settings : (c : Controller) (id : ℕ) (s : List ℕ) → (after c (Receive id s)).settings ≡ c.settings
unfolding after
after_settings c id s = kept_settings c id s

open_in : (c : Controller) (z : Session) → c.session ≡ z → is_idle z.state ≡ false → no_session c ≡ false
unfolding no_session
open_in c z h o = rw h o

module _ (x : Settings) (a : ℕ) (o : Offer) where
  record Now (k : Stretch) (n b : ℕ) (c : Controller) : Type 0 where
    silence : ℕ
    count : ℕ
    state : State
    settings : c.settings ≡ x
    session : c.session ≡ mk a silence count state
    quiet : silence ≤ b
    place : At o k n state count

  module _ (k : Stretch) (n b : ℕ) (c : Controller) (w : Now k n b c) where
    now_open : no_session c ≡ false
    now_open = open_in c (mk a w.silence w.count w.state) w.session (at_open o k n w.count w.state w.place)

    now_tick : (r : Readings) (v : List ℕ) (t : List ℤ) (old : List ℕ) → accepts r v t old ≡ true → wanted_of r ≡ true
        → b < silence_limit
        → Now k (n + 1) (b + 1) (after c (Tick r v t old))
    unfolding after paper_next
    now_tick r v t old f wants l =
        record {
          silence = w.silence + 1;
          count = w.count + 1;
          state = w.state;
          settings = rw f w.settings;
          session = rw f
              (ap (literal_tick c.settings r (cells_of v t)) w.session
              ∙ at_tick o k n w.count w.state w.place c.settings r (cells_of v t) a w.silence (lt-leb silence_limit w.silence (omega (arith, w.quiet))) wants);
          quiet = omega (arith, w.quiet);
          place = at_next o k n w.count w.state w.place;
        }

    -- what the station says, the session takes
    now_says : (m : ChargeMessage) (id : ℕ) (s : List ℕ) → Says x a m id s
        → (after c (Receive id s)).session ≡ session_after a (mk a w.silence w.count w.state) (outcome_of x w.state w.count m)
    unfolding after message_of applied_of
    now_says m id s h =
        frame_says c m id s
        (subst (λ (z : Settings). Says z c.session.station m id s) (sym w.settings)
        (subst (λ (z : Session). Says x z.station m id s) (sym w.session) h))
        now_open
        ∙ (ap (λ (z : Settings). session_after c.session.station c.session (outcome_of z c.session.state c.session.count m)) w.settings
        ∙ ap (λ (z : Session). session_after z.station z (outcome_of x z.state z.count m)) w.session)

    now_speaks : (m : ChargeMessage) (id : ℕ) (s : List ℕ) → Says x a m id s → besides k n m ≡ true
        → Now k n 0 (after c (Receive id s))
    now_speaks m id s h f =
        let y : Word x a o k n (session_after a (mk a w.silence w.count w.state) (outcome_of x w.state w.count m)) =
        at_word x a o w.silence k n w.count w.state m w.place f in
        record {
          silence = 0;
          count = y.count;
          state = y.state;
          settings = after_settings c id s ∙ w.settings;
          session = now_says m id s h ∙ y.is;
          quiet = omega arith;
          place = y.place;
        }

    now_same : (d : Controller) → d.settings ≡ c.settings → d.session ≡ c.session → Now k n b d
    now_same d p h =
        record {
          silence = w.silence;
          count = w.count;
          state = w.state;
          settings = p ∙ w.settings;
          session = h ∙ w.session;
          quiet = w.quiet;
          place = w.place;
        }

    now_cim : (id : ℕ) (s : List ℕ) → Says x a Cim id s → Now k n b (after c (Receive id s))
    now_cim id s h =
        let y : Still x a o w.silence w.count w.state _ = at_cim x a o k n w.silence w.count w.state w.place in
        record {
          silence = y.silence;
          count = w.count;
          state = w.state;
          settings = after_settings c id s ∙ w.settings;
          session = now_says Cim id s h ∙ y.is;
          quiet = omega (arith, y.quiet, w.quiet);
          place = w.place;
        }

    says_here : (m : ChargeMessage) (id : ℕ) (s : List ℕ) → Says c.settings c.session.station m id s
        → Says x a m id s
    says_here m id s h =
        subst (λ (z : Settings). Says z a m id s) w.settings (subst (λ (z : Session). Says c.settings z.station m id s) w.session h)

    now_read : (f : Result Settings Refusal) → is_read f ≡ false → Now k n b (read_into f c)
    unfolding is_read read_into
    now_read (Ok y) h = absurd (false≢true (sym h))
    now_read (Err m) h = w

    now_passes : (e : Call) → Passing x a e → Now k n b (after c e)
    unfolding Passing after
    now_passes (Receive id s) h = go (spoken c id s now_open)
      where
        go : Spoken c id s (frame_to c id s) → Now k n b (frame_to c id s).controller
        go (Unsaid e) = now_same (frame_to c id s).controller (kept_settings c id s) e
        go (Said m e) =
            let f : Says x a m id s = says_here m id s e in
            now_cim id s (subst (λ (z : ChargeMessage). Says x a z id s) (h m f) f)
    now_passes (Tick r v t old) h = rw h w
    now_passes (Write old) h = w
    now_passes (Read s) h = now_read (read_of s) h

  -- a stretch begins with a message that was taken
  begins : (k : Stretch) (c : Controller) (id : ℕ) (s : List ℕ) (st : State) → c.settings ≡ x
      → (after c (Receive id s)).session ≡ mk a 0 0 st
      → At o k 0 st 0 → Now k 0 0 (after c (Receive id s))
  begins k c id s st p h l =
      record {
        silence = 0;
        count = 0;
        state = st;
        settings = after_settings c id s ∙ p;
        session = h;
        quiet = omega arith;
        place = l;
      }

  abbrev Goal : Controller → List Call → Type 0
  Goal = Good (charging_with x a o)

  charging_open : is_idle (charging_with x a o).state ≡ false
  unfolding is_idle
  charging_open = refl

  follow : (k : Stretch) (n b : ℕ) (es : List Call) → Follows x a o k n b es → (c : Controller) → Now k n b c
      → Goal c es
  follow k n b es (Passes {e = e} {es = fs} h f) c w =
      good_step _ c e fs (now_open k n b c w) (follow k n b fs f (after c e) (now_passes k n b c w e h))
  follow k n b es (Ticks {r = r} {v = v} {t = t} {old = old} {es = fs} h u l f) c w =
      good_step _ c (Tick r v t old) fs (now_open k n b c w)
      (follow k (n + 1) (b + 1) fs f (after c (Tick r v t old)) (now_tick k n b c w r v t old h u (omega (arith, l))))
  follow k n b es (Speaks {id = id} {s = s} {m = m} {es = fs} h u f) c w =
      good_step _ c (Receive id s) fs (now_open k n b c w) (follow k n 0 fs f (after c (Receive id s)) (now_speaks k n b c w m id s h u))
  follow k n b es (Delays {id = id} {s = s} {es = fs} h l f) c w =
      good_step _ c (Receive id s) fs (now_open k n b c w)
      (follow UntilVerified 0 0 fs f (after c (Receive id s))
      (begins UntilVerified c id s Unverified w.settings
      (now_says k n b c w (Cvm false) id s h ∙ cvm_delays x a o n w.silence w.count w.state w.place (omega (arith, l))) AtUnverified))
  follow k n b es (VerifiesLater {id = id} {s = s} {es = fs} h f) c w =
      good_step _ c (Receive id s) fs (now_open k n b c w)
      (follow UntilCmp 0 0 fs f (after c (Receive id s))
      (begins UntilCmp c id s Parameters w.settings
      (now_says k n b c w (Cvm true) id s h ∙ cvm_later x a o n w.silence w.count w.state w.place) AtParameters))
  follow k n b es (Verifies {id = id} {s = s} {es = fs} h l f) c w =
      good_step _ c (Receive id s) fs (now_open k n b c w)
      (follow UntilCmp 0 0 fs f (after c (Receive id s))
      (begins UntilCmp c id s Parameters w.settings
      (now_says k n b c w (Cvm true) id s h ∙ cvm_verifies x a o n w.silence w.count w.state w.place (omega (arith, l))) AtParameters))
  follow k n b es (Offers {id = id} {s = s} {es = fs} h y l f) c w =
      good_step _ c (Receive id s) fs (now_open k n b c w)
      (follow UntilCrm 0 0 fs f (after c (Receive id s))
      (begins UntilCrm c id s (Ready true (station_maximum o)) w.settings
      (now_says k n b c w (Cmp o) id s h ∙ cmp_offers x a o n w.silence w.count w.state w.place y (omega (arith, l))) AtLast))
  follow k n b es (Starts {id = id} {s = s} h l) c w =
      good_step _ c (Receive id s) [] (now_open k n b c w)
      (good_end (after c (Receive id s)) (charging_with x a o) charging_open
      (now_says k n b c w (Crm true) id s h ∙ crm_starts x a o n w.silence w.count w.state w.place (omega (arith, l))))

-- a station whose CIM was taken, and which follows the handshake in what reaches the session, whatever else comes in
-- between: Charging, with that station and its last offer
pub reaches_charging : (c : Controller) (st : ℕ) (o : Offer) (es : List Call) → c.session ≡ opened st
    → Follows c.settings st o UntilCvm 0 0 (reaching st es)
    → (after_all c es).session ≡ charging_with c.settings st o
reaches_charging c st o es h f =
    let w : Now c.settings st o UntilCvm 0 0 c =
    record { silence = 0; count = 0; state = Offered; settings = refl; session = h; quiet = omega arith; place = AtOffered } in
    let g : Good (charging_with c.settings st o) c (reaching st es) = follow c.settings st o UntilCvm 0 0 (reaching st es) f c w in
    left_out c st es (ap (λ (z : Session). z.station) h)
    (now_open c.settings st o UntilCvm 0 0 c w) g.stays
    ∙ g.last

-- a listed station's CIM, taken in Idle, is such a beginning
pub cim_opens : (c : Controller) (st id : ℕ) (s : List ℕ) → c.session.state ≡ Idle
    → listed st c.settings.stations ≡ true
    → Says c.settings st Cim id s → (after c (Receive id s)).session ≡ opened st
unfolding after
cim_opens c st id s i l h =
    let p : (parts_of id).source ≡ st = h.source in
    (each_opens c id s i (subst (λ (z : ℕ). Says c.settings z Cim id s) (sym p) h)
    (ap (λ (z : ℕ). listed z c.settings.stations) p ∙ l)).session
    ∙ ap opened p

-- both together: a listed station's CIM in Idle, and the station follows the handshake
pub from_cim_to_charging : (c : Controller) (st id : ℕ) (s : List ℕ) (o : Offer) (es : List Call)
    → c.session.state ≡ Idle → listed st c.settings.stations ≡ true → Says c.settings st Cim id s
    → Follows c.settings st o UntilCvm 0 0 (reaching st es)
    → (after_all c (Receive id s ∷ es)).session ≡ charging_with c.settings st o
unfolding after_all
from_cim_to_charging c st id s o es i l h f =
    reaches_charging (after c (Receive id s)) st o es (cim_opens c st id s i l h)
    (subst (λ (x : Settings). Follows x st o UntilCvm 0 0 (reaching st es)) (sym (after_settings c id s)) f)
    ∙ ap (λ (x : Settings). charging_with x st o) (after_settings c id s)
