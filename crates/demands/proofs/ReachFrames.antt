-- A frame in an open session: the session's station says a charge message by it, and the session takes that message, or
-- the session is as it was. Assumes nothing.
use Prim.Native.Nat.{ℕ}
use Rattle.std.proofs.Common.{Result, Ok, Err}
use Rattle.numbers.specs.declared.Refusal.{Refusal}
use Rattle.messages.specs.declared.received.Message.{Message}
use mathlib.Core.Path.{◌≡◌, ap, sym, subst, ◌∙◌}
use mathlib.Core.Bool.{false}
use mathlib.Core.List.{List}
use Rattle.messages.specs.declared.received.Charge.{Charge}
use Rattle.messages.specs.declared.received.Charge.TheVariants as charge
use Rattle.messages.specs.declared.received.Message.TheVariants as message
use Rattle.messages.specs.Identifier.{parts_of}
use Rattle.settings.specs.declared.Settings.{Settings}
use Rattle.charge_messages.specs.declared.ChargeMessage.{ChargeMessage}
use Rattle.charge_messages.specs.declared.ChargeMessage.TheVariants.{Cim}
use Rattle.charge_messages.specs.Content.{content_of}
use Rattle.session.specs.Message.{message_of}
use Rattle.controller.specs.declared.Controller.{Controller}
use Rattle.controller.specs.Frame.{Answer}
use Rattle.controller.specs.Frame.{frame_to}
use Rattle.demands.specs.After.{no_session}
use Rattle.demands.specs.Says.{Says, charge_of}
use Rattle.controller.specs.Frame.{session_moved}
use Rattle.demands.proofs.Comes.{Comes, Left, Took, came, station_is, taken_in}

-- the session takes what its station says
pub frame_says : (c : Controller) (m : ChargeMessage) (id : ℕ) (s : List ℕ)
    → Says c.settings c.session.station m id s → no_session c ≡ false
    → (frame_to c id s).controller.session ≡ (message_of c.settings c.session.station c.session m).session
unfolding session_moved no_session
frame_says c m id s h o = ap (λ (a : Answer). a.controller.session) (taken_in c id s m o h)

-- a frame says one message
unfoldable kind_in : Result Message Refusal → Charge
kind_in (Ok (message.Charge k)) = k
kind_in (Ok (message.Query q)) = charge.Cim
kind_in (Err n) = charge.Cim

unfoldable allowed_in : Result ChargeMessage Refusal → ChargeMessage
allowed_in (Ok m) = m
allowed_in (Err n) = Cim

pub says_one : (x : Settings) (st : ℕ) (m w : ChargeMessage) (id : ℕ) (s : List ℕ) → Says x st m id s → Says x st w id s
    → m ≡ w
unfolding kind_in allowed_in
says_one x st m w id s h k =
    let e : charge_of m ≡ charge_of w = ap kind_in (sym h.checks ∙ k.checks) in
    ap allowed_in (sym h.content ∙ (ap (λ (z : Charge). content_of z s) e ∙ k.content))

-- ---- what the station says by a frame, if anything
pub data Spoken (c : Controller) (id : ℕ) (s : List ℕ) (a : Answer) : Type 0 where
  Unsaid : a.controller.session ≡ c.session → Spoken c id s a
  Said : (m : ChargeMessage) → Says c.settings c.session.station m id s → Spoken c id s a

spoken_of : (c : Controller) (id : ℕ) (s : List ℕ) (a : Answer) → no_session c ≡ false → Comes c id s a → Spoken c id s a
unfolding no_session
spoken_of c id s a o (Left u k n) = Unsaid k
spoken_of c id s a o (Took m says may k) =
    Said m (subst (λ (z : ℕ). Says c.settings z m id s) (station_is c (parts_of id).source o may) says)

pub spoken : (c : Controller) (id : ℕ) (s : List ℕ) → no_session c ≡ false → Spoken c id s (frame_to c id s)
spoken c id s o = spoken_of c id s (frame_to c id s) o (came c id s)
