-- What a frame comes to, of one controller, by the cases of the view: settings and session are as they were, and if it
-- is a charge message it is refused by a number that is not 0; or no check refuses it and the session takes its
-- message. Assumes nothing.
use Prim.Native.Nat.{ℕ}
use Rattle.numbers.proofs.Told.{not_taken}
use Rattle.numbers.specs.Numbers.{number_of}
use Rattle.numbers.specs.declared.Refusal.TheVariants.{NotTheStation}
use Rattle.std.proofs.Common.{Result, Ok, Err}
use Rattle.numbers.specs.declared.Refusal.{Refusal}
use Rattle.messages.specs.declared.received.Message.{Message}
use mathlib.Core.Path.{◌≡◌, refl, sym, ap, subst, ◌∙◌}
use mathlib.Core.Bool.{Bool, true, false, cond, ◌&&◌, false≢true}
use mathlib.Core.List.{List}
use native.Mathlib.Omega.{arith}
use borrow.Author.Tests.{eqb-true, eq-eqb}
use lib.Dec.{eqb}
use lib.ListN.{get_or}
use Rattle.messages.specs.declared.received.Charge.{Charge}
use Rattle.messages.specs.declared.received.Charge.TheVariants as charge
use Rattle.messages.specs.declared.received.Message.TheVariants as message
use Rattle.messages.specs.Identifier.{parts_of}
use Rattle.messages.specs.Received.{recognized_of}
use Rattle.charge_messages.specs.declared.ChargeMessage.{ChargeMessage}
use Rattle.charge_messages.specs.Content.{content_of}
use Rattle.session.specs.Message.{message_of}
use Rattle.controller.specs.declared.Controller.{Controller}
use Rattle.controller.specs.Frame.{Answer}
use Rattle.session_states.specs.States.{is_idle}
use Rattle.refusals.specs.Frame.{listed}
use Rattle.controller.specs.Frame.{refused, may_charge, frame_to}
use Rattle.demands.specs.After.{charge_in, query_in, is_charge, is_query}
use Rattle.refusals.specs.Frame.{message_in}
use Rattle.demands.specs.Says.{charge_of, Says}
use Rattle.demands.proofs.Tests.{second}
use Rattle.controller.specs.Frame.{session_moved, queries_moved}
use Rattle.demands.proofs.View.{content_on, charge_on, View, Refused, Asks, Charges, each_charge, view}

-- allowed content is of the message that the PF says, and other content is refused by 10
unfoldable pub ContentOf : Charge → Result ChargeMessage Refusal → Type 0
ContentOf k (Ok m) = charge_of m ≡ k
ContentOf k (Err n) = number_of n ≡ 10

either : (k : Charge) (t : Bool) (a b : Result ChargeMessage Refusal) → ContentOf k a → ContentOf k b → ContentOf k (cond t a b)
either k true a b h i = h
either k false a b h i = i

content_of_lem : (k : Charge) (s : List ℕ) → ContentOf k (content_of k s)
unfolding content_of ContentOf
content_of_lem charge.Cim s = either charge.Cim (eqb (get_or s 0 0) 0x01 && (eqb (get_or s 1 0) 0x01 && eqb (get_or s 2 0) 0x00)) _ _ refl refl
content_of_lem charge.Cvm s = either charge.Cvm (eqb (get_or s 0 0) 0xaa) _ _ refl (either charge.Cvm (eqb (get_or s 0 0) 0x00) _ _ refl refl)
content_of_lem charge.Cmp s = refl
content_of_lem charge.Crm s =
    either charge.Crm (eqb (get_or s 0 0) 0xaa) _ _ refl
    (either charge.Crm (eqb (get_or s 0 0) 0x00) _ _ refl (either charge.Crm (eqb (get_or s 0 0) 0xff) _ _ refl refl))
content_of_lem charge.Ccs s = either charge.Ccs (eqb (get_or s 4 0) 0x01) _ _ refl (either charge.Ccs (eqb (get_or s 4 0) 0x00) _ _ refl refl)
content_of_lem charge.Cst s = either charge.Cst (eqb (get_or s 2 0) 0xaa) _ _ refl (either charge.Cst (eqb (get_or s 2 0) 0x00) _ _ refl refl)
content_of_lem charge.Cem s = either charge.Cem (eqb (get_or s 2 0) 0xaa) _ _ refl (either charge.Cem (eqb (get_or s 2 0) 0x00) _ _ refl refl)

pub content_is : (k : Charge) (s : List ℕ) (m : Result ChargeMessage Refusal) → content_of k s ≡ m → ContentOf k m
content_is k s m e = subst (ContentOf k) e (content_of_lem k s)

-- a frame is not both
one_kind : (r : Result Message Refusal) → query_in r ≡ true → charge_in r ≡ true → ⊥
unfolding charge_in query_in
one_kind (Ok (message.Charge k)) h e = false≢true h
one_kind (Ok (message.Query q)) h e = false≢true e
one_kind (Err n) h e = false≢true h

pub not_both : (id : ℕ) → is_query id ≡ true → is_charge id ≡ true → ⊥
unfolding is_query is_charge
not_both id h e = one_kind (recognized_of (parts_of id).pf) h e

-- refused: the controller as it was, and a number that is not 0
pub record IsRefused (c : Controller) (a : Answer) : Type 0 where
  pub answer : a ≡ record { number = a.number; controller = c }
  pub number : a.number ≡ 0 → ⊥

pub data Comes (c : Controller) (id : ℕ) (s : List ℕ) (a : Answer) : Type 0 where
  Left : a.controller.settings ≡ c.settings → a.controller.session ≡ c.session
      → (is_charge id ≡ true → IsRefused c a) → Comes c id s a
  Took : (m : ChargeMessage) → Says c.settings (parts_of id).source m id s → may_charge c (parts_of id).source ≡ true
      → a ≡ session_moved c (message_of c.settings (parts_of id).source c.session m)
      → Comes c id s a

module _ (c : Controller) (id : ℕ) (s : List ℕ) where
  abbrev source : ℕ
  source = (parts_of id).source

  refusal : (n : Refusal) → Comes c id s (refused n c)
  refusal n = Left refl refl (λ e. record { answer = refl; number = not_taken n })

  charge_says : (k : Charge) (m : ChargeMessage) → message_in c.settings.own id s ≡ Ok (message.Charge k)
      → content_of k s ≡ Ok m → Says c.settings source m id s
  unfolding ContentOf
  charge_says k m p e = let q : charge_of m ≡ k = content_is k s (Ok m) e in record { checks = rw q p; source = refl; content = rw q e }

  -- 9, 10, or taken
  charge_comes : (k : Charge) → message_in c.settings.own id s ≡ Ok (message.Charge k) → (t : Bool)
      → may_charge c source ≡ t
      → (m : Result ChargeMessage Refusal) → content_of k s ≡ m
      → Comes c id s (session_moved c (cond t (content_on c.settings source c.session m) (record { number = 9; session = c.session })))
  unfolding session_moved content_on ContentOf
  charge_comes k p true may (Ok m) e = Took m (charge_says k m p e) may refl
  charge_comes k p true may (Err n) e = refusal n
  charge_comes k p false may m e = refusal NotTheStation

  comes_as : {a b : Answer} → a ≡ b → Comes c id s b → Comes c id s a
  comes_as {a} {b} e h = subst (Comes c id s) (sym e) h

  by_case : View c.settings.own id s → Comes c id s (frame_to c id s)
  unfolding queries_moved charge_on may_charge
  by_case (Refused n each) = comes_as (each c refl) (refusal n)
  by_case (Asks q h each) = comes_as (each c refl) (Left refl refl (λ e. absurd (not_both id h e)))
  by_case (Charges k h p each) = comes_as (each c refl) (charge_comes k p (may_charge c source) refl (content_of k s) refl)

  pub came : Comes c id s (frame_to c id s)
  came = by_case (view c.settings.own id s)

  -- and the other way: what a source says by a frame, a session takes if it may charge, and refuses with 9 if not
  module _ (st : ℕ) (m : ChargeMessage) (h : Says c.settings st m id s) where
    said : (t : Bool) → may_charge c st ≡ t
        → frame_to c id s ≡ session_moved c (cond t (message_of c.settings st c.session m) (record { number = 9; session = c.session }))
    unfolding charge_on content_on may_charge
    said t may = each_charge c.settings.own id s (charge_of m) h.checks c refl ∙ rw (h.source, h.content, may)

    pub says_taken : may_charge c st ≡ true → frame_to c id s ≡ session_moved c (message_of c.settings st c.session m)
    says_taken = said true

    pub says_refused : may_charge c st ≡ false → frame_to c id s ≡ refused NotTheStation c
    unfolding session_moved
    says_refused = said false

-- a frame never changes the settings
settings_kept : (c : Controller) (id : ℕ) (s : List ℕ) (a : Answer) → Comes c id s a
    → a.controller.settings ≡ c.settings
unfolding session_moved
settings_kept c id s a (Left e f g) = e
settings_kept c id s a (Took m says may k) = ap (λ (z : Answer). z.controller.settings) k

pub kept_settings : (c : Controller) (id : ℕ) (s : List ℕ) → (frame_to c id s).controller.settings ≡ c.settings
kept_settings c id s = settings_kept c id s (frame_to c id s) (came c id s)

-- in an open session a charge message goes further only from the session's station
pub station_is : (c : Controller) (source : ℕ) → is_idle c.session.state ≡ false → may_charge c source ≡ true
    → source ≡ c.session.station
unfolding may_charge
station_is c source h e =
    eqb-true source c.session.station
    (second (is_idle c.session.state) (listed source c.settings.stations) (eqb source c.session.station) h e)

-- what the session's station says in an open session is taken
pub taken_in : (c : Controller) (id : ℕ) (s : List ℕ) (m : ChargeMessage) → is_idle c.session.state ≡ false
    → Says c.settings c.session.station m id s
    → frame_to c id s ≡ session_moved c (message_of c.settings c.session.station c.session m)
unfolding may_charge
taken_in c id s m h says =
    says_taken c id s c.session.station m says (rw (h, eq-eqb c.session.station c.session.station refl))
