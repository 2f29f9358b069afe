-- What a frame comes to, told once, by the cases that every statement over frames goes by: one of the checks 3 to 8
-- refuses it, or it is a query, or it is a charge message. The checks ask nothing of a controller but its own address,
-- so controllers with the same address are in the same case, and each case tells what each of them answers. No other
-- file looks into the checks, but to run them on given frames (proofs/ReachRun.antt). Assumes nothing.
use Prim.Native.Nat.{ℕ, ◌<◌}
use Rattle.numbers.specs.Numbers.{number_of}
use Rattle.numbers.specs.declared.Refusal.TheVariants.{NotTheStation}
use Rattle.std.proofs.Common.{Result, Ok, Err}
use Rattle.numbers.specs.declared.Refusal.{Refusal}
use Rattle.numbers.specs.Numbers.{answered}
use Rattle.charge_messages.specs.declared.ChargeMessage.{ChargeMessage}
use mathlib.Core.Path.{◌≡◌, refl, ap, subst, ◌∙◌}
use mathlib.Core.Bool.{Bool, true, false, cond, false≢true}
use mathlib.Core.List.{List, [], ◌∷◌}
use native.Mathlib.Omega.{arith}
use lib.Dec.{eqb, ltb}
use lib.ListN.{length}
use Rattle.messages.specs.declared.received.Charge.{Charge}
use Rattle.messages.specs.declared.received.Kind.{Kind}
use Rattle.messages.specs.declared.received.Message.{Message}
use Rattle.messages.specs.declared.received.Message.TheVariants as message
use Rattle.messages.specs.Identifier.{parts_of}
use Rattle.messages.specs.Table.{pf_of}
use Rattle.messages.specs.Received.{row_of, least_length, nine, first_with, recognized_of}
use Rattle.settings.specs.declared.Settings.{Settings}
use Rattle.charge_messages.specs.Content.{content_of}
use Rattle.session.specs.declared.Session.{Session}
use Rattle.session.specs.Message.{Told}
use Rattle.session.specs.Message.{message_of}
use Rattle.queries.specs.Asking.{queued_of}
use Rattle.refusals.specs.Frame.{not_can, flags_set, not_for_us, bad_source, may_speak}
use Rattle.controller.specs.declared.Controller.{Controller}
use Rattle.controller.specs.Frame.{Answer}
use Rattle.controller.specs.Frame.{refused, may_charge, frame_to}
use Rattle.refusals.specs.Frame.{long_enough, message_in}
use Rattle.demands.specs.After.{charge_in, query_in, is_charge, is_query}
use Rattle.controller.specs.Frame.{session_moved, content_taken, charge_to, queries_moved, query_to, message_to}

-- ---- the answer to a frame: what the checks 3 to 8 make of it, then the message's own part
pub frame_view : (c : Controller) (id : ℕ) (s : List ℕ)
    → frame_to c id s ≡ message_to c (parts_of id).source s (message_in c.settings.own id s)
unfolding frame_to
frame_view c id s = refl

-- ---- a charge message, by settings and session alone: refused by 9 or 10, else taken or refused by 11
unfoldable pub content_on : Settings → ℕ → Session → Result ChargeMessage Refusal → Told
content_on x source t (Ok m) = message_of x source t m
content_on x source t (Err n) = record { number = number_of n; session = t }

unfoldable pub charge_on : Settings → ℕ → Charge → List ℕ → Session → Told
charge_on x source k s t =
    cond (may_speak t.state t.station x.stations source) (content_on x source t (content_of k s))
    (record { number = 9; session = t })

charge_on_lem : (c : Controller) (source : ℕ) (k : Charge) (s : List ℕ)
    → charge_to c source k s ≡ session_moved c (charge_on c.settings source k s c.session)
unfolding charge_to may_charge charge_on content_taken content_on session_moved
charge_on_lem c source k s = both (may_charge c source) (content_of k s)
  where
    both : (t : Bool) (m : Result ChargeMessage Refusal)
        → cond t (content_taken c source m) (refused NotTheStation c)
        ≡ session_moved c (cond t (content_on c.settings source c.session m) (record { number = 9; session = c.session }))
    both true (Ok m) = refl
    both true (Err n) = refl
    both false m = refl

-- ---- what the checks tell of a PF: what they make a message is that message, and no charge message is refused by 0
unfoldable Fits : Result Message Refusal → Result Message Refusal → Type 0
Fits p (Ok m) = p ≡ Ok m
Fits p (Err n) = Unit {0}

module _ (own id : ℕ) (s : List ℕ) where
  either : (p : Result Message Refusal) (t : Bool) (a b : Result Message Refusal) → Fits p a → Fits p b → Fits p (cond t a b)
  either p true a b h k = h
  either p false a b h k = k

  long_fits : (p : Result Message Refusal) → Fits p (long_enough s p)
  unfolding long_enough Fits charge_in
  long_fits (Ok m) = either (Ok m) (ltb (length s) (least_length m)) _ _ tt refl
  long_fits (Err n) = tt

  fits : Fits (recognized_of (parts_of id).pf) (message_in own id s)
  unfolding message_in Fits
  fits =
      let p = recognized_of (parts_of id).pf in
      either p (not_can id s) _ _ tt
      (either p (flags_set (parts_of id)) _ _ tt
      (either p (not_for_us own (parts_of id)) _ _ tt
      (either p (bad_source own (parts_of id)) _ _ tt (long_fits p))))

  fits_as : (r : Result Message Refusal) → message_in own id s ≡ r → Fits (recognized_of (parts_of id).pf) r
  fits_as r e = subst (Fits (recognized_of (parts_of id).pf)) e fits

  pub pf_is : (m : Message) → message_in own id s ≡ Ok m → recognized_of (parts_of id).pf ≡ Ok m
  unfolding Fits
  pf_is m e = fits_as (Ok m) e

  -- ---- the cases
  -- each controller with this address answers the frame so
  abbrev pub Each : (Controller → Answer) → Type 0
  Each answer = (c : Controller) → c.settings.own ≡ own → frame_to c id s ≡ answer c

  pub data View : Type 0 where
    -- 3 to 8
    Refused : (n : Refusal) → Each (refused n) → View
    -- a query, answered by the waiting queries: 12, 13 or 0
    Asks : (q : Kind) → is_query id ≡ true
        → Each (λ c. queries_moved c (queued_of c.queries (parts_of id).source q)) → View
    -- a charge message, answered by settings and session: 9, 10, 11 or 0
    Charges : (k : Charge) → is_charge id ≡ true → message_in own id s ≡ Ok (message.Charge k)
        → Each (λ c. session_moved c (charge_on c.settings (parts_of id).source k s c.session)) → View

  each : (r : Result Message Refusal) → message_in own id s ≡ r → Each (λ c. message_to c (parts_of id).source s r)
  each r e c h =
      frame_view c id s ∙ ap (message_to c (parts_of id).source s) (ap (λ (o : ℕ). message_in o id s) h ∙ e)

  -- and the other way: what 3 to 8 make a charge message is answered so
  pub each_charge : (k : Charge) → message_in own id s ≡ Ok (message.Charge k)
      → Each (λ c. session_moved c (charge_on c.settings (parts_of id).source k s c.session))
  unfolding message_to
  each_charge k e c h = each (Ok (message.Charge k)) e c h ∙ charge_on_lem c (parts_of id).source k s

  in_case : (r : Result Message Refusal) → message_in own id s ≡ r → View
  unfolding message_to query_to is_charge is_query charge_in query_in Fits
  in_case (Ok (message.Charge k)) e = Charges k (ap charge_in (pf_is (message.Charge k) e)) e (each_charge k e)
  in_case (Ok (message.Query q)) e =
      Asks q (ap query_in (pf_is (message.Query q) e)) (each (Ok (message.Query q)) e)
  in_case (Err n) e = Refused n (each (Err n) e)

  pub view : View
  view = in_case (message_in own id s) refl

  -- 3 to 8 refuse by a number below 9
  unfoldable Low : Result Message Refusal → Type 0
  Low (Ok m) = Unit {0}
  Low (Err n) = number_of n < 9

  if_low : (t : Bool) (a b : Result Message Refusal) → Low a → Low b → Low (cond t a b)
  if_low true a b h k = h
  if_low false a b h k = k

  long_low : (p : Result Message Refusal) → Low p → Low (long_enough s p)
  unfolding long_enough Low
  long_low (Ok m) h = if_low (ltb (length s) (least_length m)) _ _ (omega arith) tt
  long_low (Err n) h = h

  first_low : (pf : ℕ) (ms : List Message) → Low (first_with pf ms)
  unfolding Low
  first_low pf [] = omega arith
  first_low pf (m ∷ ms) = if_low (eqb pf (pf_of (row_of m))) _ _ tt (first_low pf ms)

  low : Low (message_in own id s)
  unfolding message_in Low
  low =
      if_low (not_can id s) _ _ (omega arith)
      (if_low (flags_set (parts_of id)) _ _ (omega arith)
      (if_low (not_for_us own (parts_of id)) _ _ (omega arith)
      (if_low (bad_source own (parts_of id)) _ _ (omega arith) (long_low (recognized_of (parts_of id).pf) (first_low (parts_of id).pf nine)))))

  pub refused_low : (n : Refusal) → message_in own id s ≡ Err n → number_of n < 9
  unfolding Low
  refused_low n e = subst Low e low
