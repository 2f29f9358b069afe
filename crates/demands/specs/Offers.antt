-- The last CMP taken (01, "Session by message", Ready: "each CMP, the entering one too, sets yes or no"; "Slips to shut
-- out": "keeping an old yes after a new CMP"). Which offer it made is read off the calls of a run: the PF and the data
-- of the frames received, and the numbers answered. No controller is looked at. For `what_begins_a_charge`,
-- `the_last_cmp_counts`, `not_above_the_station` and `no_request_above_the_station`.
use Rattle.std.specs.Prelude.{ℕ, ◌+◌, ◌≤◌, ◌≡◌, Bool, true, cond, List, [], ◌∷◌}
use Rattle.std.specs.Prelude.{Result, Ok, Err}
use Rattle.numbers.specs.declared.Refusal.{Refusal}
use Rattle.numbers.specs.Numbers.{answered}
use Rattle.messages.specs.declared.received.Charge.TheVariants as charge
use Rattle.units.specs.declared.TenthAmps.{TenthAmps}
use Rattle.settings.specs.declared.Settings.{Settings}
use Rattle.frames.specs.declared.Frame.{Frame}
use Rattle.charge_messages.specs.declared.Offer.{Offer}
use Rattle.charge_messages.specs.declared.ChargeMessage.{ChargeMessage}
use Rattle.charge_messages.specs.declared.ChargeMessage.TheVariants.{Cim, Cvm, Cmp, Crm, Ccs, Cst, Cem}
use Rattle.charge_messages.specs.Content.{content_of}
use Rattle.session_states.specs.declared.states.State.{State}
use Rattle.session_states.specs.declared.states.State.TheVariants.{Charging}
use Rattle.session_states.specs.States.{is_ready}
use Rattle.session_states.specs.Phases.{start_phase}
use Rattle.session_by_message.specs.Offer.{accepted_of, station_maximum}
use Rattle.controller.specs.declared.Controller.{Controller}
use Rattle.demands.specs.Machine.{Call, Read, Receive, Tick, Write, NoController}
use Rattle.demands.specs.Calls.{CallMade}
use Rattle.demands.specs.Steps.{Step, steps_made}
use Rattle.demands.specs.Says.{Says}
use Rattle.demands.specs.GoneOut.{is_cmp, takes}
use Rattle.demands.specs.Requests.{EachEcr, current_word}

-- ---- the last CMP taken
-- none was taken yet; or the last made this offer
pub data LastOffer : Type 0 where
  NoOffer : LastOffer
  LastWas : Offer → LastOffer

-- the offer that a message makes: only a CMP makes one
unfoldable pub offer_in : ChargeMessage → LastOffer
offer_in Cim = NoOffer
offer_in (Cvm b) = NoOffer
offer_in (Cmp o) = LastWas o
offer_in (Crm b) = NoOffer
offer_in (Ccs b) = NoOffer
offer_in (Cst b) = NoOffer
offer_in Cem = NoOffer

unfoldable pub offer_of : Result ChargeMessage Refusal → LastOffer
offer_of (Ok m) = offer_in m
offer_of (Err refusal) = NoOffer

-- the offer in a call's data, read as a CMP's
unfoldable pub offer_by : Call → LastOffer
offer_by (Receive id s) = offer_of (content_of charge.Cmp s)
offer_by (Tick r v t old) = NoOffer
offer_by (Write old) = NoOffer
offer_by (Read s) = NoOffer

-- after one call more: if it is a CMP and is taken its offer is the last, else the one before it stays
unfoldable pub offer_after : LastOffer → Step → LastOffer
offer_after before x = cond (takes is_cmp x.call x.seen) (offer_by x.call) before

-- after a run, with the last offer before it
unfoldable pub offer_through : LastOffer → List Step → LastOffer
offer_through before [] = before
offer_through before (x ∷ xs) = offer_through (offer_after before x) xs

abbrev pub last_offer : List Step → LastOffer
last_offer xs = offer_through NoOffer xs

-- of the calls that were made from the start
abbrev pub last_taken : List CallMade → LastOffer
last_taken ms = last_offer (steps_made NoController ms)

-- ---- what a session holds of it
-- Ready's yes or no, and the station's maximum, are those of this offer by the settings in use
pub record OfOffer (x : Settings) (last : LastOffer) (accepted : Bool) (maximum : TenthAmps) : Type 0 where
  pub offer : Offer
  pub made : last ≡ LastWas offer
  pub answer : accepted ≡ accepted_of x offer
  pub most : maximum ≡ station_maximum offer

-- a current, in tenths of an ampere, is not above the maximum that the station offered last
pub record WithinOffer (last : LastOffer) (current : ℕ) : Type 0 where
  pub offer : Offer
  pub made : last ≡ LastWas offer
  pub within : current ≤ (station_maximum offer).0

-- the same as sent: the current that an ECR asks, which is 4000 minus the word, is not above that maximum
pub record AsksWithinOffer (last : LastOffer) (f : Frame) : Type 0 where
  pub offer : Offer
  pub made : last ≡ LastWas offer
  pub current : 4000 ≤ current_word f + (station_maximum offer).0

-- and so of each ECR among the frames
abbrev pub AllAskWithinOffer : LastOffer → List Frame → Type 0
AllAskWithinOffer last fs = EachEcr (AsksWithinOffer last) fs

-- ---- what begins a charge: a CRM AA of the session's station, in Ready, an ERM AA of ours having gone out since the
-- last CMP taken; that CMP's offer is answered yes; and the charge begins with the smaller of the maximum current and
-- the maximum that it offers
pub record BeginsCharge (gone : Bool) (last : LastOffer) (c : Controller) (k : Call) (to : State) : Type 0 where
  pub id : ℕ
  pub bytes : List ℕ
  pub frame : k ≡ Receive id bytes
  pub says : Says c.settings c.session.station (Crm true) id bytes
  pub ready : is_ready c.session.state ≡ true
  pub sent : gone ≡ true
  pub offer : Offer
  pub made : last ≡ LastWas offer
  pub answer : accepted_of c.settings offer ≡ true
  pub phase : to ≡ Charging (start_phase c.settings.limits.current (station_maximum offer))
