-- What a frame means once its session is over: in Idle, whoever sends it and whatever it holds, it is a well-formed CIM
-- from a listed station and opens a session with that station, or it leaves the session as it was; and a charge message
-- that is no such CIM is refused by number. And each such CIM opens one. Assumes nothing.
use Prim.Native.Nat.{ℕ}
use Rattle.numbers.specs.declared.Refusal.TheVariants.{NotTheStation, NotInThisState}
use mathlib.Core.Logic.{◌⊎◌, inl, inr}
use mathlib.Core.Path.{◌≡◌, refl, ap, ◌∙◌}
use mathlib.Core.Bool.{Bool, true, false, cond}
use mathlib.Core.List.{List}
use native.Mathlib.Omega.{arith}
use lib.Dec.{eqb}
use Rattle.messages.specs.Identifier.{parts_of}
use Rattle.charge_messages.specs.declared.ChargeMessage.{ChargeMessage}
use Rattle.charge_messages.specs.declared.ChargeMessage.TheVariants.{Cim, Cvm, Cmp, Crm, Ccs, Cst, Cem}
use Rattle.session_states.specs.declared.states.State.TheVariants.{Idle}
use Rattle.session_by_message.specs.declared.Outcome.TheVariants.{Refuse}
use Rattle.session_by_message.specs.Message.{outcome_of, in_idle}
use Rattle.session.specs.Session.{opened}
use Rattle.session.specs.Message.{session_after, applied_of, message_of}
use Rattle.controller.specs.declared.Controller.{Controller}
use Rattle.controller.specs.Frame.{Answer}
use Rattle.session_states.specs.States.{is_idle}
use Rattle.refusals.specs.Frame.{listed}
use Rattle.controller.specs.Frame.{refused, may_charge, frame_to}
use Rattle.demands.specs.Says.{Says}
use Rattle.demands.specs.Over.{Opens, Ignored}
use Rattle.demands.proofs.Tests.{first}
use Rattle.controller.specs.Frame.{session_moved}
use Rattle.demands.proofs.Comes.{Comes, Left, Took, came, says_taken, says_refused}

-- in Idle the list decides
listed_is : (c : Controller) (source : ℕ) → c.session.state ≡ Idle → may_charge c source ≡ true
    → listed source c.settings.stations ≡ true
unfolding may_charge is_idle
listed_is c source h e =
    first (is_idle c.session.state) (listed source c.settings.stations) (eqb source c.session.station) (ap is_idle h) e

module _ (c : Controller) (id : ℕ) (s : List ℕ) (h : c.session.state ≡ Idle) where
  abbrev taken : ChargeMessage → Answer
  taken m = session_moved c (message_of c.settings (parts_of id).source c.session m)

  cim_session : (taken Cim).controller.session ≡ opened (parts_of id).source
  unfolding session_moved message_of applied_of outcome_of in_idle session_after
  cim_session = rw h

  cim_taken : (taken Cim).number ≡ 0
  unfolding session_moved message_of applied_of outcome_of in_idle
  cim_taken = rw h

  kept : (m : ChargeMessage) → in_idle m ≡ Refuse → (taken m).controller.session ≡ c.session
  unfolding session_moved message_of applied_of outcome_of session_after
  kept m e = rw (h, e)

  kept_11 : (m : ChargeMessage) → in_idle m ≡ Refuse → (taken m).number ≡ 11
  unfolding session_moved message_of applied_of outcome_of
  kept_11 m e = rw (h, e)

  ignored : (m : ChargeMessage) → frame_to c id s ≡ taken m → in_idle m ≡ Refuse → Ignored c id s (frame_to c id s)
  ignored m k e =
      record {
        session = ap (λ (a : Answer). a.controller.session) k ∙ kept m e;
        number = λ f z. let t : (frame_to c id s).number ≡ 11 = ap (λ (a : Answer). a.number) k ∙ kept_11 m e in omega (arith, z, t);
      }

  by_message : (m : ChargeMessage) → Says c.settings (parts_of id).source m id s
      → may_charge c (parts_of id).source ≡ true → frame_to c id s ≡ taken m
      → Opens c id s (frame_to c id s) ⊎ Ignored c id s (frame_to c id s)
  unfolding in_idle
  by_message Cim says may k = inl
      (record {
        cim = says;
        station = listed_is c (parts_of id).source h may;
        number = ap (λ (a : Answer). a.number) k ∙ cim_taken;
        session = ap (λ (a : Answer). a.controller.session) k ∙ cim_session;
      })
  by_message (Cvm b) says may k = inr (ignored (Cvm b) k refl)
  by_message (Cmp o) says may k = inr (ignored (Cmp o) k refl)
  by_message (Crm b) says may k = inr (ignored (Crm b) k refl)
  by_message (Ccs b) says may k = inr (ignored (Ccs b) k refl)
  by_message (Cst b) says may k = inr (ignored (Cst b) k refl)
  by_message Cem says may k = inr (ignored Cem k refl)

  by_came : Comes c id s (frame_to c id s) → Opens c id s (frame_to c id s) ⊎ Ignored c id s (frame_to c id s)
  by_came (Left u k n) = inr (record { session = k; number = λ e. (n e).number })
  by_came (Took m says may k) = by_message m says may k

  -- every frame in Idle
  pub over : Opens c id s (frame_to c id s) ⊎ Ignored c id s (frame_to c id s)
  over = by_came (came c id s)

  may_is : (source : ℕ) → may_charge c source ≡ listed source c.settings.stations
  unfolding may_charge is_idle
  may_is source = rw h

  -- and each well-formed CIM from a listed station opens one
  pub each_opens : Says c.settings (parts_of id).source Cim id s
      → listed (parts_of id).source c.settings.stations ≡ true → Opens c id s (frame_to c id s)
  each_opens says l =
      let k : frame_to c id s ≡ taken Cim = says_taken c id s (parts_of id).source Cim says (may_is (parts_of id).source ∙ l) in
      record {
        cim = says;
        station = l;
        number = ap (λ (a : Answer). a.number) k ∙ cim_taken;
        session = ap (λ (a : Answer). a.controller.session) k ∙ cim_session;
      }

  -- what else a source says, it says in vain: 11 where it is a listed station, 9 where it is not, and nothing is
  -- changed
  module _ (source : ℕ) (m : ChargeMessage) (says : Says c.settings source m id s) (refuses : in_idle m ≡ Refuse) where
    refused_11 : session_moved c (message_of c.settings source c.session m) ≡ refused NotInThisState c
    unfolding session_moved message_of applied_of outcome_of session_after
    refused_11 = rw (h, refuses)

    in_vain : (l : Bool) → listed source c.settings.stations ≡ l → frame_to c id s ≡ refused (cond l NotInThisState NotTheStation) c
    in_vain true e = says_taken c id s source m says (may_is source ∙ e) ∙ refused_11
    in_vain false e = says_refused c id s source m says (may_is source ∙ e)

  -- THE INCIDENT: an acknowledgement that is sent again once its session is over, whoever sends it
  pub replayed_acknowledgement : (source : ℕ) → Says c.settings source (Cst true) id s
      → frame_to c id s ≡ refused (cond (listed source c.settings.stations) NotInThisState NotTheStation) c
  unfolding in_idle
  replayed_acknowledgement source says = in_vain source (Cst true) says refl (listed source c.settings.stations) refl
