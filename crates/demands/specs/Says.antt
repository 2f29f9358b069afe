-- A frame, identifier and data, by which a source says a charge message: none of the checks 3 to 8 refuses it, and its
-- content is allowed, so 10 does not either (01, "Numbers returned"). Whether the source may say it, 9, and whether it
-- is in step, 11, is the controller's part. For every statement in which a station says something, such as
-- `what_ends_a_session`, `what_ends_a_charge`, `over`, `within_801`, `reaches_charging`.
use Rattle.std.specs.Prelude.{ℕ, ◌≡◌, List}
use Rattle.std.specs.Prelude.{Ok}
use Rattle.messages.specs.declared.received.Charge.{Charge}
use Rattle.messages.specs.declared.received.Charge.TheVariants as charge
use Rattle.messages.specs.declared.received.Message.TheVariants as message
use Rattle.messages.specs.Identifier.{parts_of}
use Rattle.settings.specs.declared.Settings.{Settings}
use Rattle.charge_messages.specs.declared.ChargeMessage.{ChargeMessage}
use Rattle.charge_messages.specs.declared.ChargeMessage.TheVariants.{Cim, Cvm, Cmp, Crm, Ccs, Cst, Cem}
use Rattle.charge_messages.specs.Content.{content_of}
use Rattle.refusals.specs.Frame.{message_in}

-- which of the seven a message is
abbrev pub charge_of : ChargeMessage → Charge
charge_of Cim = charge.Cim
charge_of (Cvm b) = charge.Cvm
charge_of (Cmp o) = charge.Cmp
charge_of (Crm b) = charge.Crm
charge_of (Ccs b) = charge.Ccs
charge_of (Cst b) = charge.Cst
charge_of Cem = charge.Cem

-- the source `st` says `m` to a controller with the settings `x`
pub record Says (x : Settings) (st : ℕ) (m : ChargeMessage) (id : ℕ) (s : List ℕ) : Type 0 where
  -- 3 to 8
  pub checks : message_in x.own id s ≡ Ok (message.Charge (charge_of m))
  pub source : (parts_of id).source ≡ st
  -- 10
  pub content : content_of (charge_of m) s ≡ Ok m
