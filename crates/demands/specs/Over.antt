-- What a frame means once its session is over: nothing, unless it opens the next (01, "Session by message": "Idle: CIM
-- from a listed station opens Offered with it"). For `over`, `each_opens` and `replayed_acknowledgement`.
use Rattle.std.specs.Prelude.{ℕ, ◌≡◌, true, List}
use Rattle.messages.specs.Identifier.{parts_of}
use Rattle.charge_messages.specs.declared.ChargeMessage.TheVariants.{Cim}
use Rattle.session.specs.Session.{opened}
use Rattle.controller.specs.declared.Controller.{Controller}
use Rattle.controller.specs.Frame.{Answer}
use Rattle.refusals.specs.Frame.{listed}
use Rattle.demands.specs.After.{is_charge}
use Rattle.demands.specs.Says.{Says}

-- a well-formed CIM from a listed station: every check passes, and the session opens with its source
pub record Opens (c : Controller) (id : ℕ) (s : List ℕ) (a : Answer) : Type 0 where
  pub cim : Says c.settings (parts_of id).source Cim id s
  pub station : listed (parts_of id).source c.settings.stations ≡ true
  pub number : a.number ≡ 0
  pub session : a.controller.session ≡ opened (parts_of id).source

-- the session is as it was, and where the frame is a charge message its number is not 0
pub record Ignored (c : Controller) (id : ℕ) (s : List ℕ) (a : Answer) : Type 0 where
  pub session : a.controller.session ≡ c.session
  pub number : is_charge id ≡ true → a.number ≡ 0 → ⊥
