-- A session cannot be kept from Charging by others: what it is for a station whose CIM was taken to follow the
-- handshake (01, "Session by message"). It goes in stretches, each ended by one frame of the station: until its CVM; if
-- that was 00, until its CVM AA; until its last CMP; until its CRM AA. In each it may repeat itself and say other
-- things besides, in any number and order. For `reaches_charging` and `from_cim_to_charging`, and the runs
-- `eight_are_enough` and `busy_charges` to which they apply.
use Rattle.std.specs.Prelude.{ℕ, ◌+◌, ◌≤◌, ◌<◌, ◌≡◌, Bool, true, false, not, ◌&&◌, List, [], ◌∷◌, ℤ}
use Rattle.settings.specs.declared.Settings.{Settings}
use Rattle.settings.specs.Read.{read_of}
use Rattle.readings.specs.declared.Readings.{Readings}
use Rattle.readings.specs.Readings.{wanted_of}
use Rattle.charge_messages.specs.declared.Offer.{Offer}
use Rattle.charge_messages.specs.declared.ChargeMessage.{ChargeMessage}
use Rattle.charge_messages.specs.declared.ChargeMessage.TheVariants.{Cim, Cvm, Cmp, Crm, Ccs, Cst, Cem}
use Rattle.session_states.specs.Phases.{start_phase}
use Rattle.session_states.specs.declared.states.State.TheVariants.{Charging}
use Rattle.session_by_message.specs.Offer.{accepted_of, station_maximum}
use Rattle.session_by_message.specs.Message.{gone_out}
use Rattle.session.specs.declared.Session.{Session}
use Rattle.session.specs.Session.{begun, opened}
use Rattle.session_states.specs.Limits.{silence_limit, first_ecp}
use Rattle.demands.specs.Machine.{Call, Receive, Tick, Write, Read}
use Rattle.demands.specs.After.{accepts, is_read}
use Rattle.demands.specs.Says.{Says}

-- the session where Charging begins, with the offer of the station's last CMP
abbrev pub charging_with : Settings → ℕ → Offer → Session
charging_with x st o = begun (opened st) (Charging (start_phase x.limits.current (station_maximum o)))

pub data Stretch : Type 0 where
  UntilCvm : Stretch
  UntilVerified : Stretch
  UntilCmp : Stretch
  UntilCrm : Stretch

-- What the station may say besides, `n` accepted ticks into a stretch, in the order of "Session by message": what does
-- nothing, what stays, and what is refused there as out of step. Not CST and CEM, by which it would stop or end the
-- session, and not what would move the handshake on at another place than is meant. A CIM after Offered goes by
-- `Passing`
unfoldable pub besides : Stretch → ℕ → ChargeMessage → Bool
-- Offered: CIM does nothing. CVM is taken once an EIM AA has gone out; besides, it may come as long as none has
besides UntilCvm n Cim = true
besides UntilCvm n (Cvm b) = not (gone_out 0 n)
besides UntilCvm n (Cmp o) = true
besides UntilCvm n (Crm b) = true
besides UntilCvm n (Ccs b) = true
besides UntilCvm n (Cst b) = false
besides UntilCvm n Cem = false
-- Unverified: CVM 00 stays; AA, to Parameters, ends the stretch
besides UntilVerified n Cim = false
besides UntilVerified n (Cvm b) = not b
besides UntilVerified n (Cmp o) = true
besides UntilVerified n (Crm b) = true
besides UntilVerified n (Ccs b) = true
besides UntilVerified n (Cst b) = false
besides UntilVerified n Cem = false
-- Parameters, and Ready up to the last CMP: each CMP may come. In Ready CRM AA may be taken; besides, it may come as
-- long as no ECP has gone out
besides UntilCmp n Cim = false
besides UntilCmp n (Cvm b) = true
besides UntilCmp n (Cmp o) = true
besides UntilCmp n (Crm b) = not (b && gone_out first_ecp n)
besides UntilCmp n (Ccs b) = true
besides UntilCmp n (Cst b) = false
besides UntilCmp n Cem = false
-- Ready, since the last CMP: CRM is taken if an ERM AA has gone out since that CMP, and 00 and FF stay; besides, AA may
-- come as long as none has
besides UntilCrm n Cim = false
besides UntilCrm n (Cvm b) = true
besides UntilCrm n (Cmp o) = false
besides UntilCrm n (Crm b) = not (b && gone_out 0 n)
besides UntilCrm n (Ccs b) = true
besides UntilCrm n (Cst b) = false
besides UntilCrm n Cem = false

-- what may come at any time, and leaves silence alone: a frame by which the station says no charge message (another's,
-- a cell query, or one that 3 to 10 refuse) or only a CIM; a refused tick; settings written; a settings record that is
-- refused
unfoldable pub Passing : Settings → ℕ → Call → Type 0
Passing x st (Receive id s) = (m : ChargeMessage) → Says x st m id s → m ≡ Cim
Passing x st (Tick r v t old) = accepts r v t old ≡ false
Passing x st (Write old) = Unit {0}
Passing x st (Read s) = is_read (read_of s) ≡ false

-- the station `st` of a controller with the settings `x`; `o` is the offer of its last CMP
module _ (x : Settings) (st : ℕ) (o : Offer) where
  -- over a list of calls, from a place `n` accepted ticks into a stretch and `b` after the station was last heeded,
  -- the station follows the handshake up to its CRM AA
  pub data Follows : Stretch → ℕ → ℕ → List Call → Type 0 where
    Passes : {k : Stretch} {n b : ℕ} {e : Call} {es : List Call}
        → Passing x st e → Follows k n b es → Follows k n b (e ∷ es)
    -- an accepted tick: charge is wanted, and fewer than 200 have gone by since the station was last heeded
    Ticks : {k : Stretch} {n b : ℕ} {r : Readings} {v : List ℕ} {t : List ℤ} {old : List ℕ} {es : List Call}
        → accepts r v t old ≡ true → wanted_of r ≡ true → b < silence_limit
        → Follows k (n + 1) (b + 1) es → Follows k n b (Tick r v t old ∷ es)
    Speaks : {k : Stretch} {n b id : ℕ} {s : List ℕ} {m : ChargeMessage} {es : List Call}
        → Says x st m id s → besides k n m ≡ true → Follows k n 0 es → Follows k n b (Receive id s ∷ es)
    -- after at least 1 tick CVM: 00, and AA at any time later, or AA at once
    Delays : {n b id : ℕ} {s : List ℕ} {es : List Call}
        → Says x st (Cvm false) id s → 1 ≤ n
        → Follows UntilVerified 0 0 es → Follows UntilCvm n b (Receive id s ∷ es)
    VerifiesLater : {n b id : ℕ} {s : List ℕ} {es : List Call}
        → Says x st (Cvm true) id s → Follows UntilCmp 0 0 es → Follows UntilVerified n b (Receive id s ∷ es)
    Verifies : {n b id : ℕ} {s : List ℕ} {es : List Call}
        → Says x st (Cvm true) id s → 1 ≤ n → Follows UntilCmp 0 0 es → Follows UntilCvm n b (Receive id s ∷ es)
    -- after at least 6 ticks a CMP that the yes rule accepts
    Offers : {n b id : ℕ} {s : List ℕ} {es : List Call}
        → Says x st (Cmp o) id s → accepted_of x o ≡ true → first_ecp + 1 ≤ n
        → Follows UntilCrm 0 0 es → Follows UntilCmp n b (Receive id s ∷ es)
    -- after at least 1 tick CRM AA
    Starts : {n b id : ℕ} {s : List ℕ}
        → Says x st (Crm true) id s → 1 ≤ n → Follows UntilCrm n b (Receive id s ∷ [])
