-- Two slips to shut out (01): "letting CRM feed the silence count in Charging, or a restarted station's CIM hold a
-- session open in Parameters". For `cim_holds_nothing` and `crm_holds_nothing`.
use Rattle.std.specs.Prelude.{ℕ, ◌≡◌, Bool, true, false, List, [], ◌∷◌}
use Rattle.settings.specs.declared.Settings.{Settings}
use Rattle.charge_messages.specs.declared.ChargeMessage.{ChargeMessage}
use Rattle.charge_messages.specs.declared.ChargeMessage.TheVariants.{Cim, Cvm, Cmp, Crm, Ccs, Cst, Cem}
use Rattle.demands.specs.Machine.{Call, Receive, Tick, Write, Read}
use Rattle.demands.specs.Says.{Says}

unfoldable pub is_cim : ChargeMessage → Bool
is_cim Cim = true
is_cim (Cvm b) = false
is_cim (Cmp o) = false
is_cim (Crm b) = false
is_cim (Ccs b) = false
is_cim (Cst b) = false
is_cim Cem = false

-- what comes before Charging: CIM, CVM, CMP, CRM
unfoldable pub is_handshake : ChargeMessage → Bool
is_handshake Cim = true
is_handshake (Cvm b) = true
is_handshake (Cmp o) = true
is_handshake (Crm b) = true
is_handshake (Ccs b) = false
is_handshake (Cst b) = false
is_handshake Cem = false

-- over a list of calls the station `st` says these charge messages and no others, as often as it likes
unfoldable pub SaysOnly : (ChargeMessage → Bool) → Settings → ℕ → List Call → Type 0
SaysOnly these x st [] = Unit {0}
SaysOnly these x st (Receive id s ∷ es) =
    ((m : ChargeMessage) → Says x st m id s → these m ≡ true) × SaysOnly these x st es
SaysOnly these x st (Tick r v t old ∷ es) = SaysOnly these x st es
SaysOnly these x st (Write old ∷ es) = SaysOnly these x st es
SaysOnly these x st (Read s ∷ es) = SaysOnly these x st es
