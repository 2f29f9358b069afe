-- The yes rule of CMP (01, "Session by message"), with currents read as 02, request 1, has them. CMP holds maximum and
-- minimum voltage, maximum and minimum current.
use Rattle.std.specs.Prelude.{ℕ, ◌-◌, Bool, cond, ◌&&◌, leb}
use Rattle.units.specs.declared.RawAmps.{RawAmps}
use Rattle.units.specs.declared.TenthAmps.{TenthAmps}
use Rattle.settings.specs.declared.Settings.{Settings}
use Rattle.charge_messages.specs.declared.Offer.{Offer}

-- the distance of two numbers, whichever of them is the greater
abbrev pub distance : ℕ → ℕ → ℕ
distance a b = cond (leb a b) (b - a) (a - b)

-- what a current word of a CMP means, in tenths of an ampere: "the distance of the raw word from 4000, either side"
-- (02, request 1). Of CMP alone: ECR and ECS keep their signed rule, 4000 minus the current (`raw_amps`, `raw_of`)
unfoldable pub offered_tenths : RawAmps → ℕ
offered_tenths raw = distance raw.0 4000

-- min voltage <= maximum pack voltage <= max voltage, 0 <= min current <= max current, min current <= maximum current.
-- 0 <= min current is true of every distance
unfoldable pub accepted_of : Settings → Offer → Bool
accepted_of x o =
    leb o.lowest.0 x.limits.pack.0
    && (leb x.limits.pack.0 o.highest.0
    && (leb 0 (offered_tenths o.least)
    && (leb (offered_tenths o.least) (offered_tenths o.most)
    && leb (offered_tenths o.least) x.limits.current.0)))

-- the station's maximum current
unfoldable pub station_maximum : Offer → TenthAmps
station_maximum o = record { 0 = offered_tenths o.most }
