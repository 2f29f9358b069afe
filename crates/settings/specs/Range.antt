-- The range of each value of the settings (01, "Settings record"). Versions may be any, and so have no line here.
use Rattle.std.specs.Prelude.{ℕ, Bool, true, not, ◌&&◌, List, [], ◌∷◌, eqb, leb, take}
use Rattle.settings.specs.declared.Settings.{Settings}
use Rattle.settings.specs.declared.Limits.{Limits}
use Rattle.settings.specs.declared.Stations.{Stations}

-- own address and stations, 0 to 253
abbrev pub last_address : ℕ
last_address = 253

-- maximum cell voltage, 0.01 V, 200 to 500
abbrev pub least_cell_voltage : ℕ
least_cell_voltage = 200

abbrev pub most_cell_voltage : ℕ
most_cell_voltage = 500

-- maximum current, 0.1 A, 60 to 4000
abbrev pub least_current : ℕ
least_current = 60

abbrev pub most_current : ℕ
most_current = 4000

-- maximum pack voltage, 0.1 V, 1 to 65535
abbrev pub least_pack : ℕ
least_pack = 1

abbrev pub most_pack : ℕ
most_pack = 65535

-- maximum cell temperature, raw 0 to 255
abbrev pub most_temperature : ℕ
most_temperature = 255

-- stations, 1 to 4 bytes
abbrev pub least_stations : ℕ
least_stations = 1

abbrev pub most_stations : ℕ
most_stations = 4

-- from `least` to `most`, both included
unfoldable pub within : ℕ → ℕ → ℕ → Bool
within least most n = leb least n && leb n most

-- the stations: the first `count` of the four places
abbrev pub station_list : Stations → List ℕ
station_list s = take s.count (s.first ∷ s.second ∷ s.third ∷ s.fourth ∷ [])

-- no member of the list is a
abbrev pub lacks : ℕ → List ℕ → Bool
lacks a [] = true
lacks a (b ∷ l) = not (eqb a b) && lacks a l

abbrev pub distinct : List ℕ → Bool
distinct [] = true
distinct (a ∷ l) = lacks a l && distinct l

-- each of them is 0 to 253 and not our own
abbrev pub each_good : ℕ → List ℕ → Bool
each_good own [] = true
each_good own (a ∷ l) = (leb a last_address && not (eqb a own)) && each_good own l

-- 1 to 4 of them, distinct, 0 to 253, none our own
unfoldable pub good_stations : ℕ → Stations → Bool
good_stations own s =
    within least_stations most_stations s.count && (distinct (station_list s) && each_good own (station_list s))

-- the maxima, in the order of the tags
unfoldable pub limits_in_range : Limits → Bool
limits_in_range l =
    within least_cell_voltage most_cell_voltage l.cell.0
    && (within least_current most_current l.current.0
    && (within least_pack most_pack l.pack.0 && within 0 most_temperature l.temperature.0))

-- every value in its range, in the order of the tags
unfoldable pub in_range : Settings → Bool
in_range x = within 0 last_address x.own && (limits_in_range x.limits && good_stations x.own x.stations)
