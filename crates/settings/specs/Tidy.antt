-- What the round trips speak of (proofs/RoundTrip.antt).
use Rattle.std.specs.Prelude.{ℕ, ◌<◌, cond, List, ltb, get_or}
use Rattle.settings.specs.declared.Settings.{Settings}
use Rattle.settings.specs.declared.Stations.{Stations}

-- the settings with 0 in the places past the last station: what no record can say is not kept
abbrev pub placed : ℕ → ℕ → ℕ → ℕ
placed n i a = cond (ltb i n) a 0

abbrev pub tidy_stations : Stations → Stations
tidy_stations s =
    record {
      count = s.count;
      first = placed s.count 0 s.first;
      second = placed s.count 1 s.second;
      third = placed s.count 2 s.third;
      fourth = placed s.count 3 s.fourth;
    }

-- the settings with other stations
abbrev pub with_stations : Settings → Stations → Settings
with_stations x stations =
    record { own = x.own; limits = x.limits; stations = stations; versions = x.versions }

abbrev pub tidy : Settings → Settings
tidy x = with_stations x (tidy_stations x.stations)

-- every number of the list is a byte
unfoldable pub Bytes : List ℕ → Type 0
Bytes s = (k : ℕ) → get_or s k 0 < 256
