-- A settings record read (01, "Settings record", numbers 1 and 2). Tags 1 to 5 have fixed lengths, so they stand at 0,
-- 4, 9, 14 and 19; tag 6 stands at 24 and has n stations, so tag 7 stands at 27 + n and the whole is 35 + n bytes long.
use Rattle.std.specs.Prelude.{ℕ, ◌+◌, Bool, cond, ◌&&◌, List, eqb, ltb, length, get_or, Result, Ok, Err}
use Rattle.numbers.specs.declared.Refusal.{Refusal}
use Rattle.numbers.specs.declared.Refusal.TheVariants.{Layout, SettingOutOfRange}
use Rattle.buffers.specs.Words.{word_at}
use Rattle.settings.specs.declared.Settings.{Settings}
use Rattle.settings.specs.declared.Limits.{Limits}
use Rattle.settings.specs.declared.Stations.{Stations}
use Rattle.settings.specs.declared.Versions.{Versions}
use Rattle.settings.specs.Range.{least_stations, most_stations, within, in_range}

-- a field's one-byte tag and two-byte length stand at a place
unfoldable pub head_at : List ℕ → ℕ → ℕ → ℕ → Bool
head_at s at tag n = eqb (get_or s at 0) tag && eqb (word_at s (at + 1)) n

-- how many stations tag 6 says
abbrev pub station_count : List ℕ → ℕ
station_count s = word_at s 25

-- fields in their order, each once, nothing after
unfoldable pub layout_of : List ℕ → Bool
layout_of s =
    within least_stations most_stations (station_count s)
    && (eqb (length s) (35 + station_count s)
    && (head_at s 0 1 1
    && (head_at s 4 2 2
    && (head_at s 9 3 2
    && (head_at s 14 4 2
    && (head_at s 19 5 2 && (head_at s 24 6 (station_count s) && head_at s (27 + station_count s) 7 5)))))))

-- station i of n, from 0; a place past the last holds 0
unfoldable pub station_at : List ℕ → ℕ → ℕ → ℕ
station_at s n i = cond (ltb i n) (get_or s (27 + i) 0) 0

unfoldable pub stations_at : List ℕ → ℕ → Stations
stations_at s n =
    record {
      count = n;
      first = station_at s n 0;
      second = station_at s n 1;
      third = station_at s n 2;
      fourth = station_at s n 3;
    }

unfoldable pub versions_at : List ℕ → ℕ → Versions
versions_at s at =
    record {
      first = get_or s at 0;
      second = get_or s (at + 1) 0;
      third = get_or s (at + 2) 0;
      fourth = get_or s (at + 3) 0;
      fifth = get_or s (at + 4) 0;
    }

-- the maxima of a record whose layout is right: the words of tags 2 to 5
unfoldable pub limits_of : List ℕ → Limits
limits_of s =
    record {
      cell = record { 0 = word_at s 7 };
      current = record { 0 = word_at s 12 };
      pack = record { 0 = word_at s 17 };
      temperature = record { 0 = word_at s 22 };
    }

-- the values of a record whose layout is right
unfoldable pub settings_of : List ℕ → Settings
settings_of s =
    record {
      own = get_or s 3 0;
      limits = limits_of s;
      stations = stations_at s (station_count s);
      versions = versions_at s (30 + station_count s);
    }

-- 1 where the layout is not the above, then 2 where a value is outside its range; 0 is taken
unfoldable pub record_number : List ℕ → ℕ
record_number s = cond (layout_of s) (cond (in_range (settings_of s)) 0 2) 1

-- the answer: the settings, or the refusal
unfoldable pub read_of : List ℕ → Result Settings Refusal
read_of s = cond (layout_of s) (cond (in_range (settings_of s)) (Ok (settings_of s)) (Err SettingOutOfRange)) (Err Layout)
