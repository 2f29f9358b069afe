-- The settings record as bytes (01, "Settings record").
use Rattle.std.specs.Prelude.{ℕ, List, [], ◌∷◌, ◌++◌, length}
use Rattle.buffers.specs.Words.{word_bytes}
use Rattle.settings.specs.declared.Settings.{Settings}
use Rattle.settings.specs.declared.Versions.{Versions}
use Rattle.settings.specs.Range.{station_list}

-- one-byte tag, two-byte length (little endian), value
abbrev pub field : ℕ → List ℕ → List ℕ
field tag value = tag ∷ (word_bytes (length value) ++ value)

abbrev pub version_list : Versions → List ℕ
version_list v = v.first ∷ v.second ∷ v.third ∷ v.fourth ∷ v.fifth ∷ []

-- fields in this order, each once, nothing after
unfoldable pub record_of : Settings → List ℕ
record_of x =
    field 1 (x.own ∷ [])
    ++ (field 2 (word_bytes x.limits.cell.0)
    ++ (field 3 (word_bytes x.limits.current.0)
    ++ (field 4 (word_bytes x.limits.pack.0)
    ++ (field 5 (word_bytes x.limits.temperature.0)
    ++ (field 6 (station_list x.stations) ++ field 7 (version_list x.versions))))))
