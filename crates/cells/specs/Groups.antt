-- A group of cells as it is sent (01, "Broadcasts and cell answers"): 4 voltages or 8 temperatures. "The first cell of
-- a group stands last; empty places are 0."
use Rattle.std.specs.Prelude.{ℕ, ◌+◌, ◌*◌, List, [], ◌∷◌, ◌++◌, ℤ, get_or}
use Rattle.buffers.specs.Words.{word_bytes}
use Rattle.cells.specs.Sent.{sent_temperatures, temperature_byte}

abbrev pub voltages_per_group : ℕ
voltages_per_group = 4

abbrev pub temperatures_per_group : ℕ
temperatures_per_group = 8

-- place k of group g, both counted from 0, is place g * 4 + k or g * 8 + k of the table; past the table it is 0. A
-- voltage is a word
abbrev pub voltage_at : List ℕ → ℕ → ℕ → List ℕ
voltage_at v group k = word_bytes (get_or v (group * voltages_per_group + k) 0)

abbrev pub voltage_group : List ℕ → ℕ → List ℕ
voltage_group v group = voltage_at v group 3 ++ (voltage_at v group 2 ++ (voltage_at v group 1 ++ voltage_at v group 0))

-- and a temperature is a byte
abbrev pub byte_at : List ℤ → ℕ → ℕ
byte_at t i = temperature_byte (get_or (sent_temperatures t) i 0)

abbrev pub temperature_group : List ℤ → ℕ → List ℕ
temperature_group t group =
    let first = group * temperatures_per_group in
    byte_at t (first + 7) ∷ byte_at t (first + 6) ∷ byte_at t (first + 5) ∷ byte_at t (first + 4)
    ∷ byte_at t (first + 3) ∷ byte_at t (first + 2) ∷ byte_at t (first + 1) ∷ byte_at t first ∷ []
