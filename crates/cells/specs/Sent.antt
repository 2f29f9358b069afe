-- A temperature as it is sent (01, "Readings": "temperature -50 to 205 F, sent as F + 50"), and the one byte that is
-- sent of a temperature, of a count of cells and of a cell's index. What is sent of tables that are accepted is at most
-- 255, so the byte is the number itself (`one_byte`, proofs/Bounds.antt).
use Rattle.std.specs.Prelude.{ℕ, ◌%◌, List, map, ℤ, pos, nat_abs, ◌+ℤ◌}

-- F + 50: see the law `sent_is` (proofs/SentTemperatures.antt), since a temperature in range is -50 or more
abbrev pub as_sent : ℤ → ℕ
as_sent t = nat_abs (t +ℤ pos 50)

-- 205 F as it is sent
abbrev pub most_sent : ℕ
most_sent = 255

abbrev pub sent_temperatures : List ℤ → List ℕ
sent_temperatures t = map as_sent t

-- the byte of a temperature as it is sent
abbrev pub temperature_byte : ℕ → ℕ
temperature_byte sent = sent % 256

abbrev pub count_byte : ℕ → ℕ
count_byte count = count % 256

abbrev pub index_byte : ℕ → ℕ
index_byte index = index % 256
