-- The cell tables of a tick (01, "Readings", and numbers 14 and 15). A table is the list of its cells, cell 1 first.
use Rattle.std.specs.Prelude.{ℕ, Bool, true, ◌&&◌, List, [], ◌∷◌, eqb, leb, ℤ, pos, negsuc, length}
use Rattle.std.specs.Int.Signed.{le_z}

-- the most cells that a table may hold
abbrev pub most_cells : ℕ
most_cells = 255

-- 14 is given where this fails: "tables differ in length, or hold none or over 255"
abbrev pub tables_fit : List ℕ → List ℤ → Bool
tables_fit v t = eqb (length v) (length t) && (leb 1 (length v) && leb (length v) most_cells)

-- the test passes at each cell of a table
unfoldable pub every {ℓ} : {A : Type ℓ} → (A → Bool) → List A → Bool
every test [] = true
every test (x ∷ xs) = test x && every test xs

-- voltage 0 to 1000 hundredths
abbrev pub most_voltage : ℕ
most_voltage = 1000

abbrev pub voltage_ok : ℕ → Bool
voltage_ok x = leb x most_voltage

-- temperature -50 to 205 F (`negsuc n` is minus n + 1)
abbrev pub temperature_ok : ℤ → Bool
temperature_ok t = le_z (negsuc 49) t && le_z t (pos 205)

-- 15 is given where this fails: "a cell outside its range"
abbrev pub cells_in_range : List ℕ → List ℤ → Bool
cells_in_range v t = every voltage_ok v && every temperature_ok t
