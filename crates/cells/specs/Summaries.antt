-- What is said of a table (01, "Broadcasts and cell answers"): its count, sum, highest and lowest, and its average
-- rounded down. That the highest is the highest, the lowest the lowest and each index the first is proved of these
-- definitions (proofs/Extremes.antt).
use Rattle.std.specs.Prelude.{ℕ, suc, ◌+◌, ◌/◌, cond, List, [], ◌∷◌, eqb, leb, ℤ, length}
use Rattle.cells.specs.declared.Cell.{Cell}
use Rattle.cells.specs.declared.Summary.{Summary}
use Rattle.cells.specs.declared.Cells.{Cells}
use Rattle.cells.specs.Sent.{sent_temperatures}
use Rattle.units.specs.Units.{hundredth_volts, sent_degrees}

unfoldable pub sum_of : List ℕ → ℕ
sum_of [] = 0
sum_of (x ∷ xs) = x + sum_of xs

-- the highest value; 0 of an empty table
unfoldable pub highest_of : List ℕ → ℕ
highest_of [] = 0
highest_of (x ∷ xs) = cond (leb (highest_of xs) x) x (highest_of xs)

-- the lowest value; 0 of an empty table
unfoldable pub lowest_of : List ℕ → ℕ
lowest_of [] = 0
lowest_of (x ∷ []) = x
lowest_of (x ∷ y ∷ ys) = cond (leb x (lowest_of (y ∷ ys))) x (lowest_of (y ∷ ys))

-- the index of the first cell that has the value, where the table's first cell has the index k; 0 where no cell has it
unfoldable pub index_from : ℕ → ℕ → List ℕ → ℕ
index_from k value [] = 0
index_from k value (x ∷ xs) = cond (eqb x value) k (index_from (suc k) value xs)

-- a value in its unit, with its index; "ties take the lowest index"
abbrev pub cell_from : {U : Type 0} → (ℕ → U) → ℕ → ℕ → List ℕ → Cell U
cell_from unit k value xs = record { value = unit value; index = index_from k value xs }

-- of a table whose cells are so many of a unit each; indexes are "from 1"
abbrev pub summary_of : {U : Type 0} → (ℕ → U) → List ℕ → Summary U
summary_of unit xs =
    record {
      count = length xs;
      sum = sum_of xs;
      highest = cell_from unit 1 (highest_of xs) xs;
      lowest = cell_from unit 1 (lowest_of xs) xs;
    }

-- voltages as they are, temperatures as they are sent
abbrev pub cells_of : List ℕ → List ℤ → Cells
cells_of v t =
    record { volts = summary_of hundredth_volts v; heat = summary_of sent_degrees (sent_temperatures t) }

-- the average, rounded down
abbrev pub average_of : {U : Type 0} → Summary U → ℕ
average_of s = s.sum / s.count
