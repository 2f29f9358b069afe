-- What holds of the summaries of any tables that are accepted (the law `cells_bounded`, proofs/Bounds.antt). A sender
-- asks it of the cells that it is handed, so that every number has room in its place of a frame.
use Rattle.std.specs.Prelude.{ℕ, ◌*◌, ◌≤◌}
use Rattle.cells.specs.declared.Summary.{Summary}
use Rattle.cells.specs.declared.Cells.{Cells}
use Rattle.cells.specs.Tables.{most_cells, most_voltage}
use Rattle.cells.specs.Sent.{most_sent}

-- a table of 1 to the most cells with no value above `most`, where a value of its unit is such a number
pub record Bounded {U : Type 0} (number : U → ℕ) (most : ℕ) (s : Summary U) : Type 0 where
  pub some : 1 ≤ s.count
  pub count : s.count ≤ most_cells
  pub sum : s.sum ≤ most * s.count
  pub highest : number s.highest.value ≤ most
  pub highest_index : s.highest.index ≤ s.count
  pub lowest : number s.lowest.value ≤ most
  pub lowest_index : s.lowest.index ≤ s.count

-- voltages to 1000 hundredths, and temperatures as they are sent, to 255
pub record BoundedCells (c : Cells) : Type 0 where
  pub volts : Bounded (λ v. v.0) most_voltage c.volts
  pub heat : Bounded (λ t. t.0) most_sent c.heat
