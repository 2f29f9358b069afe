-- The invariant: whether all the cells passed are good.
use Rattle.std.proofs.Common.{◌≡◌, take}
use Rattle.cells.specs.Tables.{every}
use Rattle.cells.proofs.tables.all_in_range.Given as goal

abbrev pub invariant-loop-cell : goal.invariant-loop-cell
invariant-loop-cell g l = l.ok ≡ every g.R.Reading.ok (take l.cell-index l.cells)
