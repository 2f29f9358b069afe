-- Laws of the units' definitions. Assumes nothing.
use Prim.Native.Nat.{ℕ, ◌+◌, ◌*◌, ◌<◌, ◌≤◌}
use mathlib.Core.Path.{◌≡◌}
use native.Mathlib.Omega.{arith}
use lib.Dec.{leb, ltb}
use Rattle.std.specs.Ordering.{ord_min, partial_lt, partial_le, partial_ge}
use Rattle.std.proofs.lemmas.Bool.Decides.{nat_tests}
use Rattle.units.specs.declared.TenthVolts.{TenthVolts}
use Rattle.units.specs.declared.HundredthVolts.{HundredthVolts}
use Rattle.units.specs.declared.TenthAmps.{TenthAmps}
use Rattle.units.specs.contracts.TenthVoltsPartialOrd.TheImpl as pack
use Rattle.units.specs.contracts.HundredthVoltsPartialOrd.TheImpl as cell
use Rattle.units.specs.contracts.TenthAmpsPartialOrd.TheImpl as amps
use Rattle.units.specs.contracts.TenthAmpsOrd.TheImpl as total
use Rattle.units.specs.Units.{tenths_of, lesser_amps}

-- hundredths become tenths rounding down: the tenths are not more than the hundredths, and one tenth more would be
pub tenths_floor :
    (hundredths : ℕ) → (10 * tenths_of hundredths ≤ hundredths) × (hundredths < 10 * tenths_of hundredths + 10)
tenths_floor hundredths = (omega arith, omega arith)

-- Two values of a unit are ordered as their numbers are: a voltage at or above another, a current at or below another,
-- and one below it.
pub pack_at_least : (a b : TenthVolts) → partial_ge pack.ghosts.partial_cmp a b ≡ leb b.0 a.0
pack_at_least a b = grind (arith, nat_tests)

pub cell_at_least : (a b : HundredthVolts) → partial_ge cell.ghosts.partial_cmp a b ≡ leb b.0 a.0
cell_at_least a b = grind (arith, nat_tests)

pub at_most : (a b : TenthAmps) → partial_le amps.ghosts.partial_cmp a b ≡ leb a.0 b.0
at_most a b = grind (arith, nat_tests)

pub under : (a b : TenthAmps) → partial_lt amps.ghosts.partial_cmp a b ≡ ltb a.0 b.0
under a b = grind (arith, nat_tests)

-- and the order's `min` of two currents is the smaller
pub min_is_lesser : (a b : TenthAmps) → ord_min total.ghosts.cmp a b ≡ lesser_amps a b
min_is_lesser a b = grind (arith, nat_tests)
