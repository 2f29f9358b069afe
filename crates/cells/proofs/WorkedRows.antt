-- Rows of 01, "Worked rows", marked P, that are about a table. Assumes nothing.
use Prim.Native.Nat.{ℕ, zero, suc}
use mathlib.Core.Path.{◌≡◌, refl}
use mathlib.Core.List.{[], ◌∷◌}
use native.Mathlib.Omega.{arith}
use borrow.Author.Tests.{le-leb}
use lib.ListN.{replicate}
use Rattle.cells.specs.Summaries.{sum_of, highest_of, lowest_of, summary_of, average_of}
use Rattle.cells.specs.Groups.{voltage_group}
use Rattle.cells.proofs.Extremes.{index_here}

-- voltages 330, 331 average 330
pub average_of_two : {U : Type 0} (unit : ℕ → U) → average_of (summary_of unit (330 ∷ 331 ∷ [])) ≡ 330
unfolding sum_of
average_of_two unit = refl

-- equal cells give index 1, however many they are
highest_of_equal : (n x : ℕ) → highest_of (replicate (suc n) x) ≡ x
unfolding highest_of
highest_of_equal zero x = rw (le-leb 0 x (omega arith))
highest_of_equal (suc n) x = rw (highest_of_equal n x, le-leb x x (omega arith))

lowest_of_equal : (n x : ℕ) → lowest_of (replicate (suc n) x) ≡ x
unfolding lowest_of
lowest_of_equal zero x = refl
lowest_of_equal (suc n) x = rw (lowest_of_equal n x, le-leb x x (omega arith))

pub equal_highest : {U : Type 0} (unit : ℕ → U) (n x : ℕ) → (summary_of unit (replicate (suc n) x)).highest.index ≡ 1
equal_highest unit n x = rw (highest_of_equal n x) (index_here 1 x (replicate n x))

pub equal_lowest : {U : Type 0} (unit : ℕ → U) (n x : ℕ) → (summary_of unit (replicate (suc n) x)).lowest.index ≡ 1
equal_lowest unit n x = rw (lowest_of_equal n x) (index_here 1 x (replicate n x))

-- cells 1 to 6, with 331 and 332 last: the second group is 00 00 00 00 4C 01 4B 01, whatever the first four are
pub second_group :
    (a b c d : ℕ)
    → voltage_group (a ∷ b ∷ c ∷ d ∷ 331 ∷ 332 ∷ []) 1 ≡ 0x00 ∷ 0x00 ∷ 0x00 ∷ 0x00 ∷ 0x4c ∷ 0x01 ∷ 0x4b ∷ 0x01 ∷ []
second_group a b c d = refl
