-- What the checks 14 and 15 give: the tables' lengths, each cell's range, and the bounds of their summaries. Assumes
-- nothing.
use Prim.Native.Nat.{◌%◌, ℕ, suc, ◌*◌, ◌≤◌, ◌<◌}
use mathlib.Core.Path.{◌≡◌, refl}
use mathlib.Core.List.{List, [], ◌∷◌}
use mathlib.Core.Bool.{true, ◌&&◌}
use native.Mathlib.Nat.{not-suc-le-zero, mul-suc, mul-zero}
use native.Mathlib.Omega.{arith}
use borrow.Author.Tests.{leb-true, eqb-true}
use lib.Dec.{leb, eqb}
use lib.IntN.{ℤ, pos}
use lib.ListN.{length, get_or, length-map}
use Rattle.units.specs.Units.{hundredth_volts, sent_degrees}
use Rattle.cells.specs.Tables.{most_cells, most_voltage, tables_fit, every, voltage_ok, temperature_ok, cells_in_range}
use Rattle.cells.specs.Sent.{as_sent, most_sent, sent_temperatures}
use Rattle.cells.specs.Summaries.{sum_of, highest_of, lowest_of, summary_of, cells_of}
use Rattle.cells.specs.InnerBounds.{Bounded, BoundedCells}
use Rattle.std.proofs.lemmas.Bool.{and_parts}
use Rattle.std.proofs.lemmas.List.{get_or-map}
use Rattle.cells.proofs.Every.{every_at}
use Rattle.cells.proofs.SentTemperatures.{sent}
use Rattle.cells.proofs.Extremes.{In, highest_in, lowest_in, highest_first, lowest_first}

-- what 14 says where it is not given
pub record Fit (v : List ℕ) (t : List ℤ) : Type 0 where
  pub same : length v ≡ length t
  pub some : 1 ≤ length v
  pub most : length v ≤ most_cells

pub fit : (v : List ℕ) (t : List ℤ) → tables_fit v t ≡ true → Fit v t
fit v t h =
    let a = eqb (length v) (length t) in
    let b = leb 1 (length v) in
    let d = leb (length v) most_cells in
    let r = (and_parts a (b && d) h).1 in
    record {
      same = eqb-true (length v) (length t) (and_parts a (b && d) h).0;
      some = leb-true 1 (length v) (and_parts b d r).0;
      most = leb-true (length v) most_cells (and_parts b d r).1;
    }

-- what 15 says where it is not given
pub voltages_good : (v : List ℕ) (t : List ℤ) → cells_in_range v t ≡ true → every voltage_ok v ≡ true
voltages_good v t h = (and_parts (every voltage_ok v) (every temperature_ok t) h).0

pub temperatures_good : (v : List ℕ) (t : List ℤ) → cells_in_range v t ≡ true → every temperature_ok t ≡ true
temperatures_good v t h = (and_parts (every voltage_ok v) (every temperature_ok t) h).1

-- no value of a table is above `most`
abbrev AtMost : ℕ → List ℕ → Type 0
AtMost most xs = (i : ℕ) → i < length xs → get_or xs i 0 ≤ most

sum_at_most : (most : ℕ) (xs : List ℕ) → AtMost most xs → sum_of xs ≤ most * length xs
unfolding sum_of
sum_at_most most [] h = rw mul-zero (omega arith)
sum_at_most most (x ∷ xs) h =
    let k = sum_at_most most xs (λ i l. h (suc i) (omega arith)) in
    rw (mul-suc most (length xs)) (omega (arith, h 0 (omega arith)))

in_at_most : (most value : ℕ) (xs : List ℕ) → AtMost most xs → In value xs → value ≤ most
in_at_most most value xs h i = omega (arith, h i.place i.within, i.has)

pub bounded :
    {U : Type 0} (unit : ℕ → U) (number : U → ℕ) → ((n : ℕ) → number (unit n) ≡ n) → (most : ℕ) (xs : List ℕ)
    → 1 ≤ length xs → length xs ≤ most_cells → AtMost most xs → Bounded number most (summary_of unit xs)
bounded unit number same most [] a b h = absurd (not-suc-le-zero a)
bounded unit number same most (x ∷ xs) a b h =
    record {
      some = a;
      count = b;
      sum = sum_at_most most (x ∷ xs) h;
      highest = rw (same (highest_of (x ∷ xs))) (in_at_most most (highest_of (x ∷ xs)) (x ∷ xs) h (highest_in x xs));
      highest_index = omega (arith, (highest_first x xs).within);
      lowest = rw (same (lowest_of (x ∷ xs))) (in_at_most most (lowest_of (x ∷ xs)) (x ∷ xs) h (lowest_in x xs));
      lowest_index = omega (arith, (lowest_first x xs).within);
    }

voltages_at_most : (v : List ℕ) → every voltage_ok v ≡ true → AtMost most_voltage v
voltages_at_most v h i l = leb-true (get_or v i 0) most_voltage (every_at voltage_ok 0 v i h l)

temperatures_at_most : (t : List ℤ) → every temperature_ok t ≡ true → AtMost most_sent (sent_temperatures t)
temperatures_at_most t h i l =
    let k : i < length t = omega (arith, length-map t as_sent) in
    rw (get_or-map as_sent t i (pos 0) 0 k) (sent (get_or t i (pos 0)) (every_at temperature_ok (pos 0) t i h k)).small

-- the summaries of tables that are accepted
pub cells_bounded :
    (v : List ℕ) (t : List ℤ) → tables_fit v t ≡ true → cells_in_range v t ≡ true → BoundedCells (cells_of v t)
cells_bounded v t f r =
    let n = length-map t as_sent in
    let g = fit v t f in
    record {
      volts = bounded hundredth_volts (λ v. v.0) (λ n. refl) most_voltage v g.some g.most (voltages_at_most v (voltages_good v t r));
      heat =
          bounded sent_degrees (λ t. t.0) (λ n. refl) most_sent (sent_temperatures t) (omega (arith, n, g.same, g.some))
          (omega (arith, n, g.same, g.most))
          (temperatures_at_most t (temperatures_good v t r));
    }

-- a number of at most 255, as every count, index and temperature is that is sent, stands in its byte whole
pub one_byte : (n : ℕ) → n ≤ 255 → n % 256 ≡ n
one_byte n h = omega arith
