-- That the highest of the definitions is the highest, the lowest the lowest, the sum the sum, and each index the first,
-- for a table of any length. Assumes nothing.
use Prim.Native.Nat.{ℕ, zero, suc, ◌+◌, ◌-◌, ◌*◌, ◌≤◌, ◌<◌}
use mathlib.Core.Path.{◌≡◌, refl}
use mathlib.Core.List.{List, [], ◌∷◌, ◌++◌}
use mathlib.Core.Bool.{Bool, true, false, cond}
use native.Mathlib.Nat.{le_of_suc-le-suc, not-suc-le-zero, mul-div-le, lt-mul-div-succ}
use native.Mathlib.Omega.{arith}
use borrow.Author.Tests.{leb-true, leb-false, eqb-true, eqb-false, eq-eqb, ne_eqb}
use lib.Dec.{leb, eqb}
use lib.ListN.{length, get_or}
use Rattle.cells.specs.declared.Summary.{Summary}
use Rattle.cells.specs.Summaries.{sum_of, highest_of, lowest_of, index_from, average_of}

-- The sum of one cell is that cell, and a table in two parts has the sum of both.
pub sum_one : (x : ℕ) → sum_of (x ∷ []) ≡ x
unfolding sum_of
sum_one x = omega arith

pub sum_parts : (xs ys : List ℕ) → sum_of (xs ++ ys) ≡ sum_of xs + sum_of ys
unfolding sum_of
sum_parts [] ys = omega arith
sum_parts (x ∷ xs) ys = omega (arith, sum_parts xs ys)

-- The average is rounded down: that many times the count is at most the sum, and one more is above it.
pub average_floor :
    {U : Type 0} (s : Summary U) → 0 < s.count → (s.count * average_of s ≤ s.sum) × (s.sum < s.count * (average_of s + 1))
average_floor {U} s h = (mul-div-le s.sum s.count, lt-mul-div-succ s.sum h)

-- a value that a table has: where it stands, from 0
pub record In (value : ℕ) (xs : List ℕ) : Type 0 where
  pub place : ℕ
  pub within : place < length xs
  pub has : get_or xs place 0 ≡ value

here : (x : ℕ) (xs : List ℕ) → In x (x ∷ xs)
here x xs = record { place = 0; within = omega arith; has = refl }

after : {value : ℕ} (x : ℕ) {xs : List ℕ} → In value xs → In value (x ∷ xs)
after x i = record { place = suc i.place; within = omega (arith, i.within); has = i.has }

-- No cell is above the highest.
high_step : (m x v : ℕ) (b : Bool) → leb m x ≡ b → v ≤ x → v ≤ cond b x m
high_step m x v true e h = h
high_step m x v false e h = omega (arith, leb-false m x e)

high_rest : (m x v : ℕ) (b : Bool) → leb m x ≡ b → v ≤ m → v ≤ cond b x m
high_rest m x v true e h = omega (arith, leb-true m x e)
high_rest m x v false e h = h

pub none_above : (xs : List ℕ) (i : ℕ) → i < length xs → get_or xs i 0 ≤ highest_of xs
unfolding highest_of
none_above [] i h = absurd (not-suc-le-zero h)
none_above (x ∷ xs) zero h = high_step (highest_of xs) x x (leb (highest_of xs) x) refl (omega arith)
none_above (x ∷ xs) (suc i) h =
    high_rest (highest_of xs) x (get_or xs i 0) (leb (highest_of xs) x) refl (none_above xs i (le_of_suc-le-suc h))

-- No cell is below the lowest.
low_step : (m x v : ℕ) (b : Bool) → leb x m ≡ b → x ≤ v → cond b x m ≤ v
low_step m x v true e h = h
low_step m x v false e h = omega (arith, leb-false x m e)

low_rest : (m x v : ℕ) (b : Bool) → leb x m ≡ b → m ≤ v → cond b x m ≤ v
low_rest m x v true e h = omega (arith, leb-true x m e)
low_rest m x v false e h = h

pub none_below : (xs : List ℕ) (i : ℕ) → i < length xs → lowest_of xs ≤ get_or xs i 0
unfolding lowest_of
none_below [] i h = absurd (not-suc-le-zero h)
none_below (x ∷ []) zero h = omega arith
none_below (x ∷ []) (suc i) h = absurd (not-suc-le-zero (le_of_suc-le-suc h))
none_below (x ∷ y ∷ ys) zero h =
    low_step (lowest_of (y ∷ ys)) x x (leb x (lowest_of (y ∷ ys))) refl (omega arith)
none_below (x ∷ y ∷ ys) (suc i) h =
    low_rest (lowest_of (y ∷ ys)) x (get_or (y ∷ ys) i 0) (leb x (lowest_of (y ∷ ys))) refl
    (none_below (y ∷ ys) i (le_of_suc-le-suc h))

-- Both are cells of the table.
picked : (x m : ℕ) (xs : List ℕ) (b : Bool) → In m xs → In (cond b x m) (x ∷ xs)
picked x m xs true i = here x xs
picked x m xs false i = after x i

top : (x : ℕ) (b : Bool) → leb 0 x ≡ b → cond b x 0 ≡ x
top x true e = refl
top x false e = absurd (omega (arith, leb-false 0 x e))

pub highest_in : (x : ℕ) (xs : List ℕ) → In (highest_of (x ∷ xs)) (x ∷ xs)
unfolding highest_of
highest_in x [] = rw (top x (leb 0 x) refl) (here x [])
highest_in x (y ∷ ys) = picked x (highest_of (y ∷ ys)) (y ∷ ys) (leb (highest_of (y ∷ ys)) x) (highest_in y ys)

pub lowest_in : (x : ℕ) (xs : List ℕ) → In (lowest_of (x ∷ xs)) (x ∷ xs)
unfolding lowest_of
lowest_in x [] = here x []
lowest_in x (y ∷ ys) = picked x (lowest_of (y ∷ ys)) (y ∷ ys) (leb x (lowest_of (y ∷ ys))) (lowest_in y ys)

-- the index is that of the first cell with the value, where the first cell of the table has the index k
pub record First (k value index : ℕ) (xs : List ℕ) : Type 0 where
  pub from : k ≤ index
  pub within : index < k + length xs
  pub has : get_or xs (index - k) 0 ≡ value
  pub none_before : (j : ℕ) → j < index - k → get_or xs j 0 ≡ value → ⊥

pub index_here : (k x : ℕ) (xs : List ℕ) → index_from k x (x ∷ xs) ≡ k
unfolding index_from
index_here k x xs = rw (eq-eqb x x refl)

pub index_after :
    (k value x : ℕ) (xs : List ℕ) → (x ≡ value → ⊥) → index_from k value (x ∷ xs) ≡ index_from (suc k) value xs
unfolding index_from
index_after k value x xs n = rw (ne_eqb x value n)

first_later :
    (k value x index : ℕ) (xs : List ℕ) → (x ≡ value → ⊥) → First (suc k) value index xs → First k value index (x ∷ xs)
first_later k value x index xs n f =
    let p : index - k ≡ suc (index - suc k) = omega (arith, f.from) in
    record {
      from = omega (arith, f.from);
      within = omega (arith, f.within);
      has = rw p f.has;
      none_before = λ j. none j p;
    }
  where
    none : (j : ℕ) → index - k ≡ suc (index - suc k) → j < index - k → get_or (x ∷ xs) j 0 ≡ value → ⊥
    none zero p h e = n e
    none (suc j) p h e = f.none_before j (omega arith) e

first_here : (k value x : ℕ) (xs : List ℕ) → x ≡ value → First k value (index_from k value (x ∷ xs)) (x ∷ xs)
unfolding index_from
first_here k value x xs e =
    let z : k - k ≡ 0 = omega arith in
    rw (eq-eqb x value e)
    (record { from = omega arith; within = omega arith; has = rw z e; none_before = λ j h f. omega (arith, h, z) })

first_step :
    (k value x : ℕ) (xs : List ℕ) (b : Bool) → eqb x value ≡ b
    → First (suc k) value (index_from (suc k) value xs) xs
    → First k value (index_from k value (x ∷ xs)) (x ∷ xs)
first_step k value x xs true e f = first_here k value x xs (eqb-true x value e)
first_step k value x xs false e f =
    rw (index_after k value x xs (eqb-false x value e))
    (first_later k value x (index_from (suc k) value xs) xs (eqb-false x value e) f)

-- the index of a value that the table has, wherever it has it
pub index_first :
    (k value : ℕ) (xs : List ℕ) (i : ℕ) → i < length xs → get_or xs i 0 ≡ value → First k value (index_from k value xs) xs
index_first k value [] i h e = absurd (not-suc-le-zero h)
index_first k value (x ∷ xs) zero h e = first_here k value x xs e
index_first k value (x ∷ xs) (suc i) h e =
    first_step k value x xs (eqb x value) refl (index_first (suc k) value xs i (le_of_suc-le-suc h) e)

first_of : {value : ℕ} {xs : List ℕ} → In value xs → First 1 value (index_from 1 value xs) xs
first_of {value} {xs} i = index_first 1 value xs i.place i.within i.has

-- The index of the highest, from 1, is that of the first cell that has it (that no cell is above it is `none_above`).
pub highest_first :
    (x : ℕ) (xs : List ℕ) → First 1 (highest_of (x ∷ xs)) (index_from 1 (highest_of (x ∷ xs)) (x ∷ xs)) (x ∷ xs)
highest_first x xs = first_of (highest_in x xs)

-- The index of the lowest likewise (that no cell is below it is `none_below`).
pub lowest_first :
    (x : ℕ) (xs : List ℕ) → First 1 (lowest_of (x ∷ xs)) (index_from 1 (lowest_of (x ∷ xs)) (x ∷ xs)) (x ∷ xs)
lowest_first x xs = first_of (lowest_in x xs)
