-- What a walk over the cells of a table comes to, where f is what it reads of a cell. Assumes nothing.
use Prim.Native.Nat.{ℕ, suc, ◌+◌, ◌-◌, ◌≤◌, ◌<◌, max, min}
use mathlib.Core.Path.{◌≡◌, refl, sym, ◌∙◌, ap}
use mathlib.Core.List.{List, [], ◌∷◌, map}
use mathlib.Core.Bool.{Bool, cond}
use native.Mathlib.Nat.{not-suc-le-zero}
use native.Mathlib.Omega.{arith}
use Rattle.std.proofs.Common.{Some, None}
use Rattle.std.specs.List.{fold, sum_by, position, position_or_len}
use Rattle.std.proofs.lemmas.Bool.Decides.{nat_tests}
use Rattle.std.proofs.lemmas.List.Recursion.{is_sum_by}
use lib.Dec.{eqb, ltb}
use lib.ListN.{length, get_or, take, drop}
use lib.Seq.{take_all}
use Rattle.cells.specs.Summaries.{sum_of, highest_of, lowest_of, index_from}

module _ {X : Type 0} (f : X → ℕ) where
  pub sum_is : (xs : List X) → sum_by f xs ≡ sum_of (map f xs)
  unfolding sum_of
  sum_is xs = sym (is_sum_by (λ ys. sum_of (map f ys)) f refl (λ _ _. refl) xs)

  -- the greatest of all, and 0 where there is none
  from_high : (a : ℕ) (xs : List X) → fold (λ h x. max (f x) h) a xs ≡ max a (highest_of (map f xs))
  unfolding highest_of
  from_high a [] = omega arith
  from_high a (x ∷ xs) = from_high (max (f x) a) xs ∙ grind (arith, nat_tests)

  pub highest_is : (xs : List X) → fold (λ h x. max (f x) h) 0 xs ≡ highest_of (map f xs)
  highest_is xs = from_high 0 xs ∙ omega arith

  -- the least of all, and 0 where there is none
  from_low : (a : ℕ) (xs : List X) → fold (λ l x. min (f x) l) a xs ≡ lowest_of (a ∷ map f xs)
  unfolding lowest_of
  from_low a [] = refl
  from_low a (x ∷ []) = grind (arith, nat_tests)
  from_low a (x ∷ y ∷ ys) = from_low (min (f x) a) (y ∷ ys) ∙ grind (arith, nat_tests)

  pub lowest_none : (xs : List X) → length xs < 1 → 0 ≡ lowest_of (map f xs)
  unfolding lowest_of
  lowest_none [] h = refl
  lowest_none (x ∷ xs) h = absurd (omega arith)

  pub lowest_is : (xs : List X) (first : X) (low : ℕ) → 1 ≤ length xs → first ≡ get_or xs 0 first → low ≡ f first
      → fold (λ l x. min (f x) l) low (take (length xs - 1) (drop 1 xs)) ≡ lowest_of (map f xs)
  lowest_is [] first low h e k = absurd (not-suc-le-zero h)
  lowest_is (x ∷ xs) first low h e k =
      rw (k, e) (ap (λ ys. fold (λ l y. min (f y) l) (f x) ys) (take_all (suc (length xs) - 1) xs (omega arith)) ∙ from_low (f x) xs)

-- the index of the first that has the value
module _ {X : Type 0} (f : X → ℕ) (value : ℕ) where
  abbrev pub has : X → Bool
  has x = eqb (f x) value

  index_is : (k : ℕ) (xs : List X)
      → index_from k value (map f xs) ≡ cond (ltb (position_or_len has xs) (length xs)) (k + position_or_len has xs) 0
  unfolding index_from
  index_is k [] = refl
  index_is k (x ∷ xs) = grind (arith, nat_tests, index_is (suc k) xs)

  pub index_found : (xs : List X) (i : ℕ) → position has xs ≡ Some i → i + 1 ≡ index_from 1 value (map f xs)
  index_found xs i h = grind (arith, nat_tests, index_is 1 xs)

  pub index_missing : (xs : List X) → position has xs ≡ None → 0 ≡ index_from 1 value (map f xs)
  index_missing xs h = grind (arith, nat_tests, index_is 1 xs)
