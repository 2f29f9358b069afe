-- A test at every cell of a table: one cell more, and what it says of each cell. Assumes nothing.
use Prim.Native.Nat.{ℕ, zero, suc, ◌+◌, ◌<◌}
use mathlib.Core.Path.{◌≡◌, refl, sym, ◌∙◌, ap}
use mathlib.Core.List.{List, [], ◌∷◌, map}
use mathlib.Core.Bool.{Bool, true, ◌&&◌, and-true, and_assoc}
use native.Mathlib.Numerals.{add-one}
use native.Mathlib.Nat.{le_of_suc-le-suc, not-suc-le-zero}
use lib.ListN.{length, get_or, take}
use Rattle.std.proofs.lemmas.Bool.{and_parts}
use Rattle.cells.specs.Tables.{every}

-- a turn of a walk: one cell more
pub every_more : {A : Type 0} (f : A → Bool) (xs : List A) (i : ℕ) (d : A)
    → i < length xs → every f (take (i + 1) xs) ≡ (every f (take i xs) && f (get_or xs i d))
unfolding every
every_more f [] i d h = absurd (not-suc-le-zero h)
every_more f (x ∷ xs) zero d h = and-true (f x)
every_more f (x ∷ xs) (suc i) d h =
    rw add-one
    (ap (λ b. f x && b) (rw add-one at (every_more f xs i d (le_of_suc-le-suc h)))
    ∙ sym (and_assoc (f x) (every f (take i xs)) (f (get_or xs i d))))

-- and what it says of each cell
pub every_at {ℓ} : {A : Type ℓ} (f : A → Bool) (d : A) (xs : List A) (i : ℕ) → every f xs ≡ true → i < length xs
    → f (get_or xs i d) ≡ true
unfolding every
every_at f d [] i t h = absurd (not-suc-le-zero h)
every_at f d (x ∷ xs) zero t h = (and_parts (f x) (every f xs) t).0
every_at f d (x ∷ xs) (suc i) t h = every_at f d xs i (and_parts (f x) (every f xs) t).1 (le_of_suc-le-suc h)
