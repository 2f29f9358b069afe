-- Laws of tests joined by `◌||◌` and `cond`. Assumes nothing.
use mathlib.Core.Path.{◌≡◌, refl, sym}
use mathlib.Core.Bool.{Bool, true, false, cond, ◌||◌, false≢true}

pub or_left : (a b : Bool) → a ≡ true → (a || b) ≡ true
or_left a b h = rw h

pub or_right : (a b : Bool) → b ≡ true → (a || b) ≡ true
or_right true b h = refl
or_right false b h = h

pub or_false : (a b : Bool) → a ≡ false → b ≡ false → (a || b) ≡ false
or_false a b h k = rw (h, k)

pub first : (t u v : Bool) → t ≡ true → cond t u v ≡ true → u ≡ true
first true u v h e = e
first false u v h e = absurd (false≢true h)

pub second : (t u v : Bool) → t ≡ false → cond t u v ≡ true → v ≡ true
second true u v h e = absurd (false≢true (sym h))
second false u v h e = e

-- both ways of a test come to the same
pub same : {A B : Type 0} (f : A → B) (t : Bool) {x y : A} {z : B} → f x ≡ z → f y ≡ z → f (cond t x y) ≡ z
same f true h k = h
same f false h k = k
