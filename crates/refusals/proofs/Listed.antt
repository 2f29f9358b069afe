-- A station is listed where one of the list's stations is it. Assumes nothing.
use Rattle.std.specs.List.{list_any}
use Prim.Native.Nat.{ℕ}
use mathlib.Core.Path.{◌≡◌, refl}
use mathlib.Core.Bool.{Bool, true, false, not, ◌&&◌, ◌||◌}
use mathlib.Core.List.{List, [], ◌∷◌}
use lib.Dec.{eqb}
use Rattle.settings.specs.Range.{lacks}

-- one place more: it holds the source, or a later one does
or_not : (a b : Bool) → (a || not b) ≡ not (not a && b)
or_not true b = refl
or_not false b = refl

pub any_listed : (source : ℕ) (l : List ℕ) → list_any (eqb source) l ≡ not (lacks source l)
any_listed source [] = refl
any_listed source (a ∷ l) = rw (any_listed source l) (or_not (eqb source a) (lacks source l))
