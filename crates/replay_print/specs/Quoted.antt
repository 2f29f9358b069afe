-- A quoted text as bytes, a byte a character: all that is printed is ASCII.
use Rattle.std.specs.Prelude.{ℕ, List}
use Prim.Native.Char.{code}
use Prim.Native.String.{String, [], ◌∷◌}
use mathlib.Core.List as list

abbrev pub quoted : String → List ℕ
quoted [] = list.[]
quoted (c ∷ text) = list.◌∷◌ (code c) (quoted text)
