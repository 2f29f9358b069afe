-- A hex digit, as the library reads it. Assumes nothing.
use Prim.Native.Nat.{ℕ, ◌<◌}
use mathlib.Core.Path.{◌≡◌}
use native.Mathlib.Omega.{arith}
use Rattle.std.specs.Prelude.{Option, None, Some, SomeIff}
use Rattle.std.specs.Char.{digit_value}
use Rattle.std.proofs.lemmas.Bool.Decides.{nat_tests}
use Rattle.replay_text.specs.Digits.{digit_of}

pub hex_digit : (b : ℕ) (r : Option ℕ) → SomeIff r (digit_value b < 16) (digit_value b) → r ≡ digit_of b
unfolding digit_of
hex_digit b None h = grind (arith, nat_tests)
hex_digit b (Some x) h = grind (arith, nat_tests)
