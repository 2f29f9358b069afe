-- Laws of numbers as text: what `io::decimal` spells is the decimal number, a width of 1 asks for no zero, one zero
-- more, one byte more in hex. Assumes nothing.
use Prim.Native.Nat.{ℕ, zero, suc, ◌+◌, ◌-◌, ◌*◌, ◌/◌, ◌%◌, ◌^◌, ◌≤◌, ◌<◌}
use native.Mathlib.Nat.{pow-succ', one-le-pow, pow-le-pow_right}
use mathlib.Core.Path.{◌≡◌, refl}
use mathlib.Core.Bool.{Bool, true, false, cond}
use mathlib.Core.List.{[], ◌∷◌}
use native.Mathlib.Omega.{arith}
use borrow.Author.Tests.{lt-ltb, le-ltb, leb-true, leb-false}
use lib.Dec.{ltb, leb}
use lib.ListN.{length, length-append}
use Rattle.io.specs.Digits.{last_digits, IsDigitCount, hex_digit_ascii}
use Rattle.replay_print.specs.Text.{digits_up_to, decimal_of, padded_of}

-- the last digit
glyph_last : (n : ℕ) → hex_digit_ascii (n % 10) ≡ 48 + n % 10
glyph_last n = rw (lt-ltb (n % 10) 10 (omega arith))

less_one : (k n : ℕ) → IsDigitCount 10 1 n (suc k) → 1 < suc k → 10 ^ k ≤ n
less_one k n f h = let e : suc k - 1 ≡ k = omega arith in rw e at (f.2 h)

-- a tenth part has a digit less
fewest_tenth : (j n : ℕ) → IsDigitCount 10 1 n (suc (suc j)) → IsDigitCount 10 1 (n / 10) (suc j)
fewest_tenth zero n f = (omega arith, omega (arith, f.1), λ h. absurd (omega arith))
fewest_tenth (suc j) n f =
    let ge : 10 ^ suc (suc j) ≤ n = less_one (suc (suc j)) n f (omega arith) in
    let p : 10 ^ suc (suc j) ≡ 10 * 10 ^ suc j = pow-succ' 10 (suc j) in
    let q : 10 ^ suc (suc (suc j)) ≡ 10 * 10 ^ suc (suc j) = pow-succ' 10 (suc (suc j)) in
    let lt : n < 10 ^ suc (suc (suc j)) = f.1 in
    (omega arith, omega arith, λ h. let e : suc (suc j) - 1 ≡ suc j = omega arith in rw e (omega arith))

-- a number of two digits or more is not below ten
fewest_ten : (j n : ℕ) → IsDigitCount 10 1 n (suc (suc j)) → 10 ≤ n
fewest_ten j n f =
    let ge : 10 ^ suc j ≤ n = less_one (suc j) n f (omega arith) in
    let p : 10 ^ suc j ≡ 10 * 10 ^ j = pow-succ' 10 j in
    let o : 1 ≤ 10 ^ j = one-le-pow j 10 (omega arith) in
    omega arith

-- the fewest digits of a number are all its digits
fewest_digits : (most k n : ℕ) → k ≤ most → IsDigitCount 10 1 n k → last_digits 10 k n ≡ digits_up_to most n
unfolding digits_up_to
fewest_digits zero k n h f = let b : ⊥ = omega (arith, f.0) in absurd b
fewest_digits (suc most) zero n h f = let b : ⊥ = omega (arith, f.0) in absurd b
fewest_digits (suc most) (suc zero) n h f =
    let lt : n < 10 = omega (arith, f.1) in
    rw (lt-ltb n 10 lt, glyph_last n)
fewest_digits (suc most) (suc (suc j)) n h f =
    rw (
      le-ltb n 10 (fewest_ten j n f),
      ← fewest_digits most (suc j) (n / 10) (omega arith) (fewest_tenth j n f),
      glyph_last n,
    )

-- a number of 64 bits has at most 20
at_most_20 : (k n : ℕ) (b : Bool) → leb k 20 ≡ b → n < 2 ^ 64 → IsDigitCount 10 1 n k → k ≤ 20
at_most_20 k n true e h f = leb-true k 20 e
at_most_20 zero n false e h f = omega arith
at_most_20 (suc k) n false e h f =
    let gt : 20 < suc k = leb-false (suc k) 20 e in
    let ge : 10 ^ k ≤ n = less_one k n f (omega arith) in
    let p : 10 ^ 20 ≤ 10 ^ k = pow-le-pow_right {n = 10} (omega arith) {i = 20} {j = k} (omega arith) in
    omega arith

pub spelled : (k n : ℕ) → n < 2 ^ 64 → IsDigitCount 10 1 n k → last_digits 10 k n ≡ decimal_of n
unfolding decimal_of
spelled k n h f = fewest_digits 20 k n (at_most_20 k n (leb k 20) refl h f) f

-- every number has a digit
length_decimal : (n : ℕ) → 1 ≤ length (decimal_of n)
unfolding decimal_of digits_up_to
length_decimal n =
    omega (arith, length-append (cond (ltb n 10) [] (digits_up_to 19 (n / 10))) ((48 + n % 10) ∷ []))

pub padded_one : (n : ℕ) → padded_of 1 n ≡ decimal_of n
unfolding padded_of
padded_one n =
    let z : 1 - length (decimal_of n) ≡ 0 = omega (arith, length_decimal n) in
    rw z
