-- What digits come to. Assumes nothing.
use Prim.Native.Nat.{ℕ, suc, ◌+◌, ◌*◌, ◌^◌, ◌≤◌, ◌<◌}
use mathlib.Core.Path.{◌≡◌, refl, ap}
use mathlib.Core.List.{List, [], ◌∷◌}
use mathlib.Core.Bool.{Bool, true, false, cond, false≢true}
use native.Mathlib.Nat.{le_refl, mul-le-mul, mul-le-mul_left, mul-le-mul_right, pow-zero, pow-suc, pow-le-pow_right}
use native.Mathlib.Omega.{arith}
use borrow.Author.Tests.{lt-ltb, ltb-true, ltb-false}
use lib.Dec.{ltb}
use lib.ListN.{length, get_or, drop}
use Rattle.std.specs.Prelude.{Option, None, Some, unwrap_or}
use Rattle.replay_text.specs.declared.digits.Digits.{Digits}
use Rattle.replay_text.specs.Chars.{leading}
use Rattle.replay_text.specs.Digits.{digit_of, digit_value, is_below, is_digit, digits_from, plain_after, capped_after, with_digit, too_much}
use Rattle.replay_text.specs.Digits.{digits_after, digits_at}
use Rattle.replay_text.proofs.Walks.{leading_more}

-- the same digits, known by other names for their parts
digits_eq : {a b v w p q : ℕ} → a ≡ b → v ≡ w → p ≡ q
    → ◌≡◌ {A = Digits} (record { count = a; value = v; at = p }) (record { count = b; value = w; at = q })
digits_eq e f g = rw (e, f, g)

module _ (base : ℕ) (text : List ℕ) (count value at : ℕ) where
  -- a digit that is there counts with those before it
  pub digits_more : at < length text → is_digit base (get_or text at 0) ≡ true
      → digits_after base text count value at
      ≡ digits_after base text (count + 1) (with_digit base value (digit_value (get_or text at 0))) (at + 1)
  unfolding capped_after
  digits_more l e =
      let m = leading_more (is_digit base) text at l e in
      digits_eq (omega (arith, ap length m)) (ap (capped_after base value) m) (omega (arith, ap length m))

  -- where there is none, what has been read is all
  pub digits_end : digits_from base text at ≡ []
      → digits_after base text count value at ≡ record { count = count; value = value; at = at }
  unfolding capped_after
  digits_end m = digits_eq (omega (arith, ap length m)) (ap (capped_after base value) m) (omega (arith, ap length m))

-- digits never make a value less
module _ (base : ℕ) (b : 1 ≤ base) where
  times : (value : ℕ) → value ≤ value * base
  times value = omega (arith, mul-le-mul {n₂ = value} {m₂ = base} (le_refl value) b)

  plain_least : (value : ℕ) (l : List ℕ) → value ≤ plain_after base value l
  unfolding plain_after
  plain_least value [] = omega arith
  plain_least value (x ∷ l) = omega (arith, times value, plain_least (value * base + digit_value x) l)

  capped_least : (value : ℕ) (l : List ℕ) → value ≤ capped_after base value l
  unfolding capped_after with_digit
  capped_least value [] = omega arith
  capped_least value (x ∷ l) =
      elim (ltb value too_much) as (λ (p : Bool). value ≤ capped_after base (cond p (value * base + digit_value x) value) l) [
        | true ↦ omega (arith, times value, capped_least (value * base + digit_value x) l)
        | false ↦ capped_least value l
      ]

  -- as long as the plain value is below what no number of a line may reach, it is the value that is read
  pub capped_plain : (value : ℕ) (l : List ℕ) → plain_after base value l < too_much
      → capped_after base value l ≡ plain_after base value l
  unfolding capped_after plain_after with_digit
  capped_plain value [] h = refl
  capped_plain value (x ∷ l) h =
      let low : value < too_much = omega (arith, times value, plain_least (value * base + digit_value x) l) in
      rw (lt-ltb value too_much low) (capped_plain (value * base + digit_value x) l h)

  much : (value x : ℕ) (l : List ℕ) (p : Bool) → ltb value too_much ≡ p
      → too_much ≤ capped_after base (value * base + digit_value x) l
      → too_much ≤ capped_after base (cond p (value * base + digit_value x) value) l
  much value x l true e h = h
  much value x l false e h = omega (arith, ltb-false value too_much e, capped_least value l)

  -- else the value that is read has reached that too
  pub capped_much : (value : ℕ) (l : List ℕ) → too_much ≤ plain_after base value l → too_much ≤ capped_after base value l
  unfolding capped_after plain_after with_digit
  capped_much value [] h = h
  capped_much value (x ∷ l) h =
      much value x l (ltb value too_much) refl (capped_much (value * base + digit_value x) l h)

-- one digit more makes a value at most a base's times as much
with_below : (base value x : ℕ) → x < base → with_digit base value x + 1 ≤ (value + 1) * base
unfolding with_digit
with_below base value x h =
    elim (ltb value too_much) as (λ (p : Bool). cond p (value * base + x) value + 1 ≤ (value + 1) * base) [
      | true ↦ omega arith
      | false ↦ times base (omega arith) (value + 1)
    ]

swapped : (v b p : ℕ) → (v + 1) * b * p ≡ (v + 1) * (p * b)
swapped v b p = omega arith

-- a digit of a base counts less than the base
pub below_of : (base : ℕ) (o : Option ℕ) → is_below base o ≡ true → unwrap_or o 0 < base
below_of base None e = absurd (false≢true e)
below_of base (Some x) e = ltb-true x base e

-- so many digits come to less than a base's power
module _ (base : ℕ) where
  below_one : (value x : ℕ) (l : List ℕ) → x < base
      → capped_after base (with_digit base value x) l < (with_digit base value x + 1) * base ^ length l
      → capped_after base (with_digit base value x) l < (value + 1) * base ^ suc (length l)
  below_one value x l h i =
      let m = mul-le-mul_right (base ^ length l) (with_below base value x h) in
      rw pow-suc (omega (arith, swapped value base (base ^ length l)))

  below_at : (value b : ℕ) (l : List ℕ)
      → ((v : ℕ) → capped_after base v (leading (is_digit base) l) < (v + 1) * base ^ length (leading (is_digit base) l))
      → (p : Bool) → is_digit base b ≡ p
      → capped_after base value (cond p (b ∷ leading (is_digit base) l) [])
      < (value + 1) * base ^ length (cond p (b ∷ leading (is_digit base) l) [])
  unfolding capped_after
  below_at value b l i true e =
      below_one value (digit_value b) (leading (is_digit base) l) (below_of base (digit_of b) e)
      (i (with_digit base value (digit_value b)))
  below_at value b l i false e = rw pow-zero (omega arith)

  capped_below : (value : ℕ) (l : List ℕ)
      → capped_after base value (leading (is_digit base) l) < (value + 1) * base ^ length (leading (is_digit base) l)
  unfolding leading capped_after
  capped_below value [] = rw pow-zero (omega arith)
  capped_below value (b ∷ l) = below_at value b l (λ v. capped_below v l) (is_digit base b) refl

  pub digits_below : 1 ≤ base → (text : List ℕ) (at k : ℕ) → (digits_at base text at).count ≤ k
      → (digits_at base text at).value < base ^ k
  unfolding digits_at
  digits_below b text at k h =
      let l = digits_from base text at in
      let m : base ^ length l ≤ base ^ k = pow-le-pow_right b (omega arith) in
      omega (arith, capped_below 0 (drop at text))

-- a value of digits never reaches the base times what no number of a line may reach
module _ (base : ℕ) where
  with_top_at : (value x : ℕ) (p : Bool) → ltb value too_much ≡ p → value < too_much * base → x < base
      → cond p (value * base + x) value < too_much * base
  with_top_at value x true e h i =
      let m = mul-le-mul_right base (ltb-true value too_much e) in
      omega arith
  with_top_at value x false e h i = h

  top_at : (value b : ℕ) (l : List ℕ) → value < too_much * base
      → ((v : ℕ) → v < too_much * base → capped_after base v (leading (is_digit base) l) < too_much * base)
      → (p : Bool) → is_digit base b ≡ p
      → capped_after base value (cond p (b ∷ leading (is_digit base) l) []) < too_much * base
  unfolding capped_after with_digit
  top_at value b l h i true e =
      i (with_digit base value (digit_value b))
      (with_top_at value (digit_value b) (ltb value too_much) refl h (below_of base (digit_of b) e))
  top_at value b l h i false e = h

  capped_top : (value : ℕ) (l : List ℕ) → value < too_much * base
      → capped_after base value (leading (is_digit base) l) < too_much * base
  unfolding leading capped_after
  capped_top value [] h = h
  capped_top value (b ∷ l) h = top_at value b l h (λ v. capped_top v l) (is_digit base b) refl

  pub digits_top : 1 ≤ base → (text : List ℕ) (at : ℕ) → (digits_at base text at).value < too_much * base
  unfolding digits_at
  digits_top b text at =
      capped_top 0 (drop at text) (omega (arith, mul-le-mul_left too_much b))

-- so that digits of ten fit a number of 64 bits with its sign
pub ten_top : (text : List ℕ) (at : ℕ) (d : Digits) → d ≡ digits_at 10 text at → d.value < 2814749767106560
ten_top text at d e = rw e (digits_top 10 (omega arith) text at)
