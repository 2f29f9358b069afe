-- Digits, in decimal or in hex, of either case (docs/REPLAY.md, "Input").
use Prim.Native.Char.{Char, code}
use Rattle.std.specs.Prelude.{ℕ, ◌+◌, ◌-◌, ◌*◌, Bool, false, cond, ◌&&◌, List, [], ◌∷◌, ltb, leb, length, drop, Option, None, Some, unwrap_or}
use Rattle.replay_text.specs.declared.digits.Digits.{Digits}
use Rattle.replay_text.specs.Chars.{leading}

-- from one character to another, both included
abbrev pub between : Char → Char → ℕ → Bool
between first last b = leb (code first) b && leb b (code last)

-- the value of a digit, 0 to 9, a to f or A to F
unfoldable pub digit_of : ℕ → Option ℕ
digit_of b =
    cond (between "0" "9" b) (Some (b - code "0"))
    (cond (between "a" "f" b) (Some (b - code "a" + 10)) (cond (between "A" "F" b) (Some (b - code "A" + 10)) None))

-- a digit of a base
abbrev pub is_below : ℕ → Option ℕ → Bool
is_below base None = false
is_below base (Some x) = ltb x base

abbrev pub is_digit : ℕ → ℕ → Bool
is_digit base b = is_below base (digit_of b)

-- what a digit counts; a character that is none counts nothing
abbrev pub digit_value : ℕ → ℕ
digit_value b = unwrap_or (digit_of b) 0

-- the digits of a base from a place on, as far as they go
abbrev pub digits_from : ℕ → List ℕ → ℕ → List ℕ
digits_from base text at = leading (is_digit base) (drop at text)

-- what digits come to, the first being the highest, after a value that those before them have come to
unfoldable pub plain_after : ℕ → ℕ → List ℕ → ℕ
plain_after base value [] = value
plain_after base value (b ∷ l) = plain_after base (value * base + digit_value b) l

-- a value that no number of a line may reach: 2 to the power of 48
abbrev pub too_much : ℕ
too_much = 281474976710656

-- one digit more; a value that has reached `too_much` stays where it is
unfoldable pub with_digit : ℕ → ℕ → ℕ → ℕ
with_digit base value x = cond (ltb value too_much) (value * base + x) value

-- what digits come to, but that the value stays where it reaches `too_much`: `plain_after` where that is below it, and
-- at least `too_much` where that is not (`capped_plain`, `capped_much`, proofs/Values.antt)
unfoldable pub capped_after : ℕ → ℕ → List ℕ → ℕ
capped_after base value [] = value
capped_after base value (b ∷ l) = capped_after base (with_digit base value (digit_value b)) l

-- the digits of a base from a place on, after so many that have come to a value: how many, the value, the place past
-- them
abbrev pub digits_after : ℕ → List ℕ → ℕ → ℕ → ℕ → Digits
digits_after base text count value at =
    record {
      count = count + length (digits_from base text at);
      value = capped_after base value (digits_from base text at);
      at = at + length (digits_from base text at);
    }

-- the digits of a base from a place on
unfoldable pub digits_at : ℕ → List ℕ → ℕ → Digits
digits_at base text at = digits_after base text 0 0 at
