-- A decimal number is digits, with a sign before them or none (docs/REPLAY.md, "Input").
use Prim.Native.Char.{code}
use Rattle.std.specs.Prelude.{ℕ, Bool, cond, not, ◌||◌, List, leb, eqb, ℤ, pos, negsuc, neg_ℤ}
use Rattle.std.specs.Prelude.{Option, None, Some, option_map, option_and_then, ok_or, Result, Ok, Err}
use Rattle.replay_text.specs.declared.words.Word.{Word}
use Rattle.replay_text.specs.declared.digits.Digits.{Digits}
use Rattle.replay_text.specs.Chars.{byte_at, next_place}
use Rattle.replay_text.specs.Words.{next_word, is_end}
use Rattle.replay_text.specs.Digits.{digits_at}

-- the signs, `-` and `+`
abbrev pub is_minus : ℕ → Bool
is_minus b = eqb b (code "-")

abbrev pub is_sign : ℕ → Bool
is_sign b = is_minus b || eqb b (code "+")

-- the place past the sign of a word, where it has one
unfoldable pub past_sign : List ℕ → ℕ → ℕ
past_sign text from = cond (is_sign (byte_at text from)) (next_place from) from

-- a value with its sign
abbrev pub signed : Bool → ℕ → ℤ
signed minus x = cond minus (neg_ℤ (pos x)) (pos x)

-- digits that end where the word does, one or more, as a number with its sign
unfoldable pub number_of : Bool → Digits → ℕ → Option ℤ
number_of minus d to = cond (eqb d.count 0 || not (eqb d.at to)) None (Some (signed minus d.value))

-- the word as a decimal number with a sign or none
unfoldable pub number_in : List ℕ → Word → Option ℤ
number_in text w =
    number_of (is_minus (byte_at text w.from)) (digits_at 10 text (past_sign text w.from)) w.to

-- a number that is to lie from 0 up to a bound
unfoldable pub up_to : ℕ → ℤ → Option ℕ
up_to most (pos n) = cond (leb n most) (Some n) None
up_to most (negsuc n) = None

-- a number that is to be one of 16 bits with its sign, from -32768 to 32767
unfoldable pub of_16_bits : ℤ → Option ℤ
of_16_bits (pos n) = cond (leb n 32767) (Some (pos n)) None
of_16_bits (negsuc n) = cond (leb n 32767) (Some (negsuc n)) None

-- a value where the line has no word from the place past it
abbrev pub last_of : {A : Type 0} → List ℕ → Option (A × ℕ) → Option A
last_of text None = None
last_of text (Some p) = cond (is_end text p.1) (Some p.0) None

module _ {A : Type 0} (of : ℤ → Option A) where
  -- the next word as a number, by what a number is to be, and the place past it
  unfoldable pub read_as : List ℕ → ℕ → Option (A × ℕ)
  read_as text from =
      option_map (λ x. (x, (next_word text from).to)) (option_and_then of (number_in text (next_word text from)))

  -- the next word as a number, where the line has no word after it
  unfoldable pub only_as : List ℕ → ℕ → Option A
  only_as text from = last_of text (read_as text from)

-- the next word as a number from 0 up to a bound, and the place past it
abbrev pub up_to_in : List ℕ → ℕ → ℕ → Option (ℕ × ℕ)
up_to_in text from most = read_as (up_to most) text from

-- the next word as a number of 16 bits with its sign, and the place past it
abbrev pub signed_in : List ℕ → ℕ → Option (ℤ × ℕ)
signed_in text from = read_as of_16_bits text from

-- the next word as a number from 0 up to a bound, where the line has no word after it
abbrev pub only_in : List ℕ → ℕ → ℕ → Option ℕ
only_in text from most = only_as (up_to most) text from

-- Of a number that is refused something is told too, for those who ask for it; no line of a script does. A number of
-- 2^48 or more is no longer the plain value of its digits (`with_digit`), so bounds lie below that.

-- what is told of a number, or none, that does not lie from 0 up to a bound: the number where it is above, else 0
abbrev pub told_above : Option ℤ → ℕ
told_above (Some (pos n)) = n
told_above (Some (negsuc n)) = 0
told_above None = 0

-- what is told of a number, or none, that is not one of 16 bits: -32768 where it is below these, else 0
abbrev pub told_below : Option ℤ → ℤ
told_below (Some (pos n)) = pos 0
told_below (Some (negsuc n)) = neg_ℤ (pos 32768)
told_below None = pos 0

module _ {A : Type 0} (of : ℤ → Option A) (told : Option ℤ → A) where
  -- a number, or none, by what it is to be, in `Ok` where it is that; else what is told of it, in `Err`
  abbrev pub good_or_told : Option ℤ → Result A A
  good_or_told x = ok_or (option_and_then of x) (told x)

  -- the next word as such a number, and the place past the word, whatever it is
  unfoldable pub next_or_told : List ℕ → ℕ → Result A A × ℕ
  next_or_told text from = (good_or_told (number_in text (next_word text from)), (next_word text from).to)

-- the next word as a number from 0 up to a bound, and the place past the word, whatever it is
abbrev pub next_within : List ℕ → ℕ → ℕ → Result ℕ ℕ × ℕ
next_within text from most = next_or_told (up_to most) told_above text from

-- the next word as a number of 16 bits with its sign, and the place past the word, whatever it is
abbrev pub next_in_16_bits : List ℕ → ℕ → Result ℤ ℤ × ℕ
next_in_16_bits text from = next_or_told of_16_bits told_below text from

-- a number that is good only where its line ends after it: else `Err` has it
abbrev pub good_at_end : Bool → Result ℕ ℕ → Result ℕ ℕ
good_at_end end (Ok n) = cond end (Ok n) (Err n)
good_at_end end (Err n) = Err n

-- the next word as a number from 0 up to a bound, good only where the line has no word after it, and the place past it
unfoldable pub only_within : List ℕ → ℕ → ℕ → Result ℕ ℕ × ℕ
only_within text from most =
    let next = next_within text from most in
    (good_at_end (is_end text next.1) next.0, next.1)
