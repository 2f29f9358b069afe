-- What the library's conversions make of a number is what the definitions say. Assumes nothing.
use Prim.Native.Nat.{ℕ, ◌+◌, ◌^◌, ◌≤◌}
use mathlib.Core.List.{List}
use mathlib.Core.Path.{◌≡◌, refl}
use mathlib.Core.Bool.{Bool, true, false}
use native.Mathlib.Omega.{arith}
use Rattle.std.proofs.lemmas.Int.{ints}
use borrow.Author.Tests.{le-leb, lt-leb, leb-true, leb-false}
use lib.Dec.{leb}
use lib.IntN.{ℤ, pos, negsuc}
use mir.Syntax.{w16}
use Rattle.std.specs.Prelude.{cond, option_map, option_and_then, ok_or, Option, None, Some, Result, Ok, Err, unsigned_abs, OkIff, FitsSigned}
use Rattle.std.specs.Int.{FitsUnsignedBits}
use Rattle.std.specs.Result.{result_ok}
use Rattle.replay_text.specs.Words.{next_word, is_end}
use Rattle.replay_text.specs.Numbers.{number_in, up_to, of_16_bits, last_of, read_as, only_as, only_in}
use Rattle.replay_text.specs.Numbers.{told_above, next_or_told, good_at_end, only_within}

not_leb : (a b : ℕ) → (a ≤ b → ⊥) → leb a b ≡ false
not_leb a b h = lt-leb a b (omega (arith, h))

ok_up_to : {E : Type 0} (k most : ℕ) → 2 ^ k ≡ most + 1 → (x : ℤ) (r : Result ℕ E)
    → OkIff r (FitsUnsignedBits k x) (unsigned_abs x) → result_ok r ≡ up_to most x
unfolding up_to
ok_up_to k most e (pos n) (Ok v) h = rw (le-leb n most (omega (arith, h.0, e)), h.1)
ok_up_to k most e (pos n) (Err d) h = rw (not_leb n most (λ i. h (omega (arith, i, e))))
ok_up_to k most e (negsuc n) (Ok v) h = absurd h.0
ok_up_to k most e (negsuc n) (Err d) h = refl

-- at each width
module _ {E : Type 0} (x : ℤ) (r : Result ℕ E) where
  pub ok_u8 : OkIff r (FitsUnsignedBits 8 x) (unsigned_abs x) → result_ok r ≡ up_to 255 x
  ok_u8 h = ok_up_to 8 255 refl x r h

  pub ok_u16 : OkIff r (FitsUnsignedBits 16 x) (unsigned_abs x) → result_ok r ≡ up_to 65535 x
  ok_u16 h = ok_up_to 16 65535 refl x r h

  pub ok_u64 : OkIff r (FitsUnsignedBits 64 x) (unsigned_abs x) → result_ok r ≡ up_to 18446744073709551615 x
  ok_u64 h = ok_up_to 64 18446744073709551615 refl x r h

pub ok_i16 : {E : Type 0} (x : ℤ) (r : Result ℤ E) → OkIff r (FitsSigned w16 x) x → result_ok r ≡ of_16_bits x
unfolding of_16_bits
ok_i16 (pos n) (Ok v) h = let i : n ≤ 32767 = omega (arith, ints, h.0) in rw (le-leb n 32767 i, h.1)
ok_i16 (pos n) (Err d) h = rw (not_leb n 32767 (λ i. h (omega (arith, ints, i))))
ok_i16 (negsuc n) (Ok v) h = let i : n ≤ 32767 = omega (arith, ints, h.0) in rw (le-leb n 32767 i, h.1)
ok_i16 (negsuc n) (Err d) h = rw (not_leb n 32767 (λ i. h (omega (arith, ints, i))))

-- a number that is read up to a bound is one that is read up to a larger one and tested
abbrev pub tested : ℕ → Option ℕ → Option ℕ
tested most None = None
tested most (Some x) = cond (leb x most) (Some x) None

module _ (text : List ℕ) (to big most : ℕ) (h : most ≤ big) where
  abbrev last : ℕ → Option ℤ → Option ℕ
  last most x = last_of text (option_map (λ n. (n, to)) (option_and_then (up_to most) x))

  ended : (n : ℕ) (e p : Bool) → leb n most ≡ p → cond e (cond p (Some n) None) None ≡ tested most (cond e (Some n) None)
  ended n true p t = rw t
  ended n false p t = elim p [ true ↦ refl | false ↦ refl ]

  last_pos : (n : ℕ) (p q : Bool) → leb n most ≡ p → leb n big ≡ q
      → last most (Some (pos n)) ≡ tested most (last big (Some (pos n)))
  unfolding up_to
  last_pos n true true e f = rw (e, f) (ended n (is_end text to) true e)
  last_pos n true false e f =
      let a = leb-true n most e in
      let b = leb-false n big f in
      absurd (omega arith)
  last_pos n false true e f =
      rw (e, f)
      (elim (is_end text to) as (λ (b : Bool). None ≡ tested most (cond b (Some n) None)) [ true ↦ rw e | false ↦ refl ])
  last_pos n false false e f = rw (e, f)

  last_tested : (x : Option ℤ) → last most x ≡ tested most (last big x)
  unfolding up_to
  last_tested None = refl
  last_tested (Some (pos n)) = last_pos n (leb n most) (leb n big) refl refl
  last_tested (Some (negsuc n)) = refl

pub only_tested : (text : List ℕ) (from most : ℕ) → most ≤ 18446744073709551615
    → only_in text from most ≡ tested most (only_as (up_to 18446744073709551615) text from)
unfolding only_as read_as
only_tested text from most h =
    last_tested text (next_word text from).to 18446744073709551615 most h (number_in text (next_word text from))

-- the one number of a line up to a bound is the good one of `only_within`
module _ (text : List ℕ) (to told : ℕ) where
  abbrev good : Bool → Option ℕ → Option ℕ
  good end n = result_ok (good_at_end end (ok_or n told))

  last_good : (n : Option ℕ) → last_of text (option_map (λ n. (n, to)) n) ≡ good (is_end text to) n
  last_good None = refl
  last_good (Some n) =
      elim (is_end text to) as (λ (end : Bool). cond end (Some n) None ≡ good end (Some n)) [ true ↦ refl | false ↦ refl ]

pub only_ok : (text : List ℕ) (from most : ℕ) → only_in text from most ≡ result_ok (only_within text from most).0
unfolding only_within next_or_told only_as read_as
only_ok text from most =
    let w = next_word text from in
    let x = number_in text w in
    last_good text w.to (told_above x) (option_and_then (up_to most) x)
