-- A walk along the text that passes each character of a kind: where it stops. Assumes nothing.
use Prim.Native.Nat.{ℕ, suc, ◌+◌, ◌≤◌, ◌<◌}
use mathlib.Core.Path.{◌≡◌, sym, ◌∙◌, ap}
use mathlib.Core.List.{List, [], ◌∷◌}
use mathlib.Core.Bool.{Bool, true, false, cond}
use native.Mathlib.Numerals.{add-one}
use native.Mathlib.Omega.{arith}
use lib.ListN.{length, get_or, drop, drop_of_length-le, length-drop}
use lib.Seq.{drop-cons, get_or-drop}
use Rattle.replay_text.specs.Chars.{leading, past_all}

-- a character that is there is the same whatever stands for one that is not
pub read_there : (text : List ℕ) (at a b : ℕ) → at < length text → get_or text at a ≡ get_or text at b
read_there text at a b h =
    let e : get_or text at a ∷ drop (suc at) text ≡ get_or text at b ∷ drop (suc at) text
    = sym (drop-cons text at a h) ∙ drop-cons text at b h in
    cc

-- the characters from a place on, by their index
module _ (text : List ℕ) (from : ℕ) {rest : List ℕ} (e : rest ≡ drop from text) (i : ℕ) where
  pub rest_same : get_or rest i 0 ≡ get_or text (from + i) 0
  rest_same = rw e (get_or-drop from text i 0)

  pub rest_within : i < length rest → from + i < length text
  rest_within h = omega (arith, ap length e, length-drop from text)

  pub rest_over : length rest ≤ i → length text ≤ from + i
  rest_over h = omega (arith, ap length e, length-drop from text)

module _ (test : ℕ → Bool) (text : List ℕ) (at : ℕ) where
  -- a character that passes is the first of those at the front
  pub leading_more : at < length text → test (get_or text at 0) ≡ true
      → leading test (drop at text) ≡ get_or text at 0 ∷ leading test (drop (at + 1) text)
  unfolding leading
  leading_more l e = rw (drop-cons text at 0 l, e, add-one)

  -- one that does not is where they end
  pub leading_none : at < length text → test (get_or text at 0) ≡ false → leading test (drop at text) ≡ []
  unfolding leading
  leading_none l e = rw (drop-cons text at 0 l, e)

  -- there are none past the text
  pub leading_past : length text ≤ at → leading test (drop at text) ≡ []
  unfolding leading
  leading_past l = rw (drop_of_length-le text l)

  -- the same of the place past them
  pub past_more : at < length text → test (get_or text at 0) ≡ true
      → past_all test text at ≡ past_all test text (at + 1)
  unfolding past_all
  past_more l e = omega (arith, ap length (leading_more l e))

  pub past_here : at < length text → test (get_or text at 0) ≡ false → past_all test text at ≡ at
  unfolding past_all
  past_here l e = omega (arith, ap length (leading_none l e))

  pub past_over : length text ≤ at → past_all test text at ≡ at
  unfolding past_all
  past_over l = omega (arith, ap length (leading_past l))

  -- it is not before the place that it is asked for
  pub past_from : at ≤ past_all test text at
  unfolding past_all
  past_from = omega arith

-- no more pass than there are
pub leading_least : (test : ℕ → Bool) (l : List ℕ) → length (leading test l) ≤ length l
unfolding leading
leading_least test [] = omega arith
leading_least test (b ∷ l) =
    elim (test b) as (λ (p : Bool). length (cond p (b ∷ leading test l) []) ≤ length (b ∷ l)) [
      | true ↦ omega (arith, leading_least test l)
      | false ↦ omega arith
    ]

-- the place is at most the text's length further
pub past_within : (test : ℕ → Bool) (text : List ℕ) (at : ℕ) → past_all test text at ≤ at + length text
unfolding past_all
past_within test text at =
    omega (arith, leading_least test (drop at text), length-drop at text)
