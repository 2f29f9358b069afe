-- The characters of a word, looked for one after the other. Assumes nothing.
use Prim.Native.Nat.{ℕ, ◌+◌, ◌≤◌, ◌<◌}
use mathlib.Core.Path.{◌≡◌}
use mathlib.Core.List.{List}
use mathlib.Core.Bool.{false}
use native.Mathlib.Numerals.{add-one}
use borrow.Author.Tests.{eq-eqb, ne_eqb}
use lib.Dec.{eqb}
use lib.ListN.{length, get_or, drop, drop_of_length-le}
use lib.Seq.{drop-cons}
use Rattle.replay_text.specs.Chars.{byte_at, next_place}
use Rattle.replay_text.specs.Words.{is_word, word_end}

module _ (text : List ℕ) (at : ℕ) (s : List ℕ) (i : ℕ) where
  pub word_more : i < length s → byte_at text at ≡ get_or s i 0
      → is_word text at (drop i s) ≡ is_word text (next_place at) (drop (i + 1) s)
  unfolding is_word
  word_more l e = rw (add-one i, drop-cons s i 0 l, eq-eqb (byte_at text at) (get_or s i 0) e)

  pub word_other : i < length s → (byte_at text at ≡ get_or s i 0 → ⊥) → is_word text at (drop i s) ≡ false
  unfolding is_word
  word_other l e = rw (drop-cons s i 0 l, ne_eqb (byte_at text at) (get_or s i 0) e)

  pub word_all : length s ≤ i → is_word text at (drop i s) ≡ eqb (word_end text at) at
  unfolding is_word
  word_all l = rw (drop_of_length-le s l)
