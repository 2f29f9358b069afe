-- Where no digit begins, nothing is laid into the array. Assumes nothing.
use Prim.Native.Char.{code}
use Prim.Native.Nat.{ℕ}
use mathlib.Core.Path.{◌≡◌, refl}
use mathlib.Core.List.{List}
use Rattle.replay_text.specs.Chars.{newline, byte_at, laid_first}
use Rattle.replay_text.specs.Digits.{digit_of}
use Rattle.replay_text.specs.Hex.{bytes_in}
use Rattle.replay_text.proofs.Pairs.{no_bytes}

module _ (text : List ℕ) (from : ℕ) (old : List ℕ) where
  pub unread_newline : byte_at text from ≡ newline → laid_first (bytes_in text from) old ≡ old
  unfolding digit_of laid_first
  unread_newline e = rw (no_bytes text from (rw e refl))

  pub unread_hyphen : byte_at text from ≡ code "-" → laid_first (bytes_in text from) old ≡ old
  unfolding digit_of laid_first
  unread_hyphen e = rw (no_bytes text from (rw e refl))
