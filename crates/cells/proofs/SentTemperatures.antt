-- A temperature as it is sent, of one in range. Assumes nothing.
use Prim.Native.Nat.{suc, ◌≤◌}
use mathlib.Core.Path.{◌≡◌, refl, sym}
use mathlib.Core.Bool.{true}
use native.Mathlib.Omega.{arith}
use borrow.Author.Tests.{leb-true, le-ltb}
use lib.Dec.{leb}
use lib.IntN.{ℤ, pos, negsuc, ◌+ℤ◌}
use Rattle.cells.specs.Tables.{temperature_ok}
use Rattle.cells.specs.Sent.{as_sent, most_sent}
use Rattle.std.proofs.lemmas.Bool.{and_parts}

-- a temperature in range is sent as F + 50, which is at most 255
pub record Sent (t : ℤ) : Type 0 where
  pub small : as_sent t ≤ most_sent
  pub shifted : t +ℤ pos 50 ≡ pos (as_sent t)

pub sent : (t : ℤ) → temperature_ok t ≡ true → Sent t
sent (pos n) h = let k = leb-true n 205 h in record { small = omega arith; shifted = refl }
sent (negsuc n) h =
    let k = leb-true n 49 (and_parts (leb n 49) true h).0 in
    let l = le-ltb 50 (suc n) (omega arith) in
    record { small = rw l (omega arith); shifted = rw l }

pub sent_is : (t : ℤ) → temperature_ok t ≡ true → pos (as_sent t) ≡ t +ℤ pos 50
sent_is t h = sym (sent t h).shifted
