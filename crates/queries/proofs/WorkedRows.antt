-- Rows of 01, "Worked rows", marked P, that are about cell answers. Assumes nothing.
use Prim.Native.Nat.{ℕ, ◌+◌, ◌*◌}
use mathlib.Core.Path.{◌≡◌, refl}
use mathlib.Core.Bool.{true, false}
use mathlib.Core.List.{List, [], ◌∷◌}
use native.Mathlib.Omega.{arith}
use borrow.Author.Tests.{leb-true, leb-false}
use lib.IntN.{ℤ}
use lib.ListN.{length}
use Rattle.messages.specs.Table.{pf_of, to_target}
use Rattle.frames.specs.Frame.{frame_of}
use Rattle.messages.specs.declared.received.Kind.TheVariants.{Voltages, Temperatures}
use Rattle.queries.specs.declared.Query.{Query}
use Rattle.queries.specs.Answering.{group_row, group_bytes, group_frame, past_end, at_last}

-- cells 1 to 6, with 331 and 332 last: group PF 32 is 00 00 00 00 4C 01 4B 01, priority 7, to the source of the query
pub group_32 :
    (a b c d own source : ℕ) (t : List ℤ)
    → group_frame own (a ∷ b ∷ c ∷ d ∷ 331 ∷ 332 ∷ []) t (record { source = source; kind = Voltages; group = 1 })
    ≡ frame_of (to_target 0x32 7) source own (0x00 ∷ 0x00 ∷ 0x00 ∷ 0x00 ∷ 0x4c ∷ 0x01 ∷ 0x4b ∷ 0x01 ∷ [])
unfolding group_frame group_bytes
group_32 a b c d own source t = refl

-- 255 cells end at PF 70 and A0: the group that is sent last, and no other, has that PF
module _ (v : List ℕ) (t : List ℤ) (source group : ℕ) where
  abbrev voltages : Query
  voltages = record { source = source; kind = Voltages; group = group }

  abbrev temperatures : Query
  temperatures = record { source = source; kind = Temperatures; group = group }

  pub voltages_end :
      length v ≡ 255 → past_end v t voltages ≡ false → at_last v t voltages ≡ true → pf_of (group_row Voltages group) ≡ 0x70
  unfolding past_end at_last
  voltages_end n p l =
      omega (arith, leb-false (length v) (group * 4) p, leb-true (length v) ((group + 1) * 4) l)

  pub temperatures_end :
      length t ≡ 255 → past_end v t temperatures ≡ false → at_last v t temperatures ≡ true
      → pf_of (group_row Temperatures group) ≡ 0xa0
  unfolding past_end at_last
  temperatures_end n p l =
      omega (arith, leb-false (length t) (group * 8) p, leb-true (length t) ((group + 1) * 8) l)

-- and each is sent: group 63 of the voltages and 31 of the temperatures are there, and are last
pub voltages_sent :
    (v : List ℕ) (t : List ℤ) (source : ℕ) → length v ≡ 255
    → (past_end v t (record { source = source; kind = Voltages; group = 63 }) ≡ false)
    × (at_last v t (record { source = source; kind = Voltages; group = 63 }) ≡ true)
unfolding past_end at_last
voltages_sent v t source n = rw n (refl, refl)

pub temperatures_sent :
    (v : List ℕ) (t : List ℤ) (source : ℕ) → length t ≡ 255
    → (past_end v t (record { source = source; kind = Temperatures; group = 31 }) ≡ false)
    × (at_last v t (record { source = source; kind = Temperatures; group = 31 }) ≡ true)
unfolding past_end at_last
temperatures_sent v t source n = rw n (refl, refl)
