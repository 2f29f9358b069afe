-- Rows of 01, "Worked rows", marked P, that are about identifiers. Assumes nothing.
use mathlib.Core.Path.{◌≡◌, refl}
use Prim.Native.Nat.{ℕ}
use Rattle.messages.specs.Table.{EIM, PS, EEM}
use Rattle.messages.specs.Identifier.{number_of, identifier_of}

-- EIM from F4 to 56 is 182756F4
pub eim_identifier : identifier_of EIM 0x56 0xf4 ≡ 0x1827_56f4
unfolding number_of
eim_identifier = refl

-- PS is 1CFA20F4, whatever target is named: it is a broadcast
pub ps_identifier : (target : ℕ) → identifier_of PS target 0xf4 ≡ 0x1cfa_20f4
unfolding number_of
ps_identifier target = refl

-- EEM is 081E56F4
pub eem_identifier : identifier_of EEM 0x56 0xf4 ≡ 0x081e_56f4
unfolding number_of
eem_identifier = refl
