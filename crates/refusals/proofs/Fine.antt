-- What a tick that no number refuses has. Assumes nothing.
use Prim.Native.Nat.{ℕ, ◌≤◌}
use native.Mathlib.Omega.{arith}
use mathlib.Core.Path.{◌≡◌, refl}
use mathlib.Core.Bool.{Bool, true, false, cond, ◌&&◌}
use mathlib.Core.List.{List}
use lib.Dec.{ltb}
use lib.IntN.{ℤ}
use borrow.Author.Tests.{ltb-false}
use Rattle.std.proofs.lemmas.Bool.{and_parts}
use Rattle.readings.specs.declared.Readings.{Readings}
use Rattle.readings.specs.Readings.{readings_in_range}
use Rattle.cells.specs.Tables.{tables_fit, cells_in_range}
use Rattle.refusals.specs.Tick.{tick_room, tick_number}

-- a tick that no number refuses has tables that fit, readings and cells in range, and room for nine frames
pub record Fine (r : Readings) (v : List ℕ) (t : List ℤ) (room : ℕ) : Type 0 where
  pub fits : tables_fit v t ≡ true
  pub range : (readings_in_range r && cells_in_range v t) ≡ true
  pub room_enough : tick_room ≤ room

tests : (a b c : Bool) → ◌≡◌ {A = ℕ} (cond a (cond b (cond c 16 0) 15) 14) 0 → (a ≡ true) × (b ≡ true) × (c ≡ false)
tests true true false e = (refl, refl, refl)
tests true true true e = absurd (omega (arith, e))
tests true false c e = absurd (omega (arith, e))
tests false b c e = absurd (omega (arith, e))

pub fine : (r : Readings) (v : List ℕ) (t : List ℤ) (room : ℕ) → tick_number r v t room ≡ 0 → Fine r v t room
unfolding tick_number
fine r v t room e =
    let h = tests (tables_fit v t) (readings_in_range r && cells_in_range v t) (ltb room tick_room) e in
    record { fits = h.0; range = h.1; room_enough = ltb-false room tick_room h.2 }

pub fine_cells : {r : Readings} {v : List ℕ} {t : List ℤ} {room : ℕ} → Fine r v t room → cells_in_range v t ≡ true
fine_cells {r} {v} {t} {room} f = (and_parts (readings_in_range r) (cells_in_range v t) f.range).1
