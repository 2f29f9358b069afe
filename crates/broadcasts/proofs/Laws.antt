-- The sendings in the paper's words: every thirtieth tick, the heartbeat clear at the first and turned at each; and the
-- bytes of status byte one. Assumes nothing.
use Prim.Native.Nat.{ℕ, zero, suc, ◌+◌, ◌*◌, ◌/◌, ◌%◌, ◌<◌, ◌≤◌}
use mathlib.Core.Path.{◌≡◌, refl}
use mathlib.Core.Bool.{Bool, true, false, not}
use native.Mathlib.Omega.{arith}
use borrow.Author.Tests.{eq-eqb, ne_eqb, eqb-true, eqb-false}
use lib.Dec.{eqb}
use Rattle.broadcasts.specs.Beat.{broadcast_each, due_at, heartbeat_at}
use Rattle.broadcasts.specs.Layouts.{status_byte}

-- a tick is due exactly when it is `broadcast_each` times a number, which is then the number of the sending
pub due_at_lem : (n : ℕ) → due_at (broadcast_each * n) ≡ true
due_at_lem n = eq-eqb (broadcast_each * n % broadcast_each) 0 (omega arith)

pub due_only : (tick : ℕ) → due_at tick ≡ true → tick ≡ broadcast_each * (tick / broadcast_each)
due_only tick e = omega (arith, eqb-true (tick % broadcast_each) 0 e)

-- first clear, and turned at each sending
pub first_clear : heartbeat_at 0 ≡ false
first_clear = refl

turned : (k m : ℕ) (b : Bool) → eqb (k % 2) 1 ≡ b → m ≡ suc k → eqb (m % 2) 1 ≡ not b
turned k m true e h = ne_eqb (m % 2) 1 (λ f. omega (arith, eqb-true (k % 2) 1 e, f, h))
turned k m false e h = eq-eqb (m % 2) 1 (omega (arith, ne (k % 2) (eqb-false (k % 2) 1 e) (omega arith), h))
  where
    ne : (x : ℕ) → (x ≡ 1 → ⊥) → x < 2 → x ≡ 0
    ne zero f h = refl
    ne (suc zero) f h = absurd (f refl)
    ne (suc (suc x)) f h = absurd (omega arith)

pub every_second : (tick : ℕ) → heartbeat_at (tick + broadcast_each) ≡ not (heartbeat_at tick)
every_second tick =
    turned (tick / broadcast_each) ((tick + broadcast_each) / broadcast_each) (heartbeat_at tick) refl (omega arith)

-- status byte one is 0 to 127: it stands as it is, and with 80 hex above it
pub status_clear : (one : ℕ) → one ≤ 127 → status_byte false one ≡ one
status_clear one h = omega arith

pub status_on : (one : ℕ) → one ≤ 127 → status_byte true one ≡ 0x80 + one
status_on one h = omega arith
