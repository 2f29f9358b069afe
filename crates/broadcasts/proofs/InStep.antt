-- The counter that is kept and the number of accepted ticks that grows for ever pass the same tests, after any number
-- of ticks. Assumes nothing.
use Prim.Native.Nat.{ℕ, zero, suc, ◌+◌, ◌-◌, ◌/◌, ◌%◌}
use mathlib.Core.Path.{◌≡◌, refl}
use mathlib.Core.Bool.{Bool, true, false, cond}
use native.Mathlib.Omega.{arith}
use native.Mathlib.Numerals.{add-one}
use borrow.Author.Tests.{ltb-true, ltb-false}
use lib.Dec.{ltb}
use Rattle.settings.specs.declared.Versions.{Versions}
use Rattle.readings.specs.declared.Readings.{Readings}
use Rattle.cells.specs.declared.Cells.{Cells}
use Rattle.broadcasts.specs.declared.beat.Beat.{Beat}
use Rattle.broadcasts.specs.Beat.{broadcast_each, two_sendings, due_at, heartbeat_at, first_beat, next_beat}
use Rattle.broadcasts.specs.Sendings.{broadcast_at}

-- the counter after n accepted ticks
unfoldable pub beat_after : ℕ → Beat
beat_after zero = first_beat
beat_after (suc n) = next_beat (beat_after n)

-- the last tick of two sendings
abbrev last : ℕ
last = two_sendings - 1

next_tick : (t n : ℕ) (b : Bool) → ltb t last ≡ b → t ≡ n % two_sendings → cond b (t + 1) 0 ≡ suc n % two_sendings
next_tick t n true e h = omega (arith, ltb-true t last e, h)
next_tick t n false e h = omega (arith, ltb-false t last e, h)

-- it is the number of ticks modulo that of two sendings
pub tick_is : (n : ℕ) → (beat_after n).tick ≡ n % two_sendings
unfolding beat_after
tick_is zero = refl
tick_is (suc n) = next_tick (beat_after n).tick n (ltb (beat_after n).tick last) refl (tick_is n)

due_folds : (n : ℕ) → n % two_sendings % broadcast_each ≡ n % broadcast_each
due_folds n = omega arith

heartbeat_folds : (n : ℕ) → n % two_sendings / broadcast_each % 2 ≡ n / broadcast_each % 2
heartbeat_folds n = omega arith

pub due_in_step : (n : ℕ) → due_at (beat_after n).tick ≡ due_at n
due_in_step n = rw (tick_is n, due_folds n)

pub heartbeat_in_step : (n : ℕ) → heartbeat_at (beat_after n).tick ≡ heartbeat_at n
heartbeat_in_step n = rw (tick_is n, heartbeat_folds n)

-- one tick more, and the broadcasts of a tick, of the number that grows and of what is kept of it
pub next_kept : (n : ℕ) → record { tick = (n + 1) % two_sendings } ≡ next_beat (record { tick = n % two_sendings })
next_kept n = rw (next_tick (n % two_sendings) n (ltb (n % two_sendings) last) refl refl, add-one n)

pub broadcasts_kept :
    (n own : ℕ) (versions : Versions) (r : Readings) (c : Cells)
    → broadcast_at n own versions r c ≡ broadcast_at (n % two_sendings) own versions r c
broadcasts_kept n own versions r c = rw (due_folds n, heartbeat_folds n)

-- so a tick broadcasts what the growing number says
pub in_step :
    (n own : ℕ) (versions : Versions) (r : Readings) (c : Cells)
    → broadcast_at (beat_after n).tick own versions r c ≡ broadcast_at n own versions r c
in_step n own versions r c = rw (due_in_step n, heartbeat_in_step n)
