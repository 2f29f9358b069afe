-- When the broadcasts are sent (01, "Broadcasts and cell answers"). Accepted ticks are counted from 0 and for ever.
use Rattle.std.specs.Prelude.{ℕ, ◌+◌, ◌-◌, ◌*◌, ◌/◌, ◌%◌, Bool, cond, eqb, ltb}
use Rattle.broadcasts.specs.declared.beat.Beat.{Beat}

-- "Accepted ticks 0, 30, 60 and on"
abbrev pub broadcast_each : ℕ
broadcast_each = 30

abbrev pub due_at : ℕ → Bool
due_at tick = eqb (tick % broadcast_each) 0

-- "80 hex on every second sending, first clear": tick 30 n is sending n, counted from 0, and the odd ones have it on
abbrev pub heartbeat_at : ℕ → Bool
heartbeat_at tick = eqb (tick / broadcast_each % 2) 1

-- two sendings, after which all begins again
abbrev pub two_sendings : ℕ
two_sendings = 2 * broadcast_each

-- What is kept of the tick number: 0 of a fresh controller, and after 59, the last tick of two sendings, it is 0 again.
-- The law `in_step` (proofs/InStep.antt) says that it passes the same tests as the number that grows.
abbrev pub first_beat : Beat
first_beat = record { tick = 0 }

abbrev pub next_beat : Beat → Beat
next_beat b = record { tick = cond (ltb b.tick (two_sendings - 1)) (b.tick + 1) 0 }
