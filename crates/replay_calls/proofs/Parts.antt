-- What is lent is the first so many of a buffer, or all of a shorter one; what a call says of that part is said of the
-- whole. Assumes nothing.
use Prim.Native.Nat.{ℕ, min}
use mathlib.Core.Path.{◌≡◌}
use mathlib.Core.List.{List, ◌++◌}
use native.Mathlib.Omega.{arith}
use lib.IntN.{ℤ}
use lib.ListN.{length, take, drop}
use Rattle.std.proofs.lemmas.Grind.{common_steps}
use Rattle.std.proofs.lemmas.List.{take_min}
use Rattle.controller.specs.Tick.{Ticked, TickIs}
use Rattle.controller.specs.declared.Controller.{Controller}
use Rattle.replay_script.specs.declared.lent.Lent.{Lent}
use Rattle.replay_calls.specs.Calls.{TickLent}

-- the whole after the part has been changed
whole : (n k : ℕ) (old part : List ℕ) → k ≡ min n (length old) → length part ≡ length (take k old)
    → (take n (part ++ drop k old) ≡ part) × (drop n (part ++ drop k old) ≡ drop n old)
whole n k old part e l = (grind (arith, common_steps), grind (arith, common_steps))

-- a tick, said of the whole tables and the whole buffer
pub tick_lent : (c : Controller) (l : Lent) (v : List ℕ) (t : List ℤ) (old part : List ℕ) (k : ℕ) (r : Ticked)
    → k ≡ min l.room (length old) → length part ≡ length (take k old)
    → TickIs c l.readings (take l.volts v) (take l.temps t) (take k old) part r
    → TickLent c l v t old (part ++ drop k old) r
tick_lent c l v t old part k r e m h =
    let a = whole l.room k old part e m in
    record {
      ticked = rw (a.0, ← take_min l.room old, ← e) h;
      rest = a.1;
    }
