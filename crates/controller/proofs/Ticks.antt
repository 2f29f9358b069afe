-- What an accepted tick and a refused one come to, from their parts. Assumes nothing.
use Prim.Native.Nat.{ℕ, ◌*◌}
use native.Mathlib.Nat.{zero-add}
use mathlib.Core.Path.{◌≡◌, sym, ◌∙◌}
use mathlib.Core.Bool.{false}
use mathlib.Core.List.{List}
use lib.Dec.{eqb}
use lib.IntN.{ℤ}
use lib.ListN.{length}
use borrow.Author.Tests.{ne_eqb}
use Rattle.frames.specs.InnerSent.{Sent}
use Rattle.frames.specs.Frame.{record_size}
use Rattle.frames.proofs.Laws.{sent_start}
use Rattle.readings.specs.declared.Readings.{Readings}
use Rattle.refusals.specs.Tick.{most_frames, tick_number}
use Rattle.controller.specs.declared.Controller.{Controller}
use Rattle.controller.specs.Tick.{Ticked, tick_frames, tick_next, accepted, TickIs}

module _ (c : Controller) (r : Readings) (v : List ℕ) (t : List ℤ) (old : List ℕ) where
  -- the three parts, one after the other, are the tick's
  pub accepted_tick : (new : List ℕ) (next : ℕ) (k : Controller) → tick_number r v t (length old) ≡ 0
      → Sent most_frames old new 0 next (tick_frames c r v t) → k ≡ tick_next c r v t
      → TickIs c r v t old new (record { number = 0; bytes = next; controller = k })
  unfolding accepted
  accepted_tick new next k z s e =
      let n : next ≡ record_size * length (tick_frames c r v t) = s.past ∙ zero-add (record_size * length (tick_frames c r v t)) in
      record { number = sym z; bytes = rw z n; next = rw z e; later = rw z (sent_start s) }

  -- a refused tick changes nothing
  pub refused_tick : (n : ℕ) → n ≡ tick_number r v t (length old) → (n ≡ 0 → ⊥)
      → TickIs c r v t old old (record { number = n; bytes = 0; controller = c })
  unfolding accepted
  refused_tick n e h =
      let b : eqb (tick_number r v t (length old)) 0 ≡ false = ne_eqb (tick_number r v t (length old)) 0 (λ z. h (e ∙ z)) in
      record { number = e; bytes = rw b; next = rw b; later = rw b }
