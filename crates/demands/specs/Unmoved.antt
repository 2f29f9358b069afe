-- Demand 3, second half: charge messages never change a broadcast, a cell answer or the number that a query is given.
-- For `unmoved`; that these frames are those that a tick is seen to send: `seen_tick`.
use Rattle.std.specs.Prelude.{ℕ, ◌≡◌, Bool, false, cond, List, [], ◌∷◌, ◌++◌, ℤ, length}
use Rattle.frames.specs.declared.Frame.{Frame}
use Rattle.readings.specs.declared.Readings.{Readings}
use Rattle.controller.specs.declared.Controller.{Controller}
use Rattle.controller.specs.Frame.{frame_to}
use Rattle.refusals.specs.Tick.{tick_number}
use Rattle.controller.specs.Tick.{broadcast_frames, cell_frames}
use Rattle.controller.specs.With.{with_session}
use Rattle.demands.specs.Machine.{Call, Receive, Tick, Write, Read}
use Rattle.demands.specs.After.{accepts, after, is_charge}

-- a frame that by its PF is a charge message, well formed or not, from any address
unfoldable pub is_charge_message : Call → Bool
is_charge_message (Receive id s) = is_charge id
is_charge_message (Tick r v t old) = false
is_charge_message (Write old) = false
is_charge_message (Read s) = false

-- the calls without the charge messages
unfoldable pub others : List Call → List Call
others [] = []
others (e ∷ es) = cond (is_charge_message e) (others es) (e ∷ others es)

-- what comes out beside the session: to a frame that is no charge message, so to each query, the number given; at a
-- tick its number and the broadcasts and the cell frame sent, of which a refused one sends none
pub data Output : Type 0 where
  NumberGiven : ℕ → Output
  FramesSent : ℕ → List Frame → Output

unfoldable pub beside_at : Controller → Readings → List ℕ → List ℤ → List ℕ → List Frame
beside_at c r v t old = cond (accepts r v t old) (broadcast_frames c r v t ++ cell_frames c r v t) []

unfoldable pub output_at : Controller → Call → List Output
output_at c (Receive id s) = cond (is_charge id) [] (NumberGiven (frame_to c id s).number ∷ [])
output_at c (Tick r v t old) = FramesSent (tick_number r v t (length old)) (beside_at c r v t old) ∷ []
output_at c (Write old) = []
output_at c (Read s) = []

unfoldable pub outputs : Controller → List Call → List Output
outputs c [] = []
outputs c (e ∷ es) = output_at c e ++ outputs (after c e) es

-- the same settings, the same place in the broadcasts and the same waiting queries, whatever the sessions are: the one
-- with the other's session is the other
abbrev pub Beside : Controller → Controller → Type 0
Beside c d = with_session c d.session ≡ d
