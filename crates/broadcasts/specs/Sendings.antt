-- What a tick broadcasts (01, "Broadcasts and cell answers").
use Rattle.std.specs.Prelude.{ℕ, cond, List, [], ◌∷◌}
use Rattle.frames.specs.declared.Frame.{Frame}
use Rattle.settings.specs.declared.Versions.{Versions}
use Rattle.readings.specs.declared.Readings.{Readings}
use Rattle.cells.specs.declared.Cells.{Cells}
use Rattle.broadcasts.specs.declared.Broadcasts.{Broadcasts}
use Rattle.broadcasts.specs.Beat.{due_at, heartbeat_at}
use Rattle.broadcasts.specs.Layouts.{broadcasts_of}

-- "send PS, CVS, CTS, FWS, EC"
abbrev pub in_order : Broadcasts → List Frame
in_order b = b.ps ∷ b.cvs ∷ b.cts ∷ b.fws ∷ b.ec ∷ []

-- the frames of the accepted tick with this number
abbrev pub broadcast_at : ℕ → ℕ → Versions → Readings → Cells → List Frame
broadcast_at tick own versions r c = cond (due_at tick) (in_order (broadcasts_of own versions (heartbeat_at tick) r c)) []
