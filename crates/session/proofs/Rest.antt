-- A turn that is no farewell sends the frames of the resulting state. Assumes nothing.
use mathlib.Core.Path.{◌≡◌, refl}
use mathlib.Core.List.{[], ◌∷◌}
use Prim.Native.Nat.{ℕ}
use types.Run.{OneOf, miss}
use denote.Enum.Declared.{tag_of}
use Rattle.session_by_tick.specs.contracts.Turn.{the_type}
use Rattle.settings.specs.declared.Settings.{Settings}
use Rattle.readings.specs.declared.Readings.{Readings}
use Rattle.cells.specs.declared.Cells.{Cells}
use Rattle.session_by_tick.specs.declared.Turn.{Turn}
use Rattle.session_by_tick.specs.declared.Turn.TheVariants.{On, Enter, Farewell, End}
use Rattle.session.specs.declared.Session.{Session}
use Rattle.session.specs.Frames.{frames_in, frames_of}

pub no_farewell : (x : Settings) (r : Readings) (c : Cells) (station : ℕ) (t : Turn) (s : Session) → OneOf (0 ∷ 1 ∷ 3 ∷ []) (tag_of the_type t)
    → frames_in x r c s.station s.count s.state ≡ frames_of x r c station t s
unfolding frames_of
no_farewell x r c station (On st) s h = refl
no_farewell x r c station (Enter st) s h = refl
no_farewell x r c station Farewell s h = absurd (miss (0 ∷ 1 ∷ 3 ∷ []) 2 tt h)
no_farewell x r c station End s h = refl
