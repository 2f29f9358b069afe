-- Which of the frames sent are charge frames, which broadcasts and which cell frames, told by the PF of their
-- identifiers (01, "Identifier and message numbers", "Broadcasts and cell answers"). For `undisturbed`, `unmoved` and
-- `no_request_above`; that a tick's frames are told apart so is `charge_frames_told`, `broadcasts_told` and
-- `cell_frames_told`.
use Rattle.std.specs.Prelude.{ℕ, Bool, false, cond, ◌&&◌, ◌||◌, List, [], ◌∷◌, eqb, leb, ltb}
use Rattle.messages.specs.declared.table.Row.{Row}
use Rattle.messages.specs.Table.{pf_of, EIM, EVM, ECP, ERM, ECR, ECS, ESM, EST, EDM, EEM, PS, VOLTAGES}
use Rattle.messages.specs.Identifier.{parts_of}
use Rattle.frames.specs.declared.Frame.{Frame}

unfoldable pub pf_in : Frame → ℕ
pf_in f = (parts_of f.id).pf

-- "Us to station"
abbrev pub charge_rows : List Row
charge_rows = EIM ∷ EVM ∷ ECP ∷ ERM ∷ ECR ∷ ECS ∷ ESM ∷ EST ∷ EDM ∷ EEM ∷ []

-- one of the rows has this PF
abbrev pub some_row : ℕ → List Row → Bool
some_row pf [] = false
some_row pf (row ∷ rows) = eqb pf (pf_of row) || some_row pf rows

unfoldable pub is_charge_frame : Frame → Bool
is_charge_frame f = some_row (pf_in f) charge_rows

-- "Broadcast PF FA"
unfoldable pub is_broadcast : Frame → Bool
is_broadcast f = eqb (pf_in f) (pf_of PS)

-- "4 voltages at PF 31 hex up or 8 temperatures at 81 up": from 31 hex up, below the broadcasts'
unfoldable pub is_cell_frame : Frame → Bool
is_cell_frame f = leb (pf_of VOLTAGES) (pf_in f) && ltb (pf_in f) (pf_of PS)

-- the frames of a kind, in their order
unfoldable pub only : (Frame → Bool) → List Frame → List Frame
only kind [] = []
only kind (f ∷ fs) = cond (kind f) (f ∷ only kind fs) (only kind fs)
