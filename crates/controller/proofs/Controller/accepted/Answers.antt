-- Nothing refuses the tick, so that the cells are accepted and the buffer has room; its parts are the tick's.
use Rattle.std.proofs.Common.{◌∙◌}
use Rattle.frames.proofs.Laws.{sent_eq}
use Rattle.cells.proofs.Bounds.{cells_bounded}
use Rattle.refusals.proofs.Fine.{fine, fine_cells}
use Rattle.controller.specs.Tick.{charge_frames, broadcast_frames, cell_frames, tick_frames, tick_next}
use Rattle.controller.proofs.Ticks.{accepted_tick}
use Rattle.controller.proofs.Controller.accepted.Goals as goal

pub invariant_of-tables : goal.invariant_of-tables
invariant_of-tables c = record { fit = (fine _ _ _ _ c.requires).fits }

pub invariant_of-accepted : goal.invariant_of-accepted
invariant_of-accepted c =
    let f = fine _ _ _ _ c.requires in
    record { bounded = rw c.summarize-c.ensures (cells_bounded _ _ f.fits (fine_cells f)) }

pub lay-bytes-requires : goal.lay-bytes-requires
lay-bytes-requires c = (fine _ _ _ _ c.requires).room_enough

pub returns : goal.returns
unfolding charge_frames broadcast_frames cell_frames tick_frames tick_next
returns c =
    accepted_tick _ _ _ _ _ _ _ _ c.requires
    (sent_eq c.lay-bytes.ensures (rw (c.tick-ticked.ensures.sent, c.answer-cell.ensures.frames, c.summarize-c.ensures)))
    (rw (c.next-self.ensures, c.tick-ticked.ensures.next, c.answer-cell.ensures.later, c.summarize-c.ensures))
