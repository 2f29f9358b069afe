-- The record is laid.
use Rattle.buffers.proofs.Laws.{laid_eq}
use Rattle.frames.proofs.Laws.{sent_one}
use Rattle.frames.proofs.Frame.send.Goals as goal

pub returns : goal.returns
returns c = sent_one _ (laid_eq c.lay.ensures c.record-r.ensures)
