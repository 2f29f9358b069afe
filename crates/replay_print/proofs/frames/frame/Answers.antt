use Rattle.replay_print.specs.Frames.{frame_text}
use Rattle.replay_print.proofs.Laws.{prints_then}
use Rattle.replay_print.proofs.frames.frame.Goals as goal

pub returns : goal.returns
unfolding frame_text
returns g c =
    prints_then c.byte.ensures
    (prints_then c.byte-2.ensures
    (prints_then c.byte-3.ensures
    (prints_then c.byte-4.ensures (prints_then c.put.ensures c.bytes.ensures))))
