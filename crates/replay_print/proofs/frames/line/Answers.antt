use Rattle.replay_print.specs.Frames.{sent_line}
use Rattle.replay_print.proofs.Laws.{prints_then}
use Rattle.replay_print.proofs.frames.line.Goals as goal

pub returns : goal.returns
unfolding sent_line
returns g c =
    prints_then c.time.ensures (prints_then c.text.ensures (prints_then c.frame.ensures c.put.ensures))
