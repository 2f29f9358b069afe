use Rattle.replay_print.specs.Frames.{time_text}
use Rattle.replay_print.proofs.Laws.{prints_then}
use Rattle.replay_print.proofs.frames.time.Goals as goal

pub returns : goal.returns
unfolding time_text
returns g c =
    prints_then c.put.ensures
    (prints_then c.decimal.ensures
    (prints_then c.put-2.ensures (prints_then c.decimal-2.ensures c.put-3.ensures)))
