use Rattle.replay_print.specs.Standings.{standing_line}
use Rattle.replay_print.proofs.Laws.{prints_then}
use Rattle.replay_print.proofs.standings.Standing.line.Goals as goal

pub returns : goal.returns
unfolding standing_line
returns g c =
    prints_then c.text.ensures (prints_then c.print.ensures c.put.ensures)
