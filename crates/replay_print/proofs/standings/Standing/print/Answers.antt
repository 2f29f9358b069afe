use Rattle.replay_print.specs.Standings.{standing_text}
use Rattle.replay_print.proofs.Laws.{prints_eq, prints_then}
use Rattle.replay_print.proofs.standings.Standing.print.Goals as goal

pub returns-in-In : goal.returns-in-In
unfolding standing_text
returns-in-In g c =
    rw c.in-In.is
    (prints_then (prints_eq c.text-in-In-2.ensures c.text-in-In.ensures) (prints_then c.put.ensures c.byte.ensures))
