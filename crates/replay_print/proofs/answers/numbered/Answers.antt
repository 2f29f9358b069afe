use Rattle.replay_print.specs.Answers.{numbered_line}
use Rattle.replay_print.proofs.Laws.{prints_eq, prints_then}
use Rattle.replay_print.proofs.Spelled.{padded_one}
use Rattle.replay_print.proofs.answers.numbered.Goals as goal

pub returns : goal.returns
unfolding numbered_line
returns g c =
    prints_then c.text.ensures (prints_then (prints_eq c.decimal.ensures (padded_one _)) c.put.ensures)
