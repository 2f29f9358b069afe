use Rattle.replay_print.specs.Answers.{write_line}
use Rattle.replay_print.proofs.Laws.{prints_eq, prints_then}
use Rattle.replay_print.proofs.Spelled.{padded_one}
use Rattle.replay_print.proofs.answers.write.Goals as goal

pub returns : goal.returns
unfolding write_line
returns g c =
    prints_then c.text.ensures
    (prints_then (prints_eq c.decimal.ensures (padded_one _))
    (prints_then c.put.ensures
    (prints_then (prints_eq c.decimal-2.ensures (padded_one _))
    (prints_then c.put-2.ensures (prints_then c.written.ensures c.put-3.ensures)))))
