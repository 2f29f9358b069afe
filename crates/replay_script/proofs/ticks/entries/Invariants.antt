-- So many numbers are read and stored, and the rest are those from the place come to; the table is as it was.
use Rattle.std.proofs.Common.{◌≡◌}
use Rattle.replay_script.proofs.Entries.{Stored}
use Rattle.replay_script.proofs.ticks.entries.Given as goal

abbrev pub invariant-loop-n : goal.invariant-loop-n
invariant-loop-n g l = record {
  kept : l.table ≡ l.fn.table;
  stored : Stored g.T.Number.of l.text l.fn.zero l.past l.read l.n l.at;
}
