-- So many are printed.
use Rattle.std.proofs.Common.{replicate}
use Rattle.replay_print.specs.Out.{Prints}
use Rattle.replay_print.proofs.out.Out.repeated.Given as goal

abbrev pub invariant-loop : goal.invariant-loop
invariant-loop g l = Prints l.fn.self l.self (replicate l.counter l.b)
