-- So many bytes are printed.
use Rattle.std.proofs.Common.{take}
use Rattle.replay_print.specs.Out.{Prints}
use Rattle.replay_print.specs.Text.{hexes_of}
use Rattle.replay_print.proofs.out.Out.bytes.Given as goal

abbrev pub invariant-loop-b : goal.invariant-loop-b
invariant-loop-b g l = Prints l.fn.self l.self (hexes_of (take l.b-index l.s))
