-- So many frames are printed.
use Rattle.replay_print.specs.Out.{Prints}
use Rattle.replay_print.specs.Frames.{sent_lines}
use Rattle.replay_print.proofs.frames.sent.Given as goal

abbrev pub invariant-loop-record : goal.invariant-loop-record
invariant-loop-record g l = Prints l.fn.o l.o (sent_lines l.tick l.record-index l.fn.bytes)
