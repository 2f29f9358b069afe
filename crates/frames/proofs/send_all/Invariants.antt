-- So far the first so many are sent.
use Rattle.std.proofs.Common.{take}
use Rattle.frames.specs.InnerSent.{Sent}
use Rattle.frames.proofs.send_all.Given as goal

abbrev pub invariant-loop-f : goal.invariant-loop-f
invariant-loop-f l = Sent l.f-index l.fn.buf l.buf l.at l.next (take l.f-index l.frames)
