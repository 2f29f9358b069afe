-- No frame is none of at most three.
use Rattle.std.proofs.Common.{arith}
use Rattle.frames.proofs.Laws.{sent_none, sent_most}
use Rattle.ticking.proofs.charge.Goals as goal

pub returns-in-Nothing : goal.returns-in-Nothing
returns-in-Nothing c = rw c.in-Nothing.is (sent_most (sent_none _ _ (omega (arith, c.requires))) 3 (omega arith))
