-- The three parts are laid one after the other.
use Rattle.std.proofs.Common.{arith}
use Rattle.frames.proofs.Laws.{sent_no_more, sent_then, sent_most}
use Rattle.ticking.proofs.lay.Goals as goal

pub returns-in-Some : goal.returns-in-Some
returns-in-Some c =
    rw c.in-Some.is (sent_then c.charge-a.ensures (sent_then c.broadcast-b.ensures c.send.ensures))

pub returns-in-None : goal.returns-in-None
returns-in-None c =
    let b = c.broadcast-b.ensures in
    rw c.in-None.is (sent_then c.charge-a.ensures (sent_then b (sent_most (sent_no_more b) 1 (omega arith))))
