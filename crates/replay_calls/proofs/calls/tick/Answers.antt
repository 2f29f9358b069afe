use Rattle.replay_calls.proofs.Parts.{tick_lent}
use Rattle.replay_calls.proofs.calls.tick.Goals as goal

pub returns : goal.returns
returns c =
    tick_lent c.args.c.now c.args.l c.args.v.now c.args.t.now c.args.buf.now _ _ _
    c.min-room.ensures
    c.tick.auto.buf
    (rw (← c.first.ensures, ← c.first-2.ensures) c.tick.ensures)
