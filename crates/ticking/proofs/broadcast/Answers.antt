-- The five where they are due, and nothing where they are not.
use Rattle.std.proofs.Common.{sym, ap, ◌∙◌, arith}
use Rattle.frames.proofs.Laws.{sent_none, sent_most, sent_eq}
use Rattle.broadcasts.specs.Sendings.{in_order}
use Rattle.ticking.proofs.broadcast.Goals as goal

pub returns-then-due : goal.returns-then-due
returns-then-due c =
    rw (sym c.due.ensures ∙ c.if-due.true)
    (sent_eq (rw c.in_order.ensures at c.send_all.ensures) (ap in_order (rw c.heartbeat.ensures at c.new-sending.ensures)))

pub returns-else-due : goal.returns-else-due
returns-else-due c = rw (sym c.due.ensures ∙ c.if-due.false) (sent_most (sent_none _ _ (omega arith)) 5 (omega arith))
