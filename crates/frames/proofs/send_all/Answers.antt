-- One frame more, behind those that are sent.
use Rattle.std.proofs.Common.{sym, arith}
use Rattle.std.proofs.lemmas.List.{take_more}
use Rattle.frames.proofs.Laws.{sent_none, sent_then, sent_eq}
use Rattle.frames.proofs.send_all.Goals as goal

pub loop-f-init : goal.loop-f-init
loop-f-init c = sent_none _ _ (omega (arith, c.requires))

pub loop-f-preserved : goal.loop-f-preserved
loop-f-preserved c =
    sent_eq (sent_then c.loop-f.invariant c.send-next.ensures)
    (sym (take_more c.args.frames.now c.loop-f.f-index _ c.loop-f-test.true))
