use Rattle.replay_host.specs.Lines.{world_of}
use Rattle.replay_host.proofs.Carrying.{carries_eq, line_by, both, either, left_first, left_next, left_last}
use Rattle.replay_host.proofs.lines.Run.carry_out_lines.Goals as goal

pub loop-at-init : goal.loop-at-init
loop-at-init g c = left_first c.args.text.now c.args.last _ _

pub loop-at-preserved : goal.loop-at-preserved
loop-at-preserved g c =
    let l = c.loop-at in
    let e = c.line_end-end.ensures in
    let a = c.read_line-asked.ensures in
    let b = both l.at c.args.last (rw c.min.ensures at c.loop-at-test.true) in
    left_next c.args.text.now c.args.last l.at _ b.0 b.1 l.invariant e.0 e.2
    (carries_eq c.line.ensures
    (line_by c.args.text.now l.at _ _ (world_of l.self) _ _ _ _ e.2 c.next-self.ensures (
      a.answer,
      (a.bytes, (a.volts, a.temps)),
    )))

pub returns : goal.returns
returns g c =
    left_last c.args.text.now c.args.last c.loop-at.at
    (either c.loop-at.at c.args.last (rw c.min.ensures at c.loop-at-test.false))
    c.loop-at.invariant
