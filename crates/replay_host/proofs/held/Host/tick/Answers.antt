use Rattle.std.proofs.Common.{◌∙◌, ap}
use Rattle.replay_host.specs.Host.{keeps_of}
use Rattle.replay_host.specs.Ticks.{lending}
use Rattle.replay_host.proofs.Outcomes.{comes_none, comes_eq, enters}
use Rattle.replay_host.proofs.Ticking.{ticked_same, ticked_comes, tick_answer_lem, tick_none, tick_of_lem}
use Rattle.replay_host.proofs.held.Host.tick.Goals as goal

pub returns-in_default-clause-comes : goal.returns-in_default-clause-comes
returns-in_default-clause-comes g c =
    let l = c.args.loan.now in
    comes_eq (comes_none _)
    (tick_none l.lent l.volts l.temps l.buffer (keeps_of c.args.self.now) c.in_default.is).0

pub returns-in_default-clause-loan_after : goal.returns-in_default-clause-loan_after
returns-in_default-clause-loan_after g c =
    let l = c.args.loan.now in
    ap (lending l) (tick_none l.lent l.volts l.temps l.buffer (keeps_of c.args.self.now) c.in_default.is).1

pub returns-clause-comes : goal.returns-clause-comes
returns-clause-comes g c =
    let l = c.args.loan.now in
    let x = keeps_of c.args.self.now in
    let k = tick_answer_lem l.lent l.volts l.temps c.tick-answer.ensures in
    let e = tick_of_lem l.lent l.volts l.temps l.buffer x _ c.in-Some.is in
    comes_eq
    (ticked_comes c.tick-answer.result _ _ c.print.ensures
    (rw (c.counted-self.ensures, c.number.ensures)
    at (enters c.args.self.now.held c.standing-before.ensures c.changed.ensures)))
    (ticked_same x _ _ _ _ k.0 k.1 ∙ e.0)

pub returns-clause-loan_after : goal.returns-clause-loan_after
returns-clause-loan_after g c =
    let l = c.args.loan.now in
    let k = tick_answer_lem l.lent l.volts l.temps c.tick-answer.ensures in
    let e = tick_of_lem l.lent l.volts l.temps l.buffer (keeps_of c.args.self.now) _ c.in-Some.is in
    ap (lending l) (k.1 ∙ e.1)
