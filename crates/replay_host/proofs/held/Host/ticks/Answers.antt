use Rattle.std.proofs.Common.{◌≡◌, ◌-◌, ◌+◌, ◌<◌, refl, ap, ◌∙◌, arith}
use Rattle.replay_host.specs.Host.{keeps_of}
use Rattle.replay_host.specs.Ticks.{lending}
use Rattle.replay_host.proofs.Outcomes.{comes_none, comes_eq}
use Rattle.replay_host.proofs.Ticking.{going_first, going_on, going_last, held_none, no_ticks}
use Rattle.replay_host.proofs.held.Host.ticks.Goals as goal

pub returns-then-is_none : goal.returns-then-is_none
returns-then-is_none g c =
    let l = c.args.loan.now in
    let none = held_none _ c.if-is_none.ensures in
    let e = no_ticks l.lent l.volts l.temps c.args.n l.buffer (keeps_of c.args.self.now) none in
    record { comes = comes_eq (comes_none _) e.0; loan_after = ap (lending l) e.1 }

pub loop-init : goal.loop-init
loop-init g c =
    let e : c.args.n - 0 ≡ c.args.n = omega arith in
    record { lent = refl; going = rw e (going_first _ _ _) }

pub loop-preserved : goal.loop-preserved
loop-preserved g c =
    let i = c.loop.invariant in
    let s : c.args.n - (c.loop.counter + 1) ≡ c.args.n - c.loop.counter - 1 = omega arith in
    let b : 0 < c.args.n - c.loop.counter = omega arith in
    let r = going_on c.args.loan.now c.loop.loan _ b i.lent i.going c.tick.ensures.comes c.tick.ensures.loan_after in
    record { lent = r.0; going = rw s r.1 }

pub returns : goal.returns
returns g c =
    let i = c.loop.invariant in
    let z : c.args.n - c.loop.counter ≡ 0 = omega arith in
    let r = going_last (rw z at i.going) in
    record { comes = r.0; loan_after = i.lent ∙ ap (lending c.args.loan.now) r.1 }
