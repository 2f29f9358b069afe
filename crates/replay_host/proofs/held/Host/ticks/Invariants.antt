-- The ticks that are left come to what all of them come to.
use Rattle.std.proofs.Common.{◌-◌, ◌≡◌}
use Rattle.replay_print.specs.Out.{waits}
use Rattle.replay_host.specs.Host.{keeps_of}
use Rattle.replay_host.specs.Ticks.{lending}
use Rattle.replay_host.proofs.Ticking.{Going}
use Rattle.replay_host.proofs.held.Host.ticks.Given as goal

abbrev pub invariant-loop : goal.invariant-loop
invariant-loop g l = record {
  lent : l.loan ≡ lending l.fn.loan l.loan.buffer;
  going : Going l.fn.loan.lent l.fn.loan.volts l.fn.loan.temps l.n l.fn.loan.buffer (keeps_of l.fn.self)
      (waits l.fn.self.out) (l.n - l.counter) l.loan.buffer (keeps_of l.self) (waits l.self.out);
}
