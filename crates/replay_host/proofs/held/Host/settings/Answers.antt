use Rattle.std.proofs.Common.{sym}
use Rattle.replay_host.specs.Host.{keeps_of}
use Rattle.replay_host.proofs.Outcomes.{comes_first, comes_eq, enters, made}
use Rattle.replay_host.proofs.held.Host.settings.Goals as goal

pub returns-in-Ok : goal.returns-in-Ok
returns-in-Ok g c =
    comes_eq (comes_first c.settings.ensures (enters c.args.self.now.held c.standing-before.ensures c.changed.ensures))
    (made (keeps_of c.args.self.now) _ _ (sym c.in-Ok.ensures.1))
