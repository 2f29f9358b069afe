use Rattle.replay_host.proofs.Carrying.{unreadable_by}
use Rattle.replay_host.proofs.lines.Run.line.Goals as goal

pub returns-in-None : goal.returns-in-None
returns-in-None g c = unreadable_by c.args.self.now c.in-None.is c.unreadable.ensures
