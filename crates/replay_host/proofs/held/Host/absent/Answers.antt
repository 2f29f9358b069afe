use Rattle.replay_host.proofs.Outcomes.{comes_none, comes_eq, absent_of}
use Rattle.replay_host.proofs.held.Host.absent.Goals as goal

pub returns-else-is_none : goal.returns-else-is_none
returns-else-is_none g c = comes_eq (comes_none _) (absent_of _ c.if-is_none.ensures)
