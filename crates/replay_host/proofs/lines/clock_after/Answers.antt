use Rattle.std.proofs.Common.{sym}
use Rattle.replay_host.specs.Lines.{logged_clock}
use Rattle.replay_host.proofs.Carrying.{clock_by}
use Rattle.replay_host.proofs.lines.clock_after.Goals as goal

pub returns-in-Some : goal.returns-in-Some
unfolding logged_clock
returns-in-Some c = clock_by c.args.asked c.args.c _ _ _ _ c.in-Logged.is (sym c.in-Some.ensures)

pub returns-in-None : goal.returns-in-None
unfolding logged_clock
returns-in-None c = clock_by c.args.asked c.args.c _ _ _ _ c.in-Logged.is (sym c.in-None.ensures)
