-- The lines that are left come to what all of them come to.
use Rattle.std.proofs.Common.{◌-◌}
use Rattle.replay_print.specs.Out.{waits}
use Rattle.replay_host.specs.Lines.{world_of}
use Rattle.replay_host.proofs.Carrying.{Left}
use Rattle.replay_host.proofs.lines.Run.carry_out_lines.Given as goal

abbrev pub invariant-loop-at : goal.invariant-loop-at
invariant-loop-at g l =
    Left l.text l.last (world_of l.fn.self) (waits l.fn.self.host.out) l.at (world_of l.self) (waits l.self.host.out)

abbrev pub decreases-loop-at : goal.decreases-loop-at
decreases-loop-at g l = 65536 - l.at
