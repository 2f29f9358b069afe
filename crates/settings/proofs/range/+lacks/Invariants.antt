-- The list gets shorter.
use Rattle.std.proofs.Common.{length}
use Rattle.settings.proofs.range.+lacks.Given as goal

abbrev pub decreases-lacks : goal.decreases-lacks
decreases-lacks l = length l.l.now
