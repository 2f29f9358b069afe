-- The list gets shorter.
use Rattle.std.proofs.Common.{length}
use Rattle.settings.proofs.range.+each_good.Given as goal

abbrev pub decreases-each_good : goal.decreases-each_good
decreases-each_good l = length l.l.now
