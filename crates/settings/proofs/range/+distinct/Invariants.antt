-- The list gets shorter.
use Rattle.std.proofs.Common.{length}
use Rattle.settings.proofs.range.+distinct.Given as goal

abbrev pub decreases-distinct : goal.decreases-distinct
decreases-distinct l = length l.l.now
