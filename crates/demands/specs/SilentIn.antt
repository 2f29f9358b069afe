-- A station that falls silent, told by the steps of a run (01, "What a reader can rely on"): as long as there is a
-- session, nothing that its station says is heeded. For `within_801` of the calls that were made.
use Rattle.std.specs.Prelude.{◌≡◌, false, List, [], ◌∷◌}
use Rattle.demands.specs.Machine.{Call, Box, NoController, Using}
use Rattle.demands.specs.Steps.{Step}
use Rattle.demands.specs.Silent.{Unheeded}
use Rattle.demands.specs.Told.{is_over}

unfoldable pub UnheededIn : Box → Call → Type 0
UnheededIn NoController k = Unit {0}
UnheededIn (Using c) k = Unheeded c k

unfoldable pub SilentIn : List Step → Type 0
SilentIn [] = Unit {0}
SilentIn (x ∷ xs) = is_over x.before ≡ false → UnheededIn x.before x.call × SilentIn xs
