use Rattle.queries.proofs.Four.{moved_places}
use Rattle.queries.proofs.Queries.moved.Goals as goal

pub returns : goal.returns
returns c =
    moved_places _ _ _ c.requires.0 c.first_of.ensures
