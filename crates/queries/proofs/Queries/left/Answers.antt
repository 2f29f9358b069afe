use Rattle.queries.proofs.Four.{left_places, none_places}
use Rattle.queries.proofs.Queries.left.Goals as goal

pub returns-then-n-gt0 : goal.returns-then-n-gt0
returns-then-n-gt0 c =
    left_places _ _ c.min-n.result c.min-n.ensures c.if-n-gt0.true c.first_of.ensures

pub returns-else-n-gt0 : goal.returns-else-n-gt0
returns-else-n-gt0 c =
    none_places _ _ c.min-n.result c.min-n.ensures c.if-n-gt0.false c.none.ensures
