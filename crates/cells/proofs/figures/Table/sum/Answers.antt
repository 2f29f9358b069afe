use Rattle.std.proofs.Common.{◌≡◌, ◌∙◌, rules}
use Rattle.std.specs.List.{sum_by}
use Rattle.std.proofs.iter.runs.Made.{chains}
use Rattle.cells.proofs.Walks.{sum_is}
use Rattle.cells.proofs.figures.Table.sum.Goals as goal

pub returns : goal.returns
returns g c =
    let e : c.sum.result ≡ sum_by g.R.Reading.sent c.args.self.now.cells.now = search (rules, chains) in
    e ∙ sum_is g.R.Reading.sent c.args.self.now.cells.now
