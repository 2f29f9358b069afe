use Rattle.std.proofs.Common.{◌≡◌, ◌∙◌, max, rules}
use Rattle.std.specs.List.{fold}
use Rattle.std.proofs.iter.runs.Made.{chains}
use Rattle.cells.proofs.Walks.{highest_is}
use Rattle.cells.proofs.figures.Table.highest.Goals as goal

pub returns : goal.returns
returns g c =
    let e : c.fold.result ≡ fold (λ h x. max (g.R.Reading.sent x) h) 0 c.args.self.now.cells.now = search (rules, chains) in
    e ∙ highest_is g.R.Reading.sent c.args.self.now.cells.now
