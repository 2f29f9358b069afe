use Rattle.std.proofs.Common.{◌≡◌, ◌∙◌, min, rules, ◌-◌, length, drop, take}
use Rattle.std.specs.List.{fold}
use Rattle.std.proofs.iter.runs.Made.{chains}
use Rattle.cells.proofs.Walks.{lowest_is, lowest_none}
use Rattle.cells.proofs.figures.Table.lowest.Goals as goal

pub returns-in-empty : goal.returns-in-empty
returns-in-empty g c = lowest_none g.R.Reading.sent c.args.self.now.cells.now c.in-empty.len_below

pub returns-in-len1-up : goal.returns-in-len1-up
returns-in-len1-up g c =
    let cells = c.args.self.now.cells.now in
    let e : c.fold.result ≡ fold (λ l x. min (g.R.Reading.sent x) l) c.sent.result (take (length cells - 1) (drop 1 cells)) = search (rules, chains) in
    e ∙ lowest_is g.R.Reading.sent cells c.first-item.result c.sent.result c.in-len1-up.len_at_least c.first-item.is c.sent.ensures
