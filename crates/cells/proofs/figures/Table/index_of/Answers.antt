use Rattle.std.proofs.Common.{◌∙◌, sym, rules}
use borrow.Author.Tests.{tests}
use Rattle.std.proofs.lemmas.Iterator.{YieldsList-from_slice}
use Rattle.std.proofs.lemmas.Iterator.Search.{position_from_yields_List}
use Rattle.cells.proofs.Walks.{has, index_found, index_missing}
use Rattle.cells.proofs.figures.Table.index_of.Goals as goal

pub returns-in-Some : goal.returns-in-Some
returns-in-Some g c =
    let cells = c.args.self.now.cells.now in
    let test = has g.R.Reading.sent c.args.value in
    let told = position_from_yields_List test _ _ _ c.position.ensures.ran (YieldsList-from_slice cells c.iter.ensures.rest) (λ x b q k. search (rules, tests)) in
    index_found g.R.Reading.sent c.args.value cells c.in-Some.i (sym told ∙ c.in-Some.is)

pub returns-in-None : goal.returns-in-None
returns-in-None g c =
    let cells = c.args.self.now.cells.now in
    let test = has g.R.Reading.sent c.args.value in
    let told = position_from_yields_List test _ _ c.position.result c.position.ensures.ran (YieldsList-from_slice cells c.iter.ensures.rest) (λ x b q k. search (rules, tests)) in
    index_missing g.R.Reading.sent c.args.value cells (sym told ∙ c.in-None.is)
