-- 12, then 13, then one more waits.
use Rattle.std.proofs.Common.{◌∙◌, sym}
use Rattle.queries.proofs.Outcomes.{asked_12, asked_13, asked_0}
use Rattle.queries.proofs.Queries.ask.Goals as goal

pub returns-then-waits : goal.returns-then-waits
returns-then-waits c = asked_12 _ _ _ (sym c.waits.ensures ∙ c.if-waits.true)

pub returns-then-self-ge-MOST : goal.returns-then-self-ge-MOST
returns-then-self-ge-MOST c = asked_13 _ _ _ (sym c.waits.ensures ∙ c.if-waits.false) c.if-self-ge-MOST.true

pub returns : goal.returns
returns c = asked_0 _ _ _ (sym c.waits.ensures ∙ c.if-waits.false) c.if-self-ge-MOST.false _ c.added.ensures
