use Rattle.std.proofs.Common.{◌∙◌, arith}
use Rattle.queries.specs.Waiting.{waiting}
use Rattle.queries.proofs.Four.{added_places}
use Rattle.queries.proofs.Queries.added.Goals as goal

pub returns-in-0 : goal.returns-in-0
unfolding waiting
returns-in-0 c =
    c.first_of.ensures ∙ rw c.in-0.is

pub returns-in-1 : goal.returns-in-1
unfolding waiting
returns-in-1 c =
    c.first_of-in-1.ensures ∙ rw c.in-1.is

pub returns-in-2 : goal.returns-in-2
unfolding waiting
returns-in-2 c =
    c.first_of-in-2.ensures ∙ rw c.in-2.is

pub returns-in_default : goal.returns-in_default
returns-in_default c =
    added_places _ _ _ c.requires (λ e. omega arith) (λ e. omega arith) (λ e. omega arith) c.first_of-in_default.ensures
