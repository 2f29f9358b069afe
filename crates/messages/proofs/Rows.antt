-- The rows of the code are the paper's, each in its place, and each name has its message's row: two computed tests over the
-- table.
use Rattle.std.proofs.Common.{◌≡◌, refl, [], ◌∷◌}
use Rattle.messages.specs.declared.table.TheConstants as code
use Rattle.messages.specs.Table.{rows}

pub rows_are_the_papers : code.ROWS ≡ rows
rows_are_the_papers = refl

pub names_are_the_papers :
    code.CIM ∷ code.CVM ∷ code.CMP ∷ code.CRM ∷ code.CCS ∷ code.CST ∷ code.CEM ∷ code.ACV ∷ code.ACT
    ∷ code.EIM ∷ code.EVM ∷ code.ECP ∷ code.ERM ∷ code.ECR ∷ code.ECS ∷ code.ESM ∷ code.EST ∷ code.EDM ∷ code.EEM
    ∷ code.PS ∷ code.CVS ∷ code.CTS ∷ code.FWS ∷ code.EC ∷ code.VOLTAGES ∷ code.TEMPERATURES ∷ []
    ≡ rows
names_are_the_papers = refl
