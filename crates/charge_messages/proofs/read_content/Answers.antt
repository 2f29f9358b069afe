-- A line a message: what the reader of its bytes gives is `content_of` there, and the number follows.
use Rattle.std.proofs.Common.{ap, ◌∙◌}
use Rattle.charge_messages.specs.Content.{cvm_of, crm_of, ccs_of, cst_of, cem_of, content_of}
use Rattle.charge_messages.proofs.Numbers.{answered}
use Rattle.charge_messages.proofs.read_content.Goals as goal

pub returns-in-Cim-clause-number : goal.returns-in-Cim-clause-number
unfolding content_of
returns-in-Cim-clause-number c =
    (answered c.args.m c.args.bytes.now c.cim.result
    (rw (c.in-Cim.is, ← c.byte_at-a.ensures, ← c.byte_at-b.ensures, ← c.byte_at.ensures) c.cim.ensures)).0

pub returns-in-Cmp-clause-number : goal.returns-in-Cmp-clause-number
unfolding content_of
returns-in-Cmp-clause-number c = (answered c.args.m c.args.bytes.now c.cmp.result (rw c.in-Cmp.is c.cmp.ensures)).0

pub returns-in-Cvm-clause-number : goal.returns-in-Cvm-clause-number
unfolding content_of
returns-in-Cvm-clause-number c =
    (answered c.args.m c.args.bytes.now c.cvm.result
    (rw c.in-Cvm.is (c.cvm.ensures ∙ ap cvm_of c.byte_at-in-Cvm.ensures))).0

pub returns-in-Crm-clause-number : goal.returns-in-Crm-clause-number
unfolding content_of
returns-in-Crm-clause-number c =
    (answered c.args.m c.args.bytes.now c.crm.result
    (rw c.in-Crm.is (c.crm.ensures ∙ ap crm_of c.byte_at-in-Crm.ensures))).0

pub returns-in-Ccs-clause-number : goal.returns-in-Ccs-clause-number
unfolding content_of
returns-in-Ccs-clause-number c =
    (answered c.args.m c.args.bytes.now c.ccs.result
    (rw c.in-Ccs.is (c.ccs.ensures ∙ ap ccs_of c.byte_at-in-Ccs.ensures))).0

pub returns-in-Cst-clause-number : goal.returns-in-Cst-clause-number
unfolding content_of
returns-in-Cst-clause-number c =
    (answered c.args.m c.args.bytes.now c.cst.result
    (rw c.in-Cst.is (c.cst.ensures ∙ ap cst_of c.byte_at-in-Cst.ensures))).0

pub returns-in-Cem-clause-number : goal.returns-in-Cem-clause-number
unfolding content_of
returns-in-Cem-clause-number c =
    (answered c.args.m c.args.bytes.now c.cem.result
    (rw c.in-Cem.is (c.cem.ensures ∙ ap cem_of c.byte_at-in-Cem.ensures))).0
