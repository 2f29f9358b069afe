-- None waits, the oldest is past its table, at its last group, or further.
use Rattle.queries.proofs.Outcomes.{answers_none, answers_past, answers_last, answers_more}
use Rattle.queries.proofs.Outcomes.{is_past, not_past, is_last, not_last, some_wait}
use Rattle.queries.proofs.Queries.answer.Goals as goal

pub returns-then-self-eq0 : goal.returns-then-self-eq0
returns-then-self-eq0 c =
    answers_none c.args.self.now c.args.own c.args.tables.now.volts.now c.args.tables.now.heat.now c.if-self-eq0.true _ c.none.ensures

pub returns-then-n-cells_before : goal.returns-then-n-cells_before
returns-then-n-cells_before c =
    answers_past c.args.self.now c.args.own c.args.tables.now.volts.now c.args.tables.now.heat.now (some_wait _ c.if-self-eq0.false)
    (is_past c.args.tables.now.volts.now c.args.tables.now.heat.now c.args.tables.now.fit c.args.self.now.first _ c.cells_before.ensures c.if-n-cells_before.true)
    _
    c.left.ensures

pub returns-then-n-cells_before-2 : goal.returns-then-n-cells_before-2
returns-then-n-cells_before-2 c =
    answers_last c.args.self.now c.args.own c.args.tables.now.volts.now c.args.tables.now.heat.now (some_wait _ c.if-self-eq0.false)
    (not_past c.args.tables.now.volts.now c.args.tables.now.heat.now c.args.tables.now.fit c.args.self.now.first _ c.cells_before.ensures c.if-n-cells_before.false)
    _
    _
    c.group_frame-frame.ensures
    (is_last c.args.tables.now.volts.now c.args.tables.now.heat.now c.args.tables.now.fit c.args.self.now.first _ c.cells_before-2.ensures c.if-n-cells_before-2.true)
    c.left-then-n-cells_before-2.ensures

pub returns-else-n-cells_before-2 : goal.returns-else-n-cells_before-2
returns-else-n-cells_before-2 c =
    answers_more c.args.self.now c.args.own c.args.tables.now.volts.now c.args.tables.now.heat.now (some_wait _ c.if-self-eq0.false)
    (not_past c.args.tables.now.volts.now c.args.tables.now.heat.now c.args.tables.now.fit c.args.self.now.first _ c.cells_before.ensures c.if-n-cells_before.false)
    _
    _
    c.group_frame-frame.ensures
    (not_last c.args.tables.now.volts.now c.args.tables.now.heat.now c.args.tables.now.fit c.args.self.now.first _ c.cells_before-2.ensures c.if-n-cells_before-2.false)
    c.moved.ensures
