-- 2, then 17, then the record.
use Rattle.std.proofs.Common.{sym, ◌∙◌, arith}
use Rattle.settings.proofs.Laws.{range_four, wrote_0, wrote_2, wrote_17}
use Rattle.settings.proofs.write.write_settings.Goals as goal

pub returns-then-not-in_range : goal.returns-then-not-in_range
returns-then-not-in_range c = wrote_2 c.args.x c.args.buf.now _ c.in_range.ensures c.if-not-in_range.true

pub returns-then-buf-x : goal.returns-then-buf-x
returns-then-buf-x c = wrote_17 c.args.x c.args.buf.now _ c.in_range.ensures c.if-not-in_range.false c.if-buf-x.true

pub lay_record-requires : goal.lay_record-requires
lay_record-requires c =
    let h = range_four c.args.x (sym c.in_range.ensures ∙ c.if-not-in_range.false) in (h, omega arith)

pub returns : goal.returns
returns c =
    wrote_0 c.args.x c.args.buf.now _ c.in_range.ensures c.if-not-in_range.false c.if-buf-x.false _ _ c.lay_record.ensures
