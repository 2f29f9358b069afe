use Rattle.std.proofs.Common.{◌≡◌, sym, ◌∙◌, arith}
use Rattle.replay_script.proofs.Entries.{stored_more, stored_done}
use Rattle.replay_script.proofs.ticks.entries.Goals as goal

pub loop-n-preserved : goal.loop-n-preserved
loop-n-preserved g c =
    record {
      kept = c.loop-n.invariant.kept;
      stored =
          stored_more _ _ c.loop-n.invariant.stored (omega arith) (sym c.is_end.ensures ∙ c.if-is_end.false)
          c.in_ok-x.x c.in_ok-x.next (sym c.next_number.ensures ∙ c.in_ok-x.was);
    }

pub returns-then-is_end-clause-answer : goal.returns-then-is_end-clause-answer
returns-then-is_end-clause-answer g c =
    (stored_done _ _ c.loop-n.invariant.stored c.args.table.now (sym c.is_end.ensures ∙ c.if-is_end.true)).0

pub returns-clause-answer : goal.returns-clause-answer
returns-clause-answer g c =
    let n : c.loop-n.n ≡ 512 = omega arith in
    rw n at (stored_done _ _ c.loop-n.invariant.stored c.args.table.now (sym c.is_end-2.ensures ∙ c.if-not-is_end.false)).0
