use Rattle.std.proofs.Common.{◌≡◌, ◌<◌, refl, sym, ◌∙◌, arith, true, false, slice_index_or}
use Rattle.replay_text.proofs.Walks.{past_more, past_here, past_over}
use Rattle.replay_text.proofs.past_all.Goals as goal

pub loop-at-init : goal.loop-at-init
loop-at-init g c = record { within = omega arith; same = refl }

pub loop-at-preserved : goal.loop-at-preserved
loop-at-preserved g c =
    let at = c.loop-at.at in
    let byte : slice_index_or c.args.text.now at 0 < 256 = omega (arith, c.type_inv.text at) in
    let t : g.test (slice_index_or c.args.text.now at 0) ≡ true
    = sym ((c.requires.1 _ byte).1 c.passes.result c.passes.ensures) ∙ c.if-not-passes.false in
    record {
      within = omega (arith, c.loop-at-test.true);
      same = c.loop-at.invariant.same ∙ past_more g.test c.args.text.now at c.loop-at-test.true t;
    }

pub returns-then-not-passes : goal.returns-then-not-passes
returns-then-not-passes g c =
    let at = c.loop-at.at in
    let byte : slice_index_or c.args.text.now at 0 < 256 = omega (arith, c.type_inv.text at) in
    let t : g.test (slice_index_or c.args.text.now at 0) ≡ false
    = sym ((c.requires.1 _ byte).1 c.passes.result c.passes.ensures) ∙ c.if-not-passes.true in
    sym (c.loop-at.invariant.same ∙ past_here g.test c.args.text.now at c.loop-at-test.true t)

pub returns : goal.returns
returns g c =
    let end : c.loop-at.at ≡ c.max.result
    = omega (arith, c.loop-at.invariant.within, c.loop-at.auto.at, c.loop-at-test.false, c.max.ensures) in
    sym (c.loop-at.invariant.same ∙ past_over g.test c.args.text.now c.loop-at.at (omega (arith, c.loop-at-test.false)) ∙ end)
