use Rattle.std.proofs.Common.{◌≡◌, ◌+◌, [], sym, ◌∙◌, arith, true, false, slice_index_or}
use borrow.Author.Tests.{lt-ltb, le-ltb}
use Rattle.replay_text.specs.Digits.{is_digit, digits_from}
use Rattle.replay_text.proofs.Walks.{rest_same, rest_within, rest_over, leading_none, leading_past}
use Rattle.replay_text.proofs.Values.{digits_more, digits_end}
use Rattle.replay_text.proofs.digits.read_digits.Goals as goal
use Rattle.replay_text.proofs.digits.read_digits.Goals.{else-loop-b-test, then-loop-b-test+in_default-2, then-loop-b-test+in_default}

pub loop-b-preserved : goal.loop-b-preserved
loop-b-preserved c =
    let base = c.args.base in
    let i = c.loop-b.b-index in
    let e = rest_same c.args.text.now c.args.from c.rest-b-items.ensures i in
    let d = sym c.digit.ensures ∙ c.in-Some.is in
    let t : is_digit base (slice_index_or c.rest-b-items.result.now i 0) ≡ true = rw d (lt-ltb _ _ c.if-x-base.true) in
    let w = rest_within c.args.text.now c.args.from c.rest-b-items.ensures i c.loop-b-test.true in
    let m = digits_more base c.args.text.now c.loop-b.count c.loop-b.value (c.args.from + i) w (rw (← e) t) in
    let a : c.args.from + (i + 1) ≡ c.args.from + i + 1 = omega arith in
    record {
      passed = omega arith;
      same = c.loop-b.invariant.same ∙ m ∙ rw (c.with_digit-value.ensures, ← e, d, a);
    }

pub returns : goal.returns
returns c =
    let base = c.args.base in
    let i = c.loop-b.b-index in
    let text = c.args.text.now in
    let from = c.args.from in
    let e = rest_same text from c.rest-b-items.ensures i in
    let none : digits_from base text (from + i) ≡ []
    = elim c.loop-b-test.branch [
      | else-loop-b-test w ↦ leading_past (is_digit base) text (from + i) (rest_over text from c.rest-b-items.ensures i w.loop-b-test.false)
      | then-loop-b-test+in_default-2 w ↦
          let t : is_digit base (slice_index_or c.rest-b-items.result.now i 0) ≡ false = rw (sym w.digit.ensures ∙ w.in-Some.is) (le-ltb _ _ w.if-x-base.false) in
          leading_none (is_digit base) text (from + i) (rest_within text from c.rest-b-items.ensures i w.loop-b-test.true) (rw (← e) t)
      | then-loop-b-test+in_default w ↦
          let t : is_digit base (slice_index_or c.rest-b-items.result.now i 0) ≡ false = rw (sym w.digit.ensures ∙ w.in_default.is) in
          leading_none (is_digit base) text (from + i) (rest_within text from c.rest-b-items.ensures i w.loop-b-test.true) (rw (← e) t)
    ] in
    sym
    (c.loop-b.invariant.same
    ∙ rw c.loop-b.invariant.passed (digits_end base text i c.loop-b.value (from + i) none))
