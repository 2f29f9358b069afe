use Rattle.std.proofs.Common.{◌≡◌, ◌+◌, ◌-◌, ◌*◌, sym, ◌∙◌, arith}
use Rattle.replay_text.specs.Chars.{byte_at}
use Rattle.replay_text.proofs.Pairs.{read_more, read_all, read_half, none_left, half_left, digit_within}
use Rattle.replay_text.proofs.hex.read_bytes.Goals as goal

pub overflow_add-at : goal.overflow_add-at
overflow_add-at c =
    let w = digit_within c.args.text.now c.loop-n.at c.in-Some.high (sym c.digit_at.ensures ∙ c.in-Some.is) in
    omega arith

pub overflow_add-at-in-loop-n : goal.overflow_add-at-in-loop-n
overflow_add-at-in-loop-n c =
    let w = digit_within c.args.text.now (c.loop-n.at + 1) c.in_ok-low.low (sym c.digit_at-in-loop-n.ensures ∙ c.in_ok-low.was) in
    omega arith

pub loop-n-preserved : goal.loop-n-preserved
loop-n-preserved c =
    read_more c.args.text.now c.args.from c.args.out.now c.loop-n.invariant (omega (arith, c.loop-n.invariant.long)) (omega arith)
    c.in-Some.high c.in_ok-low.low (sym c.digit_at.ensures ∙ c.in-Some.is) (sym c.digit_at-in-loop-n.ensures ∙ c.in_ok-low.was)

pub returns-in_err-low : goal.returns-in_err-low
returns-in_err-low c =
    let t = c.args.text.now in
    let h = half_left t c.loop-n.n c.loop-n.at (omega arith) c.in-Some.high (sym c.digit_at.ensures ∙ c.in-Some.is)
    (sym c.digit_at-in-loop-n.ensures ∙ c.in_err-low.was) in
    let r = read_half t c.args.from c.args.out.now c.loop-n.invariant (byte_at t c.loop-n.at) h in
    record { answer = c.from_residual.ensures ∙ r.0; later = r.1 }

pub returns-in_default : goal.returns-in_default
returns-in_default c =
    let n = none_left c.args.text.now c.loop-n.n c.loop-n.at (sym c.digit_at.ensures ∙ c.in_default.is) in
    let r = read_all c.args.text.now c.args.from c.args.out.now c.loop-n.invariant n in
    record { answer = r.0; later = r.1 }

pub returns : goal.returns
returns c =
    let n : c.loop-n.n ≡ 2048 = omega arith in
    let z : 4096 - 2 * c.loop-n.n ≡ 0 = omega arith in
    let r = read_all c.args.text.now c.args.from c.args.out.now c.loop-n.invariant (rw z) in
    record { answer = rw (← n) r.0; later = r.1 }
