use Rattle.std.proofs.Common.{ℕ, ◌≡◌, ◌-◌, take, length, replicate, ap, ◌∙◌}
use Rattle.replay_print.specs.Text.{decimal_of, padded_of}
use Rattle.replay_print.proofs.Laws.{prints_eq, prints_then}
use Rattle.replay_print.proofs.Spelled.{spelled}
use Rattle.replay_print.proofs.out.Out.decimal.Goals as goal

pub returns : goal.returns
unfolding padded_of
returns g c =
    let e : take c.decimal-k.result c.decimal-k.new.out ≡ decimal_of c.args.n
    = c.decimal-k.ensures.digits ∙ spelled c.decimal-k.result c.args.n c.ranges.n.fits c.decimal-k.ensures.len in
    let k : c.decimal-k.result ≡ length (decimal_of c.args.n) = c.decimal-k.ensures.in_bounds.1 ∙ ap length e in
    let z = c.saturating_sub.ensures ∙ ap (λ (k : ℕ). c.args.width - k) k in
    prints_then (prints_eq c.repeated.ensures (ap (λ (n : ℕ). replicate n 48) z)) (prints_eq c.text.ensures e)
