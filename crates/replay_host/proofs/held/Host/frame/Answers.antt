use Rattle.std.proofs.Common.{refl, ap, ◌∙◌}
use Rattle.replay_host.specs.Host.{keeps_of, answer_done}
use Rattle.replay_host.proofs.Outcomes.{comes_first, comes_eq, enters, frame_none, frame_of_lem}
use Rattle.replay_host.proofs.held.Host.frame.Goals as goal

pub returns-in_default : goal.returns-in_default
returns-in_default g c =
    comes_eq (record { kept = refl; prints = c.no_controller.ensures })
    (frame_none (keeps_of c.args.self.now) _ _ c.in_default.is)

pub returns : goal.returns
unfolding answer_done
returns g c =
    let x = keeps_of c.args.self.now in
    comes_eq
    (comes_first (rw c.number.ensures at c.frame.ensures)
    (enters c.args.self.now.held c.standing-before.ensures c.changed.ensures))
    (ap (answer_done x) c.frame-answer.ensures ∙ frame_of_lem x _ _ _ c.in-Some.is)
