-- No newline lies past the place come to.
use Rattle.std.proofs.Common.{◌≡◌, take}
use Rattle.replay_text.specs.Lines.{past_last}
use Rattle.replay_text.proofs.lines.past_last.Given as goal

abbrev pub invariant-loop-at : goal.invariant-loop-at
invariant-loop-at l = past_last l.text ≡ past_last (take l.at l.text)
