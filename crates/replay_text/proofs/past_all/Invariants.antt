-- The place that is sought is the same from the place come to as from the first; none past the text is come to.
use Rattle.std.proofs.Common.{◌≡◌, ◌≤◌, max, length}
use Rattle.replay_text.specs.Chars.{past_all}
use Rattle.replay_text.proofs.past_all.Given as goal

abbrev pub invariant-loop-at : goal.invariant-loop-at
invariant-loop-at g l = record {
  within : l.at ≤ max l.from (length l.text);
  same : past_all g.test l.text l.from ≡ past_all g.test l.text l.at;
}
