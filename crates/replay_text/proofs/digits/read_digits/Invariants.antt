-- What is read in the end is what has been read with the digits from the place come to.
use Rattle.std.proofs.Common.{◌≡◌, ◌+◌}
use Rattle.replay_text.specs.Digits.{digits_at, digits_after}
use Rattle.replay_text.proofs.digits.read_digits.Given as goal

abbrev pub invariant-loop-b : goal.invariant-loop-b
invariant-loop-b l = record {
  passed : l.count ≡ l.b-index;
  same : digits_at l.base l.text l.from ≡ digits_after l.base l.text l.count l.value (l.from + l.b-index);
}
