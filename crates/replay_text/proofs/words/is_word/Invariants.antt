-- What is left of the word is to stand at the place come to.
use Rattle.std.proofs.Common.{◌≡◌, drop}
use Rattle.replay_text.specs.Words.{is_word}
use Rattle.replay_text.proofs.words.is_word.Given as goal

abbrev pub invariant-loop-b : goal.invariant-loop-b
invariant-loop-b l = is_word l.text l.from l.s ≡ is_word l.text l.at (drop l.b-index l.s)
