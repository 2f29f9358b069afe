use Rattle.replay_text.specs.Words.{is_gap}
use Rattle.replay_text.proofs.words.past_gaps.Given as goal

abbrev pub ghost-past_all : goal.ghost-past_all
ghost-past_all a = is_gap
