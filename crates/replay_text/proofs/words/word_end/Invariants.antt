use Rattle.replay_text.specs.Words.{in_word}
use Rattle.replay_text.proofs.words.word_end.Given as goal

abbrev pub ghost-past_all : goal.ghost-past_all
ghost-past_all a = in_word
