-- So many bytes are read and laid, and the rest are those of the digits to come (proofs/Pairs.antt).
use Rattle.replay_text.proofs.Pairs.{Reading}
use Rattle.replay_text.proofs.hex.read_bytes.Given as goal

abbrev pub invariant-loop-n : goal.invariant-loop-n
invariant-loop-n l = Reading l.text l.from l.fn.out l.out l.n l.at
