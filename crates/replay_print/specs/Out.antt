-- The output waits in a buffer. Each byte goes to the free place; a buffer that is full is written out, and is filled
-- from its start again. Nothing here depends on what the system does with the bytes written out.
use Rattle.std.specs.Prelude.{ℕ, ◌+◌, ◌≡◌, cond, List, [], ◌∷◌, ltb, set}
use Rattle.replay_print.specs.declared.out.Out.{Out}

-- the bytes of the buffer: the length of `Out` in the code
abbrev pub out_size : ℕ
out_size = 65536

-- the output as the code keeps it: what the buffer holds, and its free place
pub record Output : Type 0 where
  pub holds : List ℕ
  pub free : ℕ

-- a buffer with its free place
abbrev pub out_of : List ℕ → ℕ → Output
out_of holds free = record { holds = holds; free = free }

-- a byte at a place of the buffer, and the place past it free
abbrev pub stored_at : ℕ → ℕ → Output → Output
stored_at at b x = out_of (set x.holds at b) (at + 1)

-- one byte more: at the free place, or at the start where the buffer is full
unfoldable pub put_of : ℕ → Output → Output
put_of b x = cond (ltb x.free out_size) (stored_at x.free b x) (stored_at 0 b x)

-- the bytes of a text, one after the other
unfoldable pub laid_of : List ℕ → Output → Output
laid_of [] x = x
laid_of (b ∷ text) x = laid_of text (put_of b x)

-- what waits in an output of the code: its buffer, of which the bytes before the free place wait
abbrev pub waits : {W : Type 0} → Out W → Output
waits o = out_of o.buf o.at

-- what it is to print a text: the output `old` becomes `new` by the bytes of the text laid one after the other and by
-- nothing else
pub record Prints {W : Type 0} (old new : Out W) (text : List ℕ) : Type 0 where
  pub later : waits new ≡ laid_of text (waits old)
