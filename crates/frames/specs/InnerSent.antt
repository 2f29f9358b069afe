-- What it is to send frames into a lent buffer: their records stand in a row, and the rest of the buffer is unchanged.
use Rattle.std.specs.Prelude.{ℕ, ◌+◌, ◌*◌, ◌≤◌, ◌≡◌, List, length}
use Rattle.buffers.specs.InnerLaid.{Laid}
use Rattle.frames.specs.declared.Frame.{Frame}
use Rattle.frames.specs.Frame.{record_size, records_of}

-- the frames `fs`, at most `most`: `next` is the place past them, a record a frame from `at` on, and the buffer `new`
-- is `old` with their records there
pub record Sent (most : ℕ) (old new : List ℕ) (at next : ℕ) (fs : List Frame) : Type 0 where
  pub count : length fs ≤ most
  pub past : next ≡ at + record_size * length fs
  pub laid : Laid old new at next (records_of fs)
