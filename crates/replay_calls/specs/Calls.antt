-- The entry points called with the first so many of what is lent: the promise of each (`ReadIs`, `FrameIs`, `TickIs` of
-- `controller`, `Wrote` of `settings`) holds of these, and the rest of a buffer is as it was.
use Rattle.std.specs.Prelude.{ℕ, ◌*◌, ◌≡◌, Bool, cond, List, ◌++◌, ℤ, length, take, drop}
use Rattle.frames.specs.declared.Frame.{Frame}
use Rattle.frames.specs.Frame.{record_size, records_of}
use Rattle.settings.specs.declared.Settings.{Settings}
use Rattle.settings.specs.Write.{Written, buffer_after, Wrote}
use Rattle.refusals.specs.Tick.{tick_number}
use Rattle.controller.specs.declared.Controller.{Controller}
use Rattle.controller.specs.Tick.{Ticked, tick_frames, tick_next, accepted, TickIs}
use Rattle.replay_script.specs.declared.lent.Lent.{Lent}

-- a tick that is lent the first so many voltages, temperatures and bytes
pub record TickLent (c : Controller) (l : Lent) (v : List ℕ) (t : List ℤ) (old new : List ℕ) (k : Ticked) : Type 0
  where
    pub ticked :
        TickIs c l.readings (take l.volts v) (take l.temps t) (take l.room old) (take l.room new) k
    pub rest : drop l.room new ≡ drop l.room old

-- a write that is lent the first n bytes
pub record WriteLent (x : Settings) (n : ℕ) (old new : List ℕ) (w : Written) : Type 0 where
  pub wrote : Wrote x (take n old) (take n new) w
  pub rest : drop n new ≡ drop n old

-- the whole buffer after a call that was lent the first n bytes of it and left these behind
abbrev pub whole_after : ℕ → List ℕ → List ℕ → List ℕ
whole_after n later old = later ++ drop n old

-- what `TickIs` says of a tick that is lent the first so many of each, as values
module _ (c : Controller) (l : Lent) (v : List ℕ) (t : List ℤ) (old : List ℕ) where
  -- it is accepted
  unfoldable pub tick_accepted : Bool
  tick_accepted = accepted c l.readings (take l.volts v) (take l.temps t) (length (take l.room old))

  -- the frames that it sends where it is
  unfoldable pub tick_sent : List Frame
  tick_sent = tick_frames c l.readings (take l.volts v) (take l.temps t)

  -- its answer: the number, the bytes written, the next controller
  unfoldable pub tick_answer : Ticked
  tick_answer =
      record {
        number = tick_number l.readings (take l.volts v) (take l.temps t) (length (take l.room old));
        bytes = cond tick_accepted (record_size * length tick_sent) 0;
        controller = cond tick_accepted (tick_next c l.readings (take l.volts v) (take l.temps t)) c;
      }

  -- the whole buffer after it: the frames' records from its start and the rest unchanged, or all of it unchanged
  unfoldable pub buffer_ticked : List ℕ
  buffer_ticked =
      whole_after l.room
      (cond tick_accepted
      (records_of tick_sent ++ drop (record_size * length tick_sent) (take l.room old))
      (take l.room old))
      old

-- the whole buffer after a write that was lent the first n bytes
unfoldable pub buffer_written : Settings → ℕ → List ℕ → List ℕ
buffer_written x n old = whole_after n (buffer_after x (take n old)) old
