-- A tick: 01, "Numbers returned", 14 to 16, and "Broadcasts and cell answers" for the order of its frames. A refused
-- tick changes neither the controller nor one byte. The tests 14 to 16 stand in `refusals`, `specs/Tick.antt`.
use Rattle.std.specs.Prelude.{ℕ, ◌*◌, ◌≡◌, Bool, cond, List, ◌++◌, eqb, ℤ, length, drop, Result, Ok, Err}
use Rattle.numbers.specs.declared.Refusal.{Refusal}
use Rattle.numbers.specs.Numbers.{number_of}
use Rattle.frames.specs.declared.Frame.{Frame}
use Rattle.frames.specs.Frame.{record_size, records_of}
use Rattle.readings.specs.declared.Readings.{Readings}
use Rattle.cells.specs.Summaries.{cells_of}
use Rattle.session.specs.Tick.{tick_of, sent_of}
use Rattle.broadcasts.specs.Beat.{next_beat}
use Rattle.broadcasts.specs.Sendings.{broadcast_at}
use Rattle.queries.specs.Waiting.{waiting, queries_of}
use Rattle.queries.specs.Answering.{answer_frames, waiting_after}
use Rattle.refusals.specs.Tick.{tick_number}
use Rattle.controller.specs.declared.Controller.{Controller}
use Rattle.controller.specs.With.{with_session, with_beat, with_queries}

-- what a tick gives: the number, the bytes written, and the controller as it is then
pub record Ticked : Type 0 where
  pub number : ℕ
  pub bytes : ℕ
  pub controller : Controller

-- a tick's answer, 0 and its bytes where it is taken, else the refusal's number and no bytes, with the controller that
-- it leaves
abbrev pub ticked : Result ℕ Refusal → Controller → Ticked
ticked (Ok bytes) c = record { number = 0; bytes = bytes; controller = c }
ticked (Err refusal) c = record { number = number_of refusal; bytes = 0; controller = c }

module _ (c : Controller) (r : Readings) (v : List ℕ) (t : List ℤ) where
  -- charge frames, by the session
  unfoldable pub charge_frames : List Frame
  charge_frames = sent_of c.settings r (cells_of v t) c.session

  -- then broadcasts, by the beat
  unfoldable pub broadcast_frames : List Frame
  broadcast_frames = broadcast_at c.beat.tick c.settings.own c.settings.versions r (cells_of v t)

  -- then the cell frame, by the oldest waiting query
  unfoldable pub cell_frames : List Frame
  cell_frames = answer_frames c.settings.own v t (waiting c.queries)

  -- all that an accepted tick sends
  unfoldable pub tick_frames : List Frame
  tick_frames = charge_frames ++ (broadcast_frames ++ cell_frames)

  -- and the controller after it
  unfoldable pub tick_next : Controller
  tick_next =
      with_queries
      (with_beat (with_session c (tick_of c.settings r (cells_of v t) c.session)) (next_beat c.beat))
      (queries_of (waiting_after v t (waiting c.queries)))

  -- the tick is accepted
  unfoldable pub accepted : ℕ → Bool
  accepted room = eqb (tick_number r v t room) 0

  -- a tick's whole outcome: the number; the bytes written, thirteen a frame, 0 if refused; the next controller, the
  -- same if refused; and the buffer's later contents, the frames' records from its start and the rest unchanged, all of
  -- it unchanged if refused
  pub record TickIs (old new : List ℕ) (k : Ticked) : Type 0 where
    pub number : k.number ≡ tick_number r v t (length old)
    pub bytes : k.bytes ≡ cond (accepted (length old)) (record_size * length tick_frames) 0
    pub next : k.controller ≡ cond (accepted (length old)) tick_next c
    pub later : new
        ≡ cond (accepted (length old)) (records_of tick_frames ++ drop (record_size * length tick_frames) old) old
