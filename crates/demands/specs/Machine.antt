-- The paper's machine over any list of calls (01, "What the box does", "Numbers returned"). A controller's rules for a
-- frame, for what a tick sends and for settings are the definitions that the entry points promise; how counts go on is
-- the paper's: the number of accepted ticks, a state's count, silence and a phase's time are one more after each
-- accepted tick, for ever. For `demand_2`; every other statement is shown of this machine first, and carried over to
-- the calls that were made (`steps_made_lem`).
use Rattle.std.specs.Prelude.{ℕ, ◌+◌, ◌*◌, cond, List, [], ◌∷◌, ◌++◌, ℤ, length, drop}
use Rattle.std.specs.Prelude.{Result, Ok, Err}
use Rattle.numbers.specs.declared.Refusal.{Refusal}
use Rattle.frames.specs.declared.Frame.{Frame}
use Rattle.frames.specs.Frame.{record_size, records_of}
use Rattle.readings.specs.declared.Readings.{Readings}
use Rattle.cells.specs.Summaries.{cells_of}
use Rattle.settings.specs.Read.{record_number}
use Rattle.settings.specs.Write.{written_of, buffer_after}
use Rattle.queries.specs.Waiting.{waiting, queries_of}
use Rattle.queries.specs.Answering.{waiting_after}
use Rattle.session_paper_counts.specs.Literal.{literal_tick}
use Rattle.controller.specs.declared.Controller.{Controller}
use Rattle.controller.specs.Start.{start_of}
use Rattle.controller.specs.Frame.{frame_to}
use Rattle.refusals.specs.Tick.{tick_number}
use Rattle.controller.specs.Tick.{tick_frames, accepted}
use Rattle.controller.specs.With.{with_session, with_beat, with_queries}

-- a call, with all that it lends: a settings record; a received frame, identifier and data; a tick, its readings,
-- voltages and temperatures and the buffer as it is; settings written, with the buffer as it is
pub data Call : Type 0 where
  Read : List ℕ → Call
  Receive : ℕ → List ℕ → Call
  Tick : Readings → List ℕ → List ℤ → List ℕ → Call
  Write : List ℕ → Call

-- no controller yet, or the one in use
pub data Box : Type 0 where
  NoController : Box
  Using : Controller → Box

-- what a call gives back: the number, the bytes written, the frames sent, and the later contents of the lent buffer (of
-- a call that lends none, none). Without a controller there is nothing to call
pub data Seen : Type 0 where
  Nothing : Seen
  Gave : ℕ → ℕ → List Frame → List ℕ → Seen

-- the next controller after an accepted tick, as the paper counts
unfoldable pub paper_next : Controller → Readings → List ℕ → List ℤ → Controller
paper_next c r v t =
    with_queries
    (with_beat
    (with_session c (literal_tick c.settings r (cells_of v t) c.session))
    (record { tick = c.beat.tick + 1 }))
    (queries_of (waiting_after v t (waiting c.queries)))

-- a settings record that is refused yields no controller: the one in use stays
unfoldable pub started : Result Controller Refusal → Box → Box
started (Ok c) b = Using c
started (Err refusal) b = b

-- how a controller goes on after an accepted tick is the one difference between the paper's machine and the code's
module _ (next : Controller → Readings → List ℕ → List ℤ → Controller) where
  unfoldable pub box_after : Box → Call → Box
  box_after b (Read s) = started (start_of s) b
  box_after NoController (Receive id s) = NoController
  box_after (Using c) (Receive id s) = Using (frame_to c id s).controller
  box_after NoController (Tick r v t old) = NoController
  box_after (Using c) (Tick r v t old) = Using (cond (accepted c r v t (length old)) (next c r v t) c)
  box_after b (Write old) = b

  unfoldable pub seen_of : Box → Call → Seen
  seen_of b (Read s) = Gave (record_number s) 0 [] []
  seen_of NoController (Receive id s) = Nothing
  seen_of (Using c) (Receive id s) = Gave (frame_to c id s).number 0 [] []
  seen_of NoController (Tick r v t old) = Nothing
  seen_of (Using c) (Tick r v t old) =
      cond (accepted c r v t (length old))
      (Gave 0 (record_size * length (tick_frames c r v t)) (tick_frames c r v t)
      (records_of (tick_frames c r v t) ++ drop (record_size * length (tick_frames c r v t)) old))
      (Gave (tick_number r v t (length old)) 0 [] old)
  seen_of NoController (Write old) = Nothing
  seen_of (Using c) (Write old) =
      Gave (written_of c.settings old).number (written_of c.settings old).bytes [] (buffer_after c.settings old)

  -- a run: all that is seen, and the box that is left
  unfoldable pub run : Box → List Call → List Seen
  run b [] = []
  run b (k ∷ ks) = seen_of b k ∷ run (box_after b k) ks

  unfoldable pub box_at : Box → List Call → Box
  box_at b [] = b
  box_at b (k ∷ ks) = box_at (box_after b k) ks

-- the number that a call gave, and the frames that it sent; where there was nothing to call, 0 and none
unfoldable pub number_seen : Seen → ℕ
number_seen Nothing = 0
number_seen (Gave n bytes frames later) = n

unfoldable pub frames_seen : Seen → List Frame
frames_seen Nothing = []
frames_seen (Gave n bytes frames later) = frames
