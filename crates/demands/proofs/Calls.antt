-- Demand 2, of the entry points themselves: whatever is called, in whatever order, what the calls gave is exactly what
-- the paper's machine gives: its numbers, its bytes and, read off the buffers, its frames; and the controller in use is
-- in step with the machine's. It follows from the entry points' promises alone. Assumes nothing.
use mathlib.Core.Path.{◌≡◌, refl, sym, ap, ◌∙◌}
use mathlib.Core.Bool.{Bool, true, false, cond}
use mathlib.Core.List.{List, [], ◌∷◌, ◌++◌}
use Prim.Native.Nat.{ℕ, ◌*◌}
use lib.IntN.{ℤ}
use lib.ListN.{length, drop}
use Rattle.frames.specs.declared.Frame.{Frame}
use Rattle.frames.specs.Frame.{record_size, records_of}
use Rattle.readings.specs.declared.Readings.{Readings}
use Rattle.controller.specs.declared.Controller.{Controller}
use Rattle.controller.specs.Tick.{Ticked}
use Rattle.controller.specs.Tick.{tick_frames, tick_next, accepted, TickIs}
use Rattle.demands.specs.Machine.{Box, NoController, Using, Gave, paper_next, box_after, seen_of, run, box_at}
use Rattle.demands.specs.Sent.{frames_written}
use Rattle.demands.specs.InStep.{InStep}
use Rattle.demands.specs.Calls.{CallMade, DidRead, DidReceive, DidTick, DidWrite, call_in, KeepsPromise, box_then, in_hand, AllKeepPromises, calls_in, all_in_hand, box_last}
use Rattle.demands.proofs.Demand2.{tick_is_the_machine, frame_is_the_machine, read_is_the_machine, write_is_the_machine, demand_2}
use Rattle.demands.proofs.Sent.{tick_eight, frames_written_lem, none_written}

-- what a tick has left in the buffer, read off its bytes, is what it sent
pub left_in_the_buffer : (c : Controller) (r : Readings) (v : List ℕ) (t : List ℤ) (old new : List ℕ) (k : Ticked)
    → TickIs c r v t old new k
    → frames_written k.bytes new ≡ cond (accepted c r v t (length old)) (tick_frames c r v t) []
left_in_the_buffer c r v t old new k h = rw (h.bytes, h.later) (either (accepted c r v t (length old)))
  where
    fs : List Frame
    fs = tick_frames c r v t

    either : (b : Bool)
        → frames_written (cond b (record_size * length fs) 0) (cond b (records_of fs ++ drop (record_size * length fs) old) old) ≡ cond b fs []
    either true = frames_written_lem fs (drop (record_size * length fs) old) (tick_eight c r v t)
    either false = none_written old

-- one call
pub one_seen : (b : Box) (m : CallMade) → KeepsPromise b m → seen_of tick_next b (call_in m) ≡ in_hand m
unfolding KeepsPromise call_in in_hand
one_seen b (DidRead s a) h = (read_is_the_machine b s a h.0 h.1).0
one_seen NoController (DidReceive id s a) h = absurd h
one_seen (Using c) (DidReceive id s a) h = (frame_is_the_machine c id s a h).0
one_seen NoController (DidTick r v t old new k) h = absurd h
one_seen (Using c) (DidTick r v t old new k) h =
    (tick_is_the_machine c r v t old new k h).0 ∙ ap (λ (fs : List Frame). Gave k.number k.bytes fs new) (sym (left_in_the_buffer c r v t old new k h))
one_seen NoController (DidWrite old new w) h = absurd h
one_seen (Using c) (DidWrite old new w) h = (write_is_the_machine c old new w h).0

pub one_box : (b : Box) (m : CallMade) → KeepsPromise b m → box_after tick_next b (call_in m) ≡ box_then b m
unfolding KeepsPromise call_in box_then
one_box b (DidRead s a) h = (read_is_the_machine b s a h.0 h.1).1
one_box NoController (DidReceive id s a) h = absurd h
one_box (Using c) (DidReceive id s a) h = (frame_is_the_machine c id s a h).1
one_box NoController (DidTick r v t old new k) h = absurd h
one_box (Using c) (DidTick r v t old new k) h = (tick_is_the_machine c r v t old new k h).1
one_box NoController (DidWrite old new w) h = absurd h
one_box (Using c) (DidWrite old new w) h = (write_is_the_machine c old new w h).1

-- all of them
all_seen : (b : Box) (ms : List CallMade) → AllKeepPromises b ms → run tick_next b (calls_in ms) ≡ all_in_hand ms
unfolding AllKeepPromises calls_in all_in_hand run
all_seen b [] h = refl
all_seen b (m ∷ ms) h = rw (one_seen b m h.0, one_box b m h.0, all_seen (box_then b m) ms h.1)

pub all_boxes : (b : Box) (ms : List CallMade) → AllKeepPromises b ms → box_at tick_next b (calls_in ms) ≡ box_last b ms
unfolding AllKeepPromises calls_in box_at box_last
all_boxes b [] h = refl
all_boxes b (m ∷ ms) h =
    ap (λ (z : Box). box_at tick_next z (calls_in ms)) (one_box b m h.0) ∙ all_boxes (box_then b m) ms h.1

-- THE DEMAND, of the calls
pub demand_2_of_calls : (ms : List CallMade) → AllKeepPromises NoController ms
    → (all_in_hand ms ≡ run paper_next NoController (calls_in ms)) × InStep (box_at paper_next NoController (calls_in ms)) (box_last NoController ms)
demand_2_of_calls ms h = (
  sym (all_seen NoController ms h) ∙ sym (demand_2 (calls_in ms)).0,
  (demand_2 (calls_in ms)).1 ∙ all_boxes NoController ms h,
)
