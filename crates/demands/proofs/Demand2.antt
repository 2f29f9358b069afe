-- Demand 2: over any sequence of calls, from no controller on, the code gives what the paper says: the numbers, the
-- bytes written, the frames sent and the later contents of each lent buffer, call for call, however long a session
-- lasts and however many there were before. The entry points' promises are this machine: `tick_is_the_machine` and the
-- three after it. Assumes nothing.
use Prim.Native.Nat.{ℕ, ◌*◌}
use Rattle.std.proofs.Common.{Result, Ok, Err}
use Rattle.numbers.specs.declared.Refusal.{Refusal}
use Rattle.numbers.specs.Numbers.{answered}
use mathlib.Core.Path.{◌≡◌, refl, ap}
use mathlib.Core.Bool.{Bool, true, false, cond}
use mathlib.Core.List.{List, [], ◌∷◌, ◌++◌}
use borrow.Author.Tests.{eqb-true}
use lib.Dec.{eqb}
use lib.IntN.{ℤ}
use lib.ListN.{length, drop}
use Rattle.frames.specs.declared.Frame.{Frame}
use Rattle.frames.specs.Frame.{record_size, records_of}
use Rattle.readings.specs.declared.Readings.{Readings}
use Rattle.settings.specs.declared.Settings.{Settings}
use Rattle.settings.specs.Write.{Written}
use Rattle.settings.specs.Read.{read_of, record_number}
use Rattle.settings.specs.Write.{Wrote}
use Rattle.session_paper_counts.proofs.InStep.{start_in_step}
use Rattle.controller.specs.declared.Controller.{Controller}
use Rattle.controller.specs.Frame.{Answer}
use Rattle.controller.specs.Tick.{Ticked}
use Rattle.controller.specs.Start.{fresh_of, start_with, start_of}
use Rattle.controller.specs.Frame.{frame_to}
use Rattle.refusals.specs.Tick.{tick_number}
use Rattle.controller.specs.Tick.{tick_frames, tick_next, accepted, TickIs}
use Rattle.demands.specs.Machine.{Call, Read, Receive, Tick, Write, Box, NoController, Using, Gave, paper_next, started, box_after, seen_of, run, box_at}
use Rattle.demands.specs.InStep.{code_of, code_box, InStep}
use Rattle.demands.proofs.Steps.{frame_steps, frames_step, next_steps}

-- The entry points are this machine. A tick's whole outcome, as `tick` promises it, is the machine's
gave : (b : Bool) (n bytes : ℕ) (frames : List Frame) (new old : List ℕ) → eqb n 0 ≡ b
    → cond b (Gave 0 bytes frames new) (Gave n 0 [] old) ≡ Gave n (cond b bytes 0) (cond b frames []) (cond b new old)
gave true n bytes frames new old e = rw (eqb-true n 0 e)
gave false n bytes frames new old e = refl

pub tick_is_the_machine : (c : Controller) (r : Readings) (v : List ℕ) (t : List ℤ) (old new : List ℕ) (k : Ticked)
    → TickIs c r v t old new k
    → (seen_of tick_next (Using c) (Tick r v t old) ≡ Gave k.number k.bytes (cond (accepted c r v t (length old)) (tick_frames c r v t) []) new)
    × (box_after tick_next (Using c) (Tick r v t old) ≡ Using k.controller)
unfolding seen_of box_after accepted
tick_is_the_machine c r v t old new k h = (
  rw (h.number, h.bytes, h.later)
      (gave (eqb (tick_number r v t (length old)) 0) (tick_number r v t (length old)) (record_size * length (tick_frames c r v t)) (tick_frames c r v t)
      (records_of (tick_frames c r v t) ++ drop (record_size * length (tick_frames c r v t)) old) old refl),
  rw h.next,
)

-- as `frame` promises it
pub frame_is_the_machine : (c : Controller) (id : ℕ) (s : List ℕ) (a : Answer) → a ≡ frame_to c id s
    → (seen_of tick_next (Using c) (Receive id s) ≡ Gave a.number 0 [] []) × (box_after tick_next (Using c) (Receive id s) ≡ Using a.controller)
unfolding seen_of box_after
frame_is_the_machine c id s a h = (rw h, rw h)

-- as `read` promises it: the number; a controller that is made is the one in use, and a refusal leaves the one in use
pub read_is_the_machine : (b : Box) (s : List ℕ) (a : Result Controller Refusal) → answered a ≡ record_number s → a ≡ start_of s
    → (seen_of tick_next b (Read s) ≡ Gave (answered a) 0 [] []) × (box_after tick_next b (Read s) ≡ started a b)
unfolding seen_of box_after
read_is_the_machine b s a n h = (rw n, rw h)

pub made_is_in_use : (b : Box) (c : Controller) → started (Ok c) b ≡ Using c
unfolding started
made_is_in_use b c = refl

pub refused_stays : (b : Box) (n : Refusal) → started (Err n) b ≡ b
unfolding started
refused_stays b n = refl

-- and as `write` promises it
pub write_is_the_machine : (c : Controller) (old new : List ℕ) (w : Written) → Wrote c.settings old new w
    → (seen_of tick_next (Using c) (Write old) ≡ Gave w.number w.bytes [] new) × (box_after tick_next (Using c) (Write old) ≡ Using c)
unfolding seen_of box_after
write_is_the_machine c old new w h = (rw (h.answer, h.later), refl)

-- A received frame, from every controller: the same number, and the next controllers are in step
pub frame_in_step : (c : Controller) (id : ℕ) (s : List ℕ)
    → ((frame_to c id s).number ≡ (frame_to (code_of c) id s).number) × (code_of (frame_to c id s).controller ≡ (frame_to (code_of c) id s).controller)
frame_in_step c id s = (ap (λ (a : Answer). a.number) (frame_steps c id s), ap (λ (a : Answer). a.controller) (frame_steps c id s))

-- An accepted tick, from every controller: the same frames, and the next controllers are in step
pub tick_in_step : (c : Controller) (r : Readings) (v : List ℕ) (t : List ℤ)
    → (tick_frames c r v t ≡ tick_frames (code_of c) r v t) × (code_of (paper_next c r v t) ≡ tick_next (code_of c) r v t)
tick_in_step c r v t = (frames_step c r v t, next_steps c r v t)

-- a fresh controller stands for itself
fresh_in_step : (x : Settings) → code_of (fresh_of x) ≡ fresh_of x
unfolding code_of fresh_of
fresh_in_step x = rw start_in_step

with_in_step : (a : Result Settings Refusal) (b : Box) → code_box (started (start_with a) b) ≡ started (start_with a) (code_box b)
unfolding started start_with code_box
with_in_step (Ok x) b = ap Using (fresh_in_step x)
with_in_step (Err n) b = refl

ticked : (t : Bool) (c d : Controller) {c' d' : Controller} → code_of c ≡ c' → code_of d ≡ d'
    → code_box (Using (cond t c d)) ≡ Using (cond t c' d')
unfolding code_box
ticked true c d h k = ap Using h
ticked false c d h k = ap Using k

-- one call, from every box
pub after_in_step : (b : Box) (k : Call) → code_box (box_after paper_next b k) ≡ box_after tick_next (code_box b) k
unfolding box_after code_box start_of accepted
after_in_step NoController (Read s) = with_in_step (read_of s) NoController
after_in_step (Using c) (Read s) = with_in_step (read_of s) (Using c)
after_in_step NoController (Receive id s) = refl
after_in_step (Using c) (Receive id s) = ap Using (frame_in_step c id s).1
after_in_step NoController (Tick r v t old) = refl
after_in_step (Using c) (Tick r v t old) = ticked (eqb (tick_number r v t (length old)) 0) (paper_next c r v t) c (next_steps c r v t) refl
after_in_step NoController (Write old) = refl
after_in_step (Using c) (Write old) = refl

write_in_step : (c : Controller) (old : List ℕ)
    → seen_of paper_next (Using c) (Write old) ≡ seen_of tick_next (Using (code_of c)) (Write old)
unfolding seen_of code_of
write_in_step c old = refl

pub seen_in_step : (b : Box) (k : Call) → seen_of paper_next b k ≡ seen_of tick_next (code_box b) k
unfolding seen_of code_box accepted
seen_in_step NoController (Read s) = refl
seen_in_step (Using c) (Read s) = refl
seen_in_step NoController (Receive id s) = refl
seen_in_step (Using c) (Receive id s) = ap (λ (n : ℕ). Gave n 0 [] []) (frame_in_step c id s).0
seen_in_step NoController (Tick r v t old) = refl
seen_in_step (Using c) (Tick r v t old) = rw (← frames_step c r v t)
seen_in_step NoController (Write old) = refl
seen_in_step (Using c) (Write old) = write_in_step c old

-- any calls, from every box
pub run_from : (b : Box) (ks : List Call) → run paper_next b ks ≡ run tick_next (code_box b) ks
unfolding run
run_from b [] = refl
run_from b (k ∷ ks) = rw (← after_in_step b k, ← seen_in_step b k, run_from (box_after paper_next b k) ks)

pub box_from : (b : Box) (ks : List Call) → code_box (box_at paper_next b ks) ≡ box_at tick_next (code_box b) ks
unfolding box_at
box_from b [] = refl
box_from b (k ∷ ks) = rw (← after_in_step b k) (box_from (box_after paper_next b k) ks)

-- THE DEMAND
pub demand_2 : (ks : List Call)
    → (run paper_next NoController ks ≡ run tick_next NoController ks) × InStep (box_at paper_next NoController ks) (box_at tick_next NoController ks)
unfolding code_box
demand_2 ks = (run_from NoController ks, box_from NoController ks)
