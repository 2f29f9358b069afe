-- Demand 2, of the entry points themselves: calls made one after the other, each with the answer that it gave, and each
-- answer keeping its entry point's promise. Here nothing is said of how a controller goes on but what the promises say.
-- For `demand_1`, `demand_2` and, by `AfterCalls`, for every statement.
use Rattle.std.specs.Prelude.{ℕ, List, [], ◌∷◌, ℤ}
use Rattle.std.specs.Prelude.{Result}
use Rattle.numbers.specs.declared.Refusal.{Refusal}
use Rattle.numbers.specs.Numbers.{answered}
use Rattle.controller.specs.declared.Controller.{Controller}
use Rattle.readings.specs.declared.Readings.{Readings}
use Rattle.settings.specs.Write.{Written}
use Rattle.settings.specs.Write.{Wrote}
use Rattle.controller.specs.Frame.{Answer}
use Rattle.controller.specs.Tick.{Ticked}
use Rattle.controller.specs.Start.{ReadIs}
use Rattle.controller.specs.Frame.{FrameIs}
use Rattle.controller.specs.Tick.{TickIs}
use Rattle.demands.specs.Machine.{Call, Read, Receive, Tick, Write, Box, NoController, Using, Seen, Gave, started}
use Rattle.demands.specs.Sent.{frames_written}

-- a call that was made, and what it gave: an answer and, of a lent buffer, the contents before and after
pub data CallMade : Type 0 where
  DidRead : List ℕ → Result Controller Refusal → CallMade
  DidReceive : ℕ → List ℕ → Answer → CallMade
  DidTick : Readings → List ℕ → List ℤ → List ℕ → List ℕ → Ticked → CallMade
  DidWrite : List ℕ → List ℕ → Written → CallMade

-- the call
unfoldable pub call_in : CallMade → Call
call_in (DidRead s a) = Read s
call_in (DidReceive id s a) = Receive id s
call_in (DidTick r v t old new k) = Tick r v t old
call_in (DidWrite old new w) = Write old

-- it kept its entry point's promise, by the name that the entry point's contract has it by; without a controller there
-- is nothing to call but `read`
unfoldable pub KeepsPromise : Box → CallMade → Type 0
KeepsPromise b (DidRead s a) = ReadIs s a
KeepsPromise NoController (DidReceive id s a) = ⊥
KeepsPromise (Using c) (DidReceive id s a) = FrameIs c id s a
KeepsPromise NoController (DidTick r v t old new k) = ⊥
KeepsPromise (Using c) (DidTick r v t old new k) = TickIs c r v t old new k
KeepsPromise NoController (DidWrite old new w) = ⊥
KeepsPromise (Using c) (DidWrite old new w) = Wrote c.settings old new w

-- the controller in use then: the one that the answer holds; of a refused record, and after a write, the one that was
unfoldable pub box_then : Box → CallMade → Box
box_then b (DidRead s a) = started a b
box_then b (DidReceive id s a) = Using a.controller
box_then b (DidTick r v t old new k) = Using k.controller
box_then b (DidWrite old new w) = b

-- what the caller has in hand: the number, the bytes written, the frames that a tick has left in the buffer, and the
-- buffer's later contents
unfoldable pub in_hand : CallMade → Seen
in_hand (DidRead s a) = Gave (answered a) 0 [] []
in_hand (DidReceive id s a) = Gave a.number 0 [] []
in_hand (DidTick r v t old new k) = Gave k.number k.bytes (frames_written k.bytes new) new
in_hand (DidWrite old new w) = Gave w.number w.bytes [] new

-- a list of calls, each made of the controller that the one before it left
unfoldable pub AllKeepPromises : Box → List CallMade → Type 0
AllKeepPromises b [] = Unit {0}
AllKeepPromises b (m ∷ ms) = KeepsPromise b m × AllKeepPromises (box_then b m) ms

unfoldable pub calls_in : List CallMade → List Call
calls_in [] = []
calls_in (m ∷ ms) = call_in m ∷ calls_in ms

unfoldable pub all_in_hand : List CallMade → List Seen
all_in_hand [] = []
all_in_hand (m ∷ ms) = in_hand m ∷ all_in_hand ms

unfoldable pub box_last : Box → List CallMade → Box
box_last b [] = b
box_last b (m ∷ ms) = box_last (box_then b m) ms
