-- Demand 1: "a refusal carries its number, alters no state and writes no byte (one exception, at number 11)". The
-- exception is the paper's (01, "Numbers returned", 11): "from Offered to Ready the silence count returns to 0, unless
-- it is a CIM". For `demand_1`.
use Rattle.std.specs.Prelude.{ℕ, ◌≡◌, Bool, not, cond, ◌&&◌, List, [], eqb}
use Rattle.messages.specs.Table.{pf_of, CIM}
use Rattle.messages.specs.Identifier.{parts_of}
use Rattle.session_states.specs.States.{is_before_charging}
use Rattle.session.specs.Session.{with_silence}
use Rattle.controller.specs.declared.Controller.{Controller}
use Rattle.controller.specs.With.{with_session}
use Rattle.demands.specs.Machine.{Call, Read, Receive, Tick, Write, Box, NoController, Using, number_seen}
use Rattle.demands.specs.Calls.{CallMade, DidRead, DidReceive, DidTick, DidWrite, call_in, box_then, in_hand}

-- by its PF the frame is a CIM
unfoldable pub is_cim_frame : ℕ → Bool
is_cim_frame id = eqb (parts_of id).pf (pf_of CIM)

-- the controller with silence at 0, and all else as it was
abbrev pub silence_at_zero : Controller → Controller
silence_at_zero c = with_session c (with_silence c.session 0)

-- what a call leaves that is refused by a number
unfoldable pub left_by : ℕ → Controller → Call → Controller
left_by n c (Read s) = c
left_by n c (Receive id s) =
    cond (eqb n 11 && (is_before_charging c.session.state && not (is_cim_frame id))) (silence_at_zero c) c
left_by n c (Tick r v t old) = c
left_by n c (Write old) = c

unfoldable pub box_left_by : ℕ → Box → Call → Box
box_left_by n NoController k = NoController
box_left_by n (Using c) k = Using (left_by n c k)

-- a lent buffer before the call, and after it; of a call that lends none, none
unfoldable pub lent_before : CallMade → List ℕ
lent_before (DidRead s a) = []
lent_before (DidReceive id s a) = []
lent_before (DidTick r v t old new k) = old
lent_before (DidWrite old new w) = old

unfoldable pub lent_after : CallMade → List ℕ
lent_after (DidRead s a) = []
lent_after (DidReceive id s a) = []
lent_after (DidTick r v t old new k) = new
lent_after (DidWrite old new w) = new

unfoldable pub bytes_given : CallMade → ℕ
bytes_given (DidRead s a) = 0
bytes_given (DidReceive id s a) = 0
bytes_given (DidTick r v t old new k) = k.bytes
bytes_given (DidWrite old new w) = w.bytes

abbrev pub number_given : CallMade → ℕ
number_given m = number_seen (in_hand m)

-- a refused call: the controller in use, the lent buffer, and no byte written
pub record LeftAsItWas (b : Box) (m : CallMade) : Type 0 where
  pub controller : box_then b m ≡ box_left_by (number_given m) b (call_in m)
  pub buffer : lent_after m ≡ lent_before m
  pub bytes : bytes_given m ≡ 0
