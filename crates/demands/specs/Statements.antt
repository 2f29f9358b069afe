-- THE STATEMENTS, to be read aloud: those of the sentences of docs/INSURER.md and docs/PROMISES.md that have a theorem,
-- in their order. Each is of the calls that were made and of what they gave: `AfterCalls ms c` is
-- "after the calls `ms` from the start the controller in use is `c`", `NextCall c m` "the call `m` is made then", and
-- `use_then c m` is the controller in use after it. The theorems of these types stand in proofs/Statements.antt, one a
-- line; a theorem's name is its statement's, in small letters. A message's flag is true where its byte is AA, of CCS
-- 01: `Cst true` is CST AA, `Crm false` is CRM 00 or FF.
use Rattle.std.specs.Prelude.{ℕ, ◌≤◌, ◌⊎◌, ◌≡◌, Bool, true, false, cond, List, ◌∷◌, ◌++◌, map, ℤ}
use Rattle.std.specs.Prelude.{Ok}
use Rattle.numbers.specs.Numbers.{answered}
use Rattle.units.specs.declared.TenthAmps.{TenthAmps}
use Rattle.messages.specs.Table.{EST}
use Rattle.messages.specs.Identifier.{parts_of}
use Rattle.settings.specs.declared.Settings.{Settings}
use Rattle.settings.specs.Read.{read_of}
use Rattle.readings.specs.declared.Readings.{Readings}
use Rattle.cells.specs.Summaries.{cells_of}
use Rattle.charge_messages.specs.declared.Offer.{Offer}
use Rattle.charge_messages.specs.declared.ChargeMessage.{ChargeMessage}
use Rattle.charge_messages.specs.declared.ChargeMessage.TheVariants.{Cim, Cvm, Cmp, Crm, Cst}
use Rattle.session_states.specs.declared.phases.Phase.{Phase}
use Rattle.session_states.specs.declared.states.State.TheVariants.{Parameters, Ready, Charging}
use Rattle.session_states.specs.States.{is_charging, is_stopping, is_offered, is_parameters, is_ready, is_closing}
use Rattle.session_by_message.specs.Message.{outcome_number, outcome_of}
use Rattle.session.specs.Session.{opened}
use Rattle.session.specs.Message.{session_after}
use Rattle.refusals.specs.Frame.{listed}
use Rattle.controller.specs.declared.Controller.{Controller}
use Rattle.controller.specs.Frame.{Answer}
use Rattle.controller.specs.Tick.{Ticked}
use Rattle.controller.specs.With.{with_session}
use Rattle.controller.specs.Frame.{may_charge}
use Rattle.controller.specs.Tick.{charge_frames, broadcast_frames, cell_frames}
use Rattle.demands.specs.Machine.{Call, Read, Box, NoController, Using, paper_next, run, box_at}
use Rattle.demands.specs.InStep.{InStep}
use Rattle.demands.specs.Calls.{CallMade, DidReceive, DidTick, call_in, KeepsPromise, AllKeepPromises, calls_in, all_in_hand, box_last}
use Rattle.demands.specs.Steps.{steps_made}
use Rattle.demands.specs.Since.{AfterCalls, use_then, use_last}
use Rattle.demands.specs.Refusals.{number_given, LeftAsItWas}
use Rattle.demands.specs.Numbers.{first_given, lines_of}
use Rattle.demands.specs.After.{no_session}
use Rattle.demands.specs.Says.{Says}
use Rattle.demands.specs.Stops.{why_of, LeadsTo}
use Rattle.demands.specs.Ends.{EndsSession, EndsCharge}
use Rattle.demands.specs.Over.{Opens, Ignored}
use Rattle.demands.specs.GoneOut.{Watch, holds, is_ours, gone, eim, ecp, erm, est, is_ready_yes, since_first_tick, since_first_ecp}
use Rattle.demands.specs.Apart.{reaches, emptied, reaching}
use Rattle.demands.specs.Unmoved.{others}
use Rattle.demands.specs.Told.{life_in, place_of_end, ends_in, outputs_in}
use Rattle.demands.specs.Silent.{sends_nothing, ticks_in, longest}
use Rattle.demands.specs.SilentIn.{SilentIn}
use Rattle.demands.specs.SilentSlips.{is_cim, is_handshake, SaysOnly}
use Rattle.demands.specs.Reach.{UntilCvm, Follows, charging_with}
use Rattle.demands.specs.Requests.{request_in, AllAskWithin}
use Rattle.demands.specs.Offers.{last_taken, OfOffer, WithinOffer, AllAskWithinOffer, BeginsCharge}
use Rattle.demands.specs.Closing.{longest_closing}
use Rattle.demands.specs.Sent.{frames_written}
use Rattle.demands.specs.WorkedRows.{WorkedRows}
use Rattle.demands.specs.PaperNumbers.{PaperNumbers}

-- one call more of a controller in use, and several
abbrev pub NextCall : Controller → CallMade → Type 0
NextCall c m = KeepsPromise (Using c) m

abbrev pub NextCalls : Controller → List CallMade → Type 0
NextCalls c ms = AllKeepPromises (Using c) ms

-- whether the frame watched for is among the frames that the calls have sent since the state watched began, in which
-- the session is now (in any other it is not); of ERM AA in Ready: since the last CMP taken
abbrev pub has_gone : Watch → List CallMade → Bool
has_gone w ms = gone w false (steps_made NoController ms)

-- ==== docs/INSURER.md: which message, in which state, may end a charge?

-- "What ends a session": after any calls from the start, a call after which an open session is over is one of these: a
-- CEM of its station; a CST AA of its station in Stopping, an EST of ours having gone out since Stopping began; a tick,
-- by one of the rules that end; new settings. (Over: in Idle after the call. That no call puts another session in its
-- place: `Unreached`, `WhatAMessageDoes`)
abbrev pub WhatEndsASession : Type 0
WhatEndsASession =
    (ms : List CallMade) (c : Controller) (m : CallMade) → AfterCalls ms c → NextCall c m
    → no_session c ≡ false → no_session (use_then c m) ≡ true → EndsSession (has_gone est ms) c (call_in m)

-- "and the other way": after each of these it is over
abbrev pub EachEndsASession : Type 0
EachEndsASession =
    (ms : List CallMade) (c : Controller) (m : CallMade) → AfterCalls ms c → NextCall c m
    → no_session c ≡ false → EndsSession (has_gone est ms) c (call_in m) → no_session (use_then c m) ≡ true

-- "the EST has gone out is read off the frames that the calls have sent, and Stopping's count, which the code looks at,
-- tells exactly this"
abbrev pub EstGone : Type 0
EstGone =
    (ms : List CallMade) (c : Controller) → AfterCalls ms c
    → is_stopping c.session.state ≡ true → since_first_tick c.session.count ≡ has_gone est ms

-- and likewise of EIM AA in Offered, of ECP in Parameters, and of ERM AA in Ready, where the last CMP was answered yes
abbrev pub EimGone : Type 0
EimGone =
    (ms : List CallMade) (c : Controller) → AfterCalls ms c
    → is_offered c.session.state ≡ true → since_first_tick c.session.count ≡ has_gone eim ms

abbrev pub EcpGone : Type 0
EcpGone =
    (ms : List CallMade) (c : Controller) → AfterCalls ms c
    → is_parameters c.session.state ≡ true → since_first_ecp c.session.count ≡ has_gone ecp ms

abbrev pub ErmGone : Type 0
ErmGone =
    (ms : List CallMade) (c : Controller) → AfterCalls ms c
    → is_ready_yes c.session.state ≡ true → since_first_tick c.session.count ≡ has_gone erm ms

-- "A CST AA that comes in Stopping before our EST is answered 11 and changes nothing"
abbrev pub EarlyAcknowledgement : Type 0
EarlyAcknowledgement =
    (ms : List CallMade) (c : Controller) (id : ℕ) (s : List ℕ) (a : Answer) → AfterCalls ms c
    → NextCall c (DidReceive id s a) → Says c.settings c.session.station (Cst true) id s
    → is_stopping c.session.state ≡ true → has_gone est ms ≡ false → (a.number ≡ 11) × (a.controller ≡ c)

-- "What ends a charge": a call after which Charging is left is one of these: a CCS 00, a CST or a CEM of its station; a
-- tick, by one of the rules that leave Charging; new settings
abbrev pub WhatEndsACharge : Type 0
WhatEndsACharge =
    (ms : List CallMade) (c : Controller) (m : CallMade) → AfterCalls ms c → NextCall c m
    → is_charging c.session.state ≡ true → is_charging (use_then c m).session.state ≡ false
    → EndsCharge c (call_in m)

abbrev pub EachEndsACharge : Type 0
EachEndsACharge =
    (ms : List CallMade) (c : Controller) (m : CallMade) → AfterCalls ms c → NextCall c m
    → is_charging c.session.state ≡ true → EndsCharge c (call_in m)
    → is_charging (use_then c m).session.state ≡ false

-- "Stopping EST each tick": an accepted tick after which the session is in Stopping, its first there or a later one,
-- leaves an EST of ours to the session's station in the buffer
abbrev pub EstEachTick : Type 0
EstEachTick =
    (ms : List CallMade) (c : Controller) (r : Readings) (v : List ℕ) (t : List ℤ) (old new : List ℕ) (k : Ticked)
    → AfterCalls ms c → NextCall c (DidTick r v t old new k) → k.number ≡ 0
    → is_stopping k.controller.session.state ≡ true
    → holds (is_ours EST c.settings c.session.station) (frames_written k.bytes new) ≡ true

-- "Stopping and Error end to Idle at count 600": after any calls from the start, a session in Stopping or in Error has
-- ended within 601 accepted ticks, whatever its station and others send
abbrev pub ClosingEnds : Type 0
ClosingEnds =
    (ps : List CallMade) (c : Controller) (ms : List CallMade) → AfterCalls ps c → NextCalls c ms
    → is_closing c.session.state ≡ true → longest_closing ≤ ticks_in (calls_in ms)
    → ends_in (steps_made (Using c) ms) ≡ true

-- "What a tick does": an accepted tick leads where the first of the paper's rules that holds says
abbrev pub WhatATickDoes : Type 0
WhatATickDoes =
    (ms : List CallMade) (c : Controller) (r : Readings) (v : List ℕ) (t : List ℤ) (old new : List ℕ) (k : Ticked)
    → AfterCalls ms c → NextCall c (DidTick r v t old new k) → k.number ≡ 0
    → LeadsTo c.settings r (cells_of v t) c.session.state (why_of c.settings r (cells_of v t) c.session)
    k.controller.session.state

-- what it sends: the charge frames of the state that it leads to, then the broadcasts that are due, then the cell
-- frame, as they stand in the buffer
abbrev pub WhatATickSends : Type 0
WhatATickSends =
    (ms : List CallMade) (c : Controller) (r : Readings) (v : List ℕ) (t : List ℤ) (old new : List ℕ) (k : Ticked)
    → AfterCalls ms c → NextCall c (DidTick r v t old new k) → k.number ≡ 0
    → frames_written k.bytes new ≡ charge_frames c r v t ++ (broadcast_frames c r v t ++ cell_frames c r v t)

-- "A refused tick changes nothing"
abbrev pub WhatARefusedTickDoes : Type 0
WhatARefusedTickDoes =
    (ms : List CallMade) (c : Controller) (r : Readings) (v : List ℕ) (t : List ℤ) (old new : List ℕ) (k : Ticked)
    → AfterCalls ms c → NextCall c (DidTick r v t old new k) → (k.number ≡ 0 → ⊥)
    → (k.controller ≡ c) × (new ≡ old)

-- "in Idle no tick changes the session"
abbrev pub WhatATickDoesInIdle : Type 0
WhatATickDoesInIdle =
    (ms : List CallMade) (c : Controller) (r : Readings) (v : List ℕ) (t : List ℤ) (old new : List ℕ) (k : Ticked)
    → AfterCalls ms c → NextCall c (DidTick r v t old new k) → no_session c ≡ true
    → k.controller.session ≡ c.session

-- "Once its session is over a frame means nothing to it": in Idle a frame is a well-formed CIM of a listed station, and
-- opens a session with it; or the session is as it was, and the frame is refused where it is a charge message
abbrev pub Over : Type 0
Over =
    (ms : List CallMade) (c : Controller) (id : ℕ) (s : List ℕ) (a : Answer) → AfterCalls ms c
    → NextCall c (DidReceive id s a) → no_session c ≡ true → Opens c id s a ⊎ Ignored c id s a

-- "each such CIM opens a session with its source"
abbrev pub EachOpens : Type 0
EachOpens =
    (ms : List CallMade) (c : Controller) (id : ℕ) (s : List ℕ) (a : Answer) → AfterCalls ms c
    → NextCall c (DidReceive id s a) → no_session c ≡ true → Says c.settings (parts_of id).source Cim id s
    → listed (parts_of id).source c.settings.stations ≡ true → Opens c id s a

-- "A replayed acknowledgement in Idle is answered 11 where a listed station sends it and 9 where anyone else does, and
-- changes nothing at all"
abbrev pub ReplayedAcknowledgement : Type 0
ReplayedAcknowledgement =
    (ms : List CallMade) (c : Controller) (source id : ℕ) (s : List ℕ) (a : Answer) → AfterCalls ms c
    → NextCall c (DidReceive id s a) → no_session c ≡ true → Says c.settings source (Cst true) id s
    → (a.number ≡ cond (listed source c.settings.stations) 11 9) × (a.controller ≡ c)

-- "a CVM is taken in Offered only once an EIM AA has gone out"
abbrev pub CvmTaken : Type 0
CvmTaken =
    (ms : List CallMade) (c : Controller) (b : Bool) (id : ℕ) (s : List ℕ) (a : Answer) → AfterCalls ms c
    → NextCall c (DidReceive id s a) → Says c.settings c.session.station (Cvm b) id s
    → is_offered c.session.state ≡ true → a.number ≡ 0 → has_gone eim ms ≡ true

-- "a CMP in Parameters only once an ECP has"
abbrev pub CmpTaken : Type 0
CmpTaken =
    (ms : List CallMade) (c : Controller) (o : Offer) (id : ℕ) (s : List ℕ) (a : Answer) → AfterCalls ms c
    → NextCall c (DidReceive id s a) → Says c.settings c.session.station (Cmp o) id s
    → is_parameters c.session.state ≡ true → a.number ≡ 0 → has_gone ecp ms ≡ true

-- "a CRM in Ready only once an ERM AA has gone out since the last CMP taken"
abbrev pub CrmTaken : Type 0
CrmTaken =
    (ms : List CallMade) (c : Controller) (b : Bool) (id : ℕ) (s : List ℕ) (a : Answer) → AfterCalls ms c
    → NextCall c (DidReceive id s a) → Says c.settings c.session.station (Crm b) id s
    → is_ready c.session.state ≡ true → a.number ≡ 0 → has_gone erm ms ≡ true

-- "What begins a charge": after any calls from the start, a call after which a session is in Charging that was not so
-- before is such a CRM AA
abbrev pub WhatBeginsACharge : Type 0
WhatBeginsACharge =
    (ms : List CallMade) (c : Controller) (m : CallMade) → AfterCalls ms c → NextCall c m
    → is_charging c.session.state ≡ false → is_charging (use_then c m).session.state ≡ true
    → BeginsCharge (has_gone erm ms) (last_taken ms) c (call_in m) (use_then c m).session.state

-- "Each CMP, the entering one too, sets yes or no": after any calls from the start, Ready's yes or no and the station's
-- maximum are those of the last CMP taken
abbrev pub TheLastCmpCounts : Type 0
TheLastCmpCounts =
    (ms : List CallMade) (c : Controller) (accepted : Bool) (maximum : TenthAmps) → AfterCalls ms c
    → c.session.state ≡ Ready accepted maximum → OfOffer c.settings (last_taken ms) accepted maximum

-- "no ECR frame of any run asks more than the settings' maximum current, nor in Hold more than the maximum pack
-- voltage, told by the bytes sent"; and none asks less than 0 A
abbrev pub NoRequestAbove : Type 0
NoRequestAbove =
    (ms : List CallMade) (c : Controller) (r : Readings) (v : List ℕ) (t : List ℤ) (old new : List ℕ) (k : Ticked)
    → AfterCalls ms c → NextCall c (DidTick r v t old new k)
    → AllAskWithin c.settings (frames_written k.bytes new)

-- nor a current above the maximum that the last CMP taken offers, told by the bytes sent
abbrev pub NoRequestAboveTheStation : Type 0
NoRequestAboveTheStation =
    (ms : List CallMade) (c : Controller) (r : Readings) (v : List ℕ) (t : List ℤ) (old new : List ℕ) (k : Ticked)
    → AfterCalls ms c → NextCall c (DidTick r v t old new k)
    → AllAskWithinOffer (last_taken ms) (frames_written k.bytes new)

-- "what a session asks for is never above the maximum current of the settings in use"
abbrev pub NeverAboveTheMaximum : Type 0
NeverAboveTheMaximum =
    (ms : List CallMade) (c : Controller) → AfterCalls ms c
    → request_in c.session.state ≤ c.settings.limits.current.0

-- "R is the smaller of maximum current and the station's maximum": what a session in Charging asks for is never above
-- the maximum that the last CMP taken offers
abbrev pub NotAboveTheStation : Type 0
NotAboveTheStation =
    (ms : List CallMade) (c : Controller) → AfterCalls ms c → is_charging c.session.state ≡ true
    → WithinOffer (last_taken ms) (request_in c.session.state)

-- "What each message does in each state, when it comes from the session's own station (in Idle: from a station of the
-- settings' list)": the number and the session's record are those of the table `outcome_of`, and nothing else changes
abbrev pub WhatAMessageDoes : Type 0
WhatAMessageDoes =
    (ms : List CallMade) (c : Controller) (source : ℕ) (m : ChargeMessage) (id : ℕ) (s : List ℕ) (a : Answer)
    → AfterCalls ms c → NextCall c (DidReceive id s a) → Says c.settings source m id s → may_charge c source ≡ true
    → (a.number ≡ outcome_number (outcome_of c.settings c.session.state c.session.count m))
    × (a.controller
    ≡ with_session c
    (session_after source c.session (outcome_of c.settings c.session.state c.session.count m)))

-- ==== docs/INSURER.md: could the door display, the test laptop or the second station have done the same?

-- "No frame from another address than its station's can reach an open session." Two runs that begin with the same calls
-- from the start, up to an open session; then the same ticks with the same readings, tables and buffers of the same
-- length, whatever these hold before, the same frames of the session's station and the same new settings between the
-- same ticks, and all else different at will. What is told of the session, up to and with its end, is the same: the
-- numbers answered, the charge frames as they stand in the buffers, the session's record. And it ends at the same place
-- in both, or in neither. (An address is the source byte of the frame. Being of any two lists, this is also of any two
-- corresponding beginnings of longer ones.)
abbrev pub Undisturbed : Type 0
Undisturbed =
    (ps : List CallMade) (c : Controller) (ms ns : List CallMade) → AfterCalls ps c → NextCalls c ms → NextCalls c ns
    → no_session c ≡ false
    → map emptied (reaching c.session.station (calls_in ms))
    ≡ map emptied (reaching c.session.station (calls_in ns))
    → (life_in c.session.station (steps_made (Using c) ms) ≡ life_in c.session.station (steps_made (Using c) ns))
    × (place_of_end c.session.station (steps_made (Using c) ms)
    ≡ place_of_end c.session.station (steps_made (Using c) ns))

-- "No frame that the session cannot hear ever ends it"; it leaves settings and session's record as they were
abbrev pub Unreached : Type 0
Unreached =
    (ms : List CallMade) (c : Controller) (m : CallMade) → AfterCalls ms c → NextCall c m → no_session c ≡ false
    → reaches c.session.station (call_in m) ≡ false
    → ((use_then c m).settings ≡ c.settings) × ((use_then c m).session ≡ c.session)

-- "Nor can charge messages reach what others rely on." Two runs that begin with the same calls from the start and then
-- differ only in charge messages, and in what the lent buffers hold before: the same broadcasts and cell frames, in
-- their order in the buffers, and the same numbers to queries
abbrev pub Unmoved : Type 0
Unmoved =
    (ps : List CallMade) (c : Controller) (ms ns : List CallMade) → AfterCalls ps c → NextCalls c ms → NextCalls c ns
    → map emptied (others (calls_in ms)) ≡ map emptied (others (calls_in ns))
    → outputs_in (steps_made (Using c) ms) ≡ outputs_in (steps_made (Using c) ns)

-- "A silent station cannot hold us": an open session whose station says nothing that it heeds has ended within so many
-- accepted ticks, whatever others send
abbrev pub EndsWithin : ℕ → Type 0
EndsWithin n =
    (ps : List CallMade) (c : Controller) (ms : List CallMade) → AfterCalls ps c → NextCalls c ms
    → no_session c ≡ false → SilentIn (steps_made (Using c) ms) → n ≤ ticks_in (calls_in ms)
    → ends_in (steps_made (Using c) ms) ≡ true

-- "within 801 accepted ticks"
abbrev pub Within801 : Type 0
Within801 = EndsWithin longest

-- "800 are not enough"
abbrev pub EightHundredAreNotEnough : Type 0
EightHundredAreNotEnough = EndsWithin 800 → ⊥

-- a station that sends nothing is silent
abbrev pub SilentStation : Type 0
SilentStation =
    (ps : List CallMade) (c : Controller) (ms : List CallMade) → AfterCalls ps c → NextCalls c ms
    → sends_nothing c.session.station (calls_in ms) ≡ true → SilentIn (steps_made (Using c) ms)

-- "a restarted station's CIM does not hold a session open in Parameters"
abbrev pub CimHoldsNothing : Type 0
CimHoldsNothing =
    (ps : List CallMade) (c : Controller) (ms : List CallMade) → AfterCalls ps c → NextCalls c ms
    → c.session.state ≡ Parameters → SaysOnly is_cim c.settings c.session.station (calls_in ms)
    → longest ≤ ticks_in (calls_in ms) → ends_in (steps_made (Using c) ms) ≡ true

-- "nor do CIM, CVM, CMP and CRM hold one open in Charging"
abbrev pub CrmHoldsNothing : Type 0
CrmHoldsNothing =
    (ps : List CallMade) (c : Controller) (p : Phase) (ms : List CallMade) → AfterCalls ps c → NextCalls c ms
    → c.session.state ≡ Charging p → SaysOnly is_handshake c.settings c.session.station (calls_in ms)
    → longest ≤ ticks_in (calls_in ms) → ends_in (steps_made (Using c) ms) ≡ true

-- "Nor can others keep an open session from Charging": a station whose CIM has opened a session and which then follows
-- the handshake is in Charging after its CRM AA, with the offer of its last CMP
abbrev pub ReachesCharging : Type 0
ReachesCharging =
    (ps : List CallMade) (c : Controller) (st : ℕ) (o : Offer) (ms : List CallMade) → AfterCalls ps c → NextCalls c ms
    → c.session ≡ opened st → Follows c.settings st o UntilCvm 0 0 (reaching st (calls_in ms))
    → (use_last c ms).session ≡ charging_with c.settings st o

-- the same from Idle, with the CIM
abbrev pub FromCimToCharging : Type 0
FromCimToCharging =
    (ps : List CallMade) (c : Controller) (st id : ℕ) (s : List ℕ) (a : Answer) (o : Offer) (ms : List CallMade)
    → AfterCalls ps c → NextCalls c (DidReceive id s a ∷ ms) → no_session c ≡ true
    → listed st c.settings.stations ≡ true → Says c.settings st Cim id s
    → Follows c.settings st o UntilCvm 0 0 (reaching st (calls_in ms))
    → (use_last c (DidReceive id s a ∷ ms)).session ≡ charging_with c.settings st o

-- "from Idle no session is in Charging before eight, whoever sends what"
abbrev pub NoSooner : Type 0
NoSooner =
    (ps : List CallMade) (c : Controller) (ms : List CallMade) → AfterCalls ps c → NextCalls c ms
    → no_session c ≡ true → is_charging (use_last c ms).session.state ≡ true → 8 ≤ ticks_in (calls_in ms)

-- "Eight accepted ticks can be enough": there are calls from the start with eight accepted ticks among them after which
-- a session is in Charging
pub record ChargesAfter (n : ℕ) : Type 0 where
  pub calls : List CallMade
  pub controller : Controller
  pub made : AfterCalls calls controller
  pub charging : is_charging controller.session.state ≡ true
  pub ticks : ticks_in (calls_in calls) ≡ n

abbrev pub EightAreEnough : Type 0
EightAreEnough = ChargesAfter 8

-- ==== docs/PROMISES.md: the demands

-- Demand 1: "a refusal alters no state and writes no byte (one exception, at number 11)", of every entry point, any
-- controller and any input
abbrev pub Demand1 : Type 0
Demand1 = (b : Box) (m : CallMade) → KeepsPromise b m → (number_given m ≡ 0 → ⊥) → LeftAsItWas b m

-- "a refusal carries its number": each call, of any controller and any input, is answered by the first number of the
-- paper's table whose test holds, and by 0 where none does
abbrev pub TheNumbers : Type 0
TheNumbers = (b : Box) (m : CallMade) → KeepsPromise b m → number_given m ≡ first_given (lines_of b (call_in m))

-- Demand 2: "it does what the paper says, every frame sent and every state entered, over any sequence of calls from the
-- start": what the calls gave is what the paper's machine gives, and the controller in use differs from the machine's
-- only in how counts are kept. The machine's rules are the definitions that the promises name, read against the paper;
-- what it has of its own are counts that grow for ever, and any order and number of calls
abbrev pub Demand2 : Type 0
Demand2 =
    (ms : List CallMade) → AllKeepPromises NoController ms
    → (all_in_hand ms ≡ run paper_next NoController (calls_in ms))
    × InStep (box_at paper_next NoController (calls_in ms)) (box_last NoController ms)

-- none of this is empty: whatever is called once a record was accepted, there are answers that keep the promises
pub record CanBeMade (bytes : List ℕ) (ks : List Call) : Type 0 where
  pub calls : List CallMade
  pub kept : AllKeepPromises NoController calls
  pub same : calls_in calls ≡ Read bytes ∷ ks

abbrev pub AnyCallsCanBeMade : Type 0
AnyCallsCanBeMade = (bytes : List ℕ) (x : Settings) (ks : List Call) → read_of bytes ≡ Ok x → CanBeMade bytes ks

-- "there is a run that ends by an acknowledged stop": calls from the start after which a session is in Stopping and an
-- EST of ours has gone out since Stopping began; and a frame by which its station then says CST AA, which is taken and
-- ends the session
pub record AcknowledgedStop : Type 0 where
  pub calls : List CallMade
  pub controller : Controller
  pub made : AfterCalls calls controller
  pub stopping : is_stopping controller.session.state ≡ true
  pub gone : has_gone est calls ≡ true
  -- the frame: its identifier, its bytes, and what it says
  pub id : ℕ
  pub bytes : List ℕ
  pub says : Says controller.settings controller.session.station (Cst true) id bytes
  -- what it is answered, as the entry point promises
  pub answer : Answer
  pub kept : KeepsPromise (Using controller) (DidReceive id bytes answer)
  pub number : answer.number ≡ 0
  pub over : no_session answer.controller ≡ true

abbrev pub AnAcknowledgedStop : Type 0
AnAcknowledgedStop = AcknowledgedStop

-- "the rows marked P, as one table under a single statement"; "each number behind a name is the paper's"
abbrev pub TheWorkedRows : Type 0
TheWorkedRows = WorkedRows

abbrev pub ThePapersNumbers : Type 0
ThePapersNumbers = PaperNumbers
