-- "Stopping and Error end to Idle at count 600", whatever anyone sends, and "Stopping EST each tick" (specs/Closing.antt).
-- No message gives a session in Stopping or in Error more ticks, and each accepted tick takes one. Assumes nothing.
use Prim.Native.Nat.{ℕ, ◌+◌, ◌-◌, ◌≤◌}
use Rattle.std.proofs.Common.{Option, Some, None}
use Rattle.std.proofs.Common.{Result, Ok, Err}
use Rattle.numbers.specs.declared.Refusal.{Refusal}
use native.Mathlib.Omega.{arith}
use mathlib.Core.Path.{◌≡◌, refl, sym, ap, subst, ◌∙◌}
use mathlib.Core.Bool.{Bool, true, false, cond, false≢true}
use mathlib.Core.List.{List, [], ◌∷◌, ◌++◌}
use lib.Dec.{ltb, leb}
use lib.IntN.{ℤ}
use borrow.Author.Tests.{eq-eqb, leb-false}
use Rattle.messages.specs.Identifier.{parts_of, identifier_of}
use Rattle.messages.specs.Table.{EST}
use Rattle.frames.specs.declared.Frame.{Frame}
use Rattle.settings.specs.declared.Settings.{Settings}
use Rattle.settings.specs.Read.{read_of}
use Rattle.readings.specs.declared.Readings.{Readings}
use Rattle.cells.specs.declared.Cells.{Cells}
use Rattle.cells.specs.Summaries.{cells_of}
use Rattle.charge_messages.specs.declared.ChargeMessage.{ChargeMessage}
use Rattle.charge_messages.specs.declared.ChargeMessage.TheVariants.{Cim, Cvm, Cmp, Crm, Ccs, Cst, Cem}
use Rattle.session_states.specs.Limits.{closing_limit}
use Rattle.session_states.specs.declared.states.Est.{Est}
use Rattle.session_states.specs.declared.states.State.{State}
use Rattle.session_states.specs.declared.states.State.TheVariants.{Idle, Offered, Unverified, Parameters, Ready, Charging, Stopping, Error}
use Rattle.session_states.specs.States.{is_idle, is_stopping, is_closing}
use Rattle.session_by_message.specs.declared.Outcome.{Outcome}
use Rattle.session_by_message.specs.declared.Outcome.TheVariants as outcome
use Rattle.session_by_message.specs.Message.{outcome_of, in_stopping, in_error}
use Rattle.session_by_tick.specs.declared.Turn.{Turn}
use Rattle.session_by_tick.specs.declared.Turn.TheVariants as turn
use Rattle.session_by_tick.specs.Turns.{est_then, stopping_of, error_of, turn_of}
use Rattle.session_frames.specs.Layouts.{est_frame}
use Rattle.session.specs.declared.Session.{Session}
use Rattle.session.specs.Session.{begun}
use Rattle.session.specs.Message.{session_after, applied_of, message_of}
use Rattle.session.specs.Frames.{est_bytes, stopping_frames, frames_in, frames_of}
use Rattle.session.specs.Tick.{turned_by, turn_in, sent_of}
use Rattle.session_paper_counts.specs.Folds.{folds}
use Rattle.session_paper_counts.specs.Literal.{grown, counted, literal_in, literal_advance, literal_tick}
use Rattle.controller.specs.declared.Controller.{Controller}
use Rattle.controller.specs.Frame.{Answer}
use Rattle.controller.specs.Start.{fresh_of}
use Rattle.controller.specs.Frame.{frame_to, session_moved}
use Rattle.controller.specs.Tick.{charge_frames}
use Rattle.demands.specs.Machine.{Call, Read, Receive, Tick, Write, Box, Using, Seen, paper_next, seen_of, frames_seen}
use Rattle.demands.specs.Calls.{CallMade, DidTick, call_in, KeepsPromise, in_hand, calls_in}
use Rattle.demands.specs.Since.{use_then}
use Rattle.demands.specs.After.{accepts, read_into, after, no_session, ends_within}
use Rattle.demands.specs.Apart.{sent_at}
use Rattle.demands.specs.Unmoved.{beside_at}
use Rattle.demands.specs.GoneOut.{holds, is_ours}
use Rattle.demands.specs.Silent.{is_accepted_tick, ticks_in}
use Rattle.demands.specs.Statements.{ClosingEnds, EstEachTick}
use Rattle.demands.proofs.Tests.{or_left, or_right, same}
use Rattle.demands.proofs.Comes.{Comes, Left, Took, came}
use Rattle.demands.proofs.Since.{seen_tick}
use Rattle.demands.proofs.StepsMade.{in_hand_seen, its_own, own_box}
use Rattle.demands.proofs.OfCalls.{accepted_as, session_use, stopping_folds}
use Rattle.demands.proofs.OfRuns.{ends_made}

-- ---- what becomes of a session in Stopping or Error: it is over; or it is still there, and has the ticks to go that it
-- had, less `n`
data Closes (n : ℕ) (s t : Session) : Type 0 where
  Over : is_idle t.state ≡ true → Closes n s t
  Still : is_closing t.state ≡ true → n + (closing_limit - t.count) ≤ closing_limit - s.count → Closes n s t

-- ---- a message: the state goes on with its count, or ends
unfoldable keeps : Outcome → Bool
keeps outcome.Refuse = true
keeps outcome.OutOfStep = true
keeps outcome.Open = false
keeps outcome.Heard = true
keeps (outcome.Enter st) = false
keeps (outcome.Keep st) = is_closing st
keeps outcome.End = true

message_keeps : (x : Settings) (n : ℕ) (st : State) (m : ChargeMessage) → is_closing st ≡ true
    → keeps (outcome_of x st n m) ≡ true
unfolding is_closing keeps outcome_of in_stopping in_error
message_keeps x n Idle m h = absurd (false≢true h)
message_keeps x n Offered m h = absurd (false≢true h)
message_keeps x n Unverified m h = absurd (false≢true h)
message_keeps x n Parameters m h = absurd (false≢true h)
message_keeps x n (Ready y most) m h = absurd (false≢true h)
message_keeps x n (Charging p) m h = absurd (false≢true h)
message_keeps x n (Stopping k e) Cim h = refl
message_keeps x n (Stopping k e) (Cvm b) h = refl
message_keeps x n (Stopping k e) (Cmp o) h = refl
message_keeps x n (Stopping k e) (Crm b) h = refl
message_keeps x n (Stopping k e) (Ccs b) h = refl
message_keeps x n (Stopping k e) (Cst b) h = same keeps b (same keeps (ltb 0 n) refl refl) refl
message_keeps x n (Stopping k e) Cem h = refl
message_keeps x n Error Cim h = refl
message_keeps x n Error (Cvm b) h = refl
message_keeps x n Error (Cmp o) h = refl
message_keeps x n Error (Crm b) h = refl
message_keeps x n Error (Ccs b) h = refl
message_keeps x n Error (Cst b) h = refl
message_keeps x n Error Cem h = refl

message_closes : (source : ℕ) (s : Session) (o : Outcome) → keeps o ≡ true → is_closing s.state ≡ true
    → Closes 0 s (session_after source s o)
unfolding session_after keeps is_idle
message_closes source s outcome.Refuse k h = Still h (omega arith)
message_closes source s outcome.OutOfStep k h = Still h (omega arith)
message_closes source s outcome.Open k h = absurd (false≢true k)
message_closes source s outcome.Heard k h = Still h (omega arith)
message_closes source s (outcome.Enter st) k h = absurd (false≢true k)
message_closes source s (outcome.Keep st) k h = Still k (omega arith)
message_closes source s outcome.End k h = Over refl

-- ---- a tick: the count is one more, or the session ends
module _ (x : Settings) (r : Readings) (c : Cells) (s : Session) where
  abbrev Next : Turn → Type 0
  Next t = Closes 1 s (literal_advance (turned_by s t))

  ends : Next turn.End
  unfolding literal_advance literal_in turned_by is_idle
  ends = Over refl

  goes_on_lem : (st : State) → is_closing st ≡ true → leb closing_limit s.count ≡ false → Next (turn.On st)
  unfolding literal_advance literal_in counted turned_by is_closing
  goes_on_lem Idle h l = absurd (false≢true h)
  goes_on_lem Offered h l = absurd (false≢true h)
  goes_on_lem Unverified h l = absurd (false≢true h)
  goes_on_lem Parameters h l = absurd (false≢true h)
  goes_on_lem (Ready y most) h l = absurd (false≢true h)
  goes_on_lem (Charging p) h l = absurd (false≢true h)
  goes_on_lem (Stopping k e) h l = Still refl (omega (arith, leb-false closing_limit s.count l))
  goes_on_lem Error h l = Still refl (omega (arith, leb-false closing_limit s.count l))

  either_way : (st : State) → is_closing st ≡ true → (l : Bool) → leb closing_limit s.count ≡ l
      → Next (cond l turn.End (turn.On st))
  either_way st h true l = ends
  either_way st h false l = goes_on_lem st h l

  turn_closes : (st : State) → is_closing st ≡ true → Next (turn_of x r c st s.count s.silence)
  unfolding turn_of stopping_of error_of is_closing
  turn_closes Idle h = absurd (false≢true h)
  turn_closes Offered h = absurd (false≢true h)
  turn_closes Unverified h = absurd (false≢true h)
  turn_closes Parameters h = absurd (false≢true h)
  turn_closes (Ready y most) h = absurd (false≢true h)
  turn_closes (Charging p) h = absurd (false≢true h)
  turn_closes (Stopping k e) h = either_way (Stopping k (est_then x r c e)) refl (leb closing_limit s.count) refl
  turn_closes Error h = either_way Error refl (leb closing_limit s.count) refl

  tick_closes : is_closing s.state ≡ true → Closes 1 s (literal_tick x r c s)
  unfolding literal_tick turn_in
  tick_closes h = turn_closes s.state h

-- ---- any call
module _ (c : Controller) (h : is_closing c.session.state ≡ true) where
  frame_closes : (id : ℕ) (s : List ℕ) (a : Answer) → Comes c id s a → Closes 0 c.session a.controller.session
  unfolding session_moved message_of applied_of
  frame_closes id s a (Left u e n) = subst (Closes 0 c.session) (sym e) (Still h (omega arith))
  frame_closes id s a (Took m says may e) =
      subst (λ (z : Answer). Closes 0 c.session z.controller.session) (sym e)
      (message_closes (parts_of id).source c.session _ (message_keeps c.settings c.session.count c.session.state m h) h)

  tick_either : (r : Readings) (v : List ℕ) (t : List ℤ) (b : Bool)
      → Closes (cond b 1 0) c.session (cond b (paper_next c r v t) c).session
  unfolding paper_next
  tick_either r v t true = tick_closes c.settings r (cells_of v t) c.session h
  tick_either r v t false = Still h (omega arith)

  read_closes : (a : Result Settings Refusal) → Closes 0 c.session (read_into a c).session
  unfolding read_into fresh_of is_idle
  read_closes (Ok x) = Over refl
  read_closes (Err n) = Still h (omega arith)

  call_closes : (e : Call) → Closes (cond (is_accepted_tick e) 1 0) c.session (after c e).session
  unfolding is_accepted_tick after
  call_closes (Receive id s) = frame_closes id s (frame_to c id s) (came c id s)
  call_closes (Tick r v t old) = tick_either r v t (accepts r v t old)
  call_closes (Write old) = Still h (omega arith)
  call_closes (Read s) = read_closes (read_of s)

-- ---- any run
at_once : (es : List Call) (c : Controller) → is_idle c.session.state ≡ true → ends_within c es ≡ true
unfolding ends_within no_session
at_once [] c h = h
at_once (e ∷ es) c h = or_left _ _ h

-- the end, whether it comes with this call or later
ends_after : (n : ℕ) (s : Session) (es : List Call) (d : Controller) → Closes n s d.session
    → (is_closing d.session.state ≡ true → n + (closing_limit - d.session.count) ≤ closing_limit - s.count → ends_within d es ≡ true)
    → ends_within d es ≡ true
ends_after n s es d (Over o) later = at_once es d o
ends_after n s es d (Still k l) later = later k l

closing_ends_by : (es : List Call) (c : Controller) → is_closing c.session.state ≡ true
    → 1 + (closing_limit - c.session.count) ≤ ticks_in es → ends_within c es ≡ true
unfolding ends_within ticks_in
closing_ends_by [] c h l = absurd (omega (arith, l))
closing_ends_by (e ∷ es) c h l =
    or_right (no_session c) _
    (ends_after _ c.session es (after c e) (call_closes c h e) (λ k n. closing_ends_by es (after c e) k (omega (arith, l, n))))

still_open : (st : State) → is_closing st ≡ true → is_idle st ≡ false
unfolding is_closing is_idle
still_open Idle h = absurd (false≢true h)
still_open Offered h = refl
still_open Unverified h = refl
still_open Parameters h = refl
still_open (Ready y most) h = refl
still_open (Charging p) h = refl
still_open (Stopping k e) h = refl
still_open Error h = refl

closing_open : (c : Controller) → is_closing c.session.state ≡ true → no_session c ≡ false
unfolding no_session
closing_open c h = still_open c.session.state h

pub closing_ends : ClosingEnds
closing_ends ps c ms a n h l =
    ends_made ps c ms a n (closing_open c h) ∙ closing_ends_by (calls_in ms) c h (omega (arith, l))

-- ---- Stopping sends an EST at each tick
own_est : (x : Settings) (station : ℕ) (k : Bool) (e : (Option Est)) (fs : List Frame)
    → holds (is_ours EST x station) (est_bytes x station k e ∷ fs) ≡ true
unfolding holds is_ours est_bytes est_frame
own_est x station k None fs = or_left _ _ (eq-eqb (identifier_of EST station x.own) _ refl)
own_est x station k (Some bytes) fs = or_left _ _ (eq-eqb (identifier_of EST station x.own) _ refl)

module _ (x : Settings) (r : Readings) (c : Cells) (others : List Frame) where
  abbrev Sends : ℕ → List Frame → Type 0
  Sends station fs = holds (is_ours EST x station) (fs ++ others) ≡ true

  in_sends : (u : Session) (n : ℕ) (st : State) → is_stopping (literal_in u st).state ≡ true → u.state ≡ st
      → Sends u.station (frames_in x r c u.station n st)
  unfolding literal_in grown counted is_stopping frames_in stopping_frames
  in_sends u n Idle h e = absurd (false≢true (ap is_stopping (sym e) ∙ h))
  in_sends u n Offered h e = absurd (false≢true h)
  in_sends u n Unverified h e = absurd (false≢true h)
  in_sends u n Parameters h e = absurd (false≢true h)
  in_sends u n (Ready y most) h e = absurd (false≢true h)
  in_sends u n (Charging p) h e = absurd (false≢true h)
  in_sends u n (Stopping k f) h e = own_est x u.station k f _
  in_sends u n Error h e = absurd (false≢true h)

  turn_sends : (s : Session) (t : Turn) → is_stopping (literal_advance (turned_by s t)).state ≡ true
      → Sends s.station (frames_of x r c s.station t (turned_by s t))
  unfolding literal_advance literal_in turned_by frames_of is_stopping
  turn_sends s (turn.On st) h = in_sends (turned_by s (turn.On st)) s.count st h refl
  turn_sends s (turn.Enter st) h = in_sends (begun s st) 0 st h refl
  turn_sends s turn.Farewell h = absurd (false≢true h)
  turn_sends s turn.End h = absurd (false≢true h)

  tick_sends : (s : Session) → is_stopping (literal_tick x r c s).state ≡ true → Sends s.station (sent_of x r c s)
  unfolding literal_tick sent_of
  tick_sends s h = turn_sends s (turn_in x r c s) h

-- of one accepted tick of any controller
seen_sends : (c : Controller) (r : Readings) (v : List ℕ) (t : List ℤ) (old : List ℕ) → accepts r v t old ≡ true
    → is_stopping (after c (Tick r v t old)).session.state ≡ true
    → holds (is_ours EST c.settings c.session.station) (frames_seen (seen_of paper_next (Using c) (Tick r v t old))) ≡ true
unfolding after paper_next sent_at charge_frames
seen_sends c r v t old a h =
    rw ((seen_tick c r v t old).1, a)
    (tick_sends c.settings r (cells_of v t) (beside_at c r v t old) c.session (rw a at h))

pub est_each_tick : EstEachTick
unfolding call_in use_then in_hand frames_seen folds
est_each_tick ms c r v t old new k a h z st =
    let m : CallMade = DidTick r v t old new k in
    let e : in_hand m ≡ seen_of paper_next (Using c) (Tick r v t old) =
    in_hand_seen (Using c) m (subst (λ (b : Box). KeepsPromise b m) (sym (own_box c (its_own ms c a))) h) in
    let there : is_stopping (after c (Tick r v t old)).session.state ≡ true =
    sym (stopping_folds (after c (Tick r v t old)).session.state)
    ∙ (ap (λ (s : Session). is_stopping s.state) (sym (session_use ms c m a h)) ∙ st) in
    subst (λ (y : Seen). holds (is_ours EST c.settings c.session.station) (frames_seen y) ≡ true) (sym e)
    (seen_sends c r v t old (accepted_as c r v t old new k h z) there)
