-- "Gone out" of an ECP, both ways. That one has gone out where the count is past 5 is `ecp_told` (proofs/GoneOut.antt).
-- The other way: among all the frames of a tick none but Parameters' own is an ECP of ours, and Parameters sends none
-- before count 5. So after any calls one has gone out exactly where the count tells so. Assumes nothing.
use Prim.Native.Nat.{ℕ, ◌+◌, ◌%◌, ◌<◌, ◌≤◌}
use Rattle.std.proofs.Common.{Result, Ok, Err}
use Rattle.numbers.specs.declared.Refusal.{Refusal}
use native.Mathlib.Omega.{arith}
use mathlib.Core.Path.{◌≡◌, refl, sym, ap, subst, ◌∙◌}
use mathlib.Core.Bool.{Bool, true, false, not, cond, ◌&&◌, ◌||◌, false≢true}
use mathlib.Core.List.{List, [], ◌∷◌}
use borrow.Author.Tests.{eqb-true, ne_eqb, lt-ltb, ltb-true}
use lib.Dec.{eqb}
use lib.IntN.{ℤ}
use lib.ListN.{length}
use Rattle.messages.specs.Table.{EVM, ECP}
use Rattle.messages.specs.Identifier.{parts_of, number_of, identifier_of}
use Rattle.frames.specs.declared.Frame.{Frame}
use Rattle.settings.specs.declared.Settings.{Settings}
use Rattle.settings.specs.Read.{read_of, record_number}
use Rattle.readings.specs.declared.Readings.{Readings}
use Rattle.cells.specs.declared.Cells.{Cells}
use Rattle.cells.specs.Summaries.{cells_of}
use Rattle.refusals.specs.Tick.{tick_number}
use Rattle.refusals.proofs.Fine.{fine}
use Rattle.charge_messages.specs.declared.ChargeMessage.{ChargeMessage}
use Rattle.session_states.specs.Limits.{first_ecp}
use Rattle.session_states.specs.States.{is_parameters}
use Rattle.session_states.specs.declared.states.State.{State}
use Rattle.session_by_message.specs.declared.Outcome.{Outcome}
use Rattle.session_by_message.specs.Message.{outcome_of}
use Rattle.session_by_tick.specs.declared.Turn.{Turn}
use Rattle.session_by_tick.specs.declared.Turn.TheVariants as turn
use Rattle.session_frames.specs.Layouts.{evm_of, ecp_of}
use Rattle.session.specs.declared.Session.{Session}
use Rattle.session.specs.Session.{with_state, begun}
use Rattle.session.specs.Message.{session_after, applied_of, message_of}
use Rattle.session.specs.Frames.{parameters_frames, frames_in, frames_of}
use Rattle.session.specs.Tick.{turned_by, turn_in, sent_of}
use Rattle.session_paper_counts.specs.Literal.{literal_in, literal_advance, literal_tick}
use Rattle.controller.specs.declared.Controller.{Controller}
use Rattle.controller.specs.Frame.{Answer}
use Rattle.controller.specs.Start.{fresh_of, start_with, start_of}
use Rattle.controller.specs.Frame.{frame_to, session_moved}
use Rattle.controller.specs.Tick.{tick_frames, charge_frames, accepted}
use Rattle.demands.specs.Machine.{Call, Read, Receive, Tick, Write, Box, NoController, Using, Gave, paper_next, started, box_after, seen_of, box_at, number_seen, frames_seen}
use Rattle.demands.specs.Steps.{Step, steps_of}
use Rattle.demands.specs.FrameKinds.{pf_in, is_charge_frame, only}
use Rattle.demands.specs.GoneOut.{is_here, holds, sends, takes, goes_on, gone_after, gone, is_ours, ecp, since_first_ecp}
use Rattle.demands.proofs.Tests.{or_left, or_right}
use Rattle.demands.proofs.FrameKinds.{pf_sent, Bytes, charge_frames_told}
use Rattle.demands.proofs.Addresses.{BytesIn, run_bytes}
use Rattle.demands.proofs.Comes.{Comes, Left, Took, came}
use Rattle.demands.proofs.Outcomes.{outcome_leads}
use Rattle.demands.proofs.GoneOutMoves.{place, state_after, state_is, kept_count, begun_from_elsewhere, Goes, GoesOn, Begins, Farewells, Ends, turn_goes, ages}
use Rattle.demands.proofs.GoneOut.{ecp_told, parameters_is, parameters_at, parameters_alike}

-- ---- the frames
module _ (x : Settings) (station : ℕ) (k : station < 256) (o : x.own < 256) where
  -- by its identifier an ECP of ours is a charge frame
  ecp_charge : (f : Frame) → is_ours ECP x station f ≡ true → is_charge_frame f ≡ true
  unfolding is_ours is_charge_frame pf_in
  ecp_charge f h =
      let e : f.id ≡ identifier_of ECP station x.own = eqb-true f.id _ h in
      let n : (parts_of f.id).pf ≡ 0x06 =
      ap (λ (i : ℕ). (parts_of i).pf) e ∙ pf_sent ECP station x.own (omega arith) (omega arith) k o in
      rw n refl

  -- so one among any frames is among their charge frames
  among_charge : (fs : List Frame) → holds (is_ours ECP x station) fs ≡ true
      → holds (is_ours ECP x station) (only is_charge_frame fs) ≡ true
  unfolding holds only
  among_charge [] h = h
  among_charge (f ∷ fs) h = either (is_ours ECP x station f) (is_charge_frame f) refl refl (among_charge fs) h
    where
      either : (a b : Bool) → is_ours ECP x station f ≡ a → is_charge_frame f ≡ b
          → (holds (is_ours ECP x station) fs ≡ true → holds (is_ours ECP x station) (only is_charge_frame fs) ≡ true)
          → (a || holds (is_ours ECP x station) fs) ≡ true
          → holds (is_ours ECP x station) (cond b (f ∷ only is_charge_frame fs) (only is_charge_frame fs)) ≡ true
      either true true e i rest g = or_left (is_ours ECP x station f) _ e
      either true false e i rest g = absurd (false≢true (sym i ∙ ecp_charge f e))
      either false true e i rest g = or_right (is_ours ECP x station f) _ (rest g)
      either false false e i rest g = rest g

-- an EVM is none
evm_not : (x : Settings) (r : Readings) (station : ℕ) (b : Bool)
    → (is_ours ECP x station (evm_of x station r b) || false) ≡ false
unfolding is_ours evm_of number_of
evm_not x r station b =
    rw (ne_eqb (identifier_of EVM station x.own) (identifier_of ECP station x.own) (λ e. omega (arith, e)))

-- Parameters sends none before count 5
not_before : (x : Settings) (r : Readings) (station n : ℕ)
    → holds (is_ours ECP x station) (parameters_frames x r station n) ≡ true → first_ecp ≤ n
unfolding parameters_frames holds
not_before x r station n h = either (eqb n 0) (eqb (n % 10) first_ecp) refl h
  where
    either : (a b : Bool) → eqb (n % 10) first_ecp ≡ b
        → holds (is_ours ECP x station) (cond a (evm_of x station r true ∷ []) (cond b (ecp_of x station ∷ []) [])) ≡ true
        → first_ecp ≤ n
    either true b e g = absurd (false≢true (sym (evm_not x r station true) ∙ g))
    either false true e g = omega (arith, eqb-true (n % 10) first_ecp e)
    either false false e g = absurd (false≢true g)

-- ---- what is shown after each call: in Parameters, if one has gone out, the count is past the first
abbrev Past : Bool → Session → Type 0
Past g s = is_parameters s.state ≡ true → g ≡ true → since_first_ecp s.count ≡ true

-- the two ways in which one has gone out after a call (`gone_after`): it had, or it goes out now
two_ways : {A : Type 0} (a b t g k : Bool) → (a && (((b && not t) && g) || k)) ≡ true
    → (b ≡ true → g ≡ true → A) → (k ≡ true → A) → A
two_ways false b t g k h had now = absurd (false≢true h)
two_ways true false t g k h had now = now h
two_ways true true true g k h had now = now h
two_ways true true false false k h had now = now h
two_ways true true false true k h had now = had refl refl

-- a call that sends nothing
quiet : {A : Type 0} (a b t g : Bool) → (a && (((b && not t) && g) || false)) ≡ true → (b ≡ true → g ≡ true → A) → A
quiet a b t g h had = two_ways a b t g false h had (λ e. absurd (false≢true e))

as_it_was : (g t : Bool) (s u : Session) → u ≡ s → Past g s
    → Past (is_parameters u.state && (((is_parameters s.state && not t) && g) || false)) u
as_it_was g t s u e h p i =
    quiet (is_parameters u.state) (is_parameters s.state) t g i
    (λ q j. ap (λ (z : Session). since_first_ecp z.count) e ∙ h q j)

-- ---- a message: what comes in Parameters and leaves it so keeps its count
module _ (g t : Bool) (x : Settings) (source : ℕ) (s : Session) (h : Past g s) (m : ChargeMessage) where
  abbrev o : Outcome
  o = outcome_of x s.state s.count m

  kept : is_parameters s.state ≡ true → is_parameters (session_after source s o).state ≡ true
      → (session_after source s o).count ≡ s.count
  kept q p =
      let to : place (state_after s.state o) ≡ 3 = ap place (sym (state_is source s o)) ∙ parameters_at _ p in
      kept_count source s o
      (begun_from_elsewhere x s.count 3 (λ e. omega (arith, e)) s.state o
      (outcome_leads x s.count s.state m) (parameters_at s.state q) to)
      (λ e. omega (arith, e, to))

  message_past : Past
      (is_parameters (session_after source s o).state && (((is_parameters s.state && not t) && g) || false))
      (session_after source s o)
  message_past p i =
      quiet (is_parameters (session_after source s o).state) (is_parameters s.state) t g i
      (λ q j. ap since_first_ecp (kept q p) ∙ h q j)

-- ---- a tick
module _ (x : Settings) (r : Readings) (k : Cells) where
  -- in a state `to` with the count of `u` before it is raised
  module _ (u : Session) (to : State) where
    abbrev now : Session
    now = literal_in (with_state u to) to

    is_now : is_parameters now.state ≡ true → is_parameters to ≡ true
    is_now p = parameters_alike to now.state (ages u to).alike ∙ p

    raised : is_parameters now.state ≡ true → first_ecp ≤ u.count → since_first_ecp now.count ≡ true
    raised p l =
        let n : now.count ≡ u.count + 1 = (ages u to).count (λ e. omega (arith, e, parameters_at to (is_now p))) in
        lt-ltb first_ecp now.count (omega (arith, n, l))

    sent_late : is_parameters now.state ≡ true
        → holds (is_ours ECP x now.station) (frames_in x r k u.station u.count to) ≡ true
        → first_ecp ≤ u.count
    unfolding frames_in
    sent_late p e =
        not_before x r u.station u.count
        (ap (λ (st : State). holds (is_ours ECP x u.station) (frames_in x r k u.station u.count st))
        (sym (parameters_is to (is_now p)))
        ∙ (ap (λ (n : ℕ). holds (is_ours ECP x n) (frames_in x r k u.station u.count to))
        (sym (ages u to).station) ∙ e))

  module _ (g : Bool) (s : Session) (h : Past g s) where
    turn_past : (t : Turn) → Goes s.state t
        → Past
        (is_parameters (literal_advance (turned_by s t)).state
        && (((is_parameters s.state && not false) && g)
        || holds (is_ours ECP x (literal_advance (turned_by s t)).station)
        (frames_of x r k s.station t (turned_by s t))))
        (literal_advance (turned_by s t))
    unfolding literal_advance turned_by frames_of literal_in is_parameters
    turn_past (turn.On to) (GoesOn a) p i =
        raised s to p
        (two_ways (is_parameters (now s to).state) (is_parameters s.state) false g _ i
        (λ q j. omega (arith, ltb-true first_ecp s.count (h q j))) (sent_late s to p))
    turn_past (turn.Enter to) (Begins n) p i =
        let u = begun s to in
        raised u to p
        (two_ways (is_parameters (now u to).state) (is_parameters s.state) false g _ i
        (λ q j. absurd (n (parameters_at s.state q ∙ sym (parameters_at to (is_now u to p))))) (sent_late u to p))
    turn_past turn.Farewell Farewells p i = absurd (false≢true p)
    turn_past turn.End Ends p i = absurd (false≢true p)

    tick_past : Past
        (is_parameters (literal_tick x r k s).state
        && (((is_parameters s.state && not false) && g)
        || holds (is_ours ECP x (literal_tick x r k s).station) (sent_of x r k s)))
        (literal_tick x r k s)
    unfolding literal_tick sent_of turn_in
    tick_past = turn_past (turn_in x r k s) (turn_goes x r k s.state s.count s.silence)

-- ---- any call
unfoldable PastIn : Bool → Box → Type 0
PastIn g NoController = Unit {0}
PastIn g (Using c) = Past g c.session

abbrev step_at : Box → Call → Step
step_at b k = record { before = b; call = k; seen = seen_of paper_next b k; after = box_after paper_next b k }

-- what goes out now, told by fewer frames
fewer : (a b k l : Bool) → (k ≡ true → l ≡ true) → (a && (b || k)) ≡ true → (a && (b || l)) ≡ true
fewer false b k l f h = h
fewer true true k l f h = refl
fewer true false k l f h = f h

module _ (g : Bool) (c : Controller) (h : Past g c.session) where
  frame_past : (id : ℕ) (l : List ℕ) (a : Answer) → Comes c id l a → (t : Bool)
      → Past
      (is_parameters a.controller.session.state && (((is_parameters c.session.state && not t) && g) || false))
      a.controller.session
  unfolding session_moved message_of applied_of
  frame_past id l a (Left u e f) t = as_it_was g t c.session a.controller.session e h
  frame_past id l a (Took m says may e) t = rw e (message_past g t c.settings (parts_of id).source c.session h m)

  -- accepted or not
  tick_at : (b : Bytes c) (r : Readings) (v : List ℕ) (t : List ℤ) (l m n room : ℕ) (new old : List ℕ) (took : Bool)
      → accepted c r v t room ≡ took
      → Bytes (cond took (paper_next c r v t) c)
      → PastIn
      (gone_after ecp g
      (record {
        before = Using c;
        call = Tick r v t old;
        seen = cond took (Gave 0 l (tick_frames c r v t) new) (Gave m n [] old);
        after = Using (cond took (paper_next c r v t) c);
      }))
      (Using (cond took (paper_next c r v t) c))
  unfolding PastIn gone_after goes_on is_here sends takes frames_seen paper_next charge_frames holds ecp accepted
  tick_at b r v t l m n room new old true e d p i =
      let x = c.settings in
      let u = literal_tick x r (cells_of v t) c.session in
      let fits = (fine r v t room (eqb-true (tick_number r v t room) 0 e)).fits in
      tick_past x r (cells_of v t) g c.session h p
      (fewer (is_parameters u.state) ((is_parameters c.session.state && not false) && g) _ _
      (λ k. ap (holds (is_ours ECP x u.station)) (sym (charge_frames_told c b r v t fits))
      ∙ among_charge x u.station d.station b.own (tick_frames c r v t) k) i)
  tick_at b r v t l m n room new old false e d p i = as_it_was g false c.session c.session refl h p i

read_past : (g : Bool) (b : Box) (s : List ℕ) (a : Result Settings Refusal) → PastIn g b
    → PastIn
    (gone_after ecp g
    (record { before = b; call = Read s; seen = Gave (record_number s) 0 [] []; after = started (start_with a) b }))
    (started (start_with a) b)
unfolding PastIn gone_after goes_on is_here sends takes frames_seen started start_with fresh_of holds ecp is_parameters
read_past g b s (Ok x) h = λ p i. absurd (false≢true p)
read_past g NoController s (Err n) h = tt
read_past g (Using c) s (Err n) h = as_it_was g false c.session c.session refl h

call_past : (g : Bool) (b : Box) (k : Call) → BytesIn b → BytesIn (box_after paper_next b k) → PastIn g b
    → PastIn (gone_after ecp g (step_at b k)) (box_after paper_next b k)
unfolding PastIn BytesIn gone_after goes_on is_here sends takes number_seen frames_seen box_after seen_of start_of holds ecp
call_past g b (Read s) y z h = read_past g b s (read_of s) h
call_past g NoController (Receive id s) y z h = tt
call_past g (Using c) (Receive id s) y z h =
    frame_past g c h id s (frame_to c id s) (came c id s)
    (takes ecp.anew (Receive id s) (seen_of paper_next (Using c) (Receive id s)))
call_past g NoController (Tick r v t old) y z h = tt
call_past g (Using c) (Tick r v t old) y z h =
    tick_at g c h y r v t _ _ _ (length old) _ old (accepted c r v t (length old)) refl z
call_past g NoController (Write old) y z h = tt
call_past g (Using c) (Write old) y z h = as_it_was g false c.session c.session refl h

-- ---- any run
run_past : (g : Bool) (b : Box) (ks : List Call) → BytesIn b → PastIn g b
    → PastIn (gone ecp g (steps_of b ks)) (box_at paper_next b ks)
unfolding gone steps_of box_at
run_past g b [] y h = h
run_past g b (k ∷ ks) y h =
    let z = run_bytes b (k ∷ []) y in
    run_past (gone_after ecp g (step_at b k)) (box_after paper_next b k) ks z (call_past g b k y z h)

either_way : (a b : Bool) → (a ≡ true → b ≡ true) → (b ≡ true → a ≡ true) → a ≡ b
either_way true b f h = sym (f refl)
either_way false true f h = h refl
either_way false false f h = refl

-- after any calls from the start, in Parameters: the count is past the first exactly where an ECP has gone out
pub ecp_exactly : (ks : List Call) (c : Controller) → box_at paper_next NoController ks ≡ Using c
    → is_parameters c.session.state ≡ true
    → since_first_ecp c.session.count ≡ gone ecp false (steps_of NoController ks)
unfolding PastIn BytesIn
ecp_exactly ks c e h =
    either_way _ _ (ecp_told ks c e h)
    (subst (PastIn (gone ecp false (steps_of NoController ks))) e (run_past false NoController ks tt tt) h)
