-- "Gone out", over any run, for any watch (specs/GoneOut.antt): where a state's count tells whether the frame has gone
-- out at one tick and at one message (`Law`), it tells so after any calls (`told_by_count`). Assumes nothing.
use Prim.Native.Nat.{ℕ, ◌+◌}
use Rattle.std.proofs.Common.{Result, Ok, Err}
use Rattle.numbers.specs.declared.Refusal.{Refusal}
use mathlib.Core.Path.{◌≡◌, refl, sym, ap, subst, ◌∙◌}
use mathlib.Core.Bool.{Bool, true, false, not, cond, ◌&&◌, ◌||◌}
use mathlib.Core.List.{List, [], ◌∷◌, ◌++◌}
use lib.Dec.{eqb}
use lib.IntN.{ℤ}
use lib.ListN.{length}
use Rattle.messages.specs.declared.received.Message.TheVariants as message
use Rattle.messages.specs.Identifier.{parts_of}
use Rattle.messages.specs.Received.{recognized_of}
use Rattle.frames.specs.declared.Frame.{Frame}
use Rattle.settings.specs.declared.Settings.{Settings}
use Rattle.settings.specs.Read.{read_of, record_number}
use Rattle.readings.specs.declared.Readings.{Readings}
use Rattle.cells.specs.declared.Cells.{Cells}
use Rattle.cells.specs.Summaries.{cells_of}
use Rattle.charge_messages.specs.declared.ChargeMessage.{ChargeMessage}
use Rattle.session_states.specs.declared.states.State.{State}
use Rattle.session_states.specs.declared.states.State.TheVariants.{Idle}
use Rattle.session_by_message.specs.declared.Outcome.{Outcome}
use Rattle.session_by_message.specs.Message.{outcome_of, outcome_number}
use Rattle.session_by_tick.specs.declared.Turn.{Turn}
use Rattle.session_by_tick.specs.declared.Turn.TheVariants as turn
use Rattle.session.specs.declared.Session.{Session}
use Rattle.session.specs.Session.{with_state, begun}
use Rattle.session.specs.Message.{session_after, applied_of, message_of}
use Rattle.session.specs.Frames.{frames_in, frames_of}
use Rattle.session.specs.Tick.{turned_by, turn_in, sent_of}
use Rattle.session_paper_counts.specs.Literal.{literal_in, literal_advance, literal_tick}
use Rattle.controller.specs.declared.Controller.{Controller}
use Rattle.controller.specs.Frame.{Answer}
use Rattle.controller.specs.Start.{fresh_of, start_with, start_of}
use Rattle.controller.specs.Frame.{frame_to, session_moved}
use Rattle.controller.specs.Tick.{tick_frames, charge_frames, broadcast_frames, cell_frames, accepted}
use Rattle.demands.specs.Machine.{Call, Read, Receive, Tick, Write, Box, NoController, Using, Gave, paper_next, started, box_after, seen_of, box_at, number_seen, frames_seen}
use Rattle.demands.specs.After.{is_charge}
use Rattle.demands.specs.Says.{charge_of}
use Rattle.demands.specs.Steps.{Step, steps_of}
use Rattle.demands.specs.GoneOut.{Watch, is_here, holds, sends, is_one_of, takes, goes_on, gone_after, gone}
use Rattle.demands.proofs.View.{pf_is}
use Rattle.demands.proofs.Comes.{Comes, Left, Took, came}
use Rattle.demands.proofs.Outcomes.{outcome_leads}
use Rattle.demands.proofs.GoneOutMoves.{place, Alike, begins, state_after, state_is, begun_at_0, kept_count, kept_state, Goes, GoesOn, Begins, Farewells, Ends, turn_goes, ages, left_untaken}

-- ---- of tests
or_none : (a : Bool) → (a || false) ≡ a
or_none true = refl
or_none false = refl

-- a state that goes on, and one that begins
on_value : (a b t g k : Bool) → a ≡ true → b ≡ true → t ≡ false → (a && (((b && not t) && g) || k)) ≡ (g || k)
on_value a b t g k h i j = rw (h, i, j)

new_value : (a b t g k : Bool) → a ≡ true → (b ≡ true → t ≡ true) → (a && (((b && not t) && g) || k)) ≡ k
new_value a true t g k h i = rw (h, i refl)
new_value a false t g k h i = rw h

-- ---- the law
module _ (w : Watch) (sure : State → Bool) (Told : ℕ → Bool → Type 0) where
  -- in the states of `sure` the count tells
  pub record Law : Type 0 where
    -- one of the eight states is watched, and it is not Idle
    pub at : ℕ
    pub not_idle : at ≡ 0 → ⊥
    pub here_at : (st : State) → w.here st ≡ true → place st ≡ at
    pub sure_here : (st : State) → sure st ≡ true → w.here st ≡ true
    pub alike : (st to : State) → Alike st to → sure st ≡ sure to
    -- when the state begins none has gone out
    pub none : Told 0 false
    -- a tick: one had gone out, or is among the frames of the state at its count, to which others may come
    pub tick : (x : Settings) (r : Readings) (k : Cells) (station n : ℕ) (st : State) (others : List Frame) (before : Bool)
        → sure st ≡ true → Told n before
        → Told (n + 1) (before || holds (w.ours x station) (frames_in x r k station n st ++ others))
    -- a message that comes in the state and leaves it so begins it exactly where the watch says
    pub message : (x : Settings) (n : ℕ) (st : State) (m : ChargeMessage) → w.here st ≡ true
        → w.here (state_after st (outcome_of x st n m)) ≡ true
        → (w.anew (charge_of m) && eqb (outcome_number (outcome_of x st n m)) 0) ≡ begins (outcome_of x st n m)

module _ (w : Watch) (sure : State → Bool) (Told : ℕ → Bool → Type 0) (law : Law w sure Told) where
  -- what is shown after each call
  abbrev Agrees : Bool → Session → Type 0
  Agrees before s = sure s.state ≡ true → Told s.count before

  never_idle : (st : State) → sure st ≡ true → place st ≡ 0 → ⊥
  never_idle st h e = law.not_idle (sym (law.here_at st (law.sure_here st h)) ∙ e)

  idle_not : sure Idle ≡ true → ⊥
  unfolding place
  idle_not h = never_idle Idle h refl

  -- the value of `gone_after` where nothing is sent
  abbrev quiet : Bool → State → Bool → State → Bool
  quiet before st t to = w.here to && (((w.here st && not t) && before) || false)

  as_it_was : (before t : Bool) (s u : Session) → u ≡ s → t ≡ false → Agrees before s
      → Agrees (quiet before s.state t u.state) u
  as_it_was before t s u e f h =
      subst (λ (z : Session). Agrees (quiet before s.state t z.state) z) (sym e)
      (λ p. let i = law.sure_here s.state p in
      subst (Told s.count) (sym (on_value _ _ t before false i i f ∙ or_none before)) (h p))

  -- ---- a message
  module _ (before : Bool) (x : Settings) (source : ℕ) (s : Session) (h : Agrees before s) (m : ChargeMessage) where
    abbrev o : Outcome
    o = outcome_of x s.state s.count m

    abbrev later : Session
    later = session_after source s o

    abbrev taken : Bool
    taken = w.anew (charge_of m) && eqb (outcome_number o) 0

    here_later : sure later.state ≡ true → w.here (state_after s.state o) ≡ true
    here_later p = ap w.here (sym (state_is source s o)) ∙ law.sure_here later.state p

    message_agrees : (b : Bool) → begins o ≡ b → Agrees (quiet before s.state taken later.state) later
    message_agrees true e p =
        rw (begun_at_0 source s o e)
        (subst (Told 0)
        (sym (new_value _ (w.here s.state) taken before false (law.sure_here later.state p)
        (λ i. law.message x s.count s.state m i (here_later p) ∙ e)))
        law.none)
    message_agrees false e p =
        let open-then : (place (state_after s.state o) ≡ 0 → ⊥) = λ z. never_idle later.state p (ap place (state_is source s o) ∙ z) in
        let q = law.alike s.state _ (kept_state x s.count s.state o (outcome_leads x s.count s.state m) e open-then)
        ∙ (ap sure (sym (state_is source s o)) ∙ p) in
        let i = law.sure_here s.state q in
        rw (kept_count source s o e open-then)
        (subst (Told s.count)
        (sym (on_value _ (w.here s.state) taken before false (law.sure_here later.state p) i
        (law.message x s.count s.state m i (here_later p) ∙ e)
        ∙ or_none before))
        (h q))

  -- ---- a tick
  module _ (before : Bool) (x : Settings) (r : Readings) (k : Cells) (s : Session) (h : Agrees before s) (others : List Frame) where
    -- the value of `gone_after`
    abbrev ticked : Session → List Frame → Bool
    ticked u fs =
        w.here u.state && (((w.here s.state && not false) && before) || holds (w.ours x u.station) (fs ++ others))

    -- a state `to` that the session is in at this tick, with the count `n` before it is raised
    module _ (u : Session) (to : State) where
      abbrev now : Session
      now = literal_in (with_state u to) to

      sure_at : sure now.state ≡ true → sure to ≡ true
      sure_at p = law.alike to now.state (ages u to).alike ∙ p

      raised : (g b : Bool) → sure now.state ≡ true → Told u.count g
          → b ≡ (g || holds (w.ours x u.station) (frames_in x r k u.station u.count to ++ others))
          → Told now.count b
      raised g b p i e =
          rw ((ages u to).count (never_idle to (sure_at p)), e)
          (law.tick x r k u.station u.count to others g (sure_at p) i)

    turn_agrees : (t : Turn) → Goes s.state t
        → Agrees (ticked (literal_advance (turned_by s t)) (frames_of x r k s.station t (turned_by s t))) (literal_advance (turned_by s t))
    unfolding literal_advance turned_by frames_of literal_in
    turn_agrees (turn.On to) (GoesOn a) p =
        let q = law.alike s.state to a ∙ sure_at s to p in
        raised s to before _ p (h q)
        (rw (ages s to).station
        (on_value _ (w.here s.state) false before _ (law.sure_here _ p) (law.sure_here s.state q) refl))
    turn_agrees (turn.Enter to) (Begins n) p =
        let u = begun s to in
        raised u to false _ p law.none
        (rw (ages u to).station
        (new_value _ (w.here s.state) false before _ (law.sure_here _ p)
        (λ i. absurd (n (law.here_at s.state i ∙ sym (law.here_at to (law.sure_here to (sure_at u to p))))))))
    turn_agrees turn.Farewell Farewells p = absurd (idle_not p)
    turn_agrees turn.End Ends p = absurd (idle_not p)

    tick_agrees : Agrees (ticked (literal_tick x r k s) (sent_of x r k s)) (literal_tick x r k s)
    unfolding literal_tick sent_of turn_in
    tick_agrees = turn_agrees (turn_in x r k s) (turn_goes x r k s.state s.count s.silence)

  -- ---- any call
  unfoldable AgreesIn : Bool → Box → Type 0
  AgreesIn before NoController = Unit {0}
  AgreesIn before (Using c) = Agrees before c.session

  module _ (before : Bool) (c : Controller) (h : Agrees before c.session) where
    frame_agrees : (id : ℕ) (l : List ℕ) (a : Answer) → Comes c id l a
        → Agrees (quiet before c.session.state (is_one_of w.anew (recognized_of (parts_of id).pf) && eqb a.number 0) a.controller.session.state) a.controller.session
    unfolding session_moved message_of applied_of is_charge is_one_of
    frame_agrees id l a (Left u e f) =
        as_it_was before _ c.session a.controller.session e (left_untaken w.anew (recognized_of (parts_of id).pf) a.number (λ i. (f i).number)) h
    frame_agrees id l a (Took m says may e) =
        rw (e, pf_is c.settings.own id l (message.Charge (charge_of m)) says.checks)
        (message_agrees before c.settings (parts_of id).source c.session h m _ refl)

    -- accepted or not
    tick_at : (r : Readings) (v : List ℕ) (t : List ℤ) (l m n : ℕ) (new old : List ℕ) (took : Bool)
        → AgreesIn
        (gone_after w before
        (record {
          before = Using c;
          call = Tick r v t old;
          seen = cond took (Gave 0 l (tick_frames c r v t) new) (Gave m n [] old);
          after = Using (cond took (paper_next c r v t) c);
        }))
        (Using (cond took (paper_next c r v t) c))
    unfolding AgreesIn gone_after goes_on is_here sends takes frames_seen paper_next tick_frames charge_frames holds
    tick_at r v t l m n new old true =
        tick_agrees before c.settings r (cells_of v t) c.session h (broadcast_frames c r v t ++ cell_frames c r v t)
    tick_at r v t l m n new old false = as_it_was before false c.session c.session refl refl h

  abbrev step_at : Box → Call → Step
  step_at b k = record { before = b; call = k; seen = seen_of paper_next b k; after = box_after paper_next b k }

  read_agrees : (before : Bool) (b : Box) (s : List ℕ) (a : Result Settings Refusal) → AgreesIn before b
      → AgreesIn
      (gone_after w before
      (record { before = b; call = Read s; seen = Gave (record_number s) 0 [] []; after = started (start_with a) b }))
      (started (start_with a) b)
  unfolding AgreesIn gone_after goes_on is_here sends takes frames_seen started start_with fresh_of holds
  read_agrees before b s (Ok x) h = λ p. absurd (idle_not p)
  read_agrees before NoController s (Err n) h = tt
  read_agrees before (Using c) s (Err n) h = as_it_was before false c.session c.session refl refl h

  call_agrees : (before : Bool) (b : Box) (k : Call) → AgreesIn before b
      → AgreesIn (gone_after w before (step_at b k)) (box_after paper_next b k)
  unfolding AgreesIn gone_after goes_on is_here sends takes number_seen frames_seen box_after seen_of start_of holds
  call_agrees before b (Read s) h = read_agrees before b s (read_of s) h
  call_agrees before NoController (Receive id s) h = tt
  call_agrees before (Using c) (Receive id s) h = frame_agrees before c h id s (frame_to c id s) (came c id s)
  call_agrees before NoController (Tick r v t old) h = tt
  call_agrees before (Using c) (Tick r v t old) h = tick_at before c h r v t _ _ _ _ old (accepted c r v t (length old))
  call_agrees before NoController (Write old) h = tt
  call_agrees before (Using c) (Write old) h = as_it_was before false c.session c.session refl refl h

  -- ---- any run
  run_agrees : (before : Bool) (b : Box) (ks : List Call) → AgreesIn before b
      → AgreesIn (gone w before (steps_of b ks)) (box_at paper_next b ks)
  unfolding gone steps_of box_at
  run_agrees before b [] h = h
  run_agrees before b (k ∷ ks) h = run_agrees (gone_after w before (step_at b k)) (box_after paper_next b k) ks (call_agrees before b k h)

  pub told_by_count : (ks : List Call) (c : Controller) → box_at paper_next NoController ks ≡ Using c
      → sure c.session.state ≡ true
      → Told c.session.count (gone w false (steps_of NoController ks))
  unfolding AgreesIn
  told_by_count ks c e = subst (AgreesIn (gone w false (steps_of NoController ks))) e (run_agrees false NoController ks tt)
