-- How a session gets from one of the eight states to the next, by a message and by a tick, as far as "gone out" asks:
-- a state goes on, with its count kept, or another begins. Assumes nothing.
use Prim.Native.Nat.{ℕ, ◌+◌}
use Rattle.std.proofs.Common.{Option}
use Rattle.std.specs.declared.ops.ControlFlow.{ControlFlow}
use Rattle.session_states.specs.declared.phases.Cause.{Cause}
use Rattle.std.specs.declared.ops.ControlFlow.TheVariants.{Continue, Break}
use Rattle.std.proofs.Common.{Result, Ok, Err}
use Rattle.numbers.specs.declared.Refusal.{Refusal}
use Rattle.messages.specs.declared.received.Message.{Message}
use native.Mathlib.Omega.{arith}
use mathlib.Core.Path.{◌≡◌, refl, sym, ◌∙◌}
use mathlib.Core.Bool.{Bool, true, false, cond, ◌&&◌, false≢true}
use borrow.Author.Tests.{ne_eqb}
use lib.Dec.{eqb, leb}
use Rattle.messages.specs.declared.received.Charge.{Charge}
use Rattle.messages.specs.declared.received.Message.TheVariants as message
use Rattle.settings.specs.declared.Settings.{Settings}
use Rattle.readings.specs.declared.Readings.{Readings}
use Rattle.readings.specs.Readings.{wanted_of}
use Rattle.cells.specs.declared.Cells.{Cells}
use Rattle.session_states.specs.Limits.{silence_limit, closing_limit}
use Rattle.session_states.specs.Phases.{phase_after}
use Rattle.session_states.specs.States.{is_stopping}
use Rattle.session_states.specs.declared.phases.Phase.{Phase}
use Rattle.session_states.specs.declared.states.Est.{Est}
use Rattle.session_states.specs.declared.states.State.{State}
use Rattle.session_states.specs.declared.states.State.TheVariants.{Idle, Offered, Unverified, Parameters, Ready, Charging, Stopping, Error}
use Rattle.session_by_message.specs.declared.Outcome.{Outcome}
use Rattle.session_by_message.specs.declared.Outcome.TheVariants as outcome
use Rattle.session_by_tick.specs.declared.Turn.{Turn}
use Rattle.session_by_tick.specs.declared.Turn.TheVariants as turn
use Rattle.session_by_tick.specs.Turns.{cell_full, pack_full, current_above, stop_of, waiting_of, phase_on, phase_turn, stops_of, charging_of, stopping_of, error_of, turn_of}
use Rattle.session_paper_counts.specs.Literal.{literal_in, grown, counted}
use Rattle.session.specs.declared.Session.{Session}
use Rattle.session.specs.Session.{with_state}
use Rattle.session.specs.Message.{session_after}
use Rattle.demands.specs.After.{charge_in}
use Rattle.demands.specs.GoneOut.{is_one_of}
use Rattle.demands.proofs.Outcomes.{Leads, NotTaken, NotInStep, DoesNothing, OpensOne, ToUnverified, ToParameters, ToParametersLater, ToReady, ToReadyAgain, ToCharging, ToStopping, MarksIt, EndsIt}

-- which of the eight
unfoldable pub place : State → ℕ
place Idle = 0
place Offered = 1
place Unverified = 2
place Parameters = 3
place (Ready accepted maximum) = 4
place (Charging p) = 5
place (Stopping acknowledged est) = 6
place Error = 7

-- the same state, but for its phase, its mark and its EST bytes
pub data Alike : State → State → Type 0 where
  AsItWas : {st : State} → Alike st st
  OtherPhase : {p q : Phase} → Alike (Charging p) (Charging q)
  OtherMarks : {k l : Bool} {e f : (Option Est)} → Alike (Stopping k e) (Stopping l f)

stopping_place : (st : State) → place st ≡ 6 → is_stopping st ≡ true
unfolding place is_stopping
stopping_place Idle h = absurd (omega (arith, h))
stopping_place Offered h = absurd (omega (arith, h))
stopping_place Unverified h = absurd (omega (arith, h))
stopping_place Parameters h = absurd (omega (arith, h))
stopping_place (Ready y most) h = absurd (omega (arith, h))
stopping_place (Charging p) h = absurd (omega (arith, h))
stopping_place (Stopping k e) h = refl
stopping_place Error h = absurd (omega (arith, h))

-- ---- a message
-- the outcome begins a state
unfoldable pub begins : Outcome → Bool
begins outcome.Refuse = false
begins outcome.OutOfStep = false
begins outcome.Open = true
begins outcome.Heard = false
begins (outcome.Enter st) = true
begins (outcome.Keep st) = false
begins outcome.End = false

-- the state after it
unfoldable pub state_after : State → Outcome → State
state_after st outcome.Refuse = st
state_after st outcome.OutOfStep = st
state_after st outcome.Open = Offered
state_after st outcome.Heard = st
state_after st (outcome.Enter to) = to
state_after st (outcome.Keep to) = to
state_after st outcome.End = Idle

module _ (source : ℕ) (s : Session) where
  pub state_is : (o : Outcome) → (session_after source s o).state ≡ state_after s.state o
  unfolding session_after state_after
  state_is outcome.Refuse = refl
  state_is outcome.OutOfStep = refl
  state_is outcome.Open = refl
  state_is outcome.Heard = refl
  state_is (outcome.Enter st) = refl
  state_is (outcome.Keep st) = refl
  state_is outcome.End = refl

  -- a state that begins has count 0
  pub begun_at_0 : (o : Outcome) → begins o ≡ true → (session_after source s o).count ≡ 0
  unfolding session_after begins
  begun_at_0 outcome.Refuse h = absurd (false≢true h)
  begun_at_0 outcome.OutOfStep h = absurd (false≢true h)
  begun_at_0 outcome.Open h = refl
  begun_at_0 outcome.Heard h = absurd (false≢true h)
  begun_at_0 (outcome.Enter st) h = refl
  begun_at_0 (outcome.Keep st) h = absurd (false≢true h)
  begun_at_0 outcome.End h = absurd (false≢true h)

  -- one that goes on keeps it
  pub kept_count : (o : Outcome) → begins o ≡ false → (place (state_after s.state o) ≡ 0 → ⊥)
      → (session_after source s o).count ≡ s.count
  unfolding session_after begins state_after place
  kept_count outcome.Refuse h i = refl
  kept_count outcome.OutOfStep h i = refl
  kept_count outcome.Open h i = absurd (false≢true (sym h))
  kept_count outcome.Heard h i = refl
  kept_count (outcome.Enter st) h i = absurd (false≢true (sym h))
  kept_count (outcome.Keep st) h i = refl
  kept_count outcome.End h i = absurd (i refl)

module _ (x : Settings) (n : ℕ) where
  -- and is the same
  pub kept_state : (st : State) (o : Outcome) → Leads x n st o → begins o ≡ false → (place (state_after st o) ≡ 0 → ⊥)
      → Alike st (state_after st o)
  unfolding begins state_after place
  kept_state st o NotTaken h i = AsItWas
  kept_state st o NotInStep h i = AsItWas
  kept_state st o DoesNothing h i = AsItWas
  kept_state st o OpensOne h i = absurd (false≢true (sym h))
  kept_state st o (ToUnverified g) h i = absurd (false≢true (sym h))
  kept_state st o (ToParameters g) h i = absurd (false≢true (sym h))
  kept_state st o ToParametersLater h i = absurd (false≢true (sym h))
  kept_state st o (ToReady g) h i = absurd (false≢true (sym h))
  kept_state st o ToReadyAgain h i = absurd (false≢true (sym h))
  kept_state st o (ToCharging g) h i = absurd (false≢true (sym h))
  kept_state st o (ToStopping f) h i = absurd (false≢true (sym h))
  kept_state st o MarksIt h i = OtherMarks
  kept_state st o EndsIt h i = absurd (i refl)

  -- no state but Ready is begun by a message that comes in it
  pub begun_from_elsewhere : (at : ℕ) → (at ≡ 4 → ⊥) → (st : State) (o : Outcome) → Leads x n st o → place st ≡ at
      → place (state_after st o) ≡ at
      → begins o ≡ false
  unfolding begins state_after place
  begun_from_elsewhere at k st o NotTaken h i = refl
  begun_from_elsewhere at k st o NotInStep h i = refl
  begun_from_elsewhere at k st o DoesNothing h i = refl
  begun_from_elsewhere at k st o OpensOne h i = absurd (omega (arith, h, i))
  begun_from_elsewhere at k st o (ToUnverified g) h i = absurd (omega (arith, h, i))
  begun_from_elsewhere at k st o (ToParameters g) h i = absurd (omega (arith, h, i))
  begun_from_elsewhere at k st o ToParametersLater h i = absurd (omega (arith, h, i))
  begun_from_elsewhere at k st o (ToReady g) h i = absurd (omega (arith, h, i))
  begun_from_elsewhere at k st o ToReadyAgain h i = absurd (k (sym h))
  begun_from_elsewhere at k st o (ToCharging g) h i = absurd (omega (arith, h, i))
  begun_from_elsewhere at k st o (ToStopping f) h i = absurd (false≢true (sym f ∙ stopping_place st (h ∙ sym i)))
  begun_from_elsewhere at k st o MarksIt h i = refl
  begun_from_elsewhere at k st o EndsIt h i = refl

-- ---- a tick
pub data Goes : State → Turn → Type 0 where
  GoesOn : {st to : State} → Alike st to → Goes st (turn.On to)
  Begins : {st to : State} → (place st ≡ place to → ⊥) → Goes st (turn.Enter to)
  Farewells : {st : State} → Goes st turn.Farewell
  Ends : {st : State} → Goes st turn.End

pick : {st : State} (t : Bool) (a b : Turn) → Goes st a → Goes st b → Goes st (cond t a b)
pick true a b h k = h
pick false a b h k = k

-- Charging, Stopping and Error are three
stops : (p : Phase) (k : Bool) (e : (Option Est)) → Goes (Charging p) (turn.Enter (Stopping k e))
unfolding place
stops p k e = Begins {st = Charging p} {to = Stopping k e} (λ h. omega (arith, h))

fails : (st : State) → (place st ≡ 7 → ⊥) → Goes st (turn.Enter Error)
unfolding place
fails st h = Begins {to = Error} h

module _ (x : Settings) (r : Readings) (c : Cells) where
  wait_goes : (silence : ℕ) (st : State) → (place st ≡ 7 → ⊥) → Goes st (waiting_of r silence st)
  unfolding waiting_of
  wait_goes silence st h = pick (leb silence_limit silence) _ _ (fails st h) (pick (wanted_of r) _ _ (GoesOn AsItWas) Farewells)

  phase_goes : (p : Phase) (a : (ControlFlow Cause Phase)) → Goes (Charging p) (phase_on x r c a)
  unfolding phase_on stop_of
  phase_goes p (Continue q) = GoesOn OtherPhase
  phase_goes p (Break cause) = stops p _ _

  pub turn_goes : (st : State) (n silence : ℕ) → Goes st (turn_of x r c st n silence)
  unfolding turn_of charging_of stops_of phase_turn stop_of stopping_of error_of place
  turn_goes Idle n silence = GoesOn AsItWas
  turn_goes Offered n silence = wait_goes silence Offered (λ h. omega (arith, h))
  turn_goes Unverified n silence = wait_goes silence Unverified (λ h. omega (arith, h))
  turn_goes Parameters n silence = wait_goes silence Parameters (λ h. omega (arith, h))
  turn_goes (Ready y most) n silence = wait_goes silence (Ready y most) (λ h. omega (arith, h))
  turn_goes (Charging p) n silence =
      pick (leb silence_limit silence) _ _ (fails (Charging p) (λ h. omega (arith, h)))
      (pick (wanted_of r) _ _
      (pick (current_above x r) _ _ (stops p _ _)
      (pick (pack_full x r) _ _ (stops p _ _) (phase_goes p (phase_after p (cell_full x c)))))
      (stops p _ _))
  turn_goes (Stopping k e) n silence = pick (leb closing_limit n) _ _ Ends (GoesOn OtherMarks)
  turn_goes Error n silence = pick (leb closing_limit n) _ _ Ends (GoesOn AsItWas)

-- a tick's counts: the state is the same, its count is one more (Idle counts nothing), and its station is kept
pub record Aged (s : Session) (st : State) (t : Session) : Type 0 where
  pub alike : Alike st t.state
  pub count : (place st ≡ 0 → ⊥) → t.count ≡ s.count + 1
  pub station : t.station ≡ s.station

pub ages : (s : Session) (st : State) → Aged s st (literal_in (with_state s st) st)
unfolding literal_in grown counted place
ages s Idle = record { alike = AsItWas; count = λ h. absurd (h refl); station = refl }
ages s Offered = record { alike = AsItWas; count = λ h. refl; station = refl }
ages s Unverified = record { alike = AsItWas; count = λ h. refl; station = refl }
ages s Parameters = record { alike = AsItWas; count = λ h. refl; station = refl }
ages s (Ready y most) = record { alike = AsItWas; count = λ h. refl; station = refl }
ages s (Charging p) = record { alike = OtherPhase; count = λ h. refl; station = refl }
ages s (Stopping k e) = record { alike = AsItWas; count = λ h. refl; station = refl }
ages s Error = record { alike = AsItWas; count = λ h. refl; station = refl }

-- ---- a frame that leaves the session as it was is no charge message that was taken
and_none : (b : Bool) → (b && false) ≡ false
and_none true = refl
and_none false = refl

pub left_untaken : (these : Charge → Bool) (a : Result Message Refusal) (n : ℕ) → (charge_in a ≡ true → n ≡ 0 → ⊥)
    → (is_one_of these a && eqb n 0) ≡ false
unfolding is_one_of charge_in
left_untaken these (Ok (message.Charge k)) n f = rw (ne_eqb n 0 (f refl)) (and_none (these k))
left_untaken these (Ok (message.Query q)) n f = refl
left_untaken these (Err k) n f = refl
