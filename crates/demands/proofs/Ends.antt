-- The insurer's first question, "which message, in which state, may end a charge?": exactly the calls of `EndsSession`
-- end a session, after any run, and exactly those of `EndsCharge` end a charge. Assumes nothing.
use Prim.Native.Nat.{ℕ}
use Rattle.numbers.specs.declared.Refusal.TheVariants.{NotInThisState}
use Rattle.std.proofs.Common.{Result, Ok, Err}
use Rattle.numbers.specs.declared.Refusal.{Refusal}
use Rattle.numbers.specs.Numbers.{answered}
use mathlib.Core.Path.{◌≡◌, refl, sym, ap, subst, ◌∙◌}
use mathlib.Core.Bool.{Bool, true, false, not, ◌&&◌, false≢true}
use mathlib.Core.List.{List}
use lib.Dec.{ltb}
use Rattle.std.proofs.lemmas.Bool.{and_parts}
use Rattle.messages.specs.Identifier.{parts_of}
use Rattle.settings.specs.declared.Settings.{Settings}
use Rattle.settings.specs.Read.{read_of}
use Rattle.cells.specs.Summaries.{cells_of}
use Rattle.charge_messages.specs.declared.ChargeMessage.{ChargeMessage}
use Rattle.charge_messages.specs.declared.ChargeMessage.TheVariants.{Cim, Cvm, Cmp, Crm, Ccs, Cst, Cem}
use Rattle.session_states.specs.declared.states.State.{State}
use Rattle.session_states.specs.declared.states.State.TheVariants.{Idle, Offered, Unverified, Parameters, Ready, Charging, Stopping, Error}
use Rattle.session_by_message.specs.declared.Outcome.TheVariants.{Refuse}
use Rattle.session_by_message.specs.Message.{outcome_of, in_stopping}
use Rattle.session.specs.declared.Session.{Session}
use Rattle.session.specs.Message.{session_after, applied_of, message_of}
use Rattle.controller.specs.declared.Controller.{Controller}
use Rattle.controller.specs.Frame.{Answer}
use Rattle.session_states.specs.States.{is_idle}
use Rattle.controller.specs.Frame.{refused, frame_to}
use Rattle.controller.specs.Start.{fresh_of}
use Rattle.demands.specs.Says.{Says}
use Rattle.demands.specs.Machine.{Call, Receive, Tick, Write, Read}
use Rattle.demands.specs.After.{accepts, read_into, is_read, after, no_session}
use Rattle.session_states.specs.States.{is_charging, is_stopping}
use Rattle.demands.specs.Stops.{why_of, ends_for, leaves_for}
use Rattle.demands.specs.Ends.{message_ends, message_leaves, EndsSession, ByCem, ByCst, ByTick, ByReading, EndsCharge, AtCcs, AtCst, AtCem, AtTick, AtReading}
use Rattle.controller.specs.Frame.{session_moved}
use Rattle.demands.proofs.Comes.{Comes, Left, Took, came, station_is, taken_in}
use Rattle.demands.proofs.Messages.{ends_message, leaves_message}
use Rattle.demands.proofs.Stops.{charging_open, which_tick_ends_a_session, which_tick_ends_a_charge}

stopping_open : (st : State) → is_stopping st ≡ true → is_idle st ≡ false
unfolding is_stopping is_idle
stopping_open Idle h = absurd (false≢true h)
stopping_open Offered h = refl
stopping_open Unverified h = refl
stopping_open Parameters h = refl
stopping_open (Ready y maximum) h = refl
stopping_open (Charging p) h = refl
stopping_open (Stopping k e) h = refl
stopping_open Error h = refl

-- a CST AA in Stopping at count 0
early_in : (x : Settings) (n : ℕ) (st : State) → is_stopping st ≡ true → ltb 0 n ≡ false
    → outcome_of x st n (Cst true) ≡ Refuse
unfolding is_stopping outcome_of in_stopping
early_in x n Idle h g = absurd (false≢true h)
early_in x n Offered h g = absurd (false≢true h)
early_in x n Unverified h g = absurd (false≢true h)
early_in x n Parameters h g = absurd (false≢true h)
early_in x n (Ready y maximum) h g = absurd (false≢true h)
early_in x n (Charging p) h g = absurd (false≢true h)
early_in x n (Stopping k e) h g = rw g
early_in x n Error h g = absurd (false≢true h)

refuses_early : (c : Controller) → ltb 0 c.session.count ≡ false → is_stopping c.session.state ≡ true
    → session_moved c (message_of c.settings c.session.station c.session (Cst true)) ≡ refused NotInThisState c
unfolding session_moved message_of applied_of session_after
refuses_early c g h = rw (early_in c.settings c.session.count c.session.state h g)

-- in an open session, exactly which messages end it, and exactly which end its charge
module _ (x : Settings) (source : ℕ) (s : Session) (m : ChargeMessage) where
  pub which_message_ends_a_session : is_idle s.state ≡ false
      → is_idle (message_of x source s m).session.state ≡ message_ends s.state s.count m
  unfolding message_of applied_of
  which_message_ends_a_session = ends_message x source s s.state m

  pub which_message_ends_a_charge : is_charging s.state ≡ true
      → is_charging (message_of x source s m).session.state ≡ not (message_leaves m)
  unfolding message_of applied_of
  which_message_ends_a_charge = leaves_message x source s s.state m

-- ---- frames
module _ (c : Controller) (id : ℕ) (s : List ℕ) where
  abbrev Its : ChargeMessage → Type 0
  Its m = Says c.settings c.session.station m id s

  abbrev gone_by_count : Bool
  gone_by_count = ltb 0 c.session.count

  its : (m : ChargeMessage) (source : ℕ) → source ≡ c.session.station → Says c.settings source m id s → Its m
  its m source e says = subst (λ (z : ℕ). Says c.settings z m id s) e says

  ended_by : (m : ChargeMessage) → Its m → message_ends c.session.state c.session.count m ≡ true
      → EndsSession gone_by_count c (Receive id s)
  unfolding message_ends
  ended_by Cim h e = absurd (false≢true e)
  ended_by (Cvm v) h e = absurd (false≢true e)
  ended_by (Cmp o) h e = absurd (false≢true e)
  ended_by (Crm v) h e = absurd (false≢true e)
  ended_by (Ccs v) h e = absurd (false≢true e)
  ended_by (Cst true) h e =
      ByCst h (and_parts (is_stopping c.session.state) gone_by_count e).0 (and_parts (is_stopping c.session.state) gone_by_count e).1
  ended_by (Cst false) h e = absurd (false≢true e)
  ended_by Cem h e = ByCem h

  stopped_by : (m : ChargeMessage) → Its m → false ≡ not (message_leaves m) → EndsCharge c (Receive id s)
  unfolding message_leaves
  stopped_by Cim h e = absurd (false≢true e)
  stopped_by (Cvm v) h e = absurd (false≢true e)
  stopped_by (Cmp o) h e = absurd (false≢true e)
  stopped_by (Crm v) h e = absurd (false≢true e)
  stopped_by (Ccs true) h e = absurd (false≢true e)
  stopped_by (Ccs false) h e = AtCcs h
  stopped_by (Cst v) h e = AtCst h
  stopped_by Cem h e = AtCem h

  ended_came : (a : Answer) → Comes c id s a → is_idle c.session.state ≡ false
      → is_idle a.controller.session.state ≡ true
      → EndsSession gone_by_count c (Receive id s)
  unfolding session_moved message_of applied_of
  ended_came a (Left u k n) h e = absurd (false≢true (sym h ∙ (ap (λ (t : Session). is_idle t.state) (sym k) ∙ e)))
  ended_came a (Took m says may k) h e =
      ended_by m (its m (parts_of id).source (station_is c (parts_of id).source h may) says)
      (sym (which_message_ends_a_session c.settings (parts_of id).source c.session m h)
      ∙ (ap (λ (t : Answer). is_idle t.controller.session.state) (sym k) ∙ e))

  stopped_came : (a : Answer) → Comes c id s a → is_charging c.session.state ≡ true
      → is_charging a.controller.session.state ≡ false
      → EndsCharge c (Receive id s)
  unfolding session_moved message_of applied_of
  stopped_came a (Left u k n) h e = absurd (false≢true (sym e ∙ (ap (λ (t : Session). is_charging t.state) k ∙ h)))
  stopped_came a (Took m says may k) h e =
      stopped_by m (its m (parts_of id).source (station_is c (parts_of id).source (charging_open c.session.state h) may) says)
      ((sym e ∙ ap (λ (t : Answer). is_charging t.controller.session.state) k)
      ∙ which_message_ends_a_charge c.settings (parts_of id).source c.session m h)

  its_ends : (m : ChargeMessage) → is_idle c.session.state ≡ false → Its m
      → message_ends c.session.state c.session.count m ≡ true
      → is_idle (frame_to c id s).controller.session.state ≡ true
  unfolding session_moved message_of applied_of
  its_ends m h says e =
      ap (λ (t : Answer). is_idle t.controller.session.state) (taken_in c id s m h says)
      ∙ (which_message_ends_a_session c.settings c.session.station c.session m h ∙ e)

  its_stops : (m : ChargeMessage) → is_charging c.session.state ≡ true → Its m → message_leaves m ≡ true
      → is_charging (frame_to c id s).controller.session.state ≡ false
  unfolding session_moved message_of applied_of
  its_stops m h says e =
      ap (λ (t : Answer). is_charging t.controller.session.state) (taken_in c id s m (charging_open c.session.state h) says)
      ∙ (which_message_ends_a_charge c.settings c.session.station c.session m h ∙ ap not e)

-- ---- settings read
read_idle : (a : Result Settings Refusal) (c : Controller) → is_idle c.session.state ≡ false
    → is_idle (read_into a c).session.state ≡ is_read a
unfolding read_into is_read fresh_of is_idle
read_idle (Ok x) c h = refl
read_idle (Err n) c h = h

read_charging : (a : Result Settings Refusal) (c : Controller) → is_charging c.session.state ≡ true
    → is_charging (read_into a c).session.state ≡ not (is_read a)
unfolding read_into is_read fresh_of is_charging
read_charging (Ok x) c h = refl
read_charging (Err n) c h = h

-- ---- any call, in any state, the EST told by Stopping's count
not_true : (b : Bool) → false ≡ not b → b ≡ true
not_true true h = refl
not_true false h = absurd (false≢true h)

module _ (c : Controller) where
  ended_call : (e : Call) → no_session c ≡ false → no_session (after c e) ≡ true
      → EndsSession (ltb 0 c.session.count) c e
  unfolding no_session after
  ended_call (Receive id s) h e = ended_came c id s (frame_to c id s) (came c id s) h e
  ended_call (Tick r v t old) h e =
      let w = sym (which_tick_ends_a_session c r v t old h) ∙ e in
      ByTick (and_parts (accepts r v t old) (ends_for (why_of c.settings r (cells_of v t) c.session)) w).0
      (and_parts (accepts r v t old) (ends_for (why_of c.settings r (cells_of v t) c.session)) w).1
  ended_call (Write old) h e = absurd (false≢true (sym h ∙ e))
  ended_call (Read s) h e = ByReading (sym (read_idle (read_of s) c h) ∙ e)

  call_ends : (e : Call) → no_session c ≡ false → EndsSession (ltb 0 c.session.count) c e
      → no_session (after c e) ≡ true
  unfolding no_session after message_ends
  call_ends e h (ByCem {id = id} {s = s} says) = its_ends c id s Cem h says refl
  call_ends e h (ByCst {id = id} {s = s} says stopping gone) = its_ends c id s (Cst true) h says (rw (stopping, gone))
  call_ends e h (ByTick {r = r} {v = v} {t = t} {old = old} k w) = which_tick_ends_a_session c r v t old h ∙ rw (k, w)
  call_ends e h (ByReading {s = s} k) = read_idle (read_of s) c h ∙ k

  -- THE ANSWER: what ends a charge, in any state whatever
  pub what_ends_a_charge : (e : Call) → is_charging c.session.state ≡ true
      → is_charging (after c e).session.state ≡ false → EndsCharge c e
  unfolding after
  what_ends_a_charge (Receive id s) h e = stopped_came c id s (frame_to c id s) (came c id s) h e
  what_ends_a_charge (Tick r v t old) h e =
      let w = not_true (accepts r v t old && leaves_for (why_of c.settings r (cells_of v t) c.session)) (sym e ∙ which_tick_ends_a_charge c r v t old h) in
      AtTick (and_parts (accepts r v t old) (leaves_for (why_of c.settings r (cells_of v t) c.session)) w).0
      (and_parts (accepts r v t old) (leaves_for (why_of c.settings r (cells_of v t) c.session)) w).1
  what_ends_a_charge (Write old) h e = absurd (false≢true (sym e ∙ h))
  what_ends_a_charge (Read s) h e = AtReading (not_true (is_read (read_of s)) (sym e ∙ read_charging (read_of s) c h))

  -- and each of these does
  pub each_ends_a_charge : (e : Call) → is_charging c.session.state ≡ true → EndsCharge c e
      → is_charging (after c e).session.state ≡ false
  unfolding after message_leaves
  each_ends_a_charge e h (AtCcs {id = id} {s = s} says) = its_stops c id s (Ccs false) h says refl
  each_ends_a_charge e h (AtCst {id = id} {s = s} {b = b} says) = its_stops c id s (Cst b) h says refl
  each_ends_a_charge e h (AtCem {id = id} {s = s} says) = its_stops c id s Cem h says refl
  each_ends_a_charge e h (AtTick {r = r} {v = v} {t = t} {old = old} k w) = which_tick_ends_a_charge c r v t old h ∙ rw (k, w)
  each_ends_a_charge e h (AtReading {s = s} k) = read_charging (read_of s) c h ∙ ap not k

-- ---- an EST told otherwise than by the count, where in Stopping both tell the same
module _ (c : Controller) (told : Bool) (h : is_stopping c.session.state ≡ true → ltb 0 c.session.count ≡ told) where
  retold : (e : Call) → EndsSession (ltb 0 c.session.count) c e → EndsSession told c e
  retold e (ByCem says) = ByCem says
  retold e (ByCst says stopping gone) = ByCst says stopping (sym (h stopping) ∙ gone)
  retold e (ByTick k w) = ByTick k w
  retold e (ByReading k) = ByReading k

  untold : (e : Call) → EndsSession told c e → EndsSession (ltb 0 c.session.count) c e
  untold e (ByCem says) = ByCem says
  untold e (ByCst says stopping gone) = ByCst says stopping (h stopping ∙ gone)
  untold e (ByTick k w) = ByTick k w
  untold e (ByReading k) = ByReading k

  -- THE ANSWER, of one call of the machine: what ends a session
  pub what_ends_a_session : (e : Call) → no_session c ≡ false → no_session (after c e) ≡ true → EndsSession told c e
  what_ends_a_session e o k = retold e (ended_call c e o k)

  -- and each of these does
  pub each_ends_a_session : (e : Call) → no_session c ≡ false → EndsSession told c e → no_session (after c e) ≡ true
  each_ends_a_session e o k = call_ends c e o (untold e k)

  -- THE INCIDENT's other form: an acknowledgement that comes in Stopping before an EST of ours has gone out is answered
  -- 11 and changes nothing
  pub early_acknowledgement : (id : ℕ) (s : List ℕ) → is_stopping c.session.state ≡ true → told ≡ false
      → Says c.settings c.session.station (Cst true) id s → frame_to c id s ≡ refused NotInThisState c
  early_acknowledgement id s st g says =
      taken_in c id s (Cst true) (stopping_open c.session.state st) says ∙ refuses_early c (h st ∙ g) st
