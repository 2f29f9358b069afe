-- Demand 1: of any call, of any controller and any input, a number other than 0 leaves the controller and every lent
-- buffer as they were, but that an 11 from Offered to Ready, CIM apart, returns the silence count to 0. It follows from
-- the entry points' promises alone. Assumes nothing.
use Prim.Native.Nat.{ℕ, ◌<◌}
use Rattle.numbers.specs.Numbers.{number_of}
use Rattle.numbers.specs.declared.Refusal.TheVariants.{NotTheStation}
use Rattle.std.proofs.Common.{Result, Ok, Err}
use Rattle.numbers.specs.declared.Refusal.{Refusal}
use Rattle.numbers.specs.Numbers.{answered}
use native.Mathlib.Omega.{arith}
use mathlib.Core.Path.{◌≡◌, refl, sym, ap, subst, ◌∙◌}
use mathlib.Core.Bool.{Bool, true, false, not, cond, ◌&&◌}
use mathlib.Core.List.{List, [], ◌∷◌}
use borrow.Author.Tests.{ne_eqb}
use lib.Dec.{eqb, leb, ltb}
use lib.IntN.{ℤ}
use lib.ListN.{length}
use Rattle.messages.specs.declared.received.Charge.{Charge}
use Rattle.messages.specs.declared.received.Charge.TheVariants as charge
use Rattle.messages.specs.declared.received.Kind.TheVariants as kind
use Rattle.messages.specs.declared.received.Message.TheVariants as message
use Rattle.messages.specs.Identifier.{parts_of}
use Rattle.messages.specs.declared.received.Message.{Message}
use Rattle.messages.specs.Received.{first_with, recognized_of}
use Rattle.readings.specs.declared.Readings.{Readings}
use Rattle.settings.specs.declared.Settings.{Settings}
use Rattle.settings.specs.Write.{Written}
use Rattle.settings.specs.Write.{Wrote, written_of, buffer_after, write_number}
use Rattle.charge_messages.specs.declared.ChargeMessage.{ChargeMessage}
use Rattle.charge_messages.specs.declared.ChargeMessage.TheVariants.{Cim, Cvm, Cmp, Crm, Ccs, Cst, Cem}
use Rattle.charge_messages.specs.Content.{content_of}
use Rattle.session_states.specs.declared.states.State.{State}
use Rattle.session_states.specs.declared.states.State.TheVariants.{Idle, Offered, Unverified, Parameters, Ready, Charging, Stopping, Error}
use Rattle.session_states.specs.Limits.{first_ecp}
use Rattle.session_by_message.specs.declared.Outcome.{Outcome}
use Rattle.session_by_message.specs.declared.Outcome.TheVariants as outcome
use Rattle.session_by_message.specs.Message.{outcome_number, outcome_of, in_idle, in_offered, in_unverified, in_parameters, in_ready, ready_of, crm_in_ready, in_charging, in_stopping, in_error}
use Rattle.session.specs.declared.Session.{Session}
use Rattle.session.specs.Session.{with_silence}
use Rattle.session.specs.Message.{session_after, applied_of, message_of}
use Rattle.messages.specs.declared.received.Kind.{Kind}
use Rattle.queries.specs.Waiting.{waiting, most_waiting}
use Rattle.queries.specs.Asking.{some_asks, ask_number, queued_of}
use Rattle.controller.specs.declared.Controller.{Controller}
use Rattle.controller.specs.Frame.{Answer}
use Rattle.controller.specs.Tick.{Ticked}
use Rattle.controller.specs.Frame.{refused, may_charge, frame_to, session_moved, content_taken, charge_to, queries_moved, query_to, message_to}
use Rattle.controller.specs.Tick.{accepted, TickIs}
use Rattle.refusals.specs.Frame.{message_in}
use Rattle.session_states.specs.States.{is_before_charging}
use Rattle.demands.specs.Says.{charge_of}
use Rattle.demands.specs.Machine.{Read, Receive, Box, NoController, Using, started, number_seen}
use Rattle.demands.specs.Calls.{CallMade, DidRead, DidReceive, DidTick, DidWrite, call_in, KeepsPromise, box_then, in_hand}
use Rattle.demands.specs.Refusals.{is_cim_frame, silence_at_zero, left_by, box_left_by, lent_before, lent_after, bytes_given, number_given, LeftAsItWas}
use Rattle.demands.specs.SilentSlips.{is_cim}
use Rattle.controller.specs.With.{with_session}
use Rattle.demands.proofs.Tests.{same}
use Rattle.demands.proofs.View.{frame_view, refused_low, pf_is}
use Rattle.demands.proofs.Comes.{content_is, ContentOf}

-- the nine but CIM
abbrev others : List Message
others =
    message.Charge charge.Cvm
    ∷ message.Charge charge.Cmp
    ∷ message.Charge charge.Crm
    ∷ message.Charge charge.Ccs
    ∷ message.Charge charge.Cst
    ∷ message.Charge charge.Cem
    ∷ message.Query kind.Voltages
    ∷ message.Query kind.Temperatures
    ∷ []

-- ---- a message that is not taken: whether it is one that returns silence to 0
unfoldable Told : Bool → Outcome → Type 0
Told b outcome.Refuse = b ≡ false
Told b outcome.OutOfStep = b ≡ true
Told b outcome.Open = Unit {0}
Told b outcome.Heard = Unit {0}
Told b (outcome.Enter st) = Unit {0}
Told b (outcome.Keep st) = Unit {0}
Told b outcome.End = Unit {0}

if_told : (b t : Bool) (o p : Outcome) → Told b o → Told b p → Told b (cond t o p)
if_told b true o p h k = h
if_told b false o p h k = k

abbrev resets : State → ChargeMessage → Bool
resets st m = is_before_charging st && not (is_cim m)

told : (x : Settings) (n : ℕ) (st : State) (m : ChargeMessage) → Told (resets st m) (outcome_of x st n m)
unfolding Told outcome_of in_idle in_offered in_unverified in_parameters in_ready ready_of crm_in_ready in_charging in_stopping in_error is_before_charging is_cim
told x n Idle Cim = tt
told x n Idle (Cvm v) = refl
told x n Idle (Cmp o) = refl
told x n Idle (Crm v) = refl
told x n Idle (Ccs v) = refl
told x n Idle (Cst v) = refl
told x n Idle Cem = refl
told x n Offered Cim = tt
told x n Offered (Cvm v) = if_told true (ltb 0 n) _ _ (if_told true v _ _ tt tt) refl
told x n Offered (Cmp o) = refl
told x n Offered (Crm v) = refl
told x n Offered (Ccs v) = refl
told x n Offered (Cst v) = tt
told x n Offered Cem = tt
told x n Unverified Cim = refl
told x n Unverified (Cvm v) = if_told true v _ _ tt tt
told x n Unverified (Cmp o) = refl
told x n Unverified (Crm v) = refl
told x n Unverified (Ccs v) = refl
told x n Unverified (Cst v) = tt
told x n Unverified Cem = tt
told x n Parameters Cim = refl
told x n Parameters (Cvm v) = if_told true v _ _ tt refl
told x n Parameters (Cmp o) = if_told true (ltb first_ecp n) _ _ tt refl
told x n Parameters (Crm v) = refl
told x n Parameters (Ccs v) = refl
told x n Parameters (Cst v) = tt
told x n Parameters Cem = tt
told x n (Ready y most) Cim = refl
told x n (Ready y most) (Cvm v) = refl
told x n (Ready y most) (Cmp o) = tt
told x n (Ready y most) (Crm v) = if_told true (y && ltb 0 n) _ _ (if_told true v _ _ tt tt) refl
told x n (Ready y most) (Ccs v) = refl
told x n (Ready y most) (Cst v) = tt
told x n (Ready y most) Cem = tt
told x n (Charging p) Cim = refl
told x n (Charging p) (Cvm v) = refl
told x n (Charging p) (Cmp o) = refl
told x n (Charging p) (Crm v) = refl
told x n (Charging p) (Ccs v) = if_told false v _ _ tt tt
told x n (Charging p) (Cst v) = tt
told x n (Charging p) Cem = tt
told x n (Stopping k e) Cim = refl
told x n (Stopping k e) (Cvm v) = refl
told x n (Stopping k e) (Cmp o) = refl
told x n (Stopping k e) (Crm v) = refl
told x n (Stopping k e) (Ccs v) = refl
told x n (Stopping k e) (Cst v) = if_told false v _ _ (if_told false (ltb 0 n) _ _ tt refl) tt
told x n (Stopping k e) Cem = tt
told x n Error Cim = refl
told x n Error (Cvm v) = refl
told x n Error (Cmp o) = refl
told x n Error (Crm v) = refl
told x n Error (Ccs v) = refl
told x n Error (Cst v) = refl
told x n Error Cem = tt

left_session : (source : ℕ) (s : Session) (b : Bool) (o : Outcome) → Told b o → (outcome_number o ≡ 0 → ⊥)
    → (outcome_number o ≡ 11) × (session_after source s o ≡ cond b (with_silence s 0) s)
unfolding Told session_after
left_session source s b outcome.Refuse h k = (refl, rw h)
left_session source s b outcome.OutOfStep h k = (refl, rw h)
left_session source s b outcome.Open h k = absurd (k refl)
left_session source s b outcome.Heard h k = absurd (k refl)
left_session source s b (outcome.Enter st) h k = absurd (k refl)
left_session source s b (outcome.Keep st) h k = absurd (k refl)
left_session source s b outcome.End h k = absurd (k refl)

-- ---- a CIM by its PF
unfoldable cim_in : Result Message Refusal → Bool
cim_in (Ok (message.Charge charge.Cim)) = true
cim_in (Ok (message.Charge charge.Cvm)) = false
cim_in (Ok (message.Charge charge.Cmp)) = false
cim_in (Ok (message.Charge charge.Crm)) = false
cim_in (Ok (message.Charge charge.Ccs)) = false
cim_in (Ok (message.Charge charge.Cst)) = false
cim_in (Ok (message.Charge charge.Cem)) = false
cim_in (Ok (message.Query q)) = false
cim_in (Err n) = false

cim_message : (m : ChargeMessage) → cim_in (Ok (message.Charge (charge_of m))) ≡ is_cim m
unfolding cim_in is_cim
cim_message Cim = refl
cim_message (Cvm b) = refl
cim_message (Cmp o) = refl
cim_message (Crm b) = refl
cim_message (Ccs b) = refl
cim_message (Cst b) = refl
cim_message Cem = refl

cim_told : (pf : ℕ) → cim_in (recognized_of pf) ≡ eqb pf 0x26
unfolding cim_in
cim_told pf = either (eqb pf 0x26) (recognized_of_rest pf)
  where
    recognized_of_rest : (n : ℕ) → cim_in (first_with n others) ≡ false
    recognized_of_rest n =
        same cim_in (eqb n 0x01) refl (same cim_in (eqb n 0x08) refl (same cim_in (eqb n 0x0a) refl (same cim_in (eqb n 0x12) refl
        (same cim_in (eqb n 0x16) refl (same cim_in (eqb n 0x1f) refl (same cim_in (eqb n 0x1b) refl (same cim_in (eqb n 0x1c) refl refl)))))))

    either : (b : Bool) → cim_in (first_with pf others) ≡ false
        → cim_in (cond b (Ok (message.Charge charge.Cim)) (first_with pf others)) ≡ b
    either true h = refl
    either false h = h

-- ---- a frame
module _ (c : Controller) (id : ℕ) (s : List ℕ) where
  abbrev source : ℕ
  source = (parts_of id).source

  abbrev Keeps : Answer → Type 0
  Keeps a = (a.number ≡ 0 → ⊥) → a.controller ≡ left_by a.number c (Receive id s)

  -- refused by another number than 11
  plainly : (n : Refusal) → (number_of n ≡ 11 → ⊥) → Keeps (refused n c)
  unfolding left_by
  plainly n h k = rw (ne_eqb (number_of n) 11 h)

  eleven : (b : Bool) → b ≡ is_cim_frame id → (n : ℕ) (t : Session) → n ≡ 11
      → t ≡ cond (is_before_charging c.session.state && not b) (with_silence c.session 0) c.session
      → with_session c t ≡ left_by n c (Receive id s)
  unfolding left_by
  eleven b e n t h k = rw (h, k, ← e) (either (is_before_charging c.session.state && not b))
    where
      either : (f : Bool)
          → with_session c (cond f (with_silence c.session 0) c.session) ≡ cond f (silence_at_zero c) c
      either true = refl
      either false = refl

  message_keeps : (m : ChargeMessage) → is_cim m ≡ is_cim_frame id
      → Keeps (session_moved c (message_of c.settings source c.session m))
  unfolding session_moved message_of applied_of
  message_keeps m e k =
      let o = outcome_of c.settings c.session.state c.session.count m in
      let l = left_session source c.session (resets c.session.state m) o (told c.settings c.session.count c.session.state m) k in
      eleven (is_cim m) e (outcome_number o) _ l.0 l.1

  content_keeps : (k : Charge) → message_in c.settings.own id s ≡ Ok (message.Charge k) → (m : Result ChargeMessage Refusal)
      → content_of k s ≡ m → Keeps (content_taken c source m)
  unfolding content_taken ContentOf is_cim_frame
  content_keeps k p (Ok m) e =
      let q : charge_of m ≡ k = content_is k s (Ok m) e in
      message_keeps m
      (sym (cim_message m)
      ∙ (ap (λ (z : Charge). cim_in (Ok (message.Charge z))) q
      ∙ (ap cim_in (sym (pf_is c.settings.own id s (message.Charge k) p)) ∙ cim_told (parts_of id).pf)))
  content_keeps k p (Err n) e = plainly n (λ z. let t : number_of n ≡ 10 = content_is k s (Err n) e in omega (arith, z, t))

  if_keeps : (t : Bool) (a b : Answer) → Keeps a → Keeps b → Keeps (cond t a b)
  if_keeps true a b h k = h
  if_keeps false a b h k = k

  ask_other : (some full : Bool) → ◌≡◌ {A = ℕ} (cond some 12 (cond full 13 0)) 11 → ⊥
  ask_other true full e = omega (arith, e)
  ask_other false true e = omega (arith, e)
  ask_other false false e = omega (arith, e)

  query_keeps : (kind : Kind) → Keeps (queries_moved c (queued_of c.queries source kind))
  unfolding queries_moved queued_of left_by ask_number
  query_keeps kind k =
      let some = some_asks source kind (waiting c.queries) in
      let full = leb most_waiting (length (waiting c.queries)) in
      rw (ne_eqb (cond some 12 (cond full 13 0)) 0 k, ne_eqb (cond some 12 (cond full 13 0)) 11 (ask_other some full))

  by_message : (r : Result Message Refusal) → message_in c.settings.own id s ≡ r → Keeps (message_to c source s r)
  unfolding message_to charge_to query_to
  by_message (Ok (message.Charge k)) e =
      if_keeps (may_charge c source) _ _ (content_keeps k e (content_of k s) refl) (plainly NotTheStation (λ z. omega (arith, z)))
  by_message (Ok (message.Query q)) e = query_keeps q
  by_message (Err n) e = plainly n (λ z. let l : number_of n < 9 = refused_low c.settings.own id s n e in omega arith)

  pub frame_keeps : Keeps (frame_to c id s)
  frame_keeps = subst Keeps (sym (frame_view c id s)) (by_message (message_in c.settings.own id s) refl)

-- ---- a tick, and settings written
not_zero : (n : ℕ) → (n ≡ 0 → ⊥) → eqb n 0 ≡ false
not_zero n h = ne_eqb n 0 h

refused_tick : (c : Controller) (r : Readings) (v : List ℕ) (t : List ℤ) (old new : List ℕ) (k : Ticked)
    → TickIs c r v t old new k
    → (k.number ≡ 0 → ⊥) → accepted c r v t (length old) ≡ false
unfolding accepted
refused_tick c r v t old new k h n = rw (← h.number) (not_zero k.number n)

refused_write : (x : Settings) (old new : List ℕ) (w : Written) → Wrote x old new w → (w.number ≡ 0 → ⊥)
    → eqb (write_number x old) 0 ≡ false
unfolding written_of
refused_write x old new w h n = not_zero (write_number x old) (λ z. n (ap (λ (y : Written). y.number) h.answer ∙ z))

refused_read : (b : Box) (s : List ℕ) (a : Result Controller Refusal) → (answered a ≡ 0 → ⊥)
    → started a b ≡ box_left_by (answered a) b (Read s)
unfolding started box_left_by left_by
refused_read b s (Ok c) n = absurd (n refl)
refused_read NoController s (Err k) n = refl
refused_read (Using c) s (Err k) n = refl

-- THE DEMAND
pub demand_1 : (b : Box) (m : CallMade) → KeepsPromise b m → (number_given m ≡ 0 → ⊥) → LeftAsItWas b m
unfolding KeepsPromise call_in in_hand number_seen box_then box_left_by left_by lent_before lent_after bytes_given written_of buffer_after
demand_1 b (DidRead s a) h n = record { controller = refused_read b s a n; buffer = refl; bytes = refl }
demand_1 NoController (DidReceive id s a) h n = absurd h
demand_1 (Using c) (DidReceive id s a) h n =
    record {
      controller = ap Using (rw h (frame_keeps c id s (λ z. n (rw h z))));
      buffer = refl;
      bytes = refl;
    }
demand_1 NoController (DidTick r v t old new k) h n = absurd h
demand_1 (Using c) (DidTick r v t old new k) h n =
    let f : accepted c r v t (length old) ≡ false = refused_tick c r v t old new k h n in
    record { controller = rw (h.next, f); buffer = rw (h.later, f); bytes = rw (h.bytes, f) }
demand_1 NoController (DidWrite old new w) h n = absurd h
demand_1 (Using c) (DidWrite old new w) h n =
    let f : eqb (write_number c.settings old) 0 ≡ false = refused_write c.settings old new w h n in
    record { controller = refl; buffer = rw (h.later, f); bytes = rw (h.answer, f) }
