-- A session whose station falls silent ends within 801 accepted ticks (01, "What a reader can rely on"), whatever other
-- addresses send, and whatever the station sends that the session does not heed; and what it takes to live through 800
-- (proofs/SilentRun.antt has such a run). Assumes nothing.
use Prim.Native.Nat.{ℕ, zero, suc, ◌+◌, ◌-◌, ◌≤◌, ◌<◌}
use Rattle.std.proofs.Common.{Option}
use Rattle.std.specs.declared.ops.ControlFlow.{ControlFlow}
use Rattle.std.specs.declared.ops.ControlFlow.TheVariants.{Continue, Break}
use Rattle.std.proofs.Common.{Result, Ok, Err}
use Rattle.numbers.specs.declared.Refusal.{Refusal}
use native.Mathlib.Omega.{arith}
use mathlib.Core.Path.{◌≡◌, refl, ap, sym, subst, ◌∙◌}
use mathlib.Core.Bool.{Bool, true, false, not, cond, ◌||◌, false≢true}
use mathlib.Core.List.{List, [], ◌∷◌}
use lib.Dec.{leb}
use lib.IntN.{ℤ, pos}
use borrow.Author.Tests.{leb-true, leb-false, lt-leb}
use Rattle.std.proofs.lemmas.Bool.{and_parts}
use Rattle.settings.specs.declared.Settings.{Settings}
use Rattle.settings.specs.Read.{read_of}
use Rattle.controller.specs.Start.{fresh_of}
use Rattle.readings.specs.declared.Readings.{Readings}
use Rattle.readings.specs.Readings.{wanted_of, readings_in_range, current_ok}
use Rattle.cells.specs.declared.Cells.{Cells}
use Rattle.cells.specs.Summaries.{cells_of}
use Rattle.cells.specs.Tables.{every}
use Rattle.session_states.specs.declared.phases.Phase.{Phase}
use Rattle.session_states.specs.declared.phases.Cause.{Cause}
use Rattle.session_states.specs.declared.phases.Cause.TheVariants.{PackVoltage, Other}
use Rattle.session_states.specs.Phases.{phase_after}
use Rattle.session_states.specs.declared.states.Est.{Est}
use Rattle.session_states.specs.declared.states.State.{State}
use Rattle.session_states.specs.declared.states.State.TheVariants.{Idle, Offered, Unverified, Parameters, Ready, Charging, Stopping, Error}
use Rattle.session_by_tick.specs.declared.Turn.{Turn}
use Rattle.session_by_tick.specs.declared.Turn.TheVariants as turn
use Rattle.session_by_tick.specs.Turns.{current_above, stop_of, est_then, waiting_of, phase_on, phase_turn, stops_of, charging_of, stopping_of, error_of, turn_of, cell_full, pack_full}
use Rattle.session.specs.declared.Session.{Session}
use Rattle.session.specs.Tick.{turned_by, turn_in}
use Rattle.session_paper_counts.specs.Literal.{grown, counted, literal_in, literal_advance, literal_tick}
use Rattle.controller.specs.declared.Controller.{Controller}
use Rattle.session_states.specs.States.{is_idle}
use Rattle.controller.specs.Frame.{frame_to}
use Rattle.refusals.specs.Tick.{tick_number}
use Rattle.session_states.specs.Limits.{silence_limit, closing_limit}
use Rattle.demands.specs.Machine.{Call, Receive, Tick, Write, Read, paper_next}
use Rattle.demands.specs.After.{accepts, read_into, after, no_session, ends_within}
use Rattle.demands.specs.Apart.{from_station}
use Rattle.demands.specs.Silent.{Unheeded, Silence, quiet_at, sends_nothing, is_accepted_tick, ticks_in, EndsBy, longest}
use Rattle.demands.proofs.Tests.{or_false}
use Rattle.demands.proofs.Messages.{mk}
use Rattle.demands.proofs.Apart.{kept_open}
use Rattle.demands.proofs.SilentFrames.{unheeded_kept, still_unheeded}

-- the ticks that a silent session has left, at most
left_in : State → ℕ → ℕ → ℕ
left_in Idle b n = 0
left_in Offered b n = closing_limit + 1 + (silence_limit - b)
left_in Unverified b n = closing_limit + 1 + (silence_limit - b)
left_in Parameters b n = closing_limit + 1 + (silence_limit - b)
left_in (Ready y k) b n = closing_limit + 1 + (silence_limit - b)
left_in (Charging p) b n = closing_limit + 1 + (silence_limit - b)
left_in (Stopping a e) b n = 1 + (closing_limit - n)
left_in Error b n = 1 + (closing_limit - n)

left : Session → ℕ
left s = left_in s.state s.silence s.count

most : (st : State) (b n : ℕ) → left_in st b n ≤ longest
unfolding left_in
most Idle b n = omega arith
most Offered b n = omega arith
most Unverified b n = omega arith
most Parameters b n = omega arith
most (Ready y k) b n = omega arith
most (Charging p) b n = omega arith
most (Stopping a e) b n = omega arith
most Error b n = omega arith

some : (st : State) (b n : ℕ) → is_idle st ≡ false → 0 < left_in st b n
unfolding left_in is_idle
some Idle b n o = absurd (false≢true (sym o))
some Offered b n o = omega arith
some Unverified b n o = omega arith
some Parameters b n o = omega arith
some (Ready y k) b n o = omega arith
some (Charging p) b n o = omega arith
some (Stopping a e) b n o = omega arith
some Error b n o = omega arith

-- what is left after a tick's turn
next : Session → Turn → ℕ
next s t = left (literal_advance (turned_by s t))

-- Offered to Charging
early : State → Bool
early Idle = false
early Offered = true
early Unverified = true
early Parameters = true
early (Ready y n) = true
early (Charging p) = true
early (Stopping a e) = false
early Error = false

next_on : (s : Session) (st : State) → early st ≡ true
    → next s (turn.On st) ≡ closing_limit + 1 + (silence_limit - (s.silence + 1))
unfolding next left left_in early literal_advance literal_in grown turned_by
next_on s Idle e = absurd (false≢true e)
next_on s Offered e = refl
next_on s Unverified e = refl
next_on s Parameters e = refl
next_on s (Ready y k) e = refl
next_on s (Charging p) e = refl
next_on s (Stopping a f) e = absurd (false≢true e)
next_on s Error e = absurd (false≢true e)

next_error : (s : Session) → next s (turn.Enter Error) ≡ closing_limit
unfolding next left left_in literal_advance literal_in counted turned_by
next_error s = refl

next_stop : (x : Settings) (r : Readings) (c : Cells) (s : Session) (k : Cause) → next s (stop_of x r c k) ≡ closing_limit
unfolding next left left_in literal_advance literal_in counted turned_by stop_of
next_stop x r c s k = refl

next_farewell : (s : Session) → next s turn.Farewell ≡ 0
unfolding next left left_in literal_advance literal_in turned_by
next_farewell s = refl

next_end : (s : Session) → next s turn.End ≡ 0
unfolding next left left_in literal_advance literal_in turned_by
next_end s = refl

next_stopping : (s : Session) (a : Bool) (e : (Option Est))
    → next s (turn.On (Stopping a e)) ≡ 1 + (closing_limit - (s.count + 1))
unfolding next left left_in literal_advance literal_in counted turned_by
next_stopping s a e = refl

next_in_error : (s : Session) → next s (turn.On Error) ≡ 1 + (closing_limit - (s.count + 1))
unfolding next left left_in literal_advance literal_in counted turned_by
next_in_error s = refl

falls_waiting : (r : Readings) (s : Session) (st : State) → early st ≡ true
    → next s (waiting_of r s.silence st) < closing_limit + 1 + (silence_limit - s.silence)
unfolding waiting_of
falls_waiting r s st e = go (leb silence_limit s.silence) refl (wanted_of r)
  where
    go : (t : Bool) → leb silence_limit s.silence ≡ t → (w : Bool)
        → next s (cond t (turn.Enter Error) (cond w (turn.On st) turn.Farewell)) < closing_limit + 1 + (silence_limit - s.silence)
    go true h w = omega (arith, next_error s)
    go false h true = omega (arith, next_on s st e, leb-false silence_limit s.silence h)
    go false h false = omega (arith, next_farewell s)

module _ (x : Settings) (r : Readings) (c : Cells) (s : Session) where
  falls_phase : (q : (ControlFlow Cause Phase)) → leb silence_limit s.silence ≡ false
      → next s (phase_on x r c q) < closing_limit + 1 + (silence_limit - s.silence)
  unfolding phase_on early
  falls_phase (Continue p) h = omega (arith, next_on s (Charging p) refl, leb-false silence_limit s.silence h)
  falls_phase (Break k) h = omega (arith, next_stop x r c s k)

  falls_charging : (p : Phase)
      → next s (charging_of x r c s.silence p) < closing_limit + 1 + (silence_limit - s.silence)
  unfolding charging_of stops_of phase_turn
  falls_charging p = go (leb silence_limit s.silence) refl (wanted_of r) (current_above x r) (pack_full x r)
    where
      go : (t : Bool) → leb silence_limit s.silence ≡ t → (w u y : Bool) →
          next s (cond t (turn.Enter Error) (cond w (cond u (stop_of x r c Other) (cond y (stop_of x r c PackVoltage) (phase_on x r c (phase_after p (cell_full x c))))) (stop_of x r c Other))) < closing_limit + 1 + (silence_limit - s.silence)
      go true h w u y = omega (arith, next_error s)
      go false h false u y = omega (arith, next_stop x r c s Other)
      go false h true true y = omega (arith, next_stop x r c s Other)
      go false h true false true = omega (arith, next_stop x r c s PackVoltage)
      go false h true false false = falls_phase (phase_after p (cell_full x c)) h

  falls_stopping : (a : Bool) (e : (Option Est)) → next s (stopping_of x r c s.count a e) < 1 + (closing_limit - s.count)
  unfolding stopping_of
  falls_stopping a e = go (leb closing_limit s.count) refl
    where
      go : (t : Bool) → leb closing_limit s.count ≡ t
          → next s (cond t turn.End (turn.On (Stopping a (est_then x r c e)))) < 1 + (closing_limit - s.count)
      go true h = omega (arith, next_end s)
      go false h = omega (arith, next_stopping s a (est_then x r c e), leb-false closing_limit s.count h)

  falls_error : next s (error_of s.count) < 1 + (closing_limit - s.count)
  unfolding error_of
  falls_error = go (leb closing_limit s.count) refl
    where
      go : (t : Bool) → leb closing_limit s.count ≡ t
          → next s (cond t turn.End (turn.On Error)) < 1 + (closing_limit - s.count)
      go true h = omega (arith, next_end s)
      go false h = omega (arith, next_in_error s, leb-false closing_limit s.count h)

  falls_in : (st : State) → is_idle st ≡ false
      → next s (turn_of x r c st s.count s.silence) < left_in st s.silence s.count
  unfolding turn_of left_in is_idle early
  falls_in Idle o = absurd (false≢true (sym o))
  falls_in Offered o = falls_waiting r s Offered refl
  falls_in Unverified o = falls_waiting r s Unverified refl
  falls_in Parameters o = falls_waiting r s Parameters refl
  falls_in (Ready y k) o = falls_waiting r s (Ready y k) refl
  falls_in (Charging p) o = falls_charging p
  falls_in (Stopping a e) o = falls_stopping a e
  falls_in Error o = falls_error

  -- a tick of an open session leaves less
  falls : is_idle s.state ≡ false → left (literal_tick x r c s) < left s
  unfolding left literal_tick next turn_in
  falls o = falls_in s.state o

-- ---- over a list of calls
quiet_unheeded : (t : Bool) → not t ≡ true → t ≡ false
quiet_unheeded true h = absurd (false≢true h)
quiet_unheeded false h = refl

tick_falls : (c : Controller) (r : Readings) (v : List ℕ) (t : List ℤ) (b : Bool) → no_session c ≡ false
    → cond b 1 0 + left (cond b (paper_next c r v t) c).session ≤ left c.session
unfolding paper_next no_session
tick_falls c r v t true o = let f : left (paper_next c r v t).session < left c.session = falls c.settings r (cells_of v t) c.session o in omega arith
tick_falls c r v t false o = omega arith

read_falls : (a : Result Settings Refusal) (c : Controller) → 0 + left (read_into a c).session ≤ left c.session
unfolding read_into fresh_of left left_in
read_falls (Ok x) c = omega arith
read_falls (Err n) c = omega arith

-- one call by which nothing is said that is heeded: if an accepted tick, less is left, else no more
call_falls : (c : Controller) (e : Call) → no_session c ≡ false → Unheeded c e
    → cond (is_accepted_tick e) 1 0 + left (after c e).session ≤ left c.session
unfolding is_accepted_tick after
call_falls c (Receive id s) o u = same (frame_to c id s).controller.session (unheeded_kept c id s o u)
  where
    same : (z : Session) → z ≡ c.session → 0 + left z ≤ left c.session
    same z h = subst (λ (y : Session). 0 + left z ≤ left y) h (omega arith)
call_falls c (Tick r v t old) o u = tick_falls c r v t (accepts r v t old) o
call_falls c (Write old) o u = omega arith
call_falls c (Read s) o u = read_falls (read_of s) c

some_left : (c : Controller) → no_session c ≡ false → 0 < left c.session
unfolding no_session left
some_left c o = some c.session.state c.session.silence c.session.count o

either : (t b : Bool) → (t ≡ false → b ≡ true) → (t || b) ≡ true
either true b f = refl
either false b f = f refl

none_left : (t : Bool) → (t ≡ false → false ≡ true) → t ≡ true
none_left true f = refl
none_left false f = f refl

spent : (es : List Call) (c : Controller) → Silence c es → left c.session ≤ ticks_in es → ends_within c es ≡ true
unfolding ends_within ticks_in Silence
spent [] c q h = none_left (no_session c) (λ o. absurd (omega (arith, some_left c o)))
spent (e ∷ es) c q h =
    either (no_session c) (ends_within (after c e) es)
    (λ o. spent es (after c e) (q o).1 (omega (arith, call_falls c e o (q o).0)))

-- a session whose station falls silent ends within 801 accepted ticks
pub within_801 : EndsBy longest
unfolding left
within_801 c es q h = spent es c q (omega (arith, most c.session.state c.session.silence c.session.count))

-- ---- a station that sends nothing is silent
still_call : (c : Controller) (e : Call) → quiet_at c.session.station e ≡ true → Unheeded c e
unfolding quiet_at Unheeded
still_call c (Receive id s) q = still_unheeded c id s (quiet_unheeded (from_station c.session.station id) q)
still_call c (Tick r v t old) q = tt
still_call c (Write old) q = tt
still_call c (Read s) q = tt

still : (st : ℕ) (es : List Call) (c : Controller) → (no_session c ≡ false → c.session.station ≡ st)
    → sends_nothing st es ≡ true → Silence c es
unfolding sends_nothing Silence
still st [] c k q = tt
still st (e ∷ es) c k q = λ o. (
  still_call c e (ap (λ (z : ℕ). quiet_at z e) (k o) ∙ (and_parts (quiet_at st e) (sends_nothing st es) q).0),
  still st es (after c e) (λ p. kept_open c e o p ∙ k o) (and_parts (quiet_at st e) (sends_nothing st es) q).1,
)

-- so what `within_801` says holds of a station that is still, whatever it and others send once the session has ended
pub silent_station : (c : Controller) (es : List Call) → sends_nothing c.session.station es ≡ true → Silence c es
silent_station c es q = still c.session.station es c (λ o. refl) q

-- ---- and 800 are not enough
-- the same call so many times
unfoldable pub repeated : ℕ → Call → List Call
repeated zero e = []
repeated (suc n) e = e ∷ repeated n e

module _ (x : Settings) (r : Readings) (c : Cells) (a b n : ℕ) where
  error_tick : leb closing_limit n ≡ false → literal_tick x r c (mk a b n Error) ≡ mk a b (n + 1) Error
  unfolding literal_tick literal_advance literal_in counted turned_by turn_in turn_of error_of
  error_tick h = rw h

  late_tick : leb silence_limit b ≡ true → literal_tick x r c (mk a b n Offered) ≡ mk a 0 1 Error
  unfolding literal_tick literal_advance literal_in counted turned_by turn_in turn_of waiting_of
  late_tick h = rw h

  offered_tick : leb silence_limit b ≡ false → wanted_of r ≡ true
      → literal_tick x r c (mk a b n Offered) ≡ mk a (b + 1) (n + 1) Offered
  unfolding literal_tick literal_advance literal_in grown turned_by turn_in turn_of waiting_of
  offered_tick h w = rw (h, w)

module _ (r : Readings) (v : List ℕ) (t : List ℤ) (old : List ℕ) (taken : accepts r v t old ≡ true) (wants : wanted_of r ≡ true) where
  abbrev tick : Call
  tick = Tick r v t old

  ticks : (c : Controller) (s : Session) → c.session ≡ s
      → (after c tick).session ≡ literal_tick c.settings r (cells_of v t) s
  unfolding after paper_next
  ticks c s h = rw (taken, h)

  open_error : (c : Controller) (a b n : ℕ) → c.session ≡ mk a b n Error → no_session c ≡ false
  unfolding no_session is_idle
  open_error c a b n h = rw h

  open_offered : (c : Controller) (a b n : ℕ) → c.session ≡ mk a b n Offered → no_session c ≡ false
  unfolding no_session is_idle
  open_offered c a b n h = rw h

  lives_error : (k : ℕ) (c : Controller) (a b n : ℕ) → c.session ≡ mk a b n Error → n + k ≤ closing_limit
      → ends_within c (repeated k tick) ≡ false
  unfolding ends_within repeated
  lives_error zero c a b n h l = open_error c a b n h
  lives_error (suc k) c a b n h l =
      or_false (no_session c) _ (open_error c a b n h)
      (lives_error k (after c tick) a b (n + 1)
      (ticks c (mk a b n Error) h ∙ error_tick c.settings r (cells_of v t) a b n (lt-leb closing_limit n (omega arith))) (omega arith))

  lives_offered : (k : ℕ) (c : Controller) (a b n : ℕ) → c.session ≡ mk a b n Offered → b ≤ silence_limit
      → b + k ≤ silence_limit + closing_limit → ends_within c (repeated k tick) ≡ false
  unfolding ends_within repeated
  lives_offered zero c a b n h l g = open_offered c a b n h
  lives_offered (suc k) c a b n h l g =
      or_false (no_session c) _ (open_offered c a b n h)
      (go (leb silence_limit b) refl (λ p m q. lives_offered k (after c tick) a (b + 1) (n + 1) p m q))
    where
      go : (f : Bool) → leb silence_limit b ≡ f
          → ((after c tick).session ≡ mk a (b + 1) (n + 1) Offered → b + 1 ≤ silence_limit → b + 1 + k ≤ silence_limit + closing_limit → ends_within (after c tick) (repeated k tick) ≡ false)
          → ends_within (after c tick) (repeated k tick) ≡ false
      go true e ih =
          lives_error k (after c tick) a 0 1 (ticks c (mk a b n Offered) h ∙ late_tick c.settings r (cells_of v t) a b n e)
          (omega (arith, leb-true silence_limit b e))
      go false e ih =
          ih (ticks c (mk a b n Offered) h ∙ offered_tick c.settings r (cells_of v t) a b n e wants) (omega (arith, leb-false silence_limit b e)) (omega arith)

  -- an Offered session that has just heeded its station lives through 800 accepted ticks that want charge
  pub not_within_800 : (c : Controller) (a n : ℕ) → c.session ≡ mk a 0 n Offered
      → ends_within c (repeated 800 tick) ≡ false
  not_within_800 c a n h = lives_offered 800 c a 0 n h (omega arith) (omega arith)

-- there is such a tick: one cell of 3.30 V at 20 F, a buffer of 117 bytes, all readings 0 but 80 hex in status byte two
unfoldable pub zeros : ℕ → List ℕ
zeros zero = []
zeros (suc n) = 0 ∷ zeros n

pub quiet_readings : Readings
quiet_readings =
    record {
      one = 0;
      two = 0x80;
      soc = 0;
      current = pos 0;
      pack = record { 0 = 0 };
      capacity = 0;
      faults = record { active = 0; latched = 0 };
      warnings = record { active = 0; latched = 0 };
    }

pub such_a_tick : (accepts quiet_readings (330 ∷ []) (pos 20 ∷ []) (zeros 117) ≡ true) × (wanted_of quiet_readings ≡ true)
unfolding quiet_readings zeros accepts tick_number readings_in_range wanted_of current_ok every
such_a_tick = (refl, refl)
