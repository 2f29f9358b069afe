-- Demand 3, first half: whatever other addresses send, an open session goes as it would without them, up to its end.
-- Assumes nothing.
use Prim.Native.Nat.{ℕ}
use Rattle.std.proofs.Common.{Result, Ok, Err}
use Rattle.numbers.specs.declared.Refusal.{Refusal}
use mathlib.Core.Path.{◌≡◌, refl, ap, sym, subst, ◌∙◌}
use mathlib.Core.Bool.{Bool, true, false, not, cond, ◌&&◌, false≢true}
use mathlib.Core.List.{List, [], ◌∷◌, ◌++◌}
use lib.Dec.{eqb}
use lib.IntN.{ℤ}
use borrow.Author.Tests.{eq-eqb}
use Rattle.messages.specs.declared.received.Message.TheVariants as message
use Rattle.messages.specs.Identifier.{parts_of}
use Rattle.settings.specs.declared.Settings.{Settings}
use Rattle.settings.specs.Read.{read_of}
use Rattle.readings.specs.declared.Readings.{Readings}
use Rattle.cells.specs.declared.Cells.{Cells}
use Rattle.charge_messages.specs.declared.ChargeMessage.{ChargeMessage}
use Rattle.session_states.specs.declared.states.State.{State}
use Rattle.session_states.specs.declared.states.State.TheVariants.{Idle, Offered, Unverified, Parameters, Ready, Charging, Stopping, Error}
use Rattle.session_by_message.specs.declared.Outcome.{Outcome}
use Rattle.session_by_message.specs.declared.Outcome.TheVariants as outcome
use Rattle.session_by_tick.specs.declared.Turn.{Turn}
use Rattle.session_by_tick.specs.declared.Turn.TheVariants as turn
use Rattle.session.specs.declared.Session.{Session}
use Rattle.session.specs.Message.{session_after, applied_of, message_of}
use Rattle.session.specs.Tick.{turned_by, turn_in}
use Rattle.session_paper_counts.specs.Literal.{grown, counted, literal_in, literal_advance, literal_tick}
use Rattle.controller.specs.declared.Controller.{Controller}
use Rattle.controller.specs.Frame.{Answer}
use Rattle.session_states.specs.States.{is_idle}
use Rattle.controller.specs.Frame.{frame_to}
use Rattle.controller.specs.Tick.{charge_frames}
use Rattle.controller.specs.Start.{fresh_of}
use Rattle.demands.specs.Says.{charge_of, Says}
use Rattle.demands.specs.Machine.{Call, Receive, Tick, Write, Read, paper_next}
use Rattle.demands.specs.After.{accepts, read_into, is_read, after, no_session, query_in, is_query}
use Rattle.demands.specs.Apart.{from_station, reaches, reaching, Moment, AfterFrame, sent_at, moments, life, Alike}
use Rattle.controller.specs.Frame.{session_moved, queries_moved}
use Rattle.demands.proofs.View.{pf_is, View, Refused, Asks, Charges, view}
use Rattle.demands.proofs.Comes.{Comes, Left, Took, came, kept_settings, station_is}

-- ---- a frame that cannot reach the session leaves it as it was
-- by what it says a source is the frame's source, and the frame is no query
pub says_from : (x : Settings) (st : ℕ) (m : ChargeMessage) (id : ℕ) (s : List ℕ) → Says x st m id s
    → from_station st id ≡ true
unfolding from_station is_query query_in
says_from x st m id s h = rw (h.source, eq-eqb st st refl, pf_is x.own id s (message.Charge (charge_of m)) h.checks)

unreached_stays : (c : Controller) (id : ℕ) (s : List ℕ) (a : Answer) → Comes c id s a → no_session c ≡ false
    → from_station c.session.station id ≡ false → a.controller.session ≡ c.session
unfolding no_session
unreached_stays c id s a (Left u e n) o h = e
unreached_stays c id s a (Took m says may e) o h =
    let k : from_station (parts_of id).source id ≡ true = says_from c.settings (parts_of id).source m id s says in
    absurd (false≢true (sym h ∙ (ap (λ (z : ℕ). from_station z id) (sym (station_is c (parts_of id).source o may)) ∙ k)))

-- ---- an open session keeps its station
abbrev pub Kept : ℕ → Session → Type 0
Kept st s = is_idle s.state ≡ false → s.station ≡ st

kept_turned : (s : Session) (t : Turn) → Kept s.station (turned_by s t)
unfolding turned_by is_idle
kept_turned s (turn.On st) h = refl
kept_turned s (turn.Enter st) h = refl
kept_turned s turn.Farewell h = absurd (false≢true (sym h))
kept_turned s turn.End h = absurd (false≢true (sym h))

kept_in : (a : ℕ) (s : Session) (st : State) → s.state ≡ st → Kept a s → Kept a (literal_in s st)
unfolding literal_in grown counted is_idle
kept_in a s Idle e k h = k h
kept_in a s Offered e k h = k (ap is_idle e ∙ h)
kept_in a s Unverified e k h = k (ap is_idle e ∙ h)
kept_in a s Parameters e k h = k (ap is_idle e ∙ h)
kept_in a s (Ready b n) e k h = k (ap is_idle e ∙ h)
kept_in a s (Charging p) e k h = k (ap is_idle e ∙ refl)
kept_in a s (Stopping b f) e k h = k (ap is_idle e ∙ h)
kept_in a s Error e k h = k (ap is_idle e ∙ h)

pub kept_tick : (x : Settings) (r : Readings) (c : Cells) (s : Session) → Kept s.station (literal_tick x r c s)
unfolding literal_tick literal_advance
kept_tick x r c s =
    kept_in s.station (turned_by s (turn_in x r c s)) (turned_by s (turn_in x r c s)).state refl
    (kept_turned s (turn_in x r c s))

kept_after : (a : ℕ) (s : Session) (o : Outcome) → s.station ≡ a → Kept a (session_after a s o)
unfolding session_after is_idle
kept_after a s outcome.Refuse e h = e
kept_after a s outcome.OutOfStep e h = e
kept_after a s outcome.Open e h = refl
kept_after a s outcome.Heard e h = e
kept_after a s (outcome.Enter st) e h = e
kept_after a s (outcome.Keep st) e h = e
kept_after a s outcome.End e h = absurd (false≢true (sym h))

module _ (c : Controller) (o : no_session c ≡ false) where
  kept_frame : (id : ℕ) (s : List ℕ) (a : Answer) → Comes c id s a → Kept c.session.station a.controller.session
  unfolding session_moved message_of applied_of no_session
  kept_frame id s a (Left u e n) h = ap (λ (z : Session). z.station) e
  kept_frame id s a (Took m says may e) h =
      let k : (parts_of id).source ≡ c.session.station = station_is c (parts_of id).source o may in
      subst (λ (z : Answer). Kept c.session.station z.controller.session) (sym e)
      (subst (λ (z : ℕ). Kept z (message_of c.settings (parts_of id).source c.session m).session) k
      (kept_after (parts_of id).source c.session _ (sym k))) h

  kept_choice : (st : ℕ) (t : Bool) (d : Controller) → st ≡ c.session.station → Kept st d.session
      → Kept st (cond t d c).session
  kept_choice st true d e k = k
  kept_choice st false d e k = λ h. sym e

  kept_read : (a : Result Settings Refusal) → Kept c.session.station (read_into a c).session
  unfolding read_into fresh_of is_idle
  kept_read (Ok x) h = absurd (false≢true (sym h))
  kept_read (Err n) h = refl

  pub kept_call : (e : Call) → Kept c.session.station (after c e).session
  unfolding after paper_next
  kept_call (Receive id s) = kept_frame id s (frame_to c id s) (came c id s)
  kept_call (Tick r v t old) = kept_choice c.session.station (accepts r v t old) (paper_next c r v t) refl (kept_tick c.settings r _ c.session)
  kept_call (Write old) = λ h. refl
  kept_call (Read s) = kept_read (read_of s)

pub kept_open : (c : Controller) (e : Call) → no_session c ≡ false → no_session (after c e) ≡ false
    → (after c e).session.station ≡ c.session.station
unfolding no_session
kept_open c e o h = kept_call c o e h

and_not : (a b : Bool) → (a && not b) ≡ true → b ≡ false
and_not true true h = absurd (false≢true h)
and_not true false h = refl
and_not false b h = absurd (false≢true h)

no_query_lem : (st id : ℕ) → from_station st id ≡ true → is_query id ≡ false
unfolding from_station
no_query_lem st id h = and_not (eqb (parts_of id).source st) (is_query id) h

-- ---- two controllers that are alike stay so, and are seen to do the same
-- the same settings, the same session, and by a frame that is no query the same number
record AlikeAfter (asks : Bool) (a b : Answer) : Type 0 where
  alike : Alike a.controller b.controller
  number : asks ≡ false → a.number ≡ b.number

module _ (c d : Controller) (a : Alike c d) where
  -- by the cases of the view: refused; a query, which moves the queries alone; a charge message, which goes by settings and
  -- session
  by_case : (id : ℕ) (l : List ℕ) → View c.settings.own id l
      → AlikeAfter (is_query id) (frame_to c id l) (frame_to d id l)
  unfolding session_moved queries_moved
  by_case id l (Refused n each) =
      rw (each c refl, each d (rw a.settings)) (record { alike = a; number = λ f. refl })
  by_case id l (Asks q h each) =
      rw (each c refl, each d (rw a.settings))
      (record { alike = record { settings = a.settings; session = a.session }; number = λ f. absurd (false≢true (sym f ∙ h)) })
  by_case id l (Charges k h p each) =
      rw (each c refl, each d (rw a.settings))
      (record { alike = record { settings = a.settings; session = rw (a.settings, a.session) }; number = λ f. rw (a.settings, a.session) })

  same_frame : (id : ℕ) (l : List ℕ) → AlikeAfter (is_query id) (frame_to c id l) (frame_to d id l)
  same_frame id l = by_case id l (view c.settings.own id l)

  alike_choice : (t : Bool) (p q : Controller) → Alike p q → Alike (cond t p c) (cond t q d)
  alike_choice true p q h = h
  alike_choice false p q h = a

  alike_next : (r : Readings) (v : List ℕ) (t : List ℤ) → Alike (paper_next c r v t) (paper_next d r v t)
  unfolding paper_next
  alike_next r v t = record { settings = a.settings; session = rw (a.settings, a.session) }

  alike_read : (s : Result Settings Refusal) → Alike (read_into s c) (read_into s d)
  unfolding read_into
  alike_read (Ok x) = record { settings = refl; session = refl }
  alike_read (Err n) = a

  pub alike_call : (e : Call) → Alike (after c e) (after d e)
  unfolding after
  alike_call (Receive id s) = (same_frame id s).alike
  alike_call (Tick r v t old) = alike_choice (accepts r v t old) _ _ (alike_next r v t)
  alike_call (Write old) = a
  alike_call (Read s) = alike_read (read_of s)

  told : (id : ℕ) (l : List ℕ) (t : Bool) → (t ≡ true → is_query id ≡ false)
      → cond t (AfterFrame (frame_to c id l).number (frame_to c id l).controller.session ∷ []) []
      ≡ cond t (AfterFrame (frame_to d id l).number (frame_to d id l).controller.session ∷ []) []
  told id l true f = rw ((same_frame id l).number (f refl), (same_frame id l).alike.session)
  told id l false f = refl

  sent_same : (r : Readings) (v : List ℕ) (t : List ℤ) → charge_frames c r v t ≡ charge_frames d r v t
  unfolding charge_frames
  sent_same r v t = rw (a.settings, a.session)

  pub same_moments : (e : Call) → moments c e ≡ moments d e
  unfolding moments sent_at
  same_moments (Receive id s) =
      told id s (from_station c.session.station id) (no_query_lem c.session.station id)
      ∙ ap (λ (z : Session). cond (from_station z.station id) (AfterFrame (frame_to d id s).number (frame_to d id s).controller.session ∷ []) []) a.session
  same_moments (Tick r v t old) = rw (sent_same r v t, (alike_call (Tick r v t old)).session)
  same_moments (Write old) = refl
  same_moments (Read s) = refl

-- ---- a call that does not reach the session leaves it as it was, and is not seen
unread : (a : Result Settings Refusal) (c : Controller) → is_read a ≡ false → Alike (read_into a c) c
unfolding is_read read_into
unread (Ok x) c h = absurd (false≢true (sym h))
unread (Err n) c h = record { settings = refl; session = refl }

pub unreached : (c : Controller) (e : Call) → no_session c ≡ false → reaches c.session.station e ≡ false
    → Alike (after c e) c
unfolding after reaches
unreached c (Receive id s) o h = record { settings = kept_settings c id s; session = unreached_stays c id s (frame_to c id s) (came c id s) o h }
unreached c (Tick r v t old) o h = absurd (false≢true (sym h))
unreached c (Write old) o h = record { settings = refl; session = refl }
unreached c (Read s) o h = unread (read_of s) c h

unseen : (c : Controller) (e : Call) → reaches c.session.station e ≡ false → moments c e ≡ []
unfolding moments reaches
unseen c (Receive id s) h = rw h
unseen c (Tick r v t old) h = absurd (false≢true (sym h))
unseen c (Write old) h = refl
unseen c (Read s) h = rw h

-- ---- a session's life over the calls is its life over those that can reach it
-- the rest of a life, as long as there is a session
rest : Controller → List Call → List Moment
rest c es = cond (no_session c) [] (life c es)

rest_open : (c : Controller) (es : List Call) → no_session c ≡ false → rest c es ≡ life c es
unfolding rest
rest_open c es o = rw o

pub same_no_session : (c d : Controller) → Alike c d → no_session c ≡ no_session d
unfolding no_session
same_no_session c d a = rw a.session

after_both : (c d : Controller) (es fs : List Call) → Alike c d → (no_session c ≡ false → life c es ≡ life d fs)
    → rest c es ≡ rest d fs
unfolding rest
after_both c d es fs a f =
    both (no_session c) refl ∙ ap (λ (t : Bool). cond t [] (life d fs)) (same_no_session c d a)
  where
    both : (t : Bool) → no_session c ≡ t → cond t [] (life c es) ≡ cond t [] (life d fs)
    both true e = refl
    both false e = f e

pub back : (c d : Controller) → Alike c d → Alike d c
back c d a = record { settings = sym a.settings; session = sym a.session }

pub then : (c d e : Controller) → Alike c d → Alike d e → Alike c e
then c d e a b = record { settings = a.settings ∙ b.settings; session = a.session ∙ b.session }

Alone : ℕ → List Call → Type 0
Alone st es = (c d : Controller) → Alike c d → c.session.station ≡ st → no_session c ≡ false → life c es ≡ life d (reaching st es)

one_more : (st : ℕ) (e : Call) (es : List Call) → Alone st es → (c d : Controller) → Alike c d
    → c.session.station ≡ st → no_session c ≡ false
    → (t : Bool) → reaches st e ≡ t
    → moments c e ++ rest (after c e) es ≡ life d (cond t (e ∷ reaching st es) (reaching st es))
unfolding Alone life rest
one_more st e es ih c d a k o true h =
    ap (λ (m : List Moment). m ++ rest (after c e) es) (same_moments c d a e)
    ∙ ap (λ (l : List Moment). moments d e ++ l)
    (after_both (after c e) (after d e) es (reaching st es) (alike_call c d a e)
    (λ p. ih (after c e) (after d e) (alike_call c d a e) (kept_open c e o p ∙ k) p))
one_more st e es ih c d a k o false h =
    let u : Alike (after c e) c = unreached c e o (ap (λ (z : ℕ). reaches z e) k ∙ h) in
    let p : no_session (after c e) ≡ false = same_no_session (after c e) c u ∙ o in
    ap (λ (m : List Moment). m ++ rest (after c e) es) (unseen c e (ap (λ (z : ℕ). reaches z e) k ∙ h))
    ∙ (rest_open (after c e) es p
    ∙ ih (after c e) d (then (after c e) c d u a) (ap (λ (z : Session). z.station) u.session ∙ k) p)

alone : (st : ℕ) (es : List Call) → Alone st es
unfolding Alone life reaching rest
alone st [] c d a k o = refl
alone st (e ∷ es) c d a k o = one_more st e es (alone st es) c d a k o (reaches st e) refl

-- two controllers with the same settings and the same open session, and two lists of calls by which the same reaches
-- the session: the session ends at the same place in both or in neither, and everything that is seen of it up to there
-- agrees
pub undisturbed : (c d : Controller) (ks ls : List Call) → no_session c ≡ false → Alike c d
    → reaching c.session.station ks ≡ reaching c.session.station ls → life c ks ≡ life d ls
unfolding Alone
undisturbed c d ks ls o a h =
    alone c.session.station ks c c (record { settings = refl; session = refl }) refl o
    ∙ (ap (life c) h
    ∙ sym (alone c.session.station ls d c (back c d a) (ap (λ (z : Session). z.station) (sym a.session))
    (sym (same_no_session c d a) ∙ o)))
