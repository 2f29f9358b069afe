-- In every run each address is a byte: our own by the settings' range, the station's and a query's source as they are
-- taken from an identifier. Assumes nothing.
use Prim.Native.Nat.{ℕ, ◌<◌}
use Rattle.std.proofs.Common.{Result, Ok, Err}
use Rattle.numbers.specs.declared.Refusal.{Refusal}
use native.Mathlib.Omega.{arith}
use mathlib.Core.Path.{◌≡◌, refl, sym, subst}
use mathlib.Core.Bool.{Bool, true, false, cond, ◌&&◌}
use mathlib.Core.List.{List, [], ◌∷◌, ◌++◌}
use borrow.Author.Tests.{leb-true}
use lib.Dec.{eqb, leb}
use lib.IntN.{ℤ}
use lib.ListN.{length}
use Rattle.std.proofs.lemmas.Bool.{and_parts}
use Rattle.messages.specs.Identifier.{parts_of}
use Rattle.readings.specs.declared.Readings.{Readings}
use Rattle.cells.specs.declared.Cells.{Cells}
use Rattle.cells.specs.Summaries.{cells_of}
use Rattle.settings.specs.declared.Settings.{Settings}
use Rattle.settings.specs.Range.{last_address, within, in_range}
use Rattle.settings.specs.Read.{read_of}
use Rattle.settings.proofs.RoundTrip.{read_in_range}
use Rattle.session_states.specs.declared.states.State.{State}
use Rattle.session_states.specs.declared.states.State.TheVariants.{Idle, Offered, Unverified, Parameters, Ready, Charging, Stopping, Error}
use Rattle.session_by_message.specs.declared.Outcome.{Outcome}
use Rattle.session_by_message.specs.declared.Outcome.TheVariants as outcome
use Rattle.session_by_tick.specs.declared.Turn.{Turn}
use Rattle.session_by_tick.specs.declared.Turn.TheVariants as turn
use Rattle.session.specs.declared.Session.{Session}
use Rattle.session.specs.Message.{session_after, applied_of, message_of}
use Rattle.session.specs.Tick.{turned_by, turn_in}
use Rattle.session_paper_counts.specs.Literal.{grown, counted, literal_in, literal_advance, literal_tick}
use Rattle.messages.specs.declared.received.Kind.{Kind}
use Rattle.queries.specs.declared.Query.{Query}
use Rattle.queries.specs.declared.Queries.{Queries}
use Rattle.queries.specs.Waiting.{waiting, queries_of}
use Rattle.queries.specs.Asking.{ask_number, fresh_query, queued_of}
use Rattle.queries.specs.Answering.{past_end, at_last, next_group, waiting_after}
use Rattle.queries.proofs.Lists.{waiting_at_most, waiting_held, asked_waiting, later_at_most}
use Rattle.controller.specs.declared.Controller.{Controller}
use Rattle.controller.specs.Frame.{Answer}
use Rattle.controller.specs.Start.{fresh_of, start_with, start_of}
use Rattle.controller.specs.Frame.{frame_to, session_moved, queries_moved}
use Rattle.controller.specs.Tick.{accepted}
use Rattle.demands.specs.Machine.{Call, Read, Receive, Tick, Write, Box, NoController, Using, paper_next, started, box_after, box_at}
use Rattle.demands.specs.After.{after}
use Rattle.demands.proofs.Since.{after_is}
use Rattle.demands.proofs.View.{View, Refused, Asks, Charges, view}
use Rattle.demands.proofs.Comes.{Comes, Left, Took, came, kept_settings}
use Rattle.demands.proofs.FrameKinds.{Below, Bytes}

-- ---- lists of queries
below_append : (l k : List Query) → Below l → Below k → Below (l ++ k)
unfolding Below
below_append [] k h i = i
below_append (q ∷ l) k h i = (h.0, below_append l k h.1 i)

below_if : (b : Bool) (l k : List Query) → Below l → Below k → Below (cond b l k)
below_if true l k h i = h
below_if false l k h i = i

below_later : (v : List ℕ) (t : List ℤ) (l : List Query) → Below l → Below (waiting_after v t l)
unfolding waiting_after Below
below_later v t [] h = tt
below_later v t (q ∷ qs) h =
    below_if (past_end v t q) qs _ h.1 (below_if (at_last v t q) qs (next_group q ∷ qs) h.1 (next_below q qs h.0 h.1))
  where
    next_below : (q : Query) (qs : List Query) → q.source < 256 → Below qs → Below (next_group q ∷ qs)
    next_below q qs h k = (h, k)

below_one : (source : ℕ) (kind : Kind) → source < 256 → Below (fresh_query source kind ∷ [])
unfolding Below
below_one source kind h = (h, tt)

below_asked : (q : Queries) (source : ℕ) (kind : Kind) → source < 256 → Below (waiting q)
    → Below (waiting (queued_of q source kind).queries)
below_asked q source kind h k =
    subst Below (sym (asked_waiting q source kind))
    (below_if (eqb (ask_number source kind (waiting q)) 0) _ _ (below_append (waiting q) _ k (below_one source kind h)) k)

below_ticked : (q : Queries) (v : List ℕ) (t : List ℤ) → Below (waiting q)
    → Below (waiting (queries_of (waiting_after v t (waiting q))))
below_ticked q v t h =
    subst Below (sym (waiting_held (waiting_after v t (waiting q)) (omega (arith, waiting_at_most q, later_at_most v t (waiting q)))))
    (below_later v t (waiting q) h)

-- ---- the station
message_byte : (source : ℕ) (s : Session) (o : Outcome) → source < 256 → s.station < 256
    → (session_after source s o).station < 256
unfolding session_after
message_byte source s outcome.Refuse h k = k
message_byte source s outcome.OutOfStep h k = k
message_byte source s outcome.Open h k = h
message_byte source s outcome.Heard h k = k
message_byte source s (outcome.Enter st) h k = k
message_byte source s (outcome.Keep st) h k = k
message_byte source s outcome.End h k = omega arith

turn_byte : (s : Session) (t : Turn) → s.station < 256 → (turned_by s t).station < 256
unfolding turned_by
turn_byte s (turn.On st) h = h
turn_byte s (turn.Enter st) h = h
turn_byte s turn.Farewell h = omega arith
turn_byte s turn.End h = omega arith

in_station : (s : Session) (st : State) → (literal_in s st).station ≡ s.station
unfolding literal_in grown counted
in_station s Idle = refl
in_station s Offered = refl
in_station s Unverified = refl
in_station s Parameters = refl
in_station s (Ready accepted maximum) = refl
in_station s (Charging p) = refl
in_station s (Stopping acknowledged est) = refl
in_station s Error = refl

tick_byte : (x : Settings) (r : Readings) (c : Cells) (s : Session) → s.station < 256
    → (literal_tick x r c s).station < 256
unfolding literal_tick literal_advance
tick_byte x r c s h =
    let u = turned_by s (turn_in x r c s) in rw (in_station u u.state) (turn_byte s (turn_in x r c s) h)

source_byte : (id : ℕ) → (parts_of id).source < 256
unfolding parts_of
source_byte id = omega arith

-- ---- any call
charge_bytes : (c : Controller) (id : ℕ) (s : List ℕ) (a : Answer) → Comes c id s a → c.session.station < 256
    → a.controller.session.station < 256
unfolding session_moved message_of applied_of
charge_bytes c id s a (Left u e n) h = rw e h
charge_bytes c id s a (Took m says may e) h = rw e (message_byte (parts_of id).source c.session _ (source_byte id) h)

by_case : (c : Controller) (id : ℕ) (s : List ℕ) → Bytes c → View c.settings.own id s
    → Below (waiting (frame_to c id s).controller.queries)
unfolding queries_moved session_moved
by_case c id s b (Refused n each) = rw (each c refl) b.sources
by_case c id s b (Asks q h each) = rw (each c refl) (below_asked c.queries (parts_of id).source q (source_byte id) b.sources)
by_case c id s b (Charges k h p each) = rw (each c refl) b.sources

frame_bytes_lem : (c : Controller) (id : ℕ) (s : List ℕ) → Bytes c → Bytes (frame_to c id s).controller
frame_bytes_lem c id s b =
    record {
      own = rw (kept_settings c id s) b.own;
      station = charge_bytes c id s (frame_to c id s) (came c id s) b.station;
      sources = by_case c id s b (view c.settings.own id s);
    }

tick_bytes : (c : Controller) (r : Readings) (v : List ℕ) (t : List ℤ) → Bytes c → Bytes (paper_next c r v t)
unfolding paper_next
tick_bytes c r v t b =
    record {
      own = b.own;
      station = tick_byte c.settings r (cells_of v t) c.session b.station;
      sources = below_ticked c.queries v t b.sources;
    }

fresh_bytes : (x : Settings) → in_range x ≡ true → Bytes (fresh_of x)
unfolding fresh_of in_range within Below waiting queries_of
fresh_bytes x h =
    record {
      own = omega (arith, leb-true x.own last_address (and_parts (leb 0 x.own) _ (and_parts (leb 0 x.own && leb x.own last_address) _ h).0).1);
      station = omega arith;
      sources = none;
    }
  where
    none : Below (waiting (fresh_of x).queries)
    none = tt

unfoldable pub BytesIn : Box → Type 0
BytesIn NoController = Unit {0}
BytesIn (Using c) = Bytes c

start_bytes : (s : List ℕ) (a : Result Settings Refusal) → read_of s ≡ a → (b : Box) → BytesIn b → BytesIn (started (start_with a) b)
unfolding started start_with BytesIn
start_bytes s (Ok x) e b h = fresh_bytes x (read_in_range s x e)
start_bytes s (Err n) e b h = h

if_bytes : (b : Bool) (c d : Controller) → Bytes c → Bytes d → Bytes (cond b c d)
if_bytes true c d h k = h
if_bytes false c d h k = k

call_bytes : (b : Box) (k : Call) → BytesIn b → BytesIn (box_after paper_next b k)
unfolding box_after BytesIn start_of
call_bytes b (Read s) h = start_bytes s (read_of s) refl b h
call_bytes NoController (Receive id s) h = h
call_bytes (Using c) (Receive id s) h = frame_bytes_lem c id s h
call_bytes NoController (Tick r v t old) h = h
call_bytes (Using c) (Tick r v t old) h = if_bytes (accepted c r v t (length old)) _ _ (tick_bytes c r v t h) h
call_bytes NoController (Write old) h = h
call_bytes (Using c) (Write old) h = h

pub run_bytes : (b : Box) (ks : List Call) → BytesIn b → BytesIn (box_at paper_next b ks)
unfolding box_at
run_bytes b [] h = h
run_bytes b (k ∷ ks) h = run_bytes (box_after paper_next b k) ks (call_bytes b k h)

-- after any calls from the start
pub addresses : (ks : List Call) (c : Controller) → box_at paper_next NoController ks ≡ Using c → Bytes c
unfolding BytesIn
addresses ks c e = subst BytesIn e (run_bytes NoController ks tt)

-- and after any call
pub bytes_after_lem : (c : Controller) (k : Call) → Bytes c → Bytes (after c k)
unfolding BytesIn
bytes_after_lem c k b = subst BytesIn (after_is c k) (call_bytes (Using c) k b)
