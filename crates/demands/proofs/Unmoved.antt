-- Demand 3, second half: charge messages never change a broadcast, a cell answer or the number that a query is given.
-- Assumes nothing.
use Prim.Native.Nat.{ℕ}
use Rattle.std.proofs.Common.{Result, Ok, Err}
use Rattle.numbers.specs.declared.Refusal.{Refusal}
use Rattle.settings.specs.declared.Settings.{Settings}
use mathlib.Core.Path.{◌≡◌, refl, ap, sym, ◌∙◌}
use mathlib.Core.Bool.{Bool, true, false, cond, false≢true}
use mathlib.Core.List.{List, [], ◌∷◌, ◌++◌}
use lib.IntN.{ℤ}
use Rattle.settings.specs.Read.{read_of}
use Rattle.readings.specs.declared.Readings.{Readings}
use Rattle.messages.specs.Identifier.{parts_of}
use Rattle.queries.specs.Asking.{queued_of}
use Rattle.controller.specs.declared.Controller.{Controller}
use Rattle.controller.specs.Frame.{Answer}
use Rattle.controller.specs.Frame.{frame_to}
use Rattle.controller.specs.Tick.{broadcast_frames, cell_frames}
use Rattle.controller.specs.With.{with_session}
use Rattle.demands.specs.Machine.{Call, Receive, Tick, Write, Read, paper_next}
use Rattle.demands.specs.After.{accepts, read_into, after, is_charge}
use Rattle.demands.specs.Unmoved.{is_charge_message, others, Output, beside_at, output_at, outputs, Beside}
use Rattle.controller.specs.Frame.{session_moved, queries_moved}
use Rattle.demands.proofs.View.{View, Refused, Asks, Charges, view}
use Rattle.demands.proofs.Comes.{Comes, Left, Took, came}

-- ---- a charge message leaves all but the session: it is refused, or the session takes it
charge_leaves : (c : Controller) (id : ℕ) (l : List ℕ) (a : Answer) → Comes c id l a → is_charge id ≡ true
    → Beside a.controller c
unfolding session_moved
charge_leaves c id l a (Left u e n) h = rw (n h).answer
charge_leaves c id l a (Took m says may e) h = rw e

-- ---- any other frame does the same whatever the session is
record BesideAfter (a b : Answer) : Type 0 where
  beside : Beside a.controller b.controller
  number : a.number ≡ b.number

-- ---- two controllers that agree beside their sessions go on so, and the same comes out
module _ (c d : Controller) (a : Beside c d) where
  same_own : d.settings.own ≡ c.settings.own
  same_own = sym (ap (λ (z : Controller). z.settings.own) a)

  -- by the cases of the view: refused, and a query; a charge message it is not
  by_case : (id : ℕ) (l : List ℕ) → View c.settings.own id l → is_charge id ≡ false
      → BesideAfter (frame_to c id l) (frame_to d id l)
  unfolding queries_moved
  by_case id l (Refused n each) f = rw (each c refl, each d same_own) (record { beside = a; number = refl })
  by_case id l (Asks q h each) f =
      let asked : Controller → Answer = λ z. queries_moved z (queued_of z.queries (parts_of id).source q) in
      rw (each c refl, each d same_own)
      (record { beside = ap (λ (z : Controller). (asked z).controller) a; number = ap (λ (z : Controller). (asked z).number) a })
  by_case id l (Charges k h p each) f = absurd (false≢true (sym f ∙ h))

  same_frame : (id : ℕ) (l : List ℕ) → is_charge id ≡ false → BesideAfter (frame_to c id l) (frame_to d id l)
  same_frame id l = by_case id l (view c.settings.own id l)

  beside_choice : (t : Bool) (p q : Controller) → Beside p q → Beside (cond t p c) (cond t q d)
  beside_choice true p q h = h
  beside_choice false p q h = a

  beside_next : (r : Readings) (v : List ℕ) (t : List ℤ) → Beside (paper_next c r v t) (paper_next d r v t)
  unfolding paper_next
  beside_next r v t = ap (λ (z : Controller). with_session (paper_next z r v t) (paper_next d r v t).session) a

  beside_read : (s : Result Settings Refusal) → Beside (read_into s c) (read_into s d)
  unfolding read_into
  beside_read (Ok x) = refl
  beside_read (Err n) = a

  beside_call : (e : Call) → is_charge_message e ≡ false → Beside (after c e) (after d e)
  unfolding after is_charge_message
  beside_call (Receive id s) h = (same_frame id s h).beside
  beside_call (Tick r v t old) h = beside_choice (accepts r v t old) _ _ (beside_next r v t)
  beside_call (Write old) h = a
  beside_call (Read s) h = beside_read (read_of s)

  same_broadcasts : (r : Readings) (v : List ℕ) (t : List ℤ) → broadcast_frames c r v t ≡ broadcast_frames d r v t
  unfolding broadcast_frames
  same_broadcasts r v t = ap (λ (z : Controller). broadcast_frames z r v t) a

  same_cells : (r : Readings) (v : List ℕ) (t : List ℤ) → cell_frames c r v t ≡ cell_frames d r v t
  unfolding cell_frames
  same_cells r v t = ap (λ (z : Controller). cell_frames z r v t) a

  same_output : (e : Call) → is_charge_message e ≡ false → output_at c e ≡ output_at d e
  unfolding output_at beside_at is_charge_message
  same_output (Receive id s) h = rw (h, (same_frame id s h).number)
  same_output (Tick r v t old) h = rw (same_broadcasts r v t, same_cells r v t)
  same_output (Write old) h = refl
  same_output (Read s) h = refl

-- nothing comes out beside the session by a charge message
no_output : (c : Controller) (e : Call) → is_charge_message e ≡ true → output_at c e ≡ []
unfolding output_at is_charge_message
no_output c (Receive id s) h = rw h
no_output c (Tick r v t old) h = absurd (false≢true h)
no_output c (Write old) h = absurd (false≢true h)
no_output c (Read s) h = absurd (false≢true h)

unmoved_by : (c : Controller) (e : Call) → is_charge_message e ≡ true → Beside (after c e) c
unfolding after is_charge_message
unmoved_by c (Receive id s) h = charge_leaves c id s (frame_to c id s) (came c id s) h
unmoved_by c (Tick r v t old) h = absurd (false≢true h)
unmoved_by c (Write old) h = absurd (false≢true h)
unmoved_by c (Read s) h = absurd (false≢true h)

then : (c d e : Controller) → Beside c d → Beside d e → Beside c e
then c d e a b = ap (λ (z : Controller). with_session z e.session) a ∙ b

abbrev Deaf : List Call → Type 0
Deaf es = (c d : Controller) → Beside c d → outputs c es ≡ outputs d (others es)

one_more : (e : Call) (es : List Call) → Deaf es → (c d : Controller) → Beside c d → (t : Bool) → is_charge_message e ≡ t
    → output_at c e ++ outputs (after c e) es ≡ outputs d (cond t (others es) (e ∷ others es))
unfolding outputs
one_more e es ih c d a true h =
    ap (λ (l : List Output). l ++ outputs (after c e) es) (no_output c e h) ∙ ih (after c e) d (then (after c e) c d (unmoved_by c e h) a)
one_more e es ih c d a false h =
    ap (λ (l : List Output). l ++ outputs (after c e) es) (same_output c d a e h)
    ∙ ap (λ (l : List Output). output_at d e ++ l) (ih (after c e) (after d e) (beside_call c d a e h))

deaf : (es : List Call) → Deaf es
unfolding outputs others
deaf [] c d a = refl
deaf (e ∷ es) c d a = one_more e es (deaf es) c d a (is_charge_message e) refl

-- two controllers that agree beside their sessions, and two lists of calls that differ only in charge messages: the
-- same broadcasts, the same cell answers and the same numbers to queries
pub unmoved : (c d : Controller) (ks ls : List Call) → Beside c d → others ks ≡ others ls → outputs c ks ≡ outputs d ls
unmoved c d ks ls a h = deaf ks c d a ∙ (ap (outputs d) h ∙ sym (deaf ls d d refl))
