-- Demand 3 of the calls that were made: what they tell of a session is the machine's life of it, and what they tell
-- beside it is the machine's output; so `undisturbed` and `unmoved` hold of the calls. Assumes nothing.
use Prim.Native.Nat.{ℕ, ◌+◌}
use mathlib.Core.Path.{◌≡◌, refl, sym, ap, ◌∙◌}
use mathlib.Core.Bool.{Bool, true, false, cond, ◌||◌}
use mathlib.Core.List.{List, [], ◌∷◌, ◌++◌, map}
use lib.IntN.{ℤ}
use lib.ListN.{length, length-append}
use borrow.Author.Tests.{eqb-true}
use Rattle.frames.specs.declared.Frame.{Frame}
use Rattle.readings.specs.declared.Readings.{Readings}
use Rattle.settings.specs.Read.{read_of}
use Rattle.refusals.specs.Tick.{tick_number}
use Rattle.refusals.proofs.Fine.{fine}
use Rattle.session.specs.declared.Session.{Session}
use Rattle.session_paper_counts.specs.Folds.{folds}
use Rattle.session_paper_counts.proofs.InStep.{start_in_step}
use Rattle.cells.specs.Tables.{tables_fit}
use Rattle.controller.specs.declared.Controller.{Controller}
use Rattle.controller.specs.Tick.{tick_frames, charge_frames, broadcast_frames, cell_frames}
use Rattle.demands.specs.Machine.{Call, Read, Receive, Tick, Write, Box, NoController, Using, Seen, paper_next, box_after, seen_of, number_seen, frames_seen}
use Rattle.demands.specs.InStep.{code_of, code_box}
use Rattle.demands.specs.Calls.{CallMade, AllKeepPromises, calls_in}
use Rattle.demands.specs.Steps.{Step, steps_of, steps_made}
use Rattle.demands.specs.FrameKinds.{is_charge_frame, only}
use Rattle.demands.specs.After.{accepts, is_read, after, no_session, ends_within}
use Rattle.demands.specs.Apart.{from_station, reaches, emptied, reaching, Moment, AfterFrame, AfterTick, AfterRecord, sent_at, moments, life}
use Rattle.demands.specs.Unmoved.{Output, others, beside_at, output_at, outputs}
use Rattle.demands.specs.Since.{AfterCalls}
use Rattle.demands.specs.Told.{is_over, session_in, moment_of, moment_at, life_in, Never, With, further, place_of_end, ends_in, is_beside, output_of, outputs_in}
use Rattle.demands.proofs.Steps.{idle_folds}
use Rattle.demands.proofs.Since.{after_is, seen_tick, seen_frame}
use Rattle.demands.proofs.StepsMade.{code_step, its_own, steps_from_use, use_bytes}
use Rattle.demands.proofs.FrameKinds.{Bytes, charge_frames_told, beside_told}
use Rattle.demands.proofs.Addresses.{bytes_after_lem}
use Rattle.demands.proofs.Emptied.{reaching_emptied, others_emptied, life_emptied, ends_emptied, outputs_emptied}
use Rattle.demands.proofs.Apart.{kept_open, undisturbed}
use Rattle.demands.proofs.Together.{at_once, ends_together}
use Rattle.demands.proofs.Unmoved.{unmoved}

-- ---- a step's controllers folded tell the same, with the session's record folded
unfoldable fold_moment : Moment → Moment
fold_moment (AfterFrame n s) = AfterFrame n (folds s)
fold_moment (AfterTick n fs s) = AfterTick n fs (folds s)
fold_moment AfterRecord = AfterRecord

pub over_folds : (b : Box) → is_over (code_box b) ≡ is_over b
unfolding is_over code_box no_session code_of folds
over_folds NoController = refl
over_folds (Using c) = idle_folds c.session.state

session_folds : (b : Box) → session_in (code_box b) ≡ folds (session_in b)
unfolding session_in code_box code_of
session_folds NoController = sym start_in_step
session_folds (Using c) = refl

if_map : (b : Bool) (m : Moment) → cond b (fold_moment m ∷ []) [] ≡ map fold_moment (cond b (m ∷ []) [])
if_map true m = refl
if_map false m = refl

moment_folds : (st : ℕ) (k : Call) (seen : Seen) (s : Session)
    → moment_of st k seen (folds s) ≡ map fold_moment (moment_of st k seen s)
unfolding moment_of fold_moment
moment_folds st (Receive id l) seen s = if_map (from_station st id) (AfterFrame (number_seen seen) s)
moment_folds st (Tick r v t old) seen s = refl
moment_folds st (Write old) seen s = refl
moment_folds st (Read l) seen s = if_map (is_read (read_of l)) AfterRecord

map_append : (f : Moment → Moment) (l k : List Moment) → map f (l ++ k) ≡ map f l ++ map f k
map_append f [] k = refl
map_append f (m ∷ l) k = ap (λ (z : List Moment). f m ∷ z) (map_append f l k)

map_if : (f : Moment → Moment) (b : Bool) (l : List Moment) → map f (cond b [] l) ≡ cond b [] (map f l)
map_if f true l = refl
map_if f false l = refl

life_folds : (st : ℕ) (xs : List Step) → life_in st (map code_step xs) ≡ map fold_moment (life_in st xs)
unfolding life_in
life_folds st [] = refl
life_folds st (x ∷ xs) =
    rw (
      over_folds x.after,
      session_folds x.after,
      moment_folds st x.call x.seen (session_in x.after),
      life_folds st xs,
      map_append fold_moment (moment_at st x) (cond (is_over x.after) [] (life_in st xs)),
      map_if fold_moment (is_over x.after) (life_in st xs),
    )

place_folds : (st : ℕ) (xs : List Step) → place_of_end st (map code_step xs) ≡ place_of_end st xs
unfolding place_of_end
place_folds st [] = refl
place_folds st (x ∷ xs) = rw (over_folds x.after, place_folds st xs)

outputs_fold : (xs : List Step) → outputs_in (map code_step xs) ≡ outputs_in xs
unfolding outputs_in
outputs_fold [] = refl
outputs_fold (x ∷ xs) = rw (outputs_fold xs)

-- ---- the machine's steps tell the machine's life of a session
fits : (r : Readings) (v : List ℕ) (t : List ℤ) (old : List ℕ) → accepts r v t old ≡ true → tables_fit v t ≡ true
unfolding accepts
fits r v t old h = (fine r v t (length old) (eqb-true (tick_number r v t (length old)) 0 h)).fits

module _ (c : Controller) (b : Bytes c) (r : Readings) (v : List ℕ) (t : List ℤ) (old : List ℕ) where
  frames_in_lem : (kind : Frame → Bool) (fs : List Frame) → (accepts r v t old ≡ true → only kind (tick_frames c r v t) ≡ fs)
      → (a : Bool) → accepts r v t old ≡ a
      → only kind (cond a (charge_frames c r v t) [] ++ cond a (broadcast_frames c r v t ++ cell_frames c r v t) []) ≡ cond a fs []
  unfolding tick_frames only
  frames_in_lem kind fs h true e = h e
  frames_in_lem kind fs h false e = refl

  charge_in_lem : only is_charge_frame (frames_seen (seen_of paper_next (Using c) (Tick r v t old))) ≡ sent_at c r v t old
  unfolding sent_at beside_at
  charge_in_lem =
      ap (only is_charge_frame) (seen_tick c r v t old).1
      ∙ frames_in_lem is_charge_frame (charge_frames c r v t) (λ h. charge_frames_told c b r v t (fits r v t old h)) (accepts r v t old) refl

  beside_in : only is_beside (frames_seen (seen_of paper_next (Using c) (Tick r v t old))) ≡ beside_at c r v t old
  unfolding sent_at beside_at
  beside_in =
      ap (only is_beside) (seen_tick c r v t old).1
      ∙ frames_in_lem is_beside (broadcast_frames c r v t ++ cell_frames c r v t) (λ h. beside_told c b r v t (fits r v t old h)) (accepts r v t old) refl

session_then : (c : Controller) (k : Call) → session_in (box_after paper_next (Using c) k) ≡ (after c k).session
unfolding session_in
session_then c k = rw (after_is c k)

over_then : (c : Controller) (k : Call) → is_over (box_after paper_next (Using c) k) ≡ no_session (after c k)
unfolding is_over
over_then c k = rw (after_is c k)

one_moment : (c : Controller) → Bytes c → (k : Call)
    → moment_of c.session.station k (seen_of paper_next (Using c) k) (after c k).session ≡ moments c k
unfolding moment_of moments after
one_moment c b (Receive id s) = rw (seen_frame c id s).0
one_moment c b (Tick r v t old) = rw ((seen_tick c r v t old).0, charge_in_lem c b r v t old)
one_moment c b (Write old) = refl
one_moment c b (Read s) = refl

its_moment : (st : ℕ) (c : Controller) → Bytes c → c.session.station ≡ st → (k : Call)
    → moment_of st k (seen_of paper_next (Using c) k) (after c k).session ≡ moments c k
its_moment st c b e k =
    ap (λ (z : ℕ). moment_of z k (seen_of paper_next (Using c) k) (after c k).session) (sym e) ∙ one_moment c b k

life_told : (st : ℕ) (ks : List Call) (c : Controller) → Bytes c → no_session c ≡ false → c.session.station ≡ st
    → life_in st (steps_of (Using c) ks) ≡ life c ks
unfolding life_in steps_of life
life_told st [] c b o e = refl
life_told st (k ∷ ks) c b o e =
    rw (session_then c k, over_then c k, after_is c k, its_moment st c b e k)
    (ap (λ (l : List Moment). moments c k ++ l)
    (rest (no_session (after c k)) refl (λ p. life_told st ks (after c k) (bytes_after_lem c k b) p (kept_open c k o p ∙ e))))
  where
    rest : (t : Bool) → no_session (after c k) ≡ t
        → (no_session (after c k) ≡ false → life_in st (steps_of (Using (after c k)) ks) ≡ life (after c k) ks)
        → cond t [] (life_in st (steps_of (Using (after c k)) ks)) ≡ cond t [] (life (after c k) ks)
    rest true h f = refl
    rest false h f = f h

-- ---- the place of the end is how much is told up to it, if it ends
one_or_none : (b : Bool) (m : Moment) → length (cond b (m ∷ []) []) ≡ cond b 1 0
one_or_none true m = refl
one_or_none false m = refl

heard_moments : (st : ℕ) (k : Call) (seen : Seen) (s : Session)
    → length (moment_of st k seen s) ≡ cond (reaches st k) 1 0
unfolding moment_of reaches
heard_moments st (Receive id l) seen s = one_or_none (from_station st id) (AfterFrame (number_seen seen) s)
heard_moments st (Tick r v t old) seen s = refl
heard_moments st (Write old) seen s = refl
heard_moments st (Read l) seen s = one_or_none (is_read (read_of l)) AfterRecord

place_told : (st : ℕ) (xs : List Step) → place_of_end st xs ≡ cond (ends_in xs) (With (length (life_in st xs))) Never
unfolding place_of_end ends_in life_in further
place_told st [] = refl
place_told st (x ∷ xs) =
    rw (← heard_moments st x.call x.seen (session_in x.after), length-append (moment_at st x) (cond (is_over x.after) [] (life_in st xs)), place_told st xs)
    (either (is_over x.after) (ends_in xs))
  where
    n : ℕ
    n = length (moment_at st x)

    either : (o e : Bool)
        → further n (cond o (With 0) (cond e (With (length (life_in st xs))) Never))
        ≡ cond (o || e) (With (n + length (cond o [] (life_in st xs)))) Never
    either true e = refl
    either false true = refl
    either false false = refl

pub ends_told : (ks : List Call) (c : Controller) → no_session c ≡ false
    → ends_in (steps_of (Using c) ks) ≡ ends_within c ks
unfolding ends_in steps_of ends_within
ends_told [] c o = sym o
ends_told (k ∷ ks) c o = rw (over_then c k, after_is c k, o) (either (no_session (after c k)) refl (ends_told ks (after c k)))
  where
    either : (t : Bool) → no_session (after c k) ≡ t
        → (no_session (after c k) ≡ false → ends_in (steps_of (Using (after c k)) ks) ≡ ends_within (after c k) ks)
        → (t || ends_in (steps_of (Using (after c k)) ks)) ≡ ends_within (after c k) ks
    either true h f = sym (at_once (after c k) ks h)
    either false h f = f h

-- ---- the machine's steps tell the machine's output beside the session
one_output : (c : Controller) → Bytes c → (k : Call) → output_of k (seen_of paper_next (Using c) k) ≡ output_at c k
unfolding output_of output_at
one_output c b (Receive id s) = rw (seen_frame c id s).0
one_output c b (Tick r v t old) = rw ((seen_tick c r v t old).0, beside_in c b r v t old)
one_output c b (Write old) = refl
one_output c b (Read s) = refl

outputs_told : (ks : List Call) (c : Controller) → Bytes c → outputs_in (steps_of (Using c) ks) ≡ outputs c ks
unfolding outputs_in steps_of outputs
outputs_told [] c b = refl
outputs_told (k ∷ ks) c b =
    rw (after_is c k, one_output c b k)
    (ap (λ (l : List Output). output_at c k ++ l) (outputs_told ks (after c k) (bytes_after_lem c k b)))

-- ---- THE DEMAND, of the calls: both runs begin with the same calls from the start
module _ (ps : List CallMade) (c : Controller) (a : AfterCalls ps c) where
  abbrev st : ℕ
  st = c.session.station

  life_made : no_session c ≡ false → (ms : List CallMade) → AllKeepPromises (Using c) ms
      → life_in st (steps_made (Using c) ms) ≡ map fold_moment (life c (calls_in ms))
  life_made o ms h =
      ap (life_in st) (steps_from_use c (its_own ps c a) ms h)
      ∙ (life_folds st (steps_of (Using c) (calls_in ms)) ∙ ap (map fold_moment) (life_told st (calls_in ms) c (use_bytes ps c a) o refl))

  place_made : no_session c ≡ false → (ms : List CallMade) → AllKeepPromises (Using c) ms
      → place_of_end st (steps_made (Using c) ms) ≡ cond (ends_within c (calls_in ms)) (With (length (life c (calls_in ms)))) Never
  place_made o ms h =
      ap (place_of_end st) (steps_from_use c (its_own ps c a) ms h)
      ∙ (place_folds st (steps_of (Using c) (calls_in ms))
      ∙ (place_told st (steps_of (Using c) (calls_in ms))
      ∙ rw (ends_told (calls_in ms) c o, life_told st (calls_in ms) c (use_bytes ps c a) o refl)))

  module _ (ms ns : List CallMade) (hm : AllKeepPromises (Using c) ms) (hn : AllKeepPromises (Using c) ns) where
    -- the same is heard, whatever the lent buffers hold
    abbrev SameHeard : Type 0
    SameHeard = map emptied (reaching st (calls_in ms)) ≡ map emptied (reaching st (calls_in ns))

    heard_alike : SameHeard → reaching st (map emptied (calls_in ms)) ≡ reaching st (map emptied (calls_in ns))
    heard_alike h = reaching_emptied st (calls_in ms) ∙ (h ∙ sym (reaching_emptied st (calls_in ns)))

    life_alike : no_session c ≡ false → SameHeard → life c (calls_in ms) ≡ life c (calls_in ns)
    life_alike o h =
        sym (life_emptied (calls_in ms) c)
        ∙ (undisturbed c c (map emptied (calls_in ms)) (map emptied (calls_in ns)) o (record { settings = refl; session = refl }) (heard_alike h)
        ∙ life_emptied (calls_in ns) c)

    ends_alike : no_session c ≡ false → SameHeard → ends_within c (calls_in ms) ≡ ends_within c (calls_in ns)
    ends_alike o h =
        sym (ends_emptied (calls_in ms) c)
        ∙ (ends_together c c (map emptied (calls_in ms)) (map emptied (calls_in ns)) o (record { settings = refl; session = refl }) (heard_alike h)
        ∙ ends_emptied (calls_in ns) c)

    pub undisturbed_life : no_session c ≡ false → SameHeard
        → life_in st (steps_made (Using c) ms) ≡ life_in st (steps_made (Using c) ns)
    undisturbed_life o h = life_made o ms hm ∙ (ap (map fold_moment) (life_alike o h) ∙ sym (life_made o ns hn))

    pub undisturbed_end : no_session c ≡ false → SameHeard
        → place_of_end st (steps_made (Using c) ms) ≡ place_of_end st (steps_made (Using c) ns)
    undisturbed_end o h = place_made o ms hm ∙ (rw (ends_alike o h, life_alike o h) refl ∙ sym (place_made o ns hn))

    outputs_made : (ls : List CallMade) → AllKeepPromises (Using c) ls
        → outputs_in (steps_made (Using c) ls) ≡ outputs c (calls_in ls)
    outputs_made ls k =
        ap outputs_in (steps_from_use c (its_own ps c a) ls k)
        ∙ (outputs_fold (steps_of (Using c) (calls_in ls)) ∙ outputs_told (calls_in ls) c (use_bytes ps c a))

    pub unmoved_outputs : map emptied (others (calls_in ms)) ≡ map emptied (others (calls_in ns))
        → outputs_in (steps_made (Using c) ms) ≡ outputs_in (steps_made (Using c) ns)
    unmoved_outputs h =
        let e = others_emptied (calls_in ms) ∙ (h ∙ sym (others_emptied (calls_in ns))) in
        outputs_made ms hm
        ∙ (sym (outputs_emptied (calls_in ms) c)
        ∙ (unmoved c c (map emptied (calls_in ms)) (map emptied (calls_in ns)) refl e ∙ (outputs_emptied (calls_in ns) c ∙ sym (outputs_made ns hn))))
