-- "Over any sequence of calls from the start" (demand 2), of the paper's machine: every controller in use is a fresh one
-- after the calls since its record was read; and what a call is seen to do is what the demands speak of. Assumes
-- nothing.
use Prim.Native.Nat.{ℕ}
use Rattle.std.proofs.Common.{Result, Ok, Err}
use Rattle.numbers.specs.declared.Refusal.{Refusal}
use Rattle.numbers.specs.Numbers.{answered}
use Rattle.settings.specs.declared.Settings.{Settings}
use mathlib.Core.Path.{◌≡◌, refl, sym, ap, ◌∙◌}
use mathlib.Core.Bool.{Bool, true, false, cond, false≢true}
use mathlib.Core.List.{List, [], ◌∷◌, ◌++◌}
use borrow.Author.Tests.{eqb-true}
use lib.Dec.{eqb}
use lib.IntN.{ℤ}
use lib.ListN.{length}
use Rattle.frames.specs.declared.Frame.{Frame}
use Rattle.readings.specs.declared.Readings.{Readings}
use Rattle.settings.specs.Read.{read_of}
use Rattle.controller.specs.declared.Controller.{Controller}
use Rattle.controller.specs.Start.{fresh_of, start_with, start_of}
use Rattle.controller.specs.Frame.{frame_to}
use Rattle.refusals.specs.Tick.{tick_number}
use Rattle.controller.specs.Tick.{charge_frames, broadcast_frames, cell_frames, tick_frames, accepted}
use Rattle.demands.specs.Machine.{Call, Read, Receive, Tick, Write, Box, NoController, Using, Gave, paper_next, started, box_after, seen_of, box_at, number_seen, frames_seen}
use Rattle.demands.specs.After.{accepts, read_into, after, after_all}
use Rattle.demands.specs.Apart.{sent_at}
use Rattle.demands.specs.Unmoved.{beside_at}
use Rattle.demands.specs.Since.{Since}

-- ---- from a controller on, the machine's boxes are the controllers after the calls
read_into_lem : (a : Result Settings Refusal) (c : Controller) → started (start_with a) (Using c) ≡ Using (read_into a c)
unfolding started start_with read_into
read_into_lem (Ok x) c = refl
read_into_lem (Err n) c = refl

-- one call
pub after_is : (c : Controller) (k : Call) → box_after paper_next (Using c) k ≡ Using (after c k)
unfolding box_after after accepted accepts start_of
after_is c (Receive id s) = refl
after_is c (Tick r v t old) = refl
after_is c (Write old) = refl
after_is c (Read s) = read_into_lem (read_of s) c

-- and any list of them
pub after_all_is : (c : Controller) (ks : List Call) → box_at paper_next (Using c) ks ≡ Using (after_all c ks)
unfolding box_at after_all
after_all_is c [] = refl
after_all_is c (k ∷ ks) = ap (λ (b : Box). box_at paper_next b ks) (after_is c k) ∙ after_all_is (after c k) ks

-- ---- every controller in use is a fresh one after the calls since a record was accepted
pub using_same : (c d : Controller) → Using c ≡ Using d → c ≡ d
using_same c d e = ap inside e
  where
    inside : Box → Controller
    inside NoController = c
    inside (Using z) = z

pub none_in_use : (c : Controller) → NoController ≡ Using c → ⊥
none_in_use c e = false≢true (ap empty e)
  where
    empty : Box → Bool
    empty NoController = false
    empty (Using z) = true

module _ (c : Controller) where
  one_earlier : (k : Call) (ks : List Call) → Since ks c → Since (k ∷ ks) c
  one_earlier k ks h =
      record {
        before = k ∷ h.before;
        bytes = h.bytes;
        later = h.later;
        split = ap (λ (l : List Call). k ∷ l) h.split;
        settings = h.settings;
        taken = h.taken;
        run = h.run;
      }

  from_record : (s : List ℕ) (ks : List Call) (a : Result Settings Refusal) → read_of s ≡ a
      → box_at paper_next (started (start_with a) NoController) ks ≡ Using c
      → (box_at paper_next NoController ks ≡ Using c → Since ks c) → Since (Read s ∷ ks) c
  unfolding started start_with
  from_record s ks (Ok x) e h ih =
      record {
        before = [];
        bytes = s;
        later = ks;
        split = refl;
        settings = x;
        taken = e;
        run = using_same _ c (sym (after_all_is (fresh_of x) ks) ∙ h);
      }
  from_record s ks (Err n) e h ih = one_earlier (Read s) ks (ih h)

  -- after any calls
  pub since : (ks : List Call) → box_at paper_next NoController ks ≡ Using c → Since ks c
  unfolding box_at box_after start_of
  since [] h = absurd (none_in_use c h)
  since (Read s ∷ ks) h = from_record s ks (read_of s) refl h (since ks)
  since (Receive id s ∷ ks) h = one_earlier (Receive id s) ks (since ks h)
  since (Tick r v t old ∷ ks) h = one_earlier (Tick r v t old) ks (since ks h)
  since (Write old ∷ ks) h = one_earlier (Write old) ks (since ks h)

-- what a tick is seen to answer and to send: charge frames, then broadcasts and the cell frame
both_ways : (t : Bool) (n k m j : ℕ) (l o : List ℕ) (x y : List Frame)
    → frames_seen (cond t (Gave n k (x ++ y) l) (Gave m j [] o)) ≡ cond t x [] ++ cond t y []
unfolding frames_seen
both_ways true n k m j l o x y = refl
both_ways false n k m j l o x y = refl

number_both : (t : Bool) (n k j : ℕ) (l o : List ℕ) (x : List Frame) → eqb n 0 ≡ t
    → number_seen (cond t (Gave 0 k x l) (Gave n j [] o)) ≡ n
unfolding number_seen
number_both true n k j l o x h = sym (eqb-true n 0 h)
number_both false n k j l o x h = refl

pub seen_tick : (c : Controller) (r : Readings) (v : List ℕ) (t : List ℤ) (old : List ℕ)
    → (number_seen (seen_of paper_next (Using c) (Tick r v t old)) ≡ tick_number r v t (length old))
    × (frames_seen (seen_of paper_next (Using c) (Tick r v t old)) ≡ sent_at c r v t old ++ beside_at c r v t old)
unfolding seen_of sent_at beside_at accepts accepted tick_frames
seen_tick c r v t old = (
  number_both (accepts r v t old) (tick_number r v t (length old)) _ _ _ _ _ refl,
  both_ways (accepts r v t old) _ _ _ _ _ _ (charge_frames c r v t) (broadcast_frames c r v t ++ cell_frames c r v t),
)

-- what a frame is seen to be answered, and that it sends nothing
pub seen_frame : (c : Controller) (id : ℕ) (s : List ℕ)
    → (number_seen (seen_of paper_next (Using c) (Receive id s)) ≡ (frame_to c id s).number)
    × (frames_seen (seen_of paper_next (Using c) (Receive id s)) ≡ [])
unfolding seen_of number_seen frames_seen
seen_frame c id s = (refl, refl)
