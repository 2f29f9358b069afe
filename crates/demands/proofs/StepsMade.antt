-- Calls that were made, each keeping its entry point's promise, beside the paper's machine on the same calls: step for
-- step they tell the same, but that the controllers before and after each call are those of the code. So what is shown
-- of the machine's steps, and asks of a controller nothing but what the code's has too, holds of the calls made.
-- Assumes nothing.
use Prim.Native.Nat.{◌%◌}
use Rattle.std.proofs.Common.{Result, Ok, Err}
use Rattle.numbers.specs.declared.Refusal.{Refusal}
use native.Mathlib.Omega.{arith}
use mathlib.Core.Path.{◌≡◌, refl, sym, ap, subst, ◌∙◌}
use mathlib.Core.List.{List, [], ◌∷◌, ◌++◌, map}
use Rattle.session_paper_counts.specs.Folds.{folds}
use Rattle.session_paper_counts.proofs.Again.{folds_again}
use Rattle.broadcasts.specs.Beat.{two_sendings}
use Rattle.controller.specs.declared.Controller.{Controller}
use Rattle.demands.specs.Machine.{Box, NoController, Using, paper_next, started, box_after, seen_of, box_at}
use Rattle.demands.specs.InStep.{code_of, code_box}
use Rattle.demands.specs.Calls.{CallMade, DidRead, DidReceive, DidTick, DidWrite, call_in, KeepsPromise, box_then, in_hand, AllKeepPromises, calls_in, box_last}
use Rattle.demands.specs.Steps.{Step, steps_of, steps_made}
use Rattle.demands.specs.After.{after}
use Rattle.demands.specs.Since.{AfterCalls, made_or, use_then, use_last}
use Rattle.demands.proofs.Demand2.{after_in_step, seen_in_step, box_from}
use Rattle.demands.proofs.Calls.{one_seen, one_box, all_boxes}
use Rattle.demands.proofs.Since.{after_is, using_same, none_in_use}
use Rattle.demands.proofs.FrameKinds.{Bytes}
use Rattle.demands.proofs.Addresses.{addresses}

-- ---- a step of the machine, with the code's controllers
abbrev pub code_step : Step → Step
code_step x = record { before = code_box x.before; call = x.call; seen = x.seen; after = code_box x.after }

-- one call
pub then_code : (b : Box) (m : CallMade) → KeepsPromise (code_box b) m
    → box_then (code_box b) m ≡ code_box (box_after paper_next b (call_in m))
then_code b m h = sym (one_box (code_box b) m h) ∙ sym (after_in_step b (call_in m))

pub in_hand_seen : (b : Box) (m : CallMade) → KeepsPromise (code_box b) m → in_hand m ≡ seen_of paper_next b (call_in m)
in_hand_seen b m h = sym (one_seen (code_box b) m h) ∙ sym (seen_in_step b (call_in m))

-- any list of them, from every box
pub steps_made_lem : (b : Box) (ms : List CallMade) → AllKeepPromises (code_box b) ms
    → steps_made (code_box b) ms ≡ map code_step (steps_of b (calls_in ms))
unfolding AllKeepPromises calls_in steps_made steps_of
steps_made_lem b [] h = refl
steps_made_lem b (m ∷ ms) h =
    rw (in_hand_seen b m h.0, then_code b m h.0)
    (ap (λ (l : List Step). code_step (record { before = b; call = call_in m; seen = seen_of paper_next b (call_in m); after = box_after paper_next b (call_in m) }) ∷ l)
    (steps_made_lem (box_after paper_next b (call_in m)) ms
    (subst (λ (z : Box). AllKeepPromises z ms) (then_code b m h.0) h.1)))

-- ---- a controller of the code is its own fold
pub code_again : (c : Controller) → code_of (code_of c) ≡ code_of c
unfolding code_of
code_again c =
    let n : c.beat.tick % two_sendings % two_sendings ≡ c.beat.tick % two_sendings = omega arith in rw (folds_again c.session, n)

-- ---- the machine's controller behind the one in use
pub record Behind (ms : List CallMade) (c : Controller) : Type 0 where
  pub paper : Controller
  pub run : box_at paper_next NoController (calls_in ms) ≡ Using paper
  pub code : code_of paper ≡ c

behind_box : (ms : List CallMade) (c : Controller) (b : Box) → box_at paper_next NoController (calls_in ms) ≡ b
    → code_box b ≡ Using c → Behind ms c
unfolding code_box
behind_box ms c NoController e h = absurd (none_in_use c h)
behind_box ms c (Using p) e h = record { paper = p; run = e; code = using_same (code_of p) c h }

pub behind : (ms : List CallMade) (c : Controller) → AfterCalls ms c → Behind ms c
unfolding code_box
behind ms c a =
    behind_box ms c (box_at paper_next NoController (calls_in ms)) refl
    (box_from NoController (calls_in ms) ∙ (all_boxes NoController ms a.kept ∙ a.in_use))

pub its_own : (ms : List CallMade) (c : Controller) → AfterCalls ms c → code_of c ≡ c
its_own ms c a = let b : Behind ms c = behind ms c a in ap code_of (sym b.code) ∙ (code_again b.paper ∙ b.code)

-- from the start
pub steps_from_start : (ms : List CallMade) → AllKeepPromises NoController ms
    → steps_made NoController ms ≡ map code_step (steps_of NoController (calls_in ms))
unfolding code_box
steps_from_start ms h = steps_made_lem NoController ms h

-- from a controller in use
pub own_box : (c : Controller) → code_of c ≡ c → code_box (Using c) ≡ Using c
unfolding code_box
own_box c e = ap Using e

pub steps_from_use : (c : Controller) → code_of c ≡ c → (ns : List CallMade) → AllKeepPromises (Using c) ns
    → steps_made (Using c) ns ≡ map code_step (steps_of (Using c) (calls_in ns))
steps_from_use c e ns h =
    subst (λ (z : Box). steps_made z ns ≡ map code_step (steps_of (Using c) (calls_in ns))) (own_box c e)
    (steps_made_lem (Using c) ns (subst (λ (z : Box). AllKeepPromises z ns) (sym (own_box c e)) h))

-- ---- the controller after further calls
then_started : (a : Result Controller Refusal) (c : Controller) → started a (Using c) ≡ Using (made_or a c)
unfolding started made_or
then_started (Ok d) c = refl
then_started (Err n) c = refl

pub then_use : (c : Controller) (m : CallMade) → box_then (Using c) m ≡ Using (use_then c m)
unfolding box_then use_then
then_use c (DidRead s a) = then_started a c
then_use c (DidReceive id s a) = refl
then_use c (DidTick r v t old new k) = refl
then_use c (DidWrite old new w) = refl

pub last_use : (c : Controller) (ms : List CallMade) → box_last (Using c) ms ≡ Using (use_last c ms)
unfolding box_last use_last
last_use c [] = refl
last_use c (m ∷ ms) = ap (λ (z : Box). box_last z ms) (then_use c m) ∙ last_use (use_then c m) ms

-- one call more from a controller in use: the code's controller for the machine's
pub use_is : (c : Controller) → code_of c ≡ c → (m : CallMade) → KeepsPromise (Using c) m
    → use_then c m ≡ code_of (after c (call_in m))
unfolding code_box
use_is c e m h =
    using_same _ _
    (sym (then_use c m)
    ∙ (ap (λ (z : Box). box_then z m) (sym (own_box c e))
    ∙ (then_code (Using c) m (subst (λ (z : Box). KeepsPromise z m) (sym (own_box c e)) h)
    ∙ ap code_box (after_is c (call_in m)))))

-- the calls with one more are calls from the start again
kept_more : (b : Box) (ms : List CallMade) (m : CallMade) → AllKeepPromises b ms → KeepsPromise (box_last b ms) m
    → AllKeepPromises b (ms ++ (m ∷ []))
unfolding AllKeepPromises box_last
kept_more b [] m h k = (k, tt)
kept_more b (n ∷ ms) m h k = (h.0, kept_more (box_then b n) ms m h.1 k)

last_more : (b : Box) (ms : List CallMade) (m : CallMade) → box_last b (ms ++ (m ∷ [])) ≡ box_then (box_last b ms) m
unfolding box_last
last_more b [] m = refl
last_more b (n ∷ ms) m = last_more (box_then b n) ms m

pub one_call_more : (ms : List CallMade) (c : Controller) (m : CallMade) → AfterCalls ms c → KeepsPromise (Using c) m
    → AfterCalls (ms ++ (m ∷ [])) (use_then c m)
one_call_more ms c m a k =
    record {
      kept = kept_more NoController ms m a.kept (subst (λ (z : Box). KeepsPromise z m) (sym a.in_use) k);
      in_use = last_more NoController ms m ∙ (ap (λ (z : Box). box_then z m) a.in_use ∙ then_use c m);
    }

-- every address of a controller in use is a byte
code_bytes : (p : Controller) → Bytes p → Bytes (code_of p)
unfolding code_of folds
code_bytes p b = record { own = b.own; station = b.station; sources = b.sources }

pub use_bytes : (ms : List CallMade) (c : Controller) → AfterCalls ms c → Bytes c
use_bytes ms c a =
    let b : Behind ms c = behind ms c a in subst Bytes b.code (code_bytes b.paper (addresses (calls_in ms) b.paper b.run))
