-- Answers that keep the promises: whatever is called of a controller, there is an answer as its entry point promises
-- it. So no statement over calls that were made is empty. Assumes nothing.
use Prim.Native.Nat.{ℕ, ◌*◌}
use Rattle.numbers.specs.declared.Refusal.TheVariants.{Layout, SettingOutOfRange}
use Rattle.std.proofs.Common.{Ok, Err}
use Rattle.numbers.specs.Numbers.{answered}
use mathlib.Core.Path.{◌≡◌, refl, sym, ap, subst}
use mathlib.Core.Bool.{Bool, true, false, cond}
use mathlib.Core.List.{List, [], ◌∷◌, ◌++◌}
use lib.IntN.{ℤ}
use lib.ListN.{length, drop}
use Rattle.frames.specs.Frame.{record_size, records_of}
use Rattle.readings.specs.declared.Readings.{Readings}
use Rattle.settings.specs.declared.Settings.{Settings}
use Rattle.settings.specs.Range.{in_range}
use Rattle.settings.specs.Read.{layout_of, settings_of, record_number, read_of}
use Rattle.settings.specs.Write.{written_of, buffer_after}
use Rattle.refusals.specs.Tick.{tick_number}
use Rattle.controller.specs.declared.Controller.{Controller}
use Rattle.controller.specs.Tick.{Ticked}
use Rattle.controller.specs.Start.{fresh_of, start_with, start_of}
use Rattle.controller.specs.Frame.{frame_to}
use Rattle.controller.specs.Tick.{tick_frames, tick_next, accepted}
use Rattle.demands.specs.Machine.{Call, Read, Receive, Tick, Write, Box, NoController, Using, started}
use Rattle.demands.specs.Calls.{CallMade, DidRead, DidReceive, DidTick, DidWrite, call_in, KeepsPromise, box_then, AllKeepPromises, calls_in, box_last}
use Rattle.demands.specs.Since.{AfterCalls, use_then}
use Rattle.demands.specs.Statements.{CanBeMade, AnyCallsCanBeMade}
use Rattle.demands.proofs.StepsMade.{then_use}

-- a record's number is that of its answer
start_number_lem : (s : List ℕ) → answered (start_of s) ≡ record_number s
unfolding start_of start_with read_of record_number
start_number_lem s = either (layout_of s) (in_range (settings_of s))
  where
    either : (l r : Bool)
        → answered (start_with (cond l (cond r (Ok (settings_of s)) (Err SettingOutOfRange)) (Err Layout))) ≡ cond l (cond r 0 2) 1
    either true true = refl
    either true false = refl
    either false r = refl

module _ (c : Controller) where
  ticked : Readings → List ℕ → List ℤ → List ℕ → Ticked
  ticked r v t old =
      record {
        number = tick_number r v t (length old);
        bytes = cond (accepted c r v t (length old)) (record_size * length (tick_frames c r v t)) 0;
        controller = cond (accepted c r v t (length old)) (tick_next c r v t) c;
      }

  later : Readings → List ℕ → List ℤ → List ℕ → List ℕ
  later r v t old =
      cond (accepted c r v t (length old))
      (records_of (tick_frames c r v t) ++ drop (record_size * length (tick_frames c r v t)) old) old

  pub promised : Call → CallMade
  promised (Read s) = DidRead s (start_of s)
  promised (Receive id s) = DidReceive id s (frame_to c id s)
  promised (Tick r v t old) = DidTick r v t old (later r v t old) (ticked r v t old)
  promised (Write old) = DidWrite old (buffer_after c.settings old) (written_of c.settings old)

  pub promise_kept : (k : Call) → KeepsPromise (Using c) (promised k)
  unfolding promised KeepsPromise later ticked
  promise_kept (Read s) = (start_number_lem s, refl)
  promise_kept (Receive id s) = refl
  promise_kept (Tick r v t old) = record { number = refl; bytes = refl; next = refl; later = refl }
  promise_kept (Write old) = record { answer = refl; later = refl }

  pub promised_is : (k : Call) → call_in (promised k) ≡ k
  unfolding promised call_in
  promised_is (Read s) = refl
  promised_is (Receive id s) = refl
  promised_is (Tick r v t old) = refl
  promised_is (Write old) = refl

-- any list of calls
pub all_promised : Controller → List Call → List CallMade
all_promised c [] = []
all_promised c (k ∷ ks) = promised c k ∷ all_promised (use_then c (promised c k)) ks

pub promises_kept : (ks : List Call) (c : Controller) → AllKeepPromises (Using c) (all_promised c ks)
unfolding AllKeepPromises all_promised
promises_kept [] c = tt
promises_kept (k ∷ ks) c = (
  promise_kept c k,
  subst (λ (z : Box). AllKeepPromises z (all_promised (use_then c (promised c k)) ks)) (sym (then_use c (promised c k)))
      (promises_kept ks (use_then c (promised c k))),
)

pub promised_calls : (ks : List Call) (c : Controller) → calls_in (all_promised c ks) ≡ ks
unfolding calls_in all_promised
promised_calls [] c = refl
promised_calls (k ∷ ks) c = rw (promised_is c k, promised_calls ks (use_then c (promised c k)))

-- ---- from the start, with a record that is accepted
module _ (bytes : List ℕ) (x : Settings) (e : read_of bytes ≡ Ok x) where
  start_is : start_of bytes ≡ start_with (Ok x)
  unfolding start_of
  start_is = ap start_with e

  unfoldable pub read_first : CallMade
  read_first = DidRead bytes (start_of bytes)

  in_use_lem : (b : Box) → started (start_of bytes) b ≡ Using (fresh_of x)
  unfolding started start_with
  in_use_lem b = rw start_is

  pub read_kept : KeepsPromise NoController read_first
  unfolding KeepsPromise read_first
  read_kept = (start_number_lem bytes, refl)

  pub first_box : box_then NoController read_first ≡ Using (fresh_of x)
  unfolding box_then read_first
  first_box = in_use_lem NoController

  -- the record alone leaves the fresh controller in use
  pub after_record : AfterCalls (read_first ∷ []) (fresh_of x)
  unfolding AllKeepPromises box_last
  after_record = record { kept = (read_kept, tt); in_use = first_box }

  pub from_record : (ks : List Call) → CanBeMade bytes ks
  unfolding AllKeepPromises calls_in call_in read_first
  from_record ks =
      record {
        calls = read_first ∷ all_promised (fresh_of x) ks;
        kept = (read_kept, subst (λ (z : Box). AllKeepPromises z (all_promised (fresh_of x) ks)) (sym first_box) (promises_kept ks (fresh_of x)));
        same = ap (λ (l : List Call). Read bytes ∷ l) (promised_calls ks (fresh_of x));
      }

pub any_calls_can_be_made : AnyCallsCanBeMade
any_calls_can_be_made bytes x ks e = from_record bytes x e ks
