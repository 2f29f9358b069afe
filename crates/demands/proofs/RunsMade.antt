-- Two runs as calls that were made, from the start: the settings record of `ours` is read, and the station's CIM opens a
-- session. In the one the station falls silent and the session lives through 800 ticks; in the other the station
-- follows the handshake, and after eight ticks the session is in Charging. Assumes nothing.
use Prim.Native.Nat.{ℕ}
use Rattle.std.proofs.Common.{Ok}
use native.Mathlib.Omega.{arith}
use mathlib.Core.Path.{◌≡◌, refl, sym, ap, subst, ◌∙◌}
use mathlib.Core.Bool.{true, false, false≢true}
use mathlib.Core.List.{List, [], ◌∷◌}
use lib.IntN.{pos}
use Rattle.settings.specs.Record.{record_of}
use Rattle.settings.specs.Read.{read_of}
use Rattle.settings.proofs.RoundTrip.{read_written}
use Rattle.session_states.specs.States.{is_idle, is_charging}
use Rattle.session.specs.declared.Session.{Session}
use Rattle.session.specs.Session as session
use Rattle.session_paper_counts.specs.Folds.{fold, fold_state, fold_count, folds}
use Rattle.controller.specs.declared.Controller.{Controller}
use Rattle.controller.specs.Start.{fresh_of}
use Rattle.demands.specs.Machine.{Call, Read, Box, Using}
use Rattle.demands.specs.InStep.{code_of}
use Rattle.demands.specs.Calls.{CallMade, call_in, AllKeepPromises, calls_in, box_last}
use Rattle.demands.specs.Steps.{steps_made}
use Rattle.demands.specs.Since.{AfterCalls, use_then, use_last}
use Rattle.demands.specs.After.{after, after_all, no_session, ends_within}
use Rattle.demands.specs.Silent.{is_accepted_tick, ticks_in}
use Rattle.demands.specs.SilentIn.{SilentIn}
use Rattle.demands.specs.Reach.{charging_with}
use Rattle.demands.specs.Told.{ends_in}
use Rattle.demands.specs.Statements.{EightHundredAreNotEnough, EightAreEnough}
use Rattle.demands.proofs.StepsMade.{its_own, use_is, steps_from_use, last_use, one_call_more}
use Rattle.demands.proofs.Promised.{promised, promise_kept, promised_is, all_promised, promises_kept, promised_calls, read_first, read_kept, first_box, after_record}
use Rattle.demands.proofs.Silent.{repeated, zeros, quiet_readings, such_a_tick, not_within_800}
use Rattle.demands.proofs.SilentRun.{just_opened, tick, ticks_silent, ticks_many}
use Rattle.demands.proofs.ReachRun.{ours, settings_good, offer, cim, eight}
use Rattle.demands.proofs.ReachRun as run
use Rattle.demands.proofs.OfRuns.{use_all, ends_made, silence_to}

-- ---- the record
pub ours_read : read_of (record_of ours) ≡ Ok ours
ours_read = read_written ours settings_good

fresh_in_use : AfterCalls (read_first (record_of ours) ours ours_read ∷ []) (fresh_of ours)
fresh_in_use = after_record (record_of ours) ours ours_read

-- ---- calls made from the record of `ours` on
module _ (ks : List Call) where
  abbrev pub further : List CallMade
  further = all_promised (fresh_of ours) ks

  abbrev pub all : List CallMade
  all = read_first (record_of ours) ours ours_read ∷ further

  abbrev pub last : Controller
  last = use_last (fresh_of ours) further

  pub all_made : AfterCalls all last
  unfolding AllKeepPromises box_last
  all_made =
      record {
        kept = (
          read_kept (record_of ours) ours ours_read,
          subst (λ (z : Box). AllKeepPromises z further) (sym (first_box (record_of ours) ours ours_read))
              (promises_kept ks (fresh_of ours)),
        );
        in_use =
            ap (λ (z : Box). box_last z further) (first_box (record_of ours) ours ours_read)
            ∙ last_use (fresh_of ours) further;
      }

  pub last_is : last ≡ code_of (after_all (fresh_of ours) ks)
  last_is =
      use_all further (fresh_of ours) (fresh_of ours)
      (its_own _ (fresh_of ours) (after_record (record_of ours) ours ours_read)) (promises_kept ks (fresh_of ours))
      ∙ ap (λ (l : List Call). code_of (after_all (fresh_of ours) l)) (promised_calls ks (fresh_of ours))

-- ---- the CIM
abbrev cim_made : CallMade
cim_made = promised (fresh_of ours) cim

abbrev opening : List CallMade
opening = read_first (record_of ours) ours ours_read ∷ cim_made ∷ []

abbrev holder : Controller
holder = use_then (fresh_of ours) cim_made

session_open : AfterCalls opening holder
session_open = one_call_more (read_first (record_of ours) ours ours_read ∷ []) (fresh_of ours) cim_made fresh_in_use (promise_kept (fresh_of ours) cim)

opened_fold : folds (session.opened 0x56) ≡ session.opened 0x56
unfolding folds fold_state fold_count fold
opened_fold = refl

holds_open : holder.session ≡ session.opened 0x56
unfolding code_of
holds_open =
    ap (λ (z : Controller). z.session) (use_is (fresh_of ours) (its_own _ (fresh_of ours) fresh_in_use) cim_made (promise_kept (fresh_of ours) cim))
    ∙ (ap (λ (k : Call). folds (after (fresh_of ours) k).session) (promised_is (fresh_of ours) cim) ∙ (ap folds just_opened ∙ opened_fold))

still_open : no_session holder ≡ false
unfolding no_session is_idle
still_open = rw holds_open

-- ---- 800 ticks
abbrev silent_ticks : List CallMade
silent_ticks = all_promised holder (repeated 800 tick)

ticks_kept : AllKeepPromises (Using holder) silent_ticks
ticks_kept = promises_kept (repeated 800 tick) holder

the_ticks : calls_in silent_ticks ≡ repeated 800 tick
the_ticks = promised_calls (repeated 800 tick) holder

lives : ends_in (steps_made (Using holder) silent_ticks) ≡ false
lives =
    ends_made opening holder silent_ticks session_open ticks_kept still_open
    ∙ (ap (ends_within holder) the_ticks
    ∙ not_within_800 quiet_readings (330 ∷ []) (pos 20 ∷ []) (zeros 117) such_a_tick.0 such_a_tick.1 holder 0x56 0 holds_open)

silent_steps : SilentIn (steps_made (Using holder) silent_ticks)
silent_steps =
    subst SilentIn (sym (steps_from_use holder (its_own opening holder session_open) silent_ticks ticks_kept))
    (silence_to (calls_in silent_ticks) holder (rw the_ticks (ticks_silent 800 holder)))

pub eight_hundred_are_not_enough : EightHundredAreNotEnough
eight_hundred_are_not_enough h =
    let n : ticks_in (calls_in silent_ticks) ≡ 800 = ap ticks_in the_ticks ∙ ticks_many 800 in
    false≢true (sym lives ∙ h opening holder silent_ticks session_open ticks_kept still_open silent_steps (omega (arith, n)))

-- ---- eight ticks
abbrev handshake : List CallMade
handshake = further (cim ∷ eight)

the_shake : calls_in handshake ≡ cim ∷ eight
the_shake = promised_calls (cim ∷ eight) (fresh_of ours)

is_charging_lem : is_charging (folds (charging_with ours 0x56 offer)).state ≡ true
unfolding folds fold_state is_charging
is_charging_lem = refl

ticks_with_record : (s : List ℕ) (ks : List Call) → ticks_in (Read s ∷ ks) ≡ ticks_in ks
unfolding ticks_in is_accepted_tick
ticks_with_record s ks = omega arith

calls_with_record : calls_in (read_first (record_of ours) ours ours_read ∷ handshake) ≡ Read (record_of ours) ∷ calls_in handshake
unfolding calls_in call_in read_first
calls_with_record = refl

last_session_is : (last (cim ∷ eight)).session ≡ folds (after_all (fresh_of ours) (cim ∷ eight)).session
unfolding code_of
last_session_is = ap (λ (z : Controller). z.session) (last_is (cim ∷ eight))

pub eight_are_enough : EightAreEnough
eight_are_enough =
    record {
      calls = all (cim ∷ eight);
      controller = last (cim ∷ eight);
      made = all_made (cim ∷ eight);
      charging =
          ap (λ (s : Session). is_charging s.state) (last_session_is ∙ ap folds (run.eight_are_enough).1) ∙ is_charging_lem;
      ticks =
          ap ticks_in calls_with_record
          ∙ (ticks_with_record (record_of ours) (calls_in handshake) ∙ (ap ticks_in the_shake ∙ (run.eight_are_enough).0));
    }
