-- A run as calls that were made, from the start, that ends by an acknowledgement: the handshake of eight ticks to
-- Charging, a tick at which charge is not wanted, which enters Stopping and sends an EST, and the station's CST AA.
-- Assumes nothing.
use mathlib.Core.Path.{◌≡◌, refl, sym, ap, subst, ◌∙◌}
use mathlib.Core.Bool.{Bool, true, false, ◌&&◌, false≢true}
use mathlib.Core.List.{List, [], ◌∷◌, ◌++◌}
use lib.Dec.{ltb}
use lib.IntN.{pos}
use Rattle.std.proofs.lemmas.Bool.{and_parts}
use Rattle.settings.specs.declared.Settings.{Settings}
use Rattle.readings.specs.declared.Readings.{Readings}
use Rattle.readings.specs.Readings.{wanted_of, readings_in_range, current_ok}
use Rattle.cells.specs.declared.Cells.{Cells}
use Rattle.cells.specs.Summaries.{cells_of}
use Rattle.cells.specs.Tables.{every}
use Rattle.charge_messages.specs.declared.ChargeMessage.TheVariants.{Cst}
use Rattle.refusals.specs.Tick.{tick_number}
use Rattle.session_states.specs.States.{is_idle, is_stopping}
use Rattle.session_by_message.specs.Message.{in_stopping, outcome_of, outcome_number}
use Rattle.session_by_tick.specs.Turns.{stop_of, stops_of, charging_of, turn_of}
use Rattle.session.specs.declared.Session.{Session}
use Rattle.session.specs.Message.{applied_of, message_of}
use Rattle.session.specs.Tick.{turned_by, turn_in}
use Rattle.session_paper_counts.specs.Literal.{counted, literal_in, literal_advance, literal_tick}
use Rattle.session_paper_counts.specs.Folds.{fold, fold_state, fold_count, folds}
use Rattle.controller.specs.declared.Controller.{Controller}
use Rattle.controller.specs.Frame.{Answer}
use Rattle.controller.specs.Start.{fresh_of}
use Rattle.controller.specs.Frame.{frame_to, session_moved}
use Rattle.demands.specs.Machine.{Call, Read, Receive, Tick, Write, paper_next}
use Rattle.demands.specs.InStep.{code_of}
use Rattle.demands.specs.Calls.{CallMade, DidReceive, call_in, KeepsPromise}
use Rattle.demands.specs.Since.{use_then}
use Rattle.demands.specs.After.{accepts, after, after_all, no_session}
use Rattle.demands.specs.Says.{Says}
use Rattle.demands.specs.Ends.{ByCst}
use Rattle.demands.specs.Reach.{charging_with}
use Rattle.demands.specs.GoneOut.{est}
use Rattle.demands.specs.Statements.{NextCall, has_gone, AnAcknowledgedStop}
use Rattle.demands.proofs.Tests.{same}
use Rattle.demands.proofs.Comes.{kept_settings, taken_in}
use Rattle.demands.proofs.Silent.{zeros}
use Rattle.demands.proofs.ReachRun.{ours, offer, cim, cst_data, says_cst, eight, eight_are_enough}
use Rattle.demands.proofs.OfCalls.{est_gone, each_ends_a_session}
use Rattle.demands.proofs.RunsMade.{all, last, all_made, last_is}

-- ---- calls that read no record keep the settings
unfoldable keeps : Call → Bool
keeps (Read s) = false
keeps (Receive id s) = true
keeps (Tick r v t old) = true
keeps (Write old) = true

unfoldable all_keep : List Call → Bool
all_keep [] = true
all_keep (k ∷ ks) = keeps k && all_keep ks

one_keeps : (c : Controller) (k : Call) → keeps k ≡ true → (after c k).settings ≡ c.settings
unfolding keeps after paper_next
one_keeps c (Read s) h = absurd (false≢true h)
one_keeps c (Receive id s) h = kept_settings c id s
one_keeps c (Tick r v t old) h = same (λ (z : Controller). z.settings) (accepts r v t old) refl refl
one_keeps c (Write old) h = refl

all_keep_lem : (ks : List Call) (c : Controller) → all_keep ks ≡ true → (after_all c ks).settings ≡ c.settings
unfolding all_keep after_all
all_keep_lem [] c h = refl
all_keep_lem (k ∷ ks) c h =
    all_keep_lem ks (after c k) (and_parts (keeps k) (all_keep ks) h).1 ∙ one_keeps c k (and_parts (keeps k) (all_keep ks) h).0

one_more : (ks : List Call) (c : Controller) (k : Call) → after_all c (ks ++ (k ∷ [])) ≡ after (after_all c ks) k
unfolding after_all
one_more [] c k = refl
one_more (e ∷ ks) c k = one_more ks (after c e) k

-- ---- the handshake of eight ticks, after the CIM
abbrev charging : Controller
charging = after_all (fresh_of ours) (cim ∷ eight)

charging_session : charging.session ≡ charging_with ours 0x56 offer
charging_session = eight_are_enough.1

charging_settings : charging.settings ≡ ours
unfolding eight all_keep keeps fresh_of
charging_settings = all_keep_lem (cim ∷ eight) (fresh_of ours) refl

-- ---- the tick at which charge is not wanted
unwanted : Readings
unwanted =
    record {
      one = 0;
      two = 0;
      soc = 0;
      current = pos 0;
      pack = record { 0 = 0 };
      capacity = 0;
      faults = record { active = 0; latched = 0 };
      warnings = record { active = 0; latched = 0 };
    }

abbrev cells : Cells
cells = cells_of (330 ∷ []) (pos 20 ∷ [])

abbrev stop : Call
stop = Tick unwanted (330 ∷ []) (pos 20 ∷ []) (zeros 117)

is_accepted : accepts unwanted (330 ∷ []) (pos 20 ∷ []) (zeros 117) ≡ true
unfolding unwanted zeros accepts tick_number readings_in_range current_ok every
is_accepted = refl

not_wanted : wanted_of unwanted ≡ false
unfolding unwanted wanted_of
not_wanted = refl

-- the session after it: in Stopping, at count 1, with the same station; so open, and CST AA is taken
abbrev stopped : Session
stopped = literal_tick ours unwanted cells (charging_with ours 0x56 offer)

record Stopped (s : Session) : Type 0 where
  stopping : is_stopping s.state ≡ true
  still_open : is_idle s.state ≡ false
  count : s.count ≡ 1
  station : s.station ≡ 0x56
  taken : (x : Settings) → outcome_number (outcome_of x s.state s.count (Cst true)) ≡ 0

is_stopped : Stopped (folds stopped)
unfolding literal_tick literal_advance literal_in turned_by turn_in turn_of charging_of stops_of stop_of counted folds fold_state fold_count fold is_stopping is_idle outcome_of in_stopping
is_stopped =
    rw not_wanted (record { stopping = refl; still_open = refl; count = refl; station = refl; taken = λ x. refl })

-- ---- the whole run
abbrev run : List Call
run = (cim ∷ eight) ++ (stop ∷ [])

stop_session : (c : Controller) → (after c stop).session ≡ literal_tick c.settings unwanted cells c.session
unfolding after paper_next
stop_session c = rw is_accepted

stop_settings : (c : Controller) → (after c stop).settings ≡ c.settings
unfolding keeps
stop_settings c = one_keeps c stop refl

run_session : (after_all (fresh_of ours) run).session ≡ stopped
run_session =
    ap (λ (z : Controller). z.session) (one_more (cim ∷ eight) (fresh_of ours) stop)
    ∙ (stop_session charging ∙ rw (charging_settings, charging_session))

run_settings : (after_all (fresh_of ours) run).settings ≡ ours
run_settings =
    ap (λ (z : Controller). z.settings) (one_more (cim ∷ eight) (fresh_of ours) stop)
    ∙ (stop_settings charging ∙ charging_settings)

-- as calls made: the calls, and the controller in use after them
abbrev ms : List CallMade
ms = all run

abbrev c : Controller
c = last run

c_session : c.session ≡ folds stopped
unfolding code_of
c_session = ap (λ (z : Controller). z.session) (last_is run) ∙ ap folds run_session

c_settings : c.settings ≡ ours
unfolding code_of
c_settings = ap (λ (z : Controller). z.settings) (last_is run) ∙ run_settings

c_stopped : Stopped c.session
c_stopped = subst Stopped (sym c_session) is_stopped

est_out : has_gone est ms ≡ true
est_out = sym (est_gone ms c (all_made run) c_stopped.stopping) ∙ ap (ltb 0) c_stopped.count

-- ---- the CST AA
abbrev answered : Answer
answered = frame_to c 0x1816_f456 cst_data

its_cst : Says c.settings c.session.station (Cst true) 0x1816_f456 cst_data
its_cst = rw (c_settings, c_stopped.station) says_cst

answer_kept : NextCall c (DidReceive 0x1816_f456 cst_data answered)
unfolding KeepsPromise
answer_kept = refl

answer_number_lem : answered.number ≡ 0
unfolding session_moved message_of applied_of
answer_number_lem =
    ap (λ (a : Answer). a.number) (taken_in c 0x1816_f456 cst_data (Cst true) c_stopped.still_open its_cst)
    ∙ c_stopped.taken c.settings

is_over_lem : no_session answered.controller ≡ true
unfolding no_session use_then call_in
is_over_lem =
    each_ends_a_session ms c (DidReceive 0x1816_f456 cst_data answered) (all_made run) answer_kept
    c_stopped.still_open (ByCst its_cst c_stopped.stopping est_out)

pub an_acknowledged_stop : AnAcknowledgedStop
an_acknowledged_stop =
    record {
      calls = ms;
      controller = c;
      made = all_made run;
      stopping = c_stopped.stopping;
      gone = est_out;
      id = 0x1816_f456;
      bytes = cst_data;
      says = its_cst;
      answer = answered;
      kept = answer_kept;
      number = answer_number_lem;
      over = is_over_lem;
    }
