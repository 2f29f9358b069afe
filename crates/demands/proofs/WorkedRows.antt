-- The rows of 01, "Worked rows", marked P, as one table. Most are proved beside the definitions that they are about.
-- Assumes nothing.
use Prim.Native.Nat.{ℕ, zero, suc, ◌+◌, ◌<◌, ◌≤◌}
use native.Mathlib.Omega.{arith}
use mathlib.Core.Path.{◌≡◌, refl, ap, ◌∙◌}
use mathlib.Core.Bool.{Bool, true, false}
use mathlib.Core.List.{List, [], ◌∷◌, ◌++◌}
use borrow.Author.Tests.{lt-leb}
use lib.IntN.{ℤ, negsuc}
use lib.ListN.{length, replicate}
use Rattle.units.specs.declared.TenthAmps.{TenthAmps}
use Rattle.messages.specs.Table.{to_target}
use Rattle.messages.specs.Identifier.{parts_of}
use Rattle.frames.specs.Frame.{frame_of}
use Rattle.settings.specs.declared.Settings.{Settings}
use Rattle.cells.specs.declared.Cells.{Cells}
use Rattle.charge_messages.specs.declared.Offer.{Offer}
use Rattle.session_by_message.specs.Offer.{station_maximum}
use Rattle.session_states.specs.declared.phases.Phase.{Phase}
use Rattle.session_states.specs.declared.phases.Phase.TheVariants.{Drive, Rest, Hold}
use Rattle.session_states.specs.Limits.{drive_limit, rest_limit}
use Rattle.session_states.specs.Phases.{start_phase, drive_rules, hold_rules, after_rest, phase_after}
use Rattle.session_paper_counts.specs.Literal.{older}
use Rattle.queries.specs.Answering.{group_bytes, group_frame, past_end, at_last}
use Rattle.session_frames.specs.Layouts.{hold_voltage, ecr_frame, ecr_of}
use Rattle.session_frames.proofs.WorkedRows as layouts
use Rattle.broadcasts.proofs.WorkedRows as broadcasts
use Rattle.readings.proofs.WorkedRows as readings
use Rattle.session_by_message.proofs.Currents as currents
use Rattle.session_by_message.proofs.WorkedRows as offers
use Rattle.session_states.proofs.WorkedRows as phases
use Rattle.units.specs.Units.{hundredth_volts, sent_degrees}
use Rattle.cells.proofs.WorkedRows as cells
use Rattle.queries.proofs.WorkedRows as queries
use Rattle.demands.proofs.FrameKinds.{pf_sent}
use Rattle.demands.specs.WorkedRows.{tenths, voltages_at, temperatures_at, Asked, Current, NoCurrent, Voltage, asked_in, onward, asked, drive_then_rest, asks_then_rests, WorkedRows}

module _ (x : Settings) (station cycle time : ℕ) (c : Cells) where
  asks_400 : ecr_of x station c (Drive (tenths 400) cycle time) ≡ ecr_frame x station 0 3600 0x02
  unfolding ecr_of
  asks_400 = refl

  asks_200 : ecr_of x station c (Drive (tenths 200) cycle time) ≡ ecr_frame x station 0 3800 0x02
  unfolding ecr_of
  asks_200 = refl

  asks_100 : ecr_of x station c (Drive (tenths 100) cycle time) ≡ ecr_frame x station 0 3900 0x02
  unfolding ecr_of
  asks_100 = refl

-- the first request of a station whose maximum is raw 8500, and of one with 4100
module _ (o : Offer) where
  asked_of_8500 : o.most.0 ≡ 8500 → start_phase (tenths 4000) (station_maximum o) ≡ Drive (tenths 4000) 1 0
  unfolding start_phase
  asked_of_8500 h = rw (← currents.maximum_above o 4500 h)

  asked_of_4100 : o.most.0 ≡ 4100 → start_phase (tenths 4000) (station_maximum o) ≡ Drive (tenths 100) 1 0
  unfolding start_phase
  asked_of_4100 h = rw (← currents.maximum_above o 100 h)

-- ---- 400 is asked 400, 200, 100, then Hold
-- the law over the ticks: a phase that at each tick below its limit asks the same and goes on, goes on for as many
lasts : (phase : ℕ → Phase) (asks : Asked) (limit : ℕ)
    → ((time : ℕ) (later : List Bool) → time < limit → asked (phase time) (false ∷ later) ≡ asks ∷ asked (phase (time + 1)) later)
    → (n time : ℕ) (later : List Bool) → time + n ≤ limit
    → asked (phase time) (replicate n false ++ later) ≡ replicate n asks ++ asked (phase (time + n)) later
lasts phase asks limit one zero time later h = let e : time + 0 ≡ time = omega arith in rw e
lasts phase asks limit one (suc n) time later h =
    let e : time + 1 + n ≡ time + suc n = omega arith in
    one time (replicate n false ++ later) (omega arith)
    ∙ ap (λ (l : List Asked). asks ∷ l)
    (lasts phase asks limit one n (time + 1) later (omega arith)
    ∙ ap (λ (k : ℕ). replicate n asks ++ asked (phase k) later) e)

module _ (request : TenthAmps) (cycle : ℕ) where
  abbrev drive : ℕ → Phase
  drive time = Drive request cycle time

  abbrev rest : ℕ → Phase
  rest time = Rest request cycle time

  -- a tick of a Drive, of a Drive with a cell full, of a Rest
  drive_tick : (time : ℕ) (later : List Bool) → time < drive_limit
      → asked (drive time) (false ∷ later) ≡ Current request.0 ∷ asked (drive (time + 1)) later
  unfolding asked onward asked_in phase_after drive_rules older
  drive_tick time later h = rw (lt-leb drive_limit time h)

  full_tick : (time : ℕ) (later : List Bool) → time < drive_limit
      → asked (drive time) (true ∷ later) ≡ NoCurrent ∷ asked (rest 1) later
  unfolding asked onward asked_in phase_after drive_rules older
  full_tick time later h = rw (lt-leb drive_limit time h)

  rest_tick : (time : ℕ) (later : List Bool) → time < rest_limit
      → asked (rest time) (false ∷ later) ≡ NoCurrent ∷ asked (rest (time + 1)) later
  unfolding asked onward asked_in phase_after older
  rest_tick time later h = rw (lt-leb rest_limit time h)

  -- a Drive of n ticks, then a Rest of k and one more
  drive_rests : (n k : ℕ) (later : List Bool) → n < drive_limit → k + 1 ≤ rest_limit
      → asked (drive 0) (replicate n false ++ (true ∷ (replicate k false ++ later)))
      ≡ replicate n (Current request.0) ++ (replicate (suc k) NoCurrent ++ asked (rest (1 + k)) later)
  drive_rests n k later h i =
      lasts drive (Current request.0) drive_limit drive_tick n 0 _ (omega arith)
      ∙ ap (λ (l : List Asked). replicate n (Current request.0) ++ l)
      (full_tick (0 + n) (replicate k false ++ later) (omega arith)
      ∙ ap (λ (l : List Asked). NoCurrent ∷ l) (lasts rest NoCurrent rest_limit rest_tick k 1 later (omega arith)))

  drive_then_rest_lem : (n : ℕ) (later : List Bool) → n < drive_limit
      → asked (drive 0) (drive_then_rest n later) ≡ asks_then_rests request.0 n (asked (rest rest_limit) later)
  unfolding drive_then_rest asks_then_rests
  drive_then_rest_lem n later h = drive_rests n 5999 later h (omega arith)

-- a Rest that has had its 6000 ticks goes on as what comes after it would from its start
same_rules : (p q : Phase) → ((full : Bool) → phase_after p full ≡ phase_after q full) → (ticks : List Bool)
    → asked p ticks ≡ asked q ticks
unfolding asked
same_rules p q h [] = refl
same_rules p q h (full ∷ ticks) = rw (h full)

then_drive_200 : (full : Bool)
    → phase_after (Rest (tenths 400) 1 rest_limit) full ≡ phase_after (Drive (tenths 200) 2 0) full
unfolding phase_after after_rest
then_drive_200 full = refl

then_drive_100 : (full : Bool)
    → phase_after (Rest (tenths 200) 2 rest_limit) full ≡ phase_after (Drive (tenths 100) 3 0) full
unfolding phase_after after_rest
then_drive_100 full = refl

then_hold : (full : Bool) → phase_after (Rest (tenths 100) 3 rest_limit) full ≡ phase_after (Hold 0) full
unfolding phase_after after_rest
then_hold full = refl

starts_at_400 : start_phase (tenths 400) (tenths 400) ≡ Drive (tenths 400) 1 0
unfolding start_phase
starts_at_400 = refl

hold_asks : asked (Hold 0) (false ∷ []) ≡ Voltage ∷ []
unfolding asked onward asked_in phase_after hold_rules
hold_asks = refl

asks_in_turn : (a b c : ℕ) → a < drive_limit → b < drive_limit → c < drive_limit
    → asked (start_phase (tenths 400) (tenths 400)) (drive_then_rest a (drive_then_rest b (drive_then_rest c (false ∷ []))))
    ≡ asks_then_rests 400 a (asks_then_rests 200 b (asks_then_rests 100 c (Voltage ∷ [])))
asks_in_turn a b c h i j =
    rw (
      starts_at_400,
      drive_then_rest_lem (tenths 400) 1 a _ h,
      same_rules _ _ then_drive_200 (drive_then_rest b (drive_then_rest c (false ∷ []))),
      drive_then_rest_lem (tenths 200) 2 b _ i,
      same_rules _ _ then_drive_100 (drive_then_rest c (false ∷ [])),
      drive_then_rest_lem (tenths 100) 3 c _ j,
      same_rules _ _ then_hold (false ∷ []),
      hold_asks,
    )

-- ---- 255 cells end at PF 70 and A0
module _ (own source group : ℕ) (v : List ℕ) (t : List ℤ) (h : own < 256) (i : source < 256) where
  voltages_end : length v ≡ 255 → past_end v t (voltages_at source group) ≡ false
      → at_last v t (voltages_at source group) ≡ true
      → (parts_of (group_frame own v t (voltages_at source group)).id).pf ≡ 0x70
  unfolding group_frame
  voltages_end n p l =
      let e : 0x31 + group ≡ 0x70 = queries.voltages_end v t source group n p l in
      pf_sent (to_target (0x31 + group) 7) source own (omega arith) (omega arith) i h ∙ e

  temperatures_end : length t ≡ 255 → past_end v t (temperatures_at source group) ≡ false
      → at_last v t (temperatures_at source group) ≡ true
      → (parts_of (group_frame own v t (temperatures_at source group)).id).pf ≡ 0xa0
  unfolding group_frame
  temperatures_end n p l =
      let e : 0x81 + group ≡ 0xa0 = queries.temperatures_end v t source group n p l in
      pf_sent (to_target (0x81 + group) 7) source own (omega arith) (omega arith) i h ∙ e

asks_in_rest : (x : Settings) (station cycle time : ℕ) (request : TenthAmps) (c : Cells)
    → ecr_of x station c (Rest request cycle time) ≡ ecr_frame x station 0 4000 0x02
unfolding ecr_of
asks_in_rest x station cycle time request c = refl

asks_in_hold : (x : Settings) (station time : ℕ) (c : Cells)
    → ecr_of x station c (Hold time) ≡ ecr_frame x station (hold_voltage x c).0 4000 0x01
unfolding ecr_of
asks_in_hold x station time c = refl

first_temperatures_lem : (own source : ℕ) (v : List ℕ)
    → group_frame own v
    (negsuc 49 ∷ negsuc 48 ∷ negsuc 47 ∷ negsuc 46 ∷ negsuc 45 ∷ negsuc 44 ∷ negsuc 43 ∷ negsuc 42 ∷ [])
    (temperatures_at source 0)
    ≡ frame_of (to_target 0x81 7) source own (0x07 ∷ 0x06 ∷ 0x05 ∷ 0x04 ∷ 0x03 ∷ 0x02 ∷ 0x01 ∷ 0x00 ∷ [])
unfolding group_frame group_bytes
first_temperatures_lem own source v = refl

pub worked_rows : WorkedRows
worked_rows =
    record {
      eim = λ x on own. layouts.eim_goes_out x own on;
      ps = broadcasts.ps_identifier;
      eem = layouts.eem_goes_out;
      measured_200 = readings.two_hundred;
      measured_1_2 = readings.one_point_two;
      measured_minus_50 = readings.minus_fifty;
      ecs_minus_50 = layouts.ecs_minus_50;
      requested_200 = layouts.raw_of_2000;
      requested_1_2 = layouts.raw_of_12;
      offered_200 = currents.so_far_below 2000 (omega arith);
      offered_1_2 = currents.so_far_below 12 (omega arith);
      offered_minus_50 = currents.so_far_above 500;
      offered_450 = currents.so_far_above 4500;
      offered_10 = currents.so_far_above 100;
      offered_410 = currents.so_far_above 4100;
      trace_accepted = offers.trace_accepted;
      minimum_refused = offers.minimum_refused;
      exchanged_refused = offers.exchanged_refused;
      asked_of_8500 = asked_of_8500;
      asked_of_4100 = asked_of_4100;
      hold_48 = layouts.forty_eight_hold;
      hold_3 = layouts.three_hold;
      asked_400 = asks_in_turn;
      ecr_400 = asks_400;
      ecr_200 = asks_200;
      ecr_100 = asks_100;
      ecr_rest = asks_in_rest;
      ecr_hold = asks_in_hold;
      drives_60 = phases.sixty_drives;
      holds_59 = phases.fifty_nine_holds;
      drives_60_again = phases.sixty_drives_again;
      holds_59_then = phases.fifty_nine_holds_then;
      average = (cells.average_of_two hundredth_volts, cells.average_of_two sent_degrees);
      equal_highest = λ n x. (cells.equal_highest hundredth_volts n x, cells.equal_highest sent_degrees n x);
      equal_lowest = λ n x. (cells.equal_lowest hundredth_volts n x, cells.equal_lowest sent_degrees n x);
      group_32 = queries.group_32;
      group_81 = first_temperatures_lem;
      voltages_end = voltages_end;
      voltages_sent = queries.voltages_sent;
      temperatures_end = temperatures_end;
      temperatures_sent = queries.temperatures_sent;
    }
