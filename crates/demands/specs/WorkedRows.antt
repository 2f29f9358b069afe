-- "Rows marked P below are shown of the definitions, as one table under a single statement" (01, "What a reader can
-- rely on"; "Worked rows"). In the paper's order, with the row of 02, request 1, beside the one that it changes. For
-- `worked_rows`.
use Rattle.std.specs.Prelude.{ℕ, suc, ◌<◌, ◌≤◌, ◌≡◌, Bool, true, false, List, [], ◌∷◌, ◌++◌, ℤ, pos, negsuc, length, replicate}
use Rattle.std.specs.declared.ops.ControlFlow.{ControlFlow}
use Rattle.session_states.specs.declared.phases.Cause.{Cause}
use Rattle.std.specs.declared.ops.ControlFlow.TheVariants.{Continue, Break}
use Rattle.units.specs.declared.TenthAmps.{TenthAmps}
use Rattle.units.specs.declared.RawAmps.{RawAmps}
use Rattle.units.specs.Units.{raw_amps}
use Rattle.buffers.specs.Words.{word_at}
use Rattle.messages.specs.Table.{to_target}
use Rattle.messages.specs.Identifier.{parts_of}
use Rattle.frames.specs.Frame.{frame_of}
use Rattle.settings.specs.declared.Settings.{Settings}
use Rattle.readings.specs.declared.Readings.{Readings}
use Rattle.readings.specs.Readings.{raw_of}
use Rattle.cells.specs.declared.Cells.{Cells}
use Rattle.cells.specs.Figures.{cell_count}
use Rattle.units.specs.Units.{hundredth_volts, sent_degrees}
use Rattle.cells.specs.Summaries.{summary_of, average_of}
use Rattle.session_states.specs.declared.phases.Phase.{Phase}
use Rattle.session_states.specs.declared.phases.Phase.TheVariants.{Drive, Rest, Hold}
use Rattle.session_states.specs.Phases.{start_phase, phase_after}
use Rattle.charge_messages.specs.declared.Offer.{Offer}
use Rattle.session_by_message.specs.Offer.{offered_tenths, accepted_of, station_maximum}
use Rattle.session_frames.specs.Layouts.{hold_voltage, ecr_frame, ecr_of, ecs_of, eim_of, eem_of}
use Rattle.broadcasts.specs.Layouts.{ps_of}
use Rattle.messages.specs.declared.received.Kind.TheVariants.{Voltages, Temperatures}
use Rattle.queries.specs.declared.Query.{Query}
use Rattle.queries.specs.Answering.{group_frame, past_end, at_last}
use Rattle.session_states.specs.Limits.{drive_limit, rest_limit}
use Rattle.session_paper_counts.specs.Literal.{older}

-- so many tenths of an ampere, and a current word of a CMP
abbrev pub tenths : ℕ → TenthAmps
tenths n = record { 0 = n }

abbrev pub word : ℕ → RawAmps
word n = record { 0 = n }

-- a query that waits at a group, counted from 0
abbrev pub voltages_at : ℕ → ℕ → Query
voltages_at source group = record { source = source; kind = Voltages; group = group }

abbrev pub temperatures_at : ℕ → ℕ → Query
temperatures_at source group = record { source = source; kind = Temperatures; group = group }

-- what a tick of a charge asks: in Drive R, in tenths of an ampere; in Rest 0 A; in Hold a constant voltage
pub data Asked : Type 0 where
  Current : ℕ → Asked
  NoCurrent : Asked
  Voltage : Asked

unfoldable pub asked_in : Phase → Asked
asked_in (Drive request cycle time) = Current request.0
asked_in (Rest request cycle time) = NoCurrent
asked_in (Hold time) = Voltage

-- a phase that goes on, and one that stops the charge
unfoldable pub onward : ControlFlow Cause Phase → (Phase → List Asked) → List Asked
onward (Continue p) then = then p
onward (Break cause) then = []

-- a charge's phase over ticks, each of which says whether a cell is at or above maximum: the phase after its rules is
-- asked of the station, and is one tick older then
unfoldable pub asked : Phase → List Bool → List Asked
asked p [] = []
asked p (full ∷ ticks) = onward (phase_after p full) (λ q. asked_in q ∷ asked (older q) ticks)

-- `n` ticks of a Drive, then a cell is full: that tick is the first of the Rest's 6000; then later ticks
unfoldable pub drive_then_rest : ℕ → List Bool → List Bool
drive_then_rest n later = replicate n false ++ (true ∷ (replicate 5999 false ++ later))

-- what they ask
unfoldable pub asks_then_rests : ℕ → ℕ → List Asked → List Asked
asks_then_rests request n later = replicate n (Current request) ++ (replicate 6000 NoCurrent ++ later)

pub record WorkedRows : Type 0 where
  -- EIM from F4 to 56 is 182756F4, whatever it says
  pub eim : (x : Settings) (on : Bool) → x.own ≡ 0xf4 → (eim_of x 0x56 on).id ≡ 0x1827_56f4
  -- PS is 1CFA20F4
  pub ps : (heartbeat : Bool) (r : Readings) (c : Cells) → (ps_of 0xf4 heartbeat r c).id ≡ 0x1cfa_20f4
  -- EEM is 081E56F4
  pub eem : (x : Settings) → x.own ≡ 0xf4 → (eem_of x 0x56).id ≡ 0x081e_56f4
  -- 200.0 A is raw 2000; 1.2 A is 3988; -50.0 A is 4500 (`negsuc 499` is minus 500): as ECS sends what is measured,
  -- 4000 minus the current with its sign
  pub measured_200 : raw_of (pos 2000) ≡ 2000
  pub measured_1_2 : raw_of (pos 12) ≡ 3988
  pub measured_minus_50 : raw_of (negsuc 499) ≡ 4500
  pub ecs_minus_50 : (x : Settings) (station : ℕ) (r : Readings) (c : Cells) → r.current ≡ negsuc 499
      → word_at (ecs_of x station r c).bytes 2 ≡ 4500
  -- as ECR sends what is requested, by the same rule; a request is not below 0
  pub requested_200 : (raw_amps (tenths 2000)).0 ≡ 2000
  pub requested_1_2 : (raw_amps (tenths 12)).0 ≡ 3988
  -- as CMP is read, what is offered, by a rule of its own (02, request 1): the distance of the word from 4000, either
  -- side. The word that ECS sends for -50.0 A is 50.0 A here, in the row that keeps its name
  pub offered_200 : offered_tenths (word 2000) ≡ 2000
  pub offered_1_2 : offered_tenths (word 3988) ≡ 12
  pub offered_minus_50 : offered_tenths (word 4500) ≡ 500
  -- and the row that request 1 adds: 8500 is 450.0 A, 4100 is 10.0 A, 8100 is 410.0 A
  pub offered_450 : offered_tenths (word 8500) ≡ 4500
  pub offered_10 : offered_tenths (word 4100) ≡ 100
  pub offered_410 : offered_tenths (word 8100) ≡ 4100
  -- so the yes rule accepts the CMP of 000's trace, 10.0 V to 400.0 V and 10.0 A to 450.0 A, wherever maximum pack
  -- voltage lies between and maximum current is 10.0 A or more
  pub trace_accepted : (x : Settings) (o : Offer)
      → o.highest.0 ≡ 4000 → o.lowest.0 ≡ 100 → o.most.0 ≡ 8500 → o.least.0 ≡ 4100
      → 100 ≤ x.limits.pack.0 → x.limits.pack.0 ≤ 4000 → 100 ≤ x.limits.current.0 → accepted_of x o ≡ true
  -- and refuses its minimum where maximum current is below it, and where its two words change places
  pub minimum_refused : (x : Settings) (o : Offer)
      → o.least.0 ≡ 4100 → x.limits.current.0 < 100 → accepted_of x o ≡ false
  pub exchanged_refused : (x : Settings) (o : Offer)
      → o.most.0 ≡ 4100 → o.least.0 ≡ 8500 → accepted_of x o ≡ false
  -- the first request, where maximum current is 400.0 A: that of a station whose maximum is raw 8500, and 10.0 A of one
  -- with 4100
  pub asked_of_8500 : (o : Offer) → o.most.0 ≡ 8500
      → start_phase (tenths 4000) (station_maximum o) ≡ Drive (tenths 4000) 1 0
  pub asked_of_4100 : (o : Offer) → o.most.0 ≡ 4100
      → start_phase (tenths 4000) (station_maximum o) ≡ Drive (tenths 100) 1 0
  -- maximum pack voltage 65535: 48 cells hold at 1704; 3 at 106
  pub hold_48 : (x : Settings) (c : Cells) → x.limits.pack.0 ≡ 65535
      → cell_count c.volts ≡ 48 → (hold_voltage x c).0 ≡ 1704
  pub hold_3 : (x : Settings) (c : Cells) → x.limits.pack.0 ≡ 65535
      → cell_count c.volts ≡ 3 → (hold_voltage x c).0 ≡ 106
  -- 400 is asked 400, 200, 100, then Hold: over the ticks of a charge that starts so, with a cell full once in each
  -- Drive, after `a`, `b` and `c` ticks of it, and at no other tick
  pub asked_400 : (a b c : ℕ) → a < drive_limit → b < drive_limit → c < drive_limit
      → asked (start_phase (tenths 400) (tenths 400)) (drive_then_rest a (drive_then_rest b (drive_then_rest c (false ∷ []))))
      ≡ asks_then_rests 400 a (asks_then_rests 200 b (asks_then_rests 100 c (Voltage ∷ [])))
  -- which ECR says in mode 02 with voltage 0, as 4000 minus each
  pub ecr_400 : (x : Settings) (station cycle time : ℕ) (c : Cells)
      → ecr_of x station c (Drive (tenths 400) cycle time) ≡ ecr_frame x station 0 3600 0x02
  pub ecr_200 : (x : Settings) (station cycle time : ℕ) (c : Cells)
      → ecr_of x station c (Drive (tenths 200) cycle time) ≡ ecr_frame x station 0 3800 0x02
  pub ecr_100 : (x : Settings) (station cycle time : ℕ) (c : Cells)
      → ecr_of x station c (Drive (tenths 100) cycle time) ≡ ecr_frame x station 0 3900 0x02
  -- in Rest 0 A, raw 4000, in the same mode; in Hold mode 01 with Hold's voltage and raw current 4000
  pub ecr_rest : (x : Settings) (station cycle time : ℕ) (request : TenthAmps) (c : Cells)
      → ecr_of x station c (Rest request cycle time) ≡ ecr_frame x station 0 4000 0x02
  pub ecr_hold : (x : Settings) (station time : ℕ) (c : Cells)
      → ecr_of x station c (Hold time) ≡ ecr_frame x station (hold_voltage x c).0 4000 0x01
  -- R 60 drives, 59 holds: at the start and after a Rest
  pub drives_60 : start_phase (tenths 400) (tenths 60) ≡ Drive (tenths 60) 1 0
  pub holds_59 : start_phase (tenths 400) (tenths 59) ≡ Hold 0
  pub drives_60_again : phase_after (Rest (tenths 120) 1 rest_limit) false ≡ Continue (Drive (tenths 60) 2 0)
  pub holds_59_then : phase_after (Rest (tenths 119) 1 rest_limit) false ≡ Continue (Hold 0)
  -- voltages 330, 331 average 330 (and so do temperatures that are sent as these)
  pub average :
      (average_of (summary_of hundredth_volts (330 ∷ 331 ∷ [])) ≡ 330)
      × (average_of (summary_of sent_degrees (330 ∷ 331 ∷ [])) ≡ 330)
  -- equal cells give index 1, however many they are, in either table
  pub equal_highest :
      (n x : ℕ) → ((summary_of hundredth_volts (replicate (suc n) x)).highest.index ≡ 1)
      × ((summary_of sent_degrees (replicate (suc n) x)).highest.index ≡ 1)
  pub equal_lowest :
      (n x : ℕ) → ((summary_of hundredth_volts (replicate (suc n) x)).lowest.index ≡ 1)
      × ((summary_of sent_degrees (replicate (suc n) x)).lowest.index ≡ 1)
  -- cells 1 to 6, with 331 and 332 last: group PF 32 is 00 00 00 00 4C 01 4B 01
  pub group_32 : (a b c d own source : ℕ) (t : List ℤ)
      → group_frame own (a ∷ b ∷ c ∷ d ∷ 331 ∷ 332 ∷ []) t (voltages_at source 1)
      ≡ frame_of (to_target 0x32 7) source own (0x00 ∷ 0x00 ∷ 0x00 ∷ 0x00 ∷ 0x4c ∷ 0x01 ∷ 0x4b ∷ 0x01 ∷ [])
  -- and of temperatures likewise, the first cell last: -50 F to -43 F, sent as 0 to 7, are group PF 81
  pub group_81 : (own source : ℕ) (v : List ℕ)
      → group_frame own v
      (negsuc 49 ∷ negsuc 48 ∷ negsuc 47 ∷ negsuc 46 ∷ negsuc 45 ∷ negsuc 44 ∷ negsuc 43 ∷ negsuc 42 ∷ [])
      (temperatures_at source 0)
      ≡ frame_of (to_target 0x81 7) source own (0x07 ∷ 0x06 ∷ 0x05 ∷ 0x04 ∷ 0x03 ∷ 0x02 ∷ 0x01 ∷ 0x00 ∷ [])
  -- 255 cells end at PF 70 and A0: the frame of the group that is sent last has that PF in its identifier, and there is
  -- one
  pub voltages_end : (own source group : ℕ) (v : List ℕ) (t : List ℤ) → own < 256 → source < 256 → length v ≡ 255
      → past_end v t (voltages_at source group) ≡ false → at_last v t (voltages_at source group) ≡ true
      → (parts_of (group_frame own v t (voltages_at source group)).id).pf ≡ 0x70
  pub voltages_sent : (v : List ℕ) (t : List ℤ) (source : ℕ) → length v ≡ 255
      → (past_end v t (voltages_at source 63) ≡ false) × (at_last v t (voltages_at source 63) ≡ true)
  pub temperatures_end : (own source group : ℕ) (v : List ℕ) (t : List ℤ) → own < 256 → source < 256 → length t ≡ 255
      → past_end v t (temperatures_at source group) ≡ false → at_last v t (temperatures_at source group) ≡ true
      → (parts_of (group_frame own v t (temperatures_at source group)).id).pf ≡ 0xa0
  pub temperatures_sent : (v : List ℕ) (t : List ℤ) (source : ℕ) → length t ≡ 255
      → (past_end v t (temperatures_at source 31) ≡ false) × (at_last v t (temperatures_at source 31) ≡ true)
