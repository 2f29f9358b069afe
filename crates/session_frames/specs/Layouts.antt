-- The ten frames to the station (01, "Session by tick", "Layouts"), each from us to the station with its row of the
-- table. Words are little endian; every frame has 8 data bytes, zero after its fields.
use Rattle.std.specs.Prelude.{ℕ, Bool, cond, [], ◌∷◌, ◌++◌}
use Rattle.units.specs.declared.TenthVolts.{TenthVolts}
use Rattle.units.specs.declared.HundredthVolts.{HundredthVolts}
use Rattle.units.specs.Units.{in_series, raw_amps}
use Rattle.buffers.specs.Words.{word_bytes}
use Rattle.messages.specs.Table.{EIM, EVM, ECP, ERM, ECR, ECS, ESM, EST, EDM, EEM}
use Rattle.frames.specs.declared.Frame.{Frame}
use Rattle.frames.specs.Frame.{frame_of}
use Rattle.settings.specs.declared.Settings.{Settings}
use Rattle.readings.specs.declared.Readings.{Readings}
use Rattle.readings.specs.Readings.{raw_of}
use Rattle.cells.specs.declared.Cells.{Cells}
use Rattle.cells.specs.Sent.{temperature_byte, index_byte}
use Rattle.cells.specs.Figures.{cell_count, highest_voltage, highest_voltage_index, lowest_voltage}
use Rattle.cells.specs.Figures.{highest_temperature, highest_temperature_index, lowest_temperature, lowest_temperature_index}
use Rattle.session_states.specs.declared.phases.Phase.{Phase}
use Rattle.session_states.specs.declared.phases.Phase.TheVariants.{Drive, Rest, Hold}

-- AA or 00
abbrev pub mark_of : Bool → ℕ
mark_of on = cond on 0xaa 0x00

-- EIM each 5 (maximum pack voltage, AA); one EIM 00
unfoldable pub eim_of : Settings → ℕ → Bool → Frame
eim_of x station on =
    frame_of EIM station x.own (word_bytes x.limits.pack.0 ++ (mark_of on ∷ 0 ∷ 0 ∷ 0 ∷ 0 ∷ 0 ∷ []))

-- EVM 45 50 53, 00 (Unverified) or AA, capacity, pack voltage
unfoldable pub evm_of : Settings → ℕ → Readings → Bool → Frame
evm_of x station r verified =
    frame_of EVM station x.own
    (0x45 ∷ 0x50 ∷ 0x53 ∷ mark_of verified ∷ (word_bytes r.capacity ++ word_bytes r.pack.0))

-- ECP settings 2, 3, 4, 5
unfoldable pub ecp_of : Settings → ℕ → Frame
ecp_of x station =
    frame_of ECP station x.own
    (word_bytes x.limits.cell.0
    ++ (word_bytes x.limits.current.0
    ++ (word_bytes x.limits.pack.0 ++ word_bytes x.limits.temperature.0)))

-- ERM AA or 00
unfoldable pub erm_of : Settings → ℕ → Bool → Frame
erm_of x station accepted = frame_of ERM station x.own (mark_of accepted ∷ 0 ∷ 0 ∷ 0 ∷ 0 ∷ 0 ∷ 0 ∷ 0 ∷ [])

-- 3.55 V a cell
abbrev pub hold_cell : HundredthVolts
hold_cell = record { 0 = 355 }

-- Hold voltage is the smaller of 355 x cells / 10, rounded down, and maximum pack voltage
unfoldable pub hold_voltage : Settings → Cells → TenthVolts
hold_voltage x c = in_series hold_cell (cell_count c.volts) x.limits.pack

-- ECR voltage, raw current, mode
unfoldable pub ecr_frame : Settings → ℕ → ℕ → ℕ → ℕ → Frame
ecr_frame x station v i mode =
    frame_of ECR station x.own (word_bytes v ++ (word_bytes i ++ (mode ∷ 0 ∷ 0 ∷ 0 ∷ [])))

-- mode 02 current, voltage 0; 01 voltage, raw current 4000. Drive asks R, Rest 0 A
unfoldable pub ecr_of : Settings → ℕ → Cells → Phase → Frame
ecr_of x station c (Drive request cycle time) = ecr_frame x station 0 (raw_amps request).0 0x02
ecr_of x station c (Rest request cycle time) = ecr_frame x station 0 4000 0x02
ecr_of x station c (Hold time) = ecr_frame x station (hold_voltage x c).0 4000 0x01

-- ECS pack voltage, raw current, highest cell voltage, SOC
unfoldable pub ecs_of : Settings → ℕ → Readings → Cells → Frame
ecs_of x station r c =
    frame_of ECS station x.own
    (word_bytes r.pack.0
    ++ (word_bytes (raw_of r.current) ++ (word_bytes (highest_voltage c.volts).0 ++ (r.soc ∷ 0 ∷ []))))

-- ESM highest voltage index, highest temperature and index, lowest and index, 01
unfoldable pub esm_of : Settings → ℕ → Cells → Frame
esm_of x station c =
    frame_of ESM station x.own
    (index_byte (highest_voltage_index c.volts)
    ∷ temperature_byte (highest_temperature c.heat).0
    ∷ index_byte (highest_temperature_index c.heat)
    ∷ temperature_byte (lowest_temperature c.heat).0
    ∷ index_byte (lowest_temperature_index c.heat)
    ∷ 0x01
    ∷ 0
    ∷ 0
    ∷ [])

-- EST bytes 1 and 2, and byte 3 AA if acknowledged, else 00
unfoldable pub est_frame : Settings → ℕ → ℕ → ℕ → Bool → Frame
est_frame x station first second acknowledged =
    frame_of EST station x.own (first ∷ second ∷ mark_of acknowledged ∷ 0 ∷ 0 ∷ 0 ∷ 0 ∷ 0 ∷ [])

-- EDM SOC, lowest and highest cell voltage, lowest and highest temperature
unfoldable pub edm_of : Settings → ℕ → Readings → Cells → Frame
edm_of x station r c =
    frame_of EDM station x.own
    (r.soc
    ∷ (word_bytes (lowest_voltage c.volts).0
    ++ (word_bytes (highest_voltage c.volts).0
    ++ (temperature_byte (lowest_temperature c.heat).0
    ∷ temperature_byte (highest_temperature c.heat).0
    ∷ 0
    ∷ []))))

-- EEM 10 00 00
unfoldable pub eem_of : Settings → ℕ → Frame
eem_of x station = frame_of EEM station x.own (0x10 ∷ 0x00 ∷ 0x00 ∷ 0 ∷ 0 ∷ 0 ∷ 0 ∷ 0 ∷ [])
