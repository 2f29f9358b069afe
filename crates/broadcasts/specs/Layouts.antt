-- The five broadcasts (01, "Broadcasts and cell answers"). Every frame has 8 data bytes, zero after its fields; words
-- are little endian.
use Rattle.std.specs.Prelude.{ℕ, ◌+◌, ◌%◌, Bool, cond, List, [], ◌∷◌, ◌++◌}
use Rattle.buffers.specs.Words.{word_bytes}
use Rattle.messages.specs.declared.table.Row.{Row}
use Rattle.messages.specs.Table.{PS, CVS, CTS, FWS, EC}
use Rattle.frames.specs.declared.Frame.{Frame}
use Rattle.frames.specs.Frame.{frame_of}
use Rattle.settings.specs.declared.Versions.{Versions}
use Rattle.readings.specs.declared.Readings.{Readings}
use Rattle.readings.specs.Readings.{bits_of}
use Rattle.cells.specs.declared.Cells.{Cells}
use Rattle.cells.specs.Sent.{temperature_byte, count_byte, index_byte}
use Rattle.cells.specs.Figures.{cell_count, average_voltage, average_temperature}
use Rattle.cells.specs.Figures.{highest_voltage, highest_voltage_index, lowest_voltage, lowest_voltage_index}
use Rattle.cells.specs.Figures.{highest_temperature, highest_temperature_index, lowest_temperature, lowest_temperature_index}
use Rattle.broadcasts.specs.declared.Broadcasts.{Broadcasts}

-- status one with 80 hex, or with it clear (status byte one is 0 to 127, so the rest of it is all of it)
abbrev pub status_byte : Bool → ℕ → ℕ
status_byte heartbeat one = cond heartbeat (one % 0x80 + 0x80) (one % 0x80)

-- a broadcast's PS stands in its row, so no target is named
abbrev pub broadcast_frame : Row → ℕ → List ℕ → Frame
broadcast_frame row own bytes = frame_of row 0 own bytes

-- PS: status one; status two; SOC; cells; current as two's complement; pack voltage
unfoldable pub ps_of : ℕ → Bool → Readings → Cells → Frame
ps_of own heartbeat r c =
    broadcast_frame PS own
    (status_byte heartbeat r.one ∷ r.two ∷ r.soc ∷ count_byte (cell_count c.volts)
    ∷ (word_bytes (bits_of r.current) ++ word_bytes r.pack.0))

-- CVS: average rounded down, highest index, highest, lowest index, lowest
unfoldable pub cvs_of : ℕ → Cells → Frame
cvs_of own c =
    broadcast_frame CVS own
    (word_bytes (average_voltage c.volts).0
    ++ (index_byte (highest_voltage_index c.volts) ∷ word_bytes (highest_voltage c.volts).0
    ++ (index_byte (lowest_voltage_index c.volts) ∷ word_bytes (lowest_voltage c.volts).0)))

-- CTS: highest index and value, lowest index and value, average of the sent bytes rounded down
unfoldable pub cts_of : ℕ → Cells → Frame
cts_of own c =
    broadcast_frame CTS own
    (index_byte (highest_temperature_index c.heat) ∷ temperature_byte (highest_temperature c.heat).0
    ∷ index_byte (lowest_temperature_index c.heat) ∷ temperature_byte (lowest_temperature c.heat).0
    ∷ temperature_byte (average_temperature c.heat).0 ∷ 0 ∷ 0 ∷ 0 ∷ [])

-- FWS: active and latched faults, active and latched warnings
unfoldable pub fws_of : ℕ → Readings → Frame
fws_of own r =
    broadcast_frame FWS own
    (r.faults.active ∷ r.faults.latched ∷ r.warnings.active ∷ r.warnings.latched ∷ 0 ∷ 0 ∷ 0 ∷ 0 ∷ [])

-- EC: versions
unfoldable pub ec_of : ℕ → Versions → Frame
ec_of own v = broadcast_frame EC own (v.first ∷ v.second ∷ v.third ∷ v.fourth ∷ v.fifth ∷ 0 ∷ 0 ∷ 0 ∷ [])

-- the five of one sending
abbrev pub broadcasts_of : ℕ → Versions → Bool → Readings → Cells → Broadcasts
broadcasts_of own versions heartbeat r c =
    record {
      ps = ps_of own heartbeat r c;
      cvs = cvs_of own c;
      cts = cts_of own c;
      fws = fws_of own r;
      ec = ec_of own versions;
    }
