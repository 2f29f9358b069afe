-- The numbers that the paper sets and that stand behind a name in the definitions (01, "Identifier and message
-- numbers", "Settings record", "Readings", "Numbers returned", "Session by tick", "Broadcasts and cell answers"), each
-- with the paper's value: none of them can move in a definition and its code together unseen. For `the_papers_numbers`.
use Rattle.std.specs.Prelude.{ℕ, ◌≡◌, [], ◌∷◌}
use Rattle.messages.specs.declared.table.Row.{Row}
use Rattle.messages.specs.Table.{sent_length, rows}
use Rattle.messages.specs.Identifier.{first_broadcast}
use Rattle.frames.specs.Frame.{record_size}
use Rattle.settings.specs.Range.{last_address, least_cell_voltage, most_cell_voltage, least_current, most_current, least_pack, most_pack, most_temperature, least_stations, most_stations}
use Rattle.cells.specs.Tables.{most_cells, most_voltage}
use Rattle.cells.specs.Sent.{most_sent}
use Rattle.cells.specs.Groups.{voltages_per_group, temperatures_per_group}
use Rattle.broadcasts.specs.Beat.{broadcast_each}
use Rattle.queries.specs.Waiting.{most_waiting}
use Rattle.session_states.specs.Limits.{silence_limit, closing_limit, first_ecp, drive_limit, rest_limit, hold_limit, least_request, most_drives}
use Rattle.session_frames.specs.Layouts.{hold_cell}
use Rattle.refusals.specs.Tick.{most_frames, tick_room}
use Rattle.demands.specs.Silent.{longest}
use Rattle.demands.specs.Closing.{longest_closing}

-- a row of the message table: PF, priority, length, PS
abbrev pub row : ℕ → ℕ → ℕ → ℕ → Row
row pf priority length ps = record { 0 = pf; 1 = priority; 2 = length; 3 = ps }

pub record PaperNumbers : Type 0 where
  -- "Station to us": CIM, CVM, CMP, CRM, CCS, CST, CEM; "Any node to us": ACV, ACT; "Us to station": EIM, EVM, ECP,
  -- ERM, ECR, ECS, ESM, EST, EDM, EEM; "Broadcast": PS, CVS, CTS, FWS, EC; "4 voltages at PF 31 hex up or 8
  -- temperatures at 81 up, priority 7"
  pub the_rows : rows
      ≡ row 0x26 0 3 0 ∷ row 0x01 0 1 0 ∷ row 0x08 0 8 0 ∷ row 0x0a 0 1 0 ∷ row 0x12 0 5 0 ∷ row 0x16 0 3 0
      ∷ row 0x1f 0 3 0
      ∷ row 0x1b 0 8 0 ∷ row 0x1c 0 8 0
      ∷ row 0x27 6 8 0 ∷ row 0x02 7 8 0 ∷ row 0x06 7 8 0 ∷ row 0x09 4 8 0 ∷ row 0x10 6 8 0 ∷ row 0x11 7 8 0
      ∷ row 0x13 6 8 0 ∷ row 0x15 4 8 0 ∷ row 0x1a 6 8 0 ∷ row 0x1e 2 8 0
      ∷ row 0xfa 7 8 0x20 ∷ row 0xfa 7 8 0x21 ∷ row 0xfa 7 8 0x22 ∷ row 0xfa 7 8 0x23 ∷ row 0xfa 7 8 0x27
      ∷ row 0x31 7 8 0 ∷ row 0x81 7 8 0 ∷ []
  -- "240 to 255 is broadcast"; "every frame we send has 8 data bytes"
  pub broadcast_240 : first_broadcast ≡ 240
  pub data_8 : sent_length ≡ 8
  -- own address "0 to 253"; maximum cell voltage "200 to 500"; maximum current "60 to 4000"; maximum pack voltage "1 to
  -- 65535"; maximum cell temperature "0 to 255"; stations "1 to 4"
  pub address_253 : last_address ≡ 253
  pub cell_voltage_200 : least_cell_voltage ≡ 200
  pub cell_voltage_500 : most_cell_voltage ≡ 500
  pub current_60 : least_current ≡ 60
  pub current_4000 : most_current ≡ 4000
  pub pack_1 : least_pack ≡ 1
  pub pack_65535 : most_pack ≡ 65535
  pub temperature_255 : most_temperature ≡ 255
  pub stations_1 : least_stations ≡ 1
  pub stations_4 : most_stations ≡ 4
  -- "voltage 0 to 1000 hundredths"; 205 F is sent as 255; "4 voltages", "8 temperatures" a group; 3.55 V a cell in Hold
  pub voltage_1000 : most_voltage ≡ 1000
  pub sent_255 : most_sent ≡ 255
  pub group_4 : voltages_per_group ≡ 4
  pub group_8 : temperatures_per_group ≡ 8
  pub hold_355 : hold_cell.0 ≡ 355
  -- "in the buffer a frame is 13 bytes"; "buffer under 117 bytes (nine frames)"
  pub record_13 : record_size ≡ 13
  pub frames_9 : most_frames ≡ 9
  pub room_117 : tick_room ≡ 117
  -- "hold none or over 255"; "four waiting"; "accepted ticks 0, 30, 60 and on"
  pub cells_255 : most_cells ≡ 255
  pub waiting_4 : most_waiting ≡ 4
  pub each_30 : broadcast_each ≡ 30
  -- "silence 200 enters Error"; "Stopping and Error end to Idle at count 600"; "within 801 accepted ticks"
  pub silence_200 : silence_limit ≡ 200
  pub closing_600 : closing_limit ≡ 600
  pub longest_801 : longest ≡ 801
  pub closing_601 : longest_closing ≡ 601
  -- "ECP at 5, 15, 25 and so on"
  pub ecp_5 : first_ecp ≡ 5
  -- Drive "up to 18000 ticks"; Rest "6000 ticks"; Hold "18000 ticks"; "where R is under 60 or six Drives are done"
  pub drive_18000 : drive_limit ≡ 18000
  pub rest_6000 : rest_limit ≡ 6000
  pub hold_18000 : hold_limit ≡ 18000
  pub request_60 : least_request ≡ 60
  pub drives_6 : most_drives ≡ 6
