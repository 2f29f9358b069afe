-- Each named number is the paper's. Assumes nothing.
use mathlib.Core.Path.{refl}
use Rattle.demands.specs.PaperNumbers.{PaperNumbers}

pub paper_numbers : PaperNumbers
paper_numbers =
    record {
      the_rows = refl;
      broadcast_240 = refl;
      data_8 = refl;
      address_253 = refl;
      cell_voltage_200 = refl;
      cell_voltage_500 = refl;
      current_60 = refl;
      current_4000 = refl;
      pack_1 = refl;
      pack_65535 = refl;
      temperature_255 = refl;
      stations_1 = refl;
      stations_4 = refl;
      voltage_1000 = refl;
      sent_255 = refl;
      group_4 = refl;
      group_8 = refl;
      hold_355 = refl;
      record_13 = refl;
      frames_9 = refl;
      room_117 = refl;
      cells_255 = refl;
      waiting_4 = refl;
      each_30 = refl;
      silence_200 = refl;
      closing_600 = refl;
      longest_801 = refl;
      closing_601 = refl;
      ecp_5 = refl;
      drive_18000 = refl;
      rest_6000 = refl;
      hold_18000 = refl;
      request_60 = refl;
      drives_6 = refl;
    }
