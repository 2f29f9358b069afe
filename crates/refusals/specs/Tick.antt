-- The tests of a tick: 01, "Numbers returned", 14 to 16.
use Rattle.std.specs.Prelude.{ℕ, ◌*◌, cond, ◌&&◌, List, ltb, ℤ}
use Rattle.frames.specs.Frame.{record_size}
use Rattle.readings.specs.declared.Readings.{Readings}
use Rattle.readings.specs.Readings.{readings_in_range}
use Rattle.cells.specs.Tables.{tables_fit, cells_in_range}

-- "buffer under 117 bytes (nine frames)": three to the station, five broadcasts and one of cells, a record each
abbrev pub most_frames : ℕ
most_frames = 9

abbrev pub tick_room : ℕ
tick_room = most_frames * record_size

-- 14: tables differ in length, or hold none or over 255; 15: a reading or cell outside its range; 16: buffer under 117
-- bytes (nine frames); 0 is taken
unfoldable pub tick_number : Readings → List ℕ → List ℤ → ℕ → ℕ
tick_number r v t room =
    cond (tables_fit v t) (cond (readings_in_range r && cells_in_range v t) (cond (ltb room tick_room) 16 0) 15) 14
