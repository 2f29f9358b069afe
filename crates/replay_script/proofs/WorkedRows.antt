-- Lines of docs/REPLAY.md's table, and what each asks for: the definitions run on them. Assumes nothing.
use Prim.Native.String.{String}
use mathlib.Core.Path.{◌≡◌, refl}
use mathlib.Core.List.{[], ◌∷◌}
use Rattle.std.specs.Prelude.{Option, None, Some}
use lib.IntN.{negsuc}
use lib.ListN.{length}
use Rattle.replay_text.specs.Chars.{leading, past_all, laid_first}
use Rattle.replay_text.specs.Words.{is_gap, in_word, next_word, is_end, is_word}
use Rattle.replay_text.specs.Digits.{digit_of, with_digit, capped_after, digits_at}
use Rattle.replay_text.specs.Numbers.{past_sign, number_of, number_in, up_to, of_16_bits, read_as, only_as}
use Rattle.replay_text.specs.Hex.{pairs_of, whole_pairs, bytes_in, hex_in}
use Rattle.replay_script.specs.declared.Asked.{Asked}
use Rattle.replay_script.specs.declared.Asked.TheVariants as asked
use Rattle.replay_script.specs.Clocks.{is_time, time_in, due_from, due_of}
use Rattle.replay_script.specs.Records.{closed_in, record_of, record_at}
use Rattle.replay_script.specs.Frames.{identifier_of, data_of, received_of, frame_of, frame_at_of, logged_of, data_bytes}
use Rattle.replay_script.specs.Ticks.{ticks_in, readings_in}
use Rattle.replay_script.specs.Tables.{entries_from}
use Rattle.replay_script.specs.Lines.{spelled, kind_in, asks_of, bytes_of, is_ignored, asked_in, bytes_after}

-- a text that is one line
abbrev asks : String → Option Asked
asks s = asked_in (spelled s) 0 (length (spelled s))

rows :
    (asks "tick" ≡ Some (asked.Ticks 1))
    × (asks " tick +3\r" ≡ Some (asked.Ticks 3))
    × (asks "tick 3 4" ≡ None)
    × (asks "tick 10000001" ≡ None)
    × (asks "" ≡ Some asked.Nothing)
    × (asks "# a note" ≡ Some asked.Nothing)
    × (asks "buffer -0" ≡ Some (asked.Buffer 0))
    × (asks "buffer 4097" ≡ None)
    × (asks "write 4096" ≡ Some (asked.Write 4096))
    × (asks "settings -" ≡ Some (asked.Settings 0))
    × (asks "settings 01fF" ≡ Some (asked.Settings 2))
    × (asks "settings 01F" ≡ None)
    × (asks "voltages" ≡ Some (asked.Voltages 0))
    × (asks "voltages 330 65535" ≡ Some (asked.Voltages 2))
    × (asks "voltages 65536" ≡ None)
    × (asks "temperatures -32768 70" ≡ Some (asked.Temperatures 2))
    × (asks "18EEFF01#0102" ≡ Some (asked.Frame 0x18eeff01 2))
    × (asks "123456789#" ≡ None)
    × (asks "1#0" ≡ None)
    × (asks "(12.000050) can0 1#aa" ≡ Some (asked.Logged 12_000_050 1 1))
    × (asks "(12.50) can0 1#aa" ≡ None)
    × (asks "1 2 3" ≡ None)
unfolding asked_in is_ignored kind_in asks_of is_word past_all leading is_gap in_word is_end ticks_in only_as read_as up_to
    of_16_bits next_word number_in number_of past_sign digits_at capped_after with_digit digit_of record_at record_of
    closed_in hex_in bytes_in pairs_of whole_pairs entries_from identifier_of data_of received_of frame_of frame_at_of
    logged_of time_in is_time
rows = (
  refl,
  refl,
  refl,
  refl,
  refl,
  refl,
  refl,
  refl,
  refl,
  refl,
  refl,
  refl,
  refl,
  refl,
  refl,
  refl,
  refl,
  refl,
  refl,
  refl,
  refl,
  refl,
)

-- the current is signed; the bytes of a frame stand first
readings : asks "readings 1 192 50 -5 3000 1000 0 0 0 0"
    ≡ Some
    (asked.Readings
    (record {
      one = 1;
      two = 192;
      soc = 50;
      current = negsuc 4;
      pack = record { 0 = 3000 };
      capacity = 1000;
      faults = record { active = 0; latched = 0 };
      warnings = record { active = 0; latched = 0 };
    }))
unfolding asked_in is_ignored kind_in asks_of is_word past_all leading is_gap in_word is_end readings_in only_as read_as up_to
    of_16_bits next_word number_in number_of past_sign digits_at capped_after with_digit digit_of
readings = refl

bytes : bytes_after (spelled "1#aaBB") 0 6 (0 ∷ 1 ∷ 2 ∷ []) ≡ 0xaa ∷ 0xbb ∷ 2 ∷ []
unfolding bytes_after is_ignored kind_in bytes_of is_word past_all leading is_gap in_word digits_at capped_after with_digit
    digit_of identifier_of data_bytes laid_first bytes_in pairs_of
bytes = refl

-- the first line of a log sets time zero; at 149.999 ms two ticks are due, of which one has been run; none is due
-- before zero; more than a day's are too many
clock : (due_of (record { zero = None; ran = 0 }) 7 ≡ Some (0, record { zero = Some 7; ran = 0 }))
    × (due_of (record { zero = Some 0; ran = 1 }) 149_999 ≡ Some (1, record { zero = Some 0; ran = 2 }))
    × (due_of (record { zero = Some 9; ran = 0 }) 7 ≡ Some (0, record { zero = Some 9; ran = 0 }))
    × (due_of (record { zero = Some 0; ran = 0 }) 86_400_050_000 ≡ None)
unfolding due_of due_from
clock = (refl, refl, refl, refl)
