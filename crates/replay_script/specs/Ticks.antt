-- The lines `tick`, `tick N`, `buffer N` and `readings ..` (docs/REPLAY.md, "Input").
use Rattle.std.specs.Prelude.{ℕ, cond, List, Option, Some, option_map, option_and_then}
use Rattle.replay_text.specs.Words.{is_end}
use Rattle.replay_text.specs.Numbers.{up_to_in, signed_in, only_in}
use Rattle.replay_script.specs.declared.Asked.{Asked}
use Rattle.replay_script.specs.declared.Asked.TheVariants.{Readings, Buffer, Ticks}

-- as many ticks as one line may ask for
abbrev pub most_ticks : ℕ
most_ticks = 10_000_000

-- one tick where the line has no more words, else so many
unfoldable pub ticks_in : List ℕ → ℕ → Option Asked
ticks_in text past = cond (is_end text past) (Some (Ticks 1)) (option_map Ticks (only_in text past most_ticks))

-- the longest buffer that a line may ask for
abbrev pub most_room : ℕ
most_room = 4096

-- the one number of a line as a buffer's length
abbrev pub length_in : List ℕ → ℕ → Option ℕ
length_in text past = only_in text past most_room

abbrev pub buffer_in : List ℕ → ℕ → Option Asked
buffer_in text past = option_map Buffer (length_in text past)

-- what comes of a number that can be read, and of the place past it
abbrev pub then : {A B : Type 0} → Option (A × ℕ) → (A → ℕ → Option B) → Option B
then o f = option_and_then (λ p. f p.0 p.1) o

-- the ten numbers of a line `readings`, in the order ST1 ST2 SOC CURRENT PACKV CAPACITY AF LF AW LW, one after the
-- other, each from where the one before it ends, the last to the end of the line: of 8 bits, but for the current, of 16
-- bits with its sign, and the pack voltage and the capacity, of 16 bits
unfoldable pub readings_in : List ℕ → ℕ → Option Asked
readings_in text past =
    then (up_to_in text past 255) (λ one at.
    then (up_to_in text at 255) (λ two at.
    then (up_to_in text at 255) (λ soc at.
    then (signed_in text at) (λ current at.
    then (up_to_in text at 65535) (λ pack at.
    then (up_to_in text at 65535) (λ capacity at.
    then (up_to_in text at 255) (λ af at.
    then (up_to_in text at 255) (λ lf at.
    then (up_to_in text at 255) (λ aw at.
    option_map
    (λ lw.
    Readings
    (record {
      one = one;
      two = two;
      soc = soc;
      current = current;
      pack = record { 0 = pack };
      capacity = capacity;
      faults = record { active = af; latched = lf };
      warnings = record { active = aw; latched = lw };
    }))
    (only_in text at 255))))))))))
