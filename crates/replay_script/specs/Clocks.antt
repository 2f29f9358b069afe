-- The clock of a candump log (docs/REPLAY.md, "Input"): SECONDS has 1 to 12 digits, MICROS six; the first such line of
-- a run sets time zero; before a later one the ticks that are due by then are run.
use Prim.Native.Char.{code}
use Rattle.std.specs.Prelude.{ℕ, ◌+◌, ◌*◌, ◌-◌, ◌/◌, Bool, cond, ◌&&◌, List, ltb, leb, eqb, Option, None, Some}
use Rattle.replay_text.specs.declared.digits.Digits.{Digits}
use Rattle.replay_text.specs.declared.words.Word.{Word}
use Rattle.replay_text.specs.Chars.{byte_at, next_place}
use Rattle.replay_text.specs.Digits.{digits_at}
use Rattle.replay_script.specs.declared.clock.Clock.{Clock}

-- the digits of the seconds, after a word's first character, and those of the microseconds, after the next
abbrev pub seconds_in : List ℕ → Word → Digits
seconds_in text w = digits_at 10 text (next_place w.from)

abbrev pub micros_in : List ℕ → Word → Digits
micros_in text w = digits_at 10 text (next_place (seconds_in text w).at)

-- the word is (SECONDS.MICROS), with so many digits
unfoldable pub is_time : List ℕ → Word → Digits → Digits → Bool
is_time text w seconds micros =
    eqb (byte_at text w.from) (code "(")
    && (eqb (byte_at text seconds.at) (code ".")
    && (eqb (byte_at text micros.at) (code ")")
    && (eqb (next_place micros.at) w.to
    && ((leb 1 seconds.count && leb seconds.count 12) && eqb micros.count 6))))

-- the time of a line in microseconds
unfoldable pub time_in : List ℕ → Word → Option ℕ
time_in text w =
    cond (is_time text w (seconds_in text w) (micros_in text w))
    (Some ((seconds_in text w).value * 1_000_000 + (micros_in text w).value))
    None

-- at the start no line has set time zero
abbrev pub unset_clock : Clock
unset_clock = record { zero = None; ran = 0 }

-- the ticks due: as many as there are whole 50 ms from time zero, less those that such lines have already run; none
-- where the time lies before zero, or where more have been run
abbrev pub ticks_due : ℕ → ℕ → ℕ → ℕ
ticks_due start ran now = (now - start) / 50_000 - ran

-- as many ticks as a day has
abbrev pub day_ticks : ℕ
day_ticks = 1_728_000

-- the clock with time zero set, and so many ticks run since
abbrev pub set_clock : ℕ → ℕ → Clock
set_clock start ran = record { zero = Some start; ran = ran }

-- the ticks that a line at a time has run, and the clock after them: the first line sets time zero; a later one has
-- those run that are due, unless they are more than a day's
unfoldable pub due_from : Option ℕ → ℕ → ℕ → Option (ℕ × Clock)
due_from None ran now = Some (0, set_clock now ran)
due_from (Some start) ran now =
    cond (ltb day_ticks (ticks_due start ran now)) None
    (Some (ticks_due start ran now, set_clock start (ran + ticks_due start ran now)))

unfoldable pub due_of : Clock → ℕ → Option (ℕ × Clock)
due_of c now = due_from c.zero c.ran now
