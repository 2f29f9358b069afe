-- Lines carried out: what each makes of a run by what it asks for (docs/REPLAY.md, "Input"), and all of them in turn.
use Rattle.std.specs.Prelude.{ℕ, zero, suc, ◌+◌, ◌≡◌, cond, ◌&&◌, Option, None, Some, List, [], ◌++◌}
use Rattle.std.specs.Prelude.{ltb, ℤ, take, replicate}
use Rattle.replay_text.specs.Lines.{line_end}
use Rattle.replay_script.specs.declared.Asked.{Asked}
use Rattle.replay_script.specs.declared.Asked.TheVariants as asks
use Rattle.replay_script.specs.declared.clock.Clock.{Clock}
use Rattle.replay_script.specs.declared.lent.Lent.{Lent}
use Rattle.replay_script.specs.Clocks.{due_of, unset_clock}
use Rattle.replay_script.specs.Lent.{lent_after, first_lent, first_voltages, first_temperatures}
use Rattle.replay_script.specs.Lines.{asked_in, bytes_after, volts_after, temps_after}
use Rattle.replay_print.specs.Out.{Prints}
use Rattle.replay_host.specs.declared.held.Host.{Host}
use Rattle.replay_host.specs.declared.lines.Run.{Run}
use Rattle.replay_host.specs.Host.{Keeps, Outcome, keeps_of, Comes, only, first, start_keeps, absent_done}
use Rattle.replay_host.specs.Host.{settings_done, frame_done, write_done, write_buffer, unreadable_done}
use Rattle.replay_host.specs.Ticks.{lending, ticks_done, ticks_buffer}
use Rattle.replay_calls.specs.Counts.{next_number}

-- all that a run has from line to line, but for the output: what is kept, what ticks are lent, a log's clock, the
-- line's number, the bytes that a line gave, the two tables of cells and the buffer
pub record World : Type 0 where
  pub keeps : Keeps
  pub lent : Lent
  pub clock : Clock
  pub number : ℕ
  pub bytes : List ℕ
  pub volts : List ℕ
  pub temps : List ℤ
  pub buffer : List ℕ

-- what a line comes to, or several: what the run has then, and the text that is printed
pub record Carried : Type 0 where
  pub world : World
  pub text : List ℕ

-- what a run of the code has
abbrev pub world_of : {W : Type 0} → Run W → World
world_of r =
    record {
      keeps = keeps_of r.host;
      lent = r.loan.lent;
      clock = r.clock;
      number = r.number;
      bytes = r.bytes;
      volts = r.loan.volts;
      temps = r.loan.temps;
      buffer = r.loan.buffer;
    }

-- the same run with another host and another buffer
abbrev pub having : {W : Type 0} → Run W → Host W → List ℕ → Run W
having r host buffer = record r { host = host; loan = lending r.loan buffer }

-- at the start: no controller, what ticks are lent at first, no time zero, no line read, and nothing in the other
-- arrays
unfoldable pub start_world : World
start_world =
    record {
      keeps = start_keeps;
      lent = first_lent;
      clock = unset_clock;
      number = 0;
      bytes = replicate 2048 0;
      volts = first_voltages;
      temps = first_temperatures;
      buffer = replicate 4096 0;
    }

-- one call, then another on what is kept after it
abbrev pub and_then : Outcome → (Keeps → Outcome) → Outcome
and_then a f = first a.text (f a.kept)

-- so many ticks of a run
abbrev pub ticks_in : World → ℕ → Keeps → Outcome
ticks_in w n x = ticks_done w.lent w.volts w.temps n w.buffer x

-- and the buffer after them
abbrev pub buffer_in : World → ℕ → List ℕ
buffer_in w n = ticks_buffer w.lent w.volts w.temps n w.buffer w.keeps

-- a frame of a log, after the ticks that are due; where they are too many the line is unreadable
unfoldable pub logged_done : Option (ℕ × Clock) → ℕ → ℕ → World → Outcome
logged_done (Some d) id k w = and_then (ticks_in w d.0 w.keeps) (frame_done id (take k w.bytes))
logged_done None id k w = unreadable_done w.number w.keeps

unfoldable pub logged_buffer : Option (ℕ × Clock) → World → List ℕ
logged_buffer (Some d) w = buffer_in w d.0
logged_buffer None w = w.buffer

unfoldable pub logged_clock : Option (ℕ × Clock) → Clock → Clock
logged_clock (Some d) c = d.1
logged_clock None c = c

-- the calls that a line asks for: what is kept after them, and what is printed
unfoldable pub calls_done : Asked → World → Outcome
calls_done asks.Nothing w = only [] w.keeps
calls_done (asks.Settings n) w = settings_done (take n w.bytes) w.keeps
calls_done (asks.Readings x) w = only [] w.keeps
calls_done (asks.Voltages n) w = only [] w.keeps
calls_done (asks.Temperatures n) w = only [] w.keeps
calls_done (asks.Buffer n) w = only [] w.keeps
calls_done (asks.Ticks n) w = and_then (absent_done w.keeps) (ticks_in w n)
calls_done (asks.Frame id n) w = frame_done id (take n w.bytes) w.keeps
calls_done (asks.Logged now id n) w = logged_done (due_of w.clock now) id n w
calls_done (asks.Write n) w = write_done n w.buffer w.keeps

-- the buffer after them
unfoldable pub calls_buffer : Asked → World → List ℕ
calls_buffer asks.Nothing w = w.buffer
calls_buffer (asks.Settings n) w = w.buffer
calls_buffer (asks.Readings x) w = w.buffer
calls_buffer (asks.Voltages n) w = w.buffer
calls_buffer (asks.Temperatures n) w = w.buffer
calls_buffer (asks.Buffer n) w = w.buffer
calls_buffer (asks.Ticks n) w = buffer_in w n
calls_buffer (asks.Frame id n) w = w.buffer
calls_buffer (asks.Logged now id n) w = logged_buffer (due_of w.clock now) w
calls_buffer (asks.Write n) w = write_buffer n w.buffer w.keeps.held

-- the promise of a line's calls: what they come to, the buffer after them, and nothing else of the run changed
pub record Makes {W : Type 0} (old new : Run W) (asked : Asked) : Type 0 where
  pub comes : Comes old.host new.host (calls_done asked (world_of old))
  pub rest : new ≡ having old new.host (calls_buffer asked (world_of old))

-- a log's clock after a line: only a frame of a log moves it
unfoldable pub clock_after : Asked → Clock → Clock
clock_after asks.Nothing c = c
clock_after (asks.Settings n) c = c
clock_after (asks.Readings x) c = c
clock_after (asks.Voltages n) c = c
clock_after (asks.Temperatures n) c = c
clock_after (asks.Buffer n) c = c
clock_after (asks.Ticks n) c = c
clock_after (asks.Frame id n) c = c
clock_after (asks.Logged now id n) c = logged_clock (due_of c now) c
clock_after (asks.Write n) c = c

-- what a line asks for, carried out
unfoldable pub carried_out : Asked → World → Carried
carried_out asked w =
    record {
      world =
          record {
            keeps = (calls_done asked w).kept;
            lent = lent_after w.lent asked;
            clock = clock_after asked w.clock;
            number = w.number;
            bytes = w.bytes;
            volts = w.volts;
            temps = w.temps;
            buffer = calls_buffer asked w;
          };
      text = (calls_done asked w).text;
    }

-- a line, by what it asks for; one that cannot be read changes nothing
unfoldable pub line_of : Option Asked → World → Carried
line_of (Some asked) w = carried_out asked w
line_of None w = record { world = w; text = (unreadable_done w.number w.keeps).text }

-- the line that begins at a place, read: it is counted, and what it gives is laid into the arrays
unfoldable pub line_read : List ℕ → ℕ → World → World
line_read text at w =
    record {
      keeps = w.keeps;
      lent = w.lent;
      clock = w.clock;
      number = next_number w.number;
      bytes = bytes_after text at (line_end text at) w.bytes;
      volts = volts_after text at (line_end text at) w.volts;
      temps = temps_after text at (line_end text at) w.temps;
      buffer = w.buffer;
    }

-- and carried out
unfoldable pub line_done : List ℕ → ℕ → World → Carried
line_done text at w = line_of (asked_in text at (line_end text at)) (line_read text at w)

-- some lines, then others
abbrev pub before : Carried → Carried → Carried
before a b = record { world = b.world; text = a.text ++ b.text }

-- the lines that begin at a place or later and before `last`, one after the other, of which there are at most so many;
-- the text has 65536 characters
unfoldable pub lines_up_to : ℕ → List ℕ → ℕ → ℕ → World → Carried
lines_up_to zero text last at w = record { world = w; text = [] }
lines_up_to (suc most) text last at w =
    cond (ltb at 65536 && ltb at last)
    (before (line_done text at w)
    (lines_up_to most text last (line_end text at + 1) (line_done text at w).world))
    (record { world = w; text = [] })

-- all the lines of the text that begin before `last`
unfoldable pub lines_done : List ℕ → ℕ → World → Carried
lines_done text last w = lines_up_to 65536 text last 0 w

-- the promise: what the run has after, and nothing else printed
pub record CarriesOut {W : Type 0} (old new : Run W) (x : Carried) : Type 0 where
  pub world : world_of new ≡ x.world
  pub prints : Prints old.host.out new.host.out x.text
