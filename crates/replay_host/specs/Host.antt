-- What the host keeps from call to call, and what each call makes of it and prints (docs/REPLAY.md, "Output").
use Rattle.std.specs.Prelude.{ℕ, ◌≡◌, Option, Some, None, Result, Ok, Err, List, [], ◌++◌, take}
use Rattle.numbers.specs.declared.Refusal.{Refusal}
use Rattle.numbers.specs.Numbers.{number_of}
use Rattle.settings.specs.Write.{Written, written_of}
use Rattle.controller.specs.declared.Controller.{Controller}
use Rattle.controller.specs.Start.{start_of}
use Rattle.controller.specs.Frame.{Answer, frame_to}
use Rattle.replay_print.specs.declared.standings.Standing.{Standing}
use Rattle.replay_print.specs.declared.standings.Standing.TheVariants.{Idle}
use Rattle.replay_print.specs.Out.{Prints}
use Rattle.replay_print.specs.Answers.{settings_line, frame_line, write_line, no_controller_line, unreadable_line}
use Rattle.replay_print.specs.Standings.{standing_of, changed_text}
use Rattle.replay_host.specs.declared.held.Host.{Host}
use Rattle.replay_calls.specs.Calls.{buffer_written}

-- what is kept, but for the output: the controller in use, once there is one, and the ticks that it has accepted
pub record Keeps : Type 0 where
  pub held : Option Controller
  pub accepted : ℕ

-- at the start: no controller
unfoldable pub start_keeps : Keeps
start_keeps = record { held = None; accepted = 0 }

-- what a call comes to: what is kept then, and the text that is printed
pub record Outcome : Type 0 where
  pub kept : Keeps
  pub text : List ℕ

-- what a host of the code keeps, but for the output
abbrev pub keeps_of : {W : Type 0} → Host W → Keeps
keeps_of h = record { held = h.held; accepted = h.accepted }

-- the promise of a call: its outcome, and nothing else printed
pub record Comes {W : Type 0} (old new : Host W) (x : Outcome) : Type 0 where
  pub kept : keeps_of new ≡ x.kept
  pub prints : Prints old.out new.out x.text

-- nothing but a text
abbrev pub only : List ℕ → Keeps → Outcome
only text x = record { kept = x; text = text }

-- a text before all else
abbrev pub first : List ℕ → Outcome → Outcome
first text x = record { kept = x.kept; text = text ++ x.text }

-- the standing of a controller's session
unfoldable pub standing_in : Controller → Standing
standing_in c = standing_of c.session.state c.session.station

-- and of what is held: Idle before there is a controller
unfoldable pub standing_held : Option Controller → Standing
standing_held None = Idle
standing_held (Some c) = standing_in c

-- the standing, where it is not what it was before
abbrev pub standing_done : Standing → Keeps → Outcome
standing_done before x = only (changed_text (standing_held x.held) before) x

-- a controller that a call gave, after so many accepted ticks: its standing is printed where the call has changed it
unfoldable pub entered : Option Controller → Controller → ℕ → Outcome
entered before c accepted =
    record {
      kept = record { held = Some c; accepted = accepted };
      text = changed_text (standing_in c) (standing_held before);
    }

-- a settings record: a fresh controller, whose next tick is the first, or the one in use stays
unfoldable pub start_done : Keeps → Result Controller Refusal → Outcome
start_done x (Ok c) = first (settings_line 0) (entered x.held c 0)
start_done x (Err refusal) = only (settings_line (number_of refusal)) x

unfoldable pub settings_done : List ℕ → Keeps → Outcome
settings_done bytes x = start_done x (start_of bytes)

-- a frame that was answered
unfoldable pub answer_done : Keeps → Answer → Outcome
answer_done x a = first (frame_line a.number) (entered x.held a.controller x.accepted)

-- a received frame, for what is held
unfoldable pub frame_for : Option Controller → ℕ → List ℕ → Keeps → Outcome
frame_for None id bytes x = only no_controller_line x
frame_for (Some c) id bytes x = answer_done x (frame_to c id bytes)

unfoldable pub frame_done : ℕ → List ℕ → Keeps → Outcome
frame_done id bytes x = frame_for x.held id bytes x

-- a write that was answered, with the buffer after it
unfoldable pub written_done : Keeps → Written → List ℕ → Outcome
written_done x w buf = only (write_line w.number w.bytes buf) x

-- a write into the first n bytes of a buffer, for what is held
unfoldable pub write_for : Option Controller → ℕ → List ℕ → Keeps → Outcome
write_for None n old x = only no_controller_line x
write_for (Some c) n old x = written_done x (written_of c.settings (take n old)) (buffer_written c.settings n old)

unfoldable pub write_done : ℕ → List ℕ → Keeps → Outcome
write_done n old x = write_for x.held n old x

-- and the buffer after it
unfoldable pub write_buffer : ℕ → List ℕ → Option Controller → List ℕ
write_buffer n old None = old
write_buffer n old (Some c) = buffer_written c.settings n old

-- that there is no controller is printed where there is none
unfoldable pub absent_for : Option Controller → Keeps → Outcome
absent_for None x = only no_controller_line x
absent_for (Some c) x = only [] x

unfoldable pub absent_done : Keeps → Outcome
absent_done x = absent_for x.held x

-- a line that cannot be read
unfoldable pub unreadable_done : ℕ → Keeps → Outcome
unreadable_done number x = only (unreadable_line number) x
