-- Ticks, one after the other: what each makes of what is kept and of the buffer, and what it prints.
use Rattle.std.specs.Prelude.{ℕ, zero, suc, cond, Option, Some, None, Result, Ok, Err, List, [], eqb, ℤ, take}
use Rattle.numbers.specs.declared.Refusal.{Refusal}
use Rattle.controller.specs.declared.Controller.{Controller}
use Rattle.controller.specs.Tick.{Ticked}
use Rattle.replay_script.specs.declared.lent.Lent.{Lent}
use Rattle.replay_print.specs.Answers.{tick_line}
use Rattle.replay_print.specs.Frames.{sent_text}
use Rattle.replay_host.specs.declared.ticks.Loan.{Loan}
use Rattle.replay_calls.specs.Calls.{tick_answer, buffer_ticked}
use Rattle.replay_calls.specs.Counts.{count_after}
use Rattle.replay_host.specs.Host.{Keeps, Outcome, only, first, entered}

-- the same loan with another buffer
abbrev pub lending : Loan → List ℕ → Loan
lending l buffer = record l { buffer = buffer }

-- the bytes that an answer gives: none where it is a refusal
abbrev pub bytes_of : Result ℕ Refusal → ℕ
bytes_of (Ok bytes) = bytes
bytes_of (Err refusal) = 0

-- what a tick prints: an accepted one its frames, which are the first n bytes of the buffer, with the number of ticks
-- accepted before it for their time; a refused one its number
unfoldable pub tick_text : ℕ → ℕ → ℕ → List ℕ → List ℕ
tick_text number n count buf = cond (eqb number 0) (sent_text count (take n buf)) (tick_line number)

-- a tick that was answered, with the buffer after it
unfoldable pub ticked_done : Keeps → Ticked → List ℕ → Outcome
ticked_done x k buf =
    first (tick_text k.number k.bytes x.accepted buf)
    (entered x.held k.controller (count_after k.number x.accepted))

module _ (l : Lent) (v : List ℕ) (t : List ℤ) where
  -- one tick, for what is held; none where there is no controller
  unfoldable pub tick_for : Option Controller → List ℕ → Keeps → Outcome
  tick_for None old x = only [] x
  tick_for (Some c) old x = ticked_done x (tick_answer c l v t old) (buffer_ticked c l v t old)

  unfoldable pub tick_done : List ℕ → Keeps → Outcome
  tick_done old x = tick_for x.held old x

  -- and the buffer after it
  unfoldable pub tick_buffer : List ℕ → Option Controller → List ℕ
  tick_buffer old None = old
  tick_buffer old (Some c) = buffer_ticked c l v t old

  -- so many ticks
  unfoldable pub ticks_done : ℕ → List ℕ → Keeps → Outcome
  ticks_done zero old x = only [] x
  ticks_done (suc n) old x =
      first (tick_done old x).text (ticks_done n (tick_buffer old x.held) (tick_done old x).kept)

  -- and the buffer after them
  unfoldable pub ticks_buffer : ℕ → List ℕ → Keeps → List ℕ
  ticks_buffer zero old x = old
  ticks_buffer (suc n) old x = ticks_buffer n (tick_buffer old x.held) (tick_done old x).kept
