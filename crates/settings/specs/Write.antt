-- Settings written into a lent buffer (01, "Numbers returned", 2 and 17): the number and the bytes written, and all
-- that the buffer then holds.
use Rattle.std.specs.Prelude.{ℕ, ◌≡◌, cond, List, ◌++◌, eqb, ltb, length, drop, Result, Ok, Err}
use Rattle.numbers.specs.declared.Refusal.{Refusal}
use Rattle.numbers.specs.Numbers.{number_of}
use Rattle.settings.specs.declared.Settings.{Settings}
use Rattle.settings.specs.Range.{in_range}
use Rattle.settings.specs.Record.{record_of}

-- what a write gives: the number, and the bytes written
pub record Written : Type 0 where
  pub number : ℕ
  pub bytes : ℕ

-- a write's answer: 0 and its bytes where it is taken, and else the refusal's number and no bytes
abbrev pub written : Result ℕ Refusal → Written
written (Ok bytes) = record { number = 0; bytes = bytes }
written (Err refusal) = record { number = number_of refusal; bytes = 0 }

-- first 2, where a value is outside its range (no station or over 4 is 2 here); then 17, where the buffer is shorter
-- than the record
unfoldable pub write_number : Settings → List ℕ → ℕ
write_number x old = cond (in_range x) (cond (ltb (length old) (length (record_of x))) 17 0) 2

-- a write also gives the bytes written, 0 if refused
unfoldable pub written_of : Settings → List ℕ → Written
written_of x old =
    record { number = write_number x old; bytes = cond (eqb (write_number x old) 0) (length (record_of x)) 0 }

-- the record at the buffer's start and the rest of the buffer unchanged; the whole buffer unchanged where refused
unfoldable pub buffer_after : Settings → List ℕ → List ℕ
buffer_after x old = cond (eqb (write_number x old) 0) (record_of x ++ drop (length (record_of x)) old) old

-- a write's whole outcome: its answer, and the later contents of the buffer
pub record Wrote (x : Settings) (old new : List ℕ) (r : Written) : Type 0 where
  pub answer : r ≡ written_of x old
  pub later : new ≡ buffer_after x old
