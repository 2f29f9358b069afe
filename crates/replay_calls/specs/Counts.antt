-- Numbers that count up: of lines, and of accepted ticks.
use Rattle.std.specs.Prelude.{ℕ, ◌+◌, cond, eqb, ltb}

-- the next number; the last of 64 bits stays
unfoldable pub next_number : ℕ → ℕ
next_number n = cond (ltb n 0xffff_ffff_ffff_ffff) (n + 1) n

-- the ticks accepted after one that was answered a number: only one that is accepted counts
unfoldable pub count_after : ℕ → ℕ → ℕ
count_after number count = cond (eqb number 0) (next_number count) count
