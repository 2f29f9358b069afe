-- The code's counts, which never overflow: each goes back, or stays, where no test of the paper can tell. That sessions
-- with these counts run in step with the paper's, which grow for ever, is shown in `session_paper_counts`.
use Rattle.std.specs.Prelude.{ℕ, ◌+◌, cond, leb}

-- one more; from `top` on it is `back`
abbrev pub next_count : ℕ → ℕ → ℕ → ℕ
next_count top back n = cond (leb top n) back (n + 1)

-- after 5 comes 1: "each 5" and "has one gone out" are asked of it
abbrev pub next_each_five : ℕ → ℕ
next_each_five = next_count 5 1

-- after 15 comes 6: EVM at 0, ECP at 5, 15, 25 and so on, and "has an ECP gone out" are asked of it
abbrev pub next_ecp : ℕ → ℕ
next_ecp = next_count 15 6

-- it stays at its limit: whether the limit is reached is asked of it
abbrev pub next_up_to : ℕ → ℕ → ℕ
next_up_to limit = next_count limit limit
