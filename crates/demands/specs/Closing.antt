-- "Stopping and Error end to Idle at count 600" (01, "Session by tick"), whatever anyone sends, and "Stopping EST each
-- tick". For `closing_ends` and `est_each_tick`.
use Rattle.std.specs.Prelude.{ℕ, ◌+◌}
use Rattle.session_states.specs.Limits.{closing_limit}

-- the ticks at count 0 to 600, of which the last ends it
abbrev pub longest_closing : ℕ
longest_closing = closing_limit + 1
