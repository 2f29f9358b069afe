-- The limits of a session (01, "Session by tick"), each by its name.
use Rattle.std.specs.Prelude.{ℕ}

-- "silence 200 enters Error"
abbrev pub silence_limit : ℕ
silence_limit = 200

-- "Stopping and Error end to Idle at count 600"
abbrev pub closing_limit : ℕ
closing_limit = 600

-- Parameters: "ECP at 5, 15, 25 and so on"
abbrev pub first_ecp : ℕ
first_ecp = 5

-- "Drive asks R for up to 18000 ticks"
abbrev pub drive_limit : ℕ
drive_limit = 18000

-- Rest: "0 A for 6000 ticks"
abbrev pub rest_limit : ℕ
rest_limit = 6000

-- Hold: "constant voltage for 18000 ticks"
abbrev pub hold_limit : ℕ
hold_limit = 18000

-- "Where R is under 60": in tenths of an ampere
abbrev pub least_request : ℕ
least_request = 60

-- "six Drives"
abbrev pub most_drives : ℕ
most_drives = 6
