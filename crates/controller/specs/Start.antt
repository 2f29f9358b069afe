-- A settings record makes a controller (01, "What the box does").
use Rattle.std.specs.Prelude.{ℕ, ◌≡◌, List, [], Result, Ok, Err}
use Rattle.numbers.specs.declared.Refusal.{Refusal}
use Rattle.numbers.specs.Numbers.{answered}
use Rattle.settings.specs.declared.Settings.{Settings}
use Rattle.settings.specs.Read.{read_of, record_number}
use Rattle.session.specs.Session.{idle_session}
use Rattle.broadcasts.specs.Beat.{first_beat}
use Rattle.queries.specs.Waiting.{queries_of}
use Rattle.controller.specs.declared.Controller.{Controller}

-- a fresh controller: Idle, nothing waiting, next tick 0
unfoldable pub fresh_of : Settings → Controller
fresh_of x = record { settings = x; session = idle_session; beat = first_beat; queries = queries_of [] }

-- a refused record yields no controller
unfoldable pub start_with : Result Settings Refusal → Result Controller Refusal
start_with (Ok x) = Ok (fresh_of x)
start_with (Err refusal) = Err refusal

unfoldable pub start_of : List ℕ → Result Controller Refusal
start_of s = start_with (read_of s)

-- a reading's whole outcome: its number, and the controller or none. It is lent no buffer that it could change
abbrev pub ReadIs : List ℕ → Result Controller Refusal → Type 0
ReadIs s a = (answered a ≡ record_number s) × (a ≡ start_of s)
