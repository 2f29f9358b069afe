-- What a tick answers (01, "Broadcasts and cell answers"): "the oldest waiting query sends one group, 4 voltages at PF
-- 31 hex up or 8 temperatures at 81 up, priority 7, to its source".
use Rattle.std.specs.Prelude.{ℕ, ◌+◌, ◌*◌, ◌≡◌, Bool, cond, List, [], ◌∷◌, leb, ℤ, length, Option}
use Rattle.std.specs.Option.{option_to_list}
use Rattle.messages.specs.declared.table.Row.{Row}
use Rattle.messages.specs.Table.{pf_of, priority_of, length_of, broadcast_ps, VOLTAGES, TEMPERATURES}
use Rattle.frames.specs.declared.Frame.{Frame}
use Rattle.frames.specs.Frame.{frame_of}
use Rattle.cells.specs.Groups.{voltages_per_group, temperatures_per_group, voltage_group, temperature_group}
use Rattle.messages.specs.declared.received.Kind.{Kind}
use Rattle.messages.specs.declared.received.Kind.TheVariants.{Voltages, Temperatures}
use Rattle.queries.specs.declared.Query.{Query}
use Rattle.queries.specs.declared.Queries.{Queries}
use Rattle.queries.specs.Waiting.{waiting, queries_of}

abbrev pub per_group : Kind → ℕ
per_group Voltages = voltages_per_group
per_group Temperatures = temperatures_per_group

-- the table's row of the first group
abbrev pub first_row : Kind → Row
first_row Voltages = VOLTAGES
first_row Temperatures = TEMPERATURES

-- and of group g, from 0: its PF is g more
abbrev pub row_after : Row → ℕ → Row
row_after row group =
    record { 0 = pf_of row + group; 1 = priority_of row; 2 = length_of row; 3 = broadcast_ps row }

abbrev pub group_row : Kind → ℕ → Row
group_row kind group = row_after (first_row kind) group

unfoldable pub group_bytes : Kind → List ℕ → List ℤ → ℕ → List ℕ
group_bytes Voltages v t group = voltage_group v group
group_bytes Temperatures v t group = temperature_group t group

-- the frame of the group that the query is at, to its source
unfoldable pub group_frame : ℕ → List ℕ → List ℤ → Query → Frame
group_frame own v t q = frame_of (group_row q.kind q.group) q.source own (group_bytes q.kind v t q.group)

-- how many cells the query's table holds
abbrev pub table_length : Kind → List ℕ → List ℤ → ℕ
table_length Voltages v t = length v
table_length Temperatures v t = length t

-- "its next group begins past the table"
unfoldable pub past_end : List ℕ → List ℤ → Query → Bool
past_end v t q = leb (table_length q.kind v t) (q.group * per_group q.kind)

-- it is at "its last group": the one after it begins past the table
unfoldable pub at_last : List ℕ → List ℤ → Query → Bool
at_last v t q = leb (table_length q.kind v t) ((q.group + 1) * per_group q.kind)

abbrev pub next_group : Query → Query
next_group q = record { source = q.source; kind = q.kind; group = q.group + 1 }

-- what the tick sends: none where none waits, and none where the next group begins past the table
unfoldable pub answer_frames : ℕ → List ℕ → List ℤ → List Query → List Frame
answer_frames own v t [] = []
answer_frames own v t (q ∷ qs) = cond (past_end v t q) [] (group_frame own v t q ∷ [])

-- who waits then: the oldest leaves where its next group begins past the table, "it leaves with its last group", and
-- else it stays the oldest
unfoldable pub waiting_after : List ℕ → List ℤ → List Query → List Query
waiting_after v t [] = []
waiting_after v t (q ∷ qs) = cond (past_end v t q) qs (cond (at_last v t q) qs (next_group q ∷ qs))

-- a tick's whole outcome: who waits then, and the frame where one is due
pub record Answers (q : Queries) (own : ℕ) (v : List ℕ) (t : List ℤ) (next : Queries) (due : Option Frame) : Type 0 where
  pub later : next ≡ queries_of (waiting_after v t (waiting q))
  pub frames : option_to_list due ≡ answer_frames own v t (waiting q)
