-- A query that arrives (01, "Numbers returned", 12 and 13; "Checks run in numeric order within a call").
use Rattle.std.specs.Prelude.{ℕ, Bool, true, false, cond, ◌&&◌, ◌||◌, List, [], ◌∷◌, ◌++◌, eqb, leb, length, Result}
use Rattle.numbers.specs.declared.Refusal.{Refusal}
use Rattle.numbers.specs.Numbers.{answered}
use Rattle.messages.specs.declared.received.Kind.{Kind}
use Rattle.messages.specs.declared.received.Kind.TheVariants.{Voltages, Temperatures}
use Rattle.queries.specs.declared.Query.{Query}
use Rattle.queries.specs.declared.Queries.{Queries}
use Rattle.queries.specs.Waiting.{most_waiting, waiting, queries_of}

abbrev pub same_kind : Kind → Kind → Bool
same_kind Voltages Voltages = true
same_kind Voltages Temperatures = false
same_kind Temperatures Voltages = false
same_kind Temperatures Temperatures = true

abbrev pub same_asked : ℕ → Kind → Query → Bool
same_asked source kind q = eqb q.source source && same_kind q.kind kind

-- one of the queries has this source and kind
unfoldable pub some_asks : ℕ → Kind → List Query → Bool
some_asks source kind [] = false
some_asks source kind (q ∷ qs) = same_asked source kind q || some_asks source kind qs

-- 12: "same source and kind already waiting"; then 13: "four waiting"; 0 is taken
unfoldable pub ask_number : ℕ → Kind → List Query → ℕ
ask_number source kind qs = cond (some_asks source kind qs) 12 (cond (leb most_waiting (length qs)) 13 0)

-- a query that is taken waits behind the others, for its first group
abbrev pub fresh_query : ℕ → Kind → Query
fresh_query source kind = record { source = source; kind = kind; group = 0 }

-- what asking gives: the number, and the queries that wait then
pub record Queued : Type 0 where
  pub number : ℕ
  pub queries : Queries

-- an answer by its number, with the queries that it leaves
abbrev pub queued : Result (Unit {0}) Refusal → Queries → Queued
queued answer q = record { number = answered answer; queries = q }

-- "A refusal alters nothing"
unfoldable pub queued_of : Queries → ℕ → Kind → Queued
queued_of q source kind =
    record {
      number = ask_number source kind (waiting q);
      queries =
          cond (eqb (ask_number source kind (waiting q)) 0)
          (queries_of (waiting q ++ (fresh_query source kind ∷ [])))
          q;
    }
