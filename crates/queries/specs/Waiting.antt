-- The waiting queries (01, "Broadcasts and cell answers") as a list, the oldest first, and the four places that hold
-- it.
use Rattle.std.specs.Prelude.{ℕ, List, [], ◌∷◌, length, get_or, take}
use Rattle.messages.specs.declared.received.Kind.TheVariants.{Voltages}
use Rattle.queries.specs.declared.Query.{Query}
use Rattle.queries.specs.declared.Queries.{Queries}

-- "four waiting" is the most
abbrev pub most_waiting : ℕ
most_waiting = 4

-- a blank place
abbrev pub no_query : Query
no_query = record { source = 0; kind = Voltages; group = 0 }

-- the first `count` of the four places
unfoldable pub waiting : Queries → List Query
waiting q = take q.count (q.first ∷ q.second ∷ q.third ∷ q.fourth ∷ [])

-- the places that hold a list of up to four
unfoldable pub queries_of : List Query → Queries
queries_of l =
    record {
      count = length l;
      first = get_or l 0 no_query;
      second = get_or l 1 no_query;
      third = get_or l 2 no_query;
      fourth = get_or l 3 no_query;
    }
