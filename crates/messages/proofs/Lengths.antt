-- Every row that we send has 8 data bytes: one computed test over the table past the nine that we receive. Assumes
-- nothing.
use mathlib.Core.Path.{◌≡◌, refl}
use mathlib.Core.Bool.{Bool, true, ◌&&◌}
use mathlib.Core.List.{List, [], ◌∷◌}
use lib.Dec.{eqb}
use lib.ListN.{drop}
use Rattle.messages.specs.declared.table.Row.{Row}
use Rattle.messages.specs.Table.{length_of, sent_length, rows}

pub all_eight : List Row → Bool
all_eight [] = true
all_eight (r ∷ rs) = eqb (length_of r) sent_length && all_eight rs

pub sent_rows_have_eight : all_eight (drop 9 rows) ≡ true
unfolding all_eight
sent_rows_have_eight = refl
