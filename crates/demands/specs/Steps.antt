-- A run told call by call: what a call found, the call, what it gave back and what it left. Of the paper's machine, and
-- of calls that were made; that the two tell the same is `steps_made_lem`. For every statement over a run of calls.
use Rattle.std.specs.Prelude.{List, [], ◌∷◌}
use Rattle.demands.specs.Machine.{Call, Box, Seen, paper_next, box_after, seen_of}
use Rattle.demands.specs.Calls.{CallMade, call_in, box_then, in_hand}

pub record Step : Type 0 where
  pub before : Box
  pub call : Call
  pub seen : Seen
  pub after : Box

-- the paper's machine, from a box on
unfoldable pub steps_of : Box → List Call → List Step
steps_of b [] = []
steps_of b (k ∷ ks) =
    record { before = b; call = k; seen = seen_of paper_next b k; after = box_after paper_next b k }
    ∷ steps_of (box_after paper_next b k) ks

-- calls that were made, from a box on
unfoldable pub steps_made : Box → List CallMade → List Step
steps_made b [] = []
steps_made b (m ∷ ms) =
    record { before = b; call = call_in m; seen = in_hand m; after = box_then b m } ∷ steps_made (box_then b m) ms
