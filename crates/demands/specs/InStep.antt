-- Demand 2, the code's controller beside the paper's. The code's counts go back where no test of the paper can tell;
-- `code_of` says which controller of the code stands for one with the paper's counts. It is the same but for those
-- counts. For `demand_2`.
use Rattle.std.specs.Prelude.{◌%◌, ◌≡◌}
use Rattle.session_paper_counts.specs.Folds.{folds}
use Rattle.controller.specs.declared.Controller.{Controller}
use Rattle.broadcasts.specs.Beat.{two_sendings}
use Rattle.controller.specs.With.{with_session, with_beat}
use Rattle.demands.specs.Machine.{Box, NoController, Using}

-- the session's counts folded, the number of accepted ticks modulo that of two sendings, settings and waiting queries
-- the same
unfoldable pub code_of : Controller → Controller
code_of c = with_beat (with_session c (folds c.session)) (record { tick = c.beat.tick % two_sendings })

unfoldable pub code_box : Box → Box
code_box NoController = NoController
code_box (Using c) = Using (code_of c)

-- the second box stands for the first
abbrev pub InStep : Box → Box → Type 0
InStep paper code = code_box paper ≡ code
