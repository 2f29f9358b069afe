-- A refused tick changes nothing.
use Rattle.std.proofs.lemmas.Result.{err_from_is_err_and}
use Rattle.numbers.proofs.Told.{not_taken}
use Rattle.controller.proofs.Ticks.{refused_tick}
use Rattle.controller.proofs.Controller.tick.Goals as goal

pub returns-in_err-check : goal.returns-in_err-check
returns-in_err-check c =
    let p = err_from_is_err_and c.from_residual.result c.from_residual.ensures.1 in
    rw (p.1, p.2) (refused_tick _ _ _ _ _ _ c.in_err-check.ensures (not_taken c.in_err-check.field-0.0))
