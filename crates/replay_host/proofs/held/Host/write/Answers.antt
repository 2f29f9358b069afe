use Rattle.std.proofs.Common.{◌∙◌, refl}
use Rattle.replay_host.specs.Host.{keeps_of, written_done, write_done}
use Rattle.replay_host.proofs.Outcomes.{comes_eq, write_none, written_same, write_of_lem, write_answer}
use Rattle.replay_host.proofs.held.Host.write.Goals as goal

pub returns-in_default-clause-comes : goal.returns-in_default-clause-comes
returns-in_default-clause-comes g c =
    comes_eq (record { kept = refl; prints = c.no_controller.ensures })
    (write_none (keeps_of c.args.self.now) _ _ c.in_default.is).0

pub returns-in_default-clause-buf_after : goal.returns-in_default-clause-buf_after
returns-in_default-clause-buf_after g c = (write_none (keeps_of c.args.self.now) _ _ c.in_default.is).1

pub returns-in-Ok-clause-comes : goal.returns-in-Ok-clause-comes
unfolding written_done write_done
returns-in-Ok-clause-comes g c =
    let x = keeps_of c.args.self.now in
    let a = write_answer c.in-Ok.ensures in
    comes_eq (record { kept = refl; prints = c.write-in-Ok.ensures })
    (written_same x _ _ _ _ a.0 a.1 ∙ (write_of_lem x _ _ _ c.in-Some.is).0)

pub returns-in-Ok-clause-buf_after : goal.returns-in-Ok-clause-buf_after
returns-in-Ok-clause-buf_after g c =
    (write_answer c.in-Ok.ensures).1 ∙ (write_of_lem (keeps_of c.args.self.now) _ _ _ c.in-Some.is).1

pub returns-in-Err-clause-comes : goal.returns-in-Err-clause-comes
unfolding written_done write_done
returns-in-Err-clause-comes g c =
    let x = keeps_of c.args.self.now in
    let a = write_answer c.in-Err.ensures in
    comes_eq (record { kept = refl; prints = rw c.number.ensures at c.write-in-Err.ensures })
    (written_same x _ _ _ _ a.0 a.1 ∙ (write_of_lem x _ _ _ c.in-Some.is).0)

pub returns-in-Err-clause-buf_after : goal.returns-in-Err-clause-buf_after
returns-in-Err-clause-buf_after g c =
    (write_answer c.in-Err.ensures).1 ∙ (write_of_lem (keeps_of c.args.self.now) _ _ _ c.in-Some.is).1
