use Rattle.std.proofs.Common.{refl}
use Rattle.replay_host.proofs.Carrying.{carries}
use Rattle.replay_host.proofs.lines.Run.carry_out.Goals as goal

pub returns : goal.returns
returns g c =
    carries c.args.asked c.args.self.now c.calls.new.self c.calls.new.self.host _ c.calls.ensures.rest
    c.calls.ensures.comes refl c.after-self.ensures c.clock_after-self.ensures
