use Rattle.replay_host.specs.Lines.{start_world}
use Rattle.replay_host.proofs.lines.Run.start.Goals as goal

pub returns : goal.returns
unfolding start_world
returns g c = (
  rw (
    c.start.ensures.0,
    c.start-2.ensures,
    c.first_voltages.ensures,
    c.first_temperatures.ensures,
    c.start-3.ensures,
  ),
  c.start.ensures.1,
)
