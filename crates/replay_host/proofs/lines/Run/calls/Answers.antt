use Rattle.std.proofs.Common.{◌≡◌, [], rules, refl, sym, ap, ◌∙◌, take}
use Rattle.replay_host.specs.Host.{only, frame_done}
use Rattle.replay_host.specs.Lines.{world_of, having, ticks_in, calls_done, calls_buffer, logged_done, logged_buffer}
use Rattle.replay_host.specs.Ticks.{lending, ticks_buffer}
use Rattle.replay_host.proofs.Outcomes.{comes_none, comes_eq}
use Rattle.replay_host.proofs.Carrying.{comes_then, lends, makes_by, absent_keeps}
use Rattle.replay_host.proofs.lines.Run.calls.Goals as goal

pub returns-in-Settings : goal.returns-in-Settings
unfolding calls_done calls_buffer
returns-in-Settings g c =
    makes_by c.in-Settings.is (record { comes = rw c.first.ensures at c.settings.ensures; rest = refl })

pub returns-in-Ticks : goal.returns-in-Ticks
unfolding calls_done calls_buffer
returns-in-Ticks g c =
    let r = c.args.self.now in
    let w = world_of r in
    makes_by c.in-Ticks.is (record {
      comes = comes_then (ticks_in w c.in-Ticks.n) c.absent.ensures c.ticks.ensures.comes;
      rest =
          lends r _
          (c.ticks.ensures.loan_after
          ∙ ap (λ k. lending r.loan (ticks_buffer w.lent w.volts w.temps c.in-Ticks.n w.buffer k))
          (c.absent.ensures.kept ∙ absent_keeps w.keeps));
    })

pub returns-in-Frame : goal.returns-in-Frame
unfolding calls_done calls_buffer
returns-in-Frame g c =
    makes_by c.in-Frame.is (record { comes = rw c.first-in-Frame.ensures at c.frame.ensures; rest = refl })

pub returns-in-Some : goal.returns-in-Some
unfolding calls_done calls_buffer logged_done logged_buffer
returns-in-Some g c =
    let r = c.args.self.now in
    let e = sym c.in-Some.ensures in
    makes_by c.in-Logged.is (record {
      comes =
          rw e
          (comes_then (frame_done c.in-Logged.id (take c.in-Logged.n r.bytes)) c.ticks-in-Some.ensures.comes
          (rw c.first-in-Some.ensures at c.frame-in-Some.ensures));
      rest = rw e (lends r _ c.ticks-in-Some.ensures.loan_after);
    })

pub returns-in-None : goal.returns-in-None
unfolding calls_done calls_buffer logged_done logged_buffer
returns-in-None g c =
    let e = sym c.in-None.ensures in
    makes_by c.in-Logged.is (record { comes = rw e c.unreadable.ensures; rest = rw e refl })

pub returns-in-Write : goal.returns-in-Write
unfolding calls_done calls_buffer
returns-in-Write g c =
    makes_by c.in-Write.is (record {
      comes = c.write.ensures.comes;
      rest = lends c.args.self.now _ (ap (lending c.args.self.now.loan) c.write.ensures.buf_after);
    })

pub returns-in_default : goal.returns-in_default
unfolding calls_done calls_buffer
returns-in_default g c =
    let r = c.args.self.now in
    let w = world_of r in
    let e : only [] w.keeps ≡ calls_done c.args.asked w = search rules in
    let b : w.buffer ≡ calls_buffer c.args.asked w = search rules in
    record { comes = comes_eq (comes_none _) e; rest = ap (having r r.host) b }
