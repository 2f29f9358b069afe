-- "Request R is the smaller of maximum current and the station's maximum", "Hold voltage is the smaller of .. and maximum
-- pack voltage", as sent: after any calls from the start, no ECR that a call sends asks more than the maxima of the
-- settings in use, nor less than 0 A, told by the bytes of the frame. Assumes nothing.
use Prim.Native.Nat.{ℕ, ◌+◌, ◌-◌, ◌≤◌}
use native.Mathlib.Omega.{arith}
use mathlib.Core.Path.{◌≡◌, refl, sym, ap, subst, ◌∙◌}
use mathlib.Core.List.{List}
use lib.IntN.{ℤ}
use Rattle.settings.specs.declared.Settings.{Settings}
use Rattle.readings.specs.declared.Readings.{Readings}
use Rattle.cells.specs.declared.Cells.{Cells}
use Rattle.cells.specs.Summaries.{cells_of}
use Rattle.session_states.specs.declared.phases.Phase.{Phase}
use Rattle.session_states.specs.declared.phases.Phase.TheVariants.{Drive, Rest, Hold}
use Rattle.session_states.specs.declared.states.State.TheVariants.{Charging}
use Rattle.session_frames.specs.Layouts.{hold_voltage, ecr_frame, ecr_of}
use Rattle.session.specs.Tick.{turned_by, turn_in}
use Rattle.controller.specs.declared.Controller.{Controller}
use Rattle.demands.specs.Machine.{Call, Read, Receive, Tick, Write, NoController, Using, paper_next, seen_of, box_at, frames_seen}
use Rattle.demands.specs.Requests.{EachEcr, request_of, request_in, AsksWithin, AllAskWithin}
use Rattle.demands.proofs.FrameKinds.{Bytes}
use Rattle.demands.proofs.Addresses.{addresses}
use Rattle.demands.proofs.Since.{since}
use Rattle.demands.proofs.Requests.{lesser_second, turn_asks, turn_asks_lem, turned_is, Within, never_above_the_maximum}
use Rattle.demands.proofs.EcrSent.{word_back, ecrs_sent}

-- an ECR, by the words that it is made of
module _ (x : Settings) (station : ℕ) where
  made_within : (v i mode : ℕ) → v ≤ x.limits.pack.0 → i ≤ 4000 → 4000 ≤ i + x.limits.current.0
      → AsksWithin x (ecr_frame x station v i mode)
  unfolding ecr_frame
  made_within v i mode h j k =
      record { not_below = rw (word_back i) j; current = rw (word_back i) k; voltage = rw (word_back v) h }

  ecr_within : (c : Cells) (p : Phase) → request_of p ≤ x.limits.current.0 → AsksWithin x (ecr_of x station c p)
  unfolding ecr_of request_of hold_voltage
  ecr_within c (Drive request cycle time) h = made_within 0 (4000 - request.0) 0x02 (omega arith) (omega arith) (omega arith)
  ecr_within c (Rest request cycle time) h = made_within 0 4000 0x02 (omega arith) (omega arith) (omega arith)
  ecr_within c (Hold time) h = made_within _ 4000 0x01 (lesser_second _ _ _ refl) (omega arith) (omega arith)

-- the phase that a tick leads to asks no more than the state before it
module _ (c : Controller) (b : Bytes c) (h : Within c) (r : Readings) (v : List ℕ) (t : List ℤ) where
  phase_within : (p : Phase)
      → (turned_by c.session (turn_in c.settings r (cells_of v t) c.session)).state ≡ Charging p
      → request_of p ≤ c.settings.limits.current.0
  unfolding turn_in request_in
  phase_within p e =
      let s = c.session in
      let u = turn_in c.settings r (cells_of v t) s in
      let a : request_of p ≡ turn_asks u = sym (ap request_in e) ∙ turned_is c.settings r (cells_of v t) s u in
      omega (arith, a, h, turn_asks_lem c.settings r (cells_of v t) s.count s.silence s.state)

  tick_asks : (old : List ℕ) → AllAskWithin c.settings (frames_seen (seen_of paper_next (Using c) (Tick r v t old)))
  tick_asks old =
      ecrs_sent (AsksWithin c.settings) c b r v t
      (λ p e. ecr_within c.settings c.session.station (cells_of v t) p (phase_within p e)) old

call_asks : (c : Controller) → Bytes c → Within c → (k : Call)
    → AllAskWithin c.settings (frames_seen (seen_of paper_next (Using c) k))
unfolding seen_of frames_seen EachEcr
call_asks c b h (Read s) = tt
call_asks c b h (Receive id s) = tt
call_asks c b h (Tick r v t old) = tick_asks c b h r v t old
call_asks c b h (Write old) = tt

-- after any calls from the start, whatever is called then
pub no_request_above : (ks : List Call) (c : Controller) → box_at paper_next NoController ks ≡ Using c
    → (k : Call) → AllAskWithin c.settings (frames_seen (seen_of paper_next (Using c) k))
no_request_above ks c e =
    let s = since c ks e in
    call_asks c (addresses ks c e) (subst Within s.run (never_above_the_maximum s.settings s.later))
