-- As sent, no ECR asks more than the last CMP taken offers (specs/Offers.antt). Assumes nothing.
use Prim.Native.Nat.{ℕ, ◌+◌, ◌-◌, ◌≤◌}
use native.Mathlib.Omega.{arith}
use mathlib.Core.Path.{◌≡◌, sym, ap, subst}
use Rattle.settings.specs.declared.Settings.{Settings}
use Rattle.cells.specs.declared.Cells.{Cells}
use Rattle.cells.specs.Summaries.{cells_of}
use Rattle.session_states.specs.declared.phases.Phase.{Phase}
use Rattle.session_states.specs.declared.phases.Phase.TheVariants.{Drive, Rest, Hold}
use Rattle.session_states.specs.declared.states.State.{State}
use Rattle.session_states.specs.declared.states.State.TheVariants.{Charging}
use Rattle.session_frames.specs.Layouts.{ecr_frame, ecr_of}
use Rattle.session.specs.declared.Session.{Session}
use Rattle.session_paper_counts.specs.Literal.{older, grown, literal_in, literal_advance, literal_tick}
use Rattle.demands.specs.Machine.{Tick, Box, Using, Seen, paper_next, seen_of, frames_seen}
use Rattle.demands.specs.Calls.{CallMade, DidTick, call_in, KeepsPromise, in_hand}
use Rattle.demands.specs.Requests.{request_of}
use Rattle.demands.specs.Offers.{LastOffer, last_taken, WithinOffer, AsksWithinOffer, AllAskWithinOffer}
use Rattle.demands.specs.Statements.{NoRequestAboveTheStation}
use Rattle.demands.proofs.StepsMade.{in_hand_seen, its_own, own_box, use_bytes}
use Rattle.demands.proofs.Offers.{Held, tick_held}
use Rattle.demands.proofs.Requests.{older_asks}
use Rattle.demands.proofs.BeginsCharge.{held_made}
use Rattle.demands.proofs.EcrSent.{word_back, ecrs_sent}

module _ (l : LastOffer) (x : Settings) (station : ℕ) where
  made_within : (v i mode n : ℕ) → 4000 ≤ i + n → (w : WithinOffer l n)
      → AsksWithinOffer l (ecr_frame x station v i mode)
  unfolding ecr_frame
  made_within v i mode n h w =
      record { offer = w.offer; made = w.made; current = let u = word_back i in rw u (omega (arith, h, w.within)) }

  ecr_within : (c : Cells) (p : Phase) → WithinOffer l (request_of p) → AsksWithinOffer l (ecr_of x station c p)
  unfolding ecr_of request_of
  ecr_within c (Drive request cycle time) w = made_within 0 (4000 - request.0) 0x02 request.0 (omega arith) w
  ecr_within c (Rest request cycle time) w = made_within 0 4000 0x02 request.0 (omega arith) w
  ecr_within c (Hold time) w = made_within _ 4000 0x01 0 (omega arith) w

-- the phase that a tick leads to is one tick older after it
advanced : (u : Session) (p : Phase) → u.state ≡ Charging p → (literal_advance u).state ≡ Charging (older p)
unfolding literal_advance literal_in grown
advanced u p e = ap (λ (st : State). (literal_in u st).state) e

charging_within : (x : Settings) (l : LastOffer) (u : Session) (p : Phase) → u.state ≡ Charging p
    → Held x l (literal_advance u).state
    → WithinOffer l (request_of p)
unfolding Held
charging_within x l u p e h =
    subst (WithinOffer l) (older_asks p) (subst (Held x l) (advanced u p e) h)

pub no_request_above_the_station : NoRequestAboveTheStation
unfolding call_in in_hand frames_seen literal_tick
no_request_above_the_station ms c r v t old new k a h =
    let m : CallMade = DidTick r v t old new k in
    let l : LastOffer = last_taken ms in
    let e : in_hand m ≡ seen_of paper_next (Using c) (Tick r v t old) =
    in_hand_seen (Using c) m (subst (λ (b : Box). KeepsPromise b m) (sym (own_box c (its_own ms c a))) h) in
    let held : Held c.settings l (literal_tick c.settings r (cells_of v t) c.session).state =
    tick_held c.settings r (cells_of v t) l c.session (held_made ms c a) in
    subst (λ (y : Seen). AllAskWithinOffer l (frames_seen y)) (sym e)
    (ecrs_sent (AsksWithinOffer l) c (use_bytes ms c a) r v t
    (λ p i. ecr_within l c.settings c.session.station (cells_of v t) p (charging_within c.settings l _ p i held)) old)
