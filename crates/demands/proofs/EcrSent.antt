-- Which ECRs a tick sends: none but that of the phase that it leads to. So a law of this one is a law of every ECR among
-- the frames of a tick. Assumes nothing.
use Prim.Native.Nat.{ℕ, ◌+◌, ◌*◌, ◌/◌, ◌%◌, ◌<◌}
use Rattle.std.proofs.Common.{Option, Some, None}
use native.Mathlib.Omega.{arith}
use mathlib.Core.Path.{◌≡◌, refl, sym, ap, ◌∙◌}
use mathlib.Core.Bool.{Bool, true, false, cond, false≢true}
use mathlib.Core.List.{List, [], ◌∷◌}
use borrow.Author.Tests.{eqb-true}
use lib.Dec.{eqb}
use lib.IntN.{ℤ}
use lib.ListN.{length}
use Rattle.messages.specs.Table.{pf_of, to_target, ECR}
use Rattle.messages.specs.Identifier.{first_broadcast}
use Rattle.frames.specs.declared.Frame.{Frame}
use Rattle.frames.specs.Frame.{frame_of}
use Rattle.settings.specs.declared.Settings.{Settings}
use Rattle.readings.specs.declared.Readings.{Readings}
use Rattle.cells.specs.declared.Cells.{Cells}
use Rattle.cells.specs.Summaries.{cells_of}
use Rattle.cells.specs.Tables.{tables_fit}
use Rattle.refusals.specs.Tick.{tick_number}
use Rattle.refusals.proofs.Fine.{fine}
use Rattle.session_states.specs.Limits.{first_ecp}
use Rattle.session_states.specs.declared.phases.Phase.{Phase}
use Rattle.session_states.specs.declared.states.Est.{Est}
use Rattle.session_states.specs.declared.states.State.{State}
use Rattle.session_states.specs.declared.states.State.TheVariants.{Idle, Offered, Unverified, Parameters, Ready, Charging, Stopping, Error}
use Rattle.session_by_tick.specs.declared.Turn.{Turn}
use Rattle.session_by_tick.specs.declared.Turn.TheVariants as turn
use Rattle.session_frames.specs.Layouts.{eim_of, evm_of, ecp_of, erm_of, ecr_of, ecs_of, esm_of, est_frame, edm_of, eem_of}
use Rattle.session.specs.declared.Session.{Session}
use Rattle.session.specs.Frames.{is_fifth, each5, parameters_frames, charging_frames, est_bytes, stopping_frames, frames_in, frames_of}
use Rattle.session.specs.Tick.{turned_by, turn_in, sent_of}
use Rattle.controller.specs.declared.Controller.{Controller}
use Rattle.controller.specs.Tick.{tick_frames, charge_frames, accepted}
use Rattle.demands.specs.Machine.{Tick, Using, Gave, paper_next, seen_of, frames_seen}
use Rattle.demands.specs.FrameKinds.{pf_in, is_charge_frame, only}
use Rattle.demands.specs.Requests.{EachEcr, is_ecr}
use Rattle.demands.proofs.Sent.{Each, each_if, each_one, each_two, each_cons, each_none}
use Rattle.demands.proofs.FrameKinds.{pf_sent, Bytes, charge_frames_told}

-- ---- of any law `Q` of frames
module _ (Q : Frame → Type 0) (x : Settings) where
  abbrev IfEcr : Frame → Type 0
  IfEcr f = is_ecr f ≡ true → Q f

  module _ (r : Readings) (c : Cells) (station : ℕ) (k : station < 256) (o : x.own < 256) where
    -- a frame of another row is no ECR
    other : (pf priority : ℕ) (bytes : List ℕ) → pf < first_broadcast → priority < 8 → eqb pf (pf_of ECR) ≡ false
        → IfEcr (frame_of (to_target pf priority) station x.own bytes)
    unfolding is_ecr pf_in
    other pf priority bytes h i e z =
        let n = pf_sent (to_target pf priority) station x.own (omega arith) (omega arith) k o in
        absurd (false≢true (sym e ∙ (ap (λ (n : ℕ). eqb n (pf_of ECR)) (sym n) ∙ z)))

    eim_not : (on : Bool) → IfEcr (eim_of x station on)
    unfolding eim_of
    eim_not on = other 0x27 6 _ (omega arith) (omega arith) refl

    est_not : (y : Bool) (e : (Option Est)) → IfEcr (est_bytes x station y e)
    unfolding est_bytes est_frame
    est_not y None = other 0x15 4 _ (omega arith) (omega arith) refl
    est_not y (Some bytes) = other 0x15 4 _ (omega arith) (omega arith) refl

    fifth : (n : ℕ) (fs : List Frame) → Each IfEcr fs → Each IfEcr (each5 n fs)
    unfolding each5
    fifth n fs h = each_if IfEcr (is_fifth n) fs [] h (each_none IfEcr)

    -- the frames of a state
    in_state : (n : ℕ) (st : State) → ((p : Phase) → st ≡ Charging p → Q (ecr_of x station c p))
        → Each IfEcr (frames_in x r c station n st)
    unfolding frames_in parameters_frames charging_frames stopping_frames evm_of ecp_of erm_of ecs_of esm_of edm_of eem_of
    in_state n Idle h = each_none IfEcr
    in_state n Offered h = fifth n _ (each_one IfEcr _ (eim_not true))
    in_state n Unverified h = fifth n _ (each_one IfEcr _ (other 0x02 7 _ (omega arith) (omega arith) refl))
    in_state n Parameters h =
        each_if IfEcr (eqb n 0) _ _ (each_one IfEcr _ (other 0x02 7 _ (omega arith) (omega arith) refl))
        (each_if IfEcr (eqb (n % 10) first_ecp) _ _ (each_one IfEcr _ (other 0x06 7 _ (omega arith) (omega arith) refl)) (each_none IfEcr))
    in_state n (Ready y most) h = fifth n _ (each_one IfEcr _ (other 0x09 4 _ (omega arith) (omega arith) refl))
    in_state n (Charging p) h =
        each_cons IfEcr _ _ (λ e. h p refl)
        (fifth n _ (each_two IfEcr _ _ (other 0x11 7 _ (omega arith) (omega arith) refl) (other 0x13 6 _ (omega arith) (omega arith) refl)))
    in_state n (Stopping y e) h =
        each_cons IfEcr _ _ (est_not y e) (fifth n _ (each_one IfEcr _ (other 0x1a 6 _ (omega arith) (omega arith) refl)))
    in_state n Error h = fifth n _ (each_one IfEcr _ (other 0x1e 2 _ (omega arith) (omega arith) refl))

  -- the charge frames of a tick
  turn_ecrs : (r : Readings) (c : Cells) (s : Session) (t : Turn) → s.station < 256 → x.own < 256
      → ((p : Phase) → (turned_by s t).state ≡ Charging p → Q (ecr_of x s.station c p))
      → Each IfEcr (frames_of x r c s.station t (turned_by s t))
  unfolding frames_of turned_by frames_in
  turn_ecrs r c s (turn.On st) k o h = in_state r c s.station k o s.count st h
  turn_ecrs r c s (turn.Enter st) k o h = in_state r c s.station k o 0 st h
  turn_ecrs r c s turn.Farewell k o h = each_one IfEcr _ (eim_not r c s.station k o false)
  turn_ecrs r c s turn.End k o h = each_none IfEcr

  -- an ECR is one of its charge frames
  ecr_charge : (f : Frame) → is_charge_frame f ≡ false → IfEcr f
  unfolding is_ecr is_charge_frame
  ecr_charge f h e = let n : pf_in f ≡ 0x10 = eqb-true (pf_in f) 0x10 e in absurd (false≢true (sym h ∙ rw n refl))

  among_all : (fs : List Frame) → Each IfEcr (only is_charge_frame fs) → Each IfEcr fs
  unfolding only Each
  among_all [] h = tt
  among_all (f ∷ fs) h = either (is_charge_frame f) refl (among_all fs) h
    where
      either : (b : Bool) → is_charge_frame f ≡ b → (Each IfEcr (only is_charge_frame fs) → Each IfEcr fs)
          → Each IfEcr (cond b (f ∷ only is_charge_frame fs) (only is_charge_frame fs)) → Each IfEcr (f ∷ fs)
      either true e rest i = (i.0, rest i.1)
      either false e rest i = (ecr_charge f e, rest i)

  as_told : (fs : List Frame) → Each IfEcr fs → EachEcr Q fs
  unfolding Each EachEcr
  as_told [] h = tt
  as_told (f ∷ fs) h = (h.0, as_told fs h.1)

-- ---- all that a tick sends
module _ (Q : Frame → Type 0) (c : Controller) (b : Bytes c) (r : Readings) (v : List ℕ) (t : List ℤ) where
  abbrev to : State
  to = (turned_by c.session (turn_in c.settings r (cells_of v t) c.session)).state

  module _ (h : (p : Phase) → to ≡ Charging p → Q (ecr_of c.settings c.session.station (cells_of v t) p)) where
    tick_ecrs : tables_fit v t ≡ true → Each (IfEcr Q c.settings) (tick_frames c r v t)
    unfolding charge_frames sent_of
    tick_ecrs f =
        among_all Q c.settings (tick_frames c r v t)
        (rw (charge_frames_told c b r v t f)
        (turn_ecrs Q c.settings r (cells_of v t) c.session (turn_in c.settings r (cells_of v t) c.session) b.station b.own h))

    tick_either : (l m n room : ℕ) (new old : List ℕ) (took : Bool) → accepted c r v t room ≡ took
        → Each (IfEcr Q c.settings) (frames_seen (cond took (Gave 0 l (tick_frames c r v t) new) (Gave m n [] old)))
    unfolding frames_seen Each accepted
    tick_either l m n room new old true e = tick_ecrs (fine r v t room (eqb-true (tick_number r v t room) 0 e)).fits
    tick_either l m n room new old false e = tt

    pub ecrs_sent : (old : List ℕ) → EachEcr Q (frames_seen (seen_of paper_next (Using c) (Tick r v t old)))
    unfolding seen_of
    ecrs_sent old = as_told Q c.settings _ (tick_either _ _ _ (length old) _ old (accepted c r v t (length old)) refl)

-- a word is its two bytes
pub word_back : (w : ℕ) → w % 256 + w / 256 * 256 ≡ w
word_back w = omega arith
