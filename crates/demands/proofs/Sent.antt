-- The frames of a tick, each by its row of the table and its eight bytes; and that they are read back off the buffer as
-- they were sent. Assumes nothing.
use Prim.Native.Nat.{ℕ, ◌+◌, ◌*◌, ◌/◌, ◌%◌}
use Rattle.std.proofs.Common.{Option, Some, None}
use native.Mathlib.Omega.{arith}
use mathlib.Core.Path.{◌≡◌, refl}
use mathlib.Core.Bool.{Bool, true, false, cond}
use mathlib.Core.List.{List, [], ◌∷◌, ◌++◌, append_assoc}
use lib.Dec.{eqb}
use lib.IntN.{ℤ}
use lib.ListN.{length, drop}
use Rattle.messages.specs.declared.table.Row.{Row}
use Rattle.messages.specs.Table.{EIM, EVM, ECP, ERM, ECR, ECS, ESM, EST, EDM, EEM, PS, CVS, CTS, FWS, EC}
use Rattle.frames.specs.declared.Frame.{Frame}
use Rattle.frames.specs.Frame.{record_size, frame_of, frame_record, records_of, eight_of}
use Rattle.settings.specs.declared.Settings.{Settings}
use Rattle.settings.specs.declared.Versions.{Versions}
use Rattle.readings.specs.declared.Readings.{Readings}
use Rattle.cells.specs.declared.Cells.{Cells}
use Rattle.cells.specs.Summaries.{cells_of}
use Rattle.session_states.specs.declared.phases.Phase.{Phase}
use Rattle.session_states.specs.declared.phases.Phase.TheVariants.{Drive, Rest, Hold}
use Rattle.session_states.specs.declared.states.Est.{Est}
use Rattle.session_states.specs.declared.states.State.{State}
use Rattle.session_states.specs.declared.states.State.TheVariants.{Idle, Offered, Unverified, Parameters, Ready, Charging, Stopping, Error}
use Rattle.session_states.specs.Limits.{first_ecp}
use Rattle.session_by_tick.specs.declared.Turn.{Turn}
use Rattle.session_by_tick.specs.declared.Turn.TheVariants as turn
use Rattle.session_frames.specs.Layouts.{eim_of, evm_of, ecp_of, erm_of, ecr_frame, ecr_of, ecs_of, esm_of, est_frame, edm_of, eem_of}
use Rattle.session.specs.declared.Session.{Session}
use Rattle.session.specs.Frames.{is_fifth, each5, parameters_frames, charging_frames, est_bytes, stopping_frames, frames_in, frames_of}
use Rattle.session.specs.Tick.{turned_by, turn_in, sent_of}
use Rattle.broadcasts.specs.Beat.{due_at, heartbeat_at}
use Rattle.broadcasts.specs.Layouts.{ps_of, cvs_of, cts_of, fws_of, ec_of, broadcasts_of}
use Rattle.broadcasts.specs.Sendings.{in_order, broadcast_at}
use Rattle.messages.specs.declared.received.Kind.{Kind}
use Rattle.messages.specs.declared.received.Kind.TheVariants.{Voltages, Temperatures}
use Rattle.queries.specs.declared.Query.{Query}
use Rattle.queries.specs.Waiting.{waiting}
use Rattle.queries.specs.Answering.{group_row, group_bytes, group_frame, past_end, answer_frames}
use Rattle.controller.specs.declared.Controller.{Controller}
use Rattle.controller.specs.Tick.{tick_frames, charge_frames, broadcast_frames, cell_frames}
use Rattle.demands.specs.Sent.{frame_at, frames_from, frames_written}

-- ---- each frame of a list
unfoldable pub Each : (Frame → Type 0) → List Frame → Type 0
Each P [] = Unit {0}
Each P (f ∷ fs) = P f × Each P fs

module _ (P : Frame → Type 0) where
  pub each_append : (fs gs : List Frame) → Each P fs → Each P gs → Each P (fs ++ gs)
  unfolding Each
  each_append [] gs h k = k
  each_append (f ∷ fs) gs h k = (h.0, each_append fs gs h.1 k)

  pub each_if : (b : Bool) (fs gs : List Frame) → Each P fs → Each P gs → Each P (cond b fs gs)
  each_if true fs gs h k = h
  each_if false fs gs h k = k

  pub each_one : (f : Frame) → P f → Each P (f ∷ [])
  unfolding Each
  each_one f h = (h, tt)

  pub each_two : (f g : Frame) → P f → P g → Each P (f ∷ g ∷ [])
  unfolding Each
  each_two f g h k = (h, (k, tt))

  pub each_cons : (f : Frame) (fs : List Frame) → P f → Each P fs → Each P (f ∷ fs)
  unfolding Each
  each_cons f fs h k = (h, k)

  pub each_none : Each P []
  unfolding Each
  each_none = tt

pub each_map : {P Q : Frame → Type 0} (fs : List Frame) → ((f : Frame) → P f → Q f) → Each P fs → Each Q fs
unfolding Each
each_map [] g h = tt
each_map (f ∷ fs) g h = (g f h.0, each_map fs g h.1)

-- ---- a frame by its row, to a target, with eight bytes
pub data Made (These : Row → Type 0) (target own : ℕ) : Frame → Type 0 where
  Make : (row : Row) → These row → (a b c d e f g h : ℕ)
      → Made These target own (frame_of row target own (a ∷ b ∷ c ∷ d ∷ e ∷ f ∷ g ∷ h ∷ []))

-- ---- the charge frames, by any law of the ten rows
pub record Ten (These : Row → Type 0) : Type 0 where
  pub eim : These EIM
  pub evm : These EVM
  pub ecp : These ECP
  pub erm : These ERM
  pub ecr : These ECR
  pub ecs : These ECS
  pub esm : These ESM
  pub est : These EST
  pub edm : These EDM
  pub eem : These EEM

module _ (These : Row → Type 0) (ten : Ten These) (x : Settings) (r : Readings) (c : Cells) where
  abbrev Ours : ℕ → List Frame → Type 0
  Ours station fs = Each (Made These station x.own) fs

  eim_made : (station : ℕ) (on : Bool) → Made These station x.own (eim_of x station on)
  unfolding eim_of
  eim_made station on = Make EIM ten.eim _ _ _ _ _ _ _ _

  evm_made : (station : ℕ) (verified : Bool) → Made These station x.own (evm_of x station r verified)
  unfolding evm_of
  evm_made station verified = Make EVM ten.evm _ _ _ _ _ _ _ _

  ecp_made : (station : ℕ) → Made These station x.own (ecp_of x station)
  unfolding ecp_of
  ecp_made station = Make ECP ten.ecp _ _ _ _ _ _ _ _

  erm_made : (station : ℕ) (on : Bool) → Made These station x.own (erm_of x station on)
  unfolding erm_of
  erm_made station on = Make ERM ten.erm _ _ _ _ _ _ _ _

  ecr_made : (station : ℕ) (p : Phase) → Made These station x.own (ecr_of x station c p)
  unfolding ecr_of ecr_frame
  ecr_made station (Drive request cycle time) = Make ECR ten.ecr _ _ _ _ _ _ _ _
  ecr_made station (Rest request cycle time) = Make ECR ten.ecr _ _ _ _ _ _ _ _
  ecr_made station (Hold time) = Make ECR ten.ecr _ _ _ _ _ _ _ _

  ecs_made : (station : ℕ) → Made These station x.own (ecs_of x station r c)
  unfolding ecs_of
  ecs_made station = Make ECS ten.ecs _ _ _ _ _ _ _ _

  esm_made : (station : ℕ) → Made These station x.own (esm_of x station c)
  unfolding esm_of
  esm_made station = Make ESM ten.esm _ _ _ _ _ _ _ _

  est_made : (station : ℕ) (acknowledged : Bool) (est : (Option Est))
      → Made These station x.own (est_bytes x station acknowledged est)
  unfolding est_bytes est_frame
  est_made station acknowledged None = Make EST ten.est _ _ _ _ _ _ _ _
  est_made station acknowledged (Some bytes) = Make EST ten.est _ _ _ _ _ _ _ _

  edm_made : (station : ℕ) → Made These station x.own (edm_of x station r c)
  unfolding edm_of
  edm_made station = Make EDM ten.edm _ _ _ _ _ _ _ _

  eem_made : (station : ℕ) → Made These station x.own (eem_of x station)
  unfolding eem_of
  eem_made station = Make EEM ten.eem _ _ _ _ _ _ _ _

  fifth_made : (station n : ℕ) (fs : List Frame) → Ours station fs → Ours station (each5 n fs)
  unfolding each5
  fifth_made station n fs h = each_if (Made These station x.own) (is_fifth n) fs [] h (each_none (Made These station x.own))

  in_made : (station n : ℕ) (st : State) → Ours station (frames_in x r c station n st)
  unfolding frames_in parameters_frames charging_frames stopping_frames
  in_made station n Idle = each_none (Made These station x.own)
  in_made station n Offered = fifth_made station n _ (each_one (Made These station x.own) _ (eim_made station true))
  in_made station n Unverified = fifth_made station n _ (each_one (Made These station x.own) _ (evm_made station false))
  in_made station n Parameters =
      let P : Frame → Type 0 = Made These station x.own in
      each_if P (eqb n 0) _ _ (each_one P _ (evm_made station true))
      (each_if P (eqb (n % 10) first_ecp) _ _ (each_one P _ (ecp_made station)) (each_none P))
  in_made station n (Ready accepted maximum) = fifth_made station n _ (each_one (Made These station x.own) _ (erm_made station accepted))
  in_made station n (Charging p) =
      let P : Frame → Type 0 = Made These station x.own in
      each_cons P _ _ (ecr_made station p) (fifth_made station n _ (each_two P _ _ (ecs_made station) (esm_made station)))
  in_made station n (Stopping acknowledged est) =
      let P : Frame → Type 0 = Made These station x.own in
      each_cons P _ _ (est_made station acknowledged est) (fifth_made station n _ (each_one P _ (edm_made station)))
  in_made station n Error = fifth_made station n _ (each_one (Made These station x.own) _ (eem_made station))

  -- those of a tick, to the session's station: an ended session's stands for itself, as Idle sends none
  turn_made : (s : Session) (t : Turn) → Ours s.station (frames_of x r c s.station t (turned_by s t))
  unfolding frames_of turned_by frames_in
  turn_made s (turn.On st) = in_made s.station s.count st
  turn_made s (turn.Enter st) = in_made s.station 0 st
  turn_made s turn.Farewell = each_one (Made These s.station x.own) _ (eim_made s.station false)
  turn_made s turn.End = each_none (Made These s.station x.own)

  pub charge_made : (s : Session) → Ours s.station (sent_of x r c s)
  unfolding sent_of
  charge_made s = turn_made s (turn_in x r c s)

-- ---- the broadcasts, by any law of the five rows
pub record Five (These : Row → Type 0) : Type 0 where
  pub ps : These PS
  pub cvs : These CVS
  pub cts : These CTS
  pub fws : These FWS
  pub ec : These EC

module _ (These : Row → Type 0) (five : Five These) (own : ℕ) (versions : Versions) (heartbeat : Bool) (r : Readings) (c : Cells) where
  ps_made : Made These 0 own (ps_of own heartbeat r c)
  unfolding ps_of
  ps_made = Make PS five.ps _ _ _ _ _ _ _ _

  cvs_made : Made These 0 own (cvs_of own c)
  unfolding cvs_of
  cvs_made = Make CVS five.cvs _ _ _ _ _ _ _ _

  cts_made : Made These 0 own (cts_of own c)
  unfolding cts_of
  cts_made = Make CTS five.cts _ _ _ _ _ _ _ _

  fws_made : Made These 0 own (fws_of own r)
  unfolding fws_of
  fws_made = Make FWS five.fws _ _ _ _ _ _ _ _

  ec_made : Made These 0 own (ec_of own versions)
  unfolding ec_of
  ec_made = Make EC five.ec _ _ _ _ _ _ _ _

  five_made : Each (Made These 0 own) (in_order (broadcasts_of own versions heartbeat r c))
  five_made =
      let P : Frame → Type 0 = Made These 0 own in
      each_cons P _ _ ps_made (each_cons P _ _ cvs_made (each_cons P _ _ cts_made (each_two P _ _ fws_made ec_made)))

pub broadcast_made : (These : Row → Type 0) → Five These
    → (tick own : ℕ) (versions : Versions) (r : Readings) (c : Cells)
    → Each (Made These 0 own) (broadcast_at tick own versions r c)
broadcast_made These five tick own versions r c =
    each_if (Made These 0 own) (due_at tick) _ [] (five_made These five own versions (heartbeat_at tick) r c) (each_none (Made These 0 own))

-- ---- the cell frame, by any law of the row of its group
module _ (These : Row → Type 0) (own : ℕ) (v : List ℕ) (t : List ℤ) where
  group_made : (source : ℕ) (kind : Kind) (group : ℕ) → These (group_row kind group)
      → Made These source own (frame_of (group_row kind group) source own (group_bytes kind v t group))
  unfolding group_bytes
  group_made source Voltages group h = Make (group_row Voltages group) h _ _ _ _ _ _ _ _
  group_made source Temperatures group h = Make (group_row Temperatures group) h _ _ _ _ _ _ _ _

  pub query_made : (q : Query) → These (group_row q.kind q.group)
      → Made These q.source own (group_frame own v t q)
  unfolding group_frame
  query_made q h = group_made q.source q.kind q.group h

-- ---- eight bytes, so read back as sent
abbrev pub Eight : Frame → Type 0
Eight f = eight_of f.bytes ≡ f.bytes

Any : Row → Type 0
Any row = Unit {0}

made_eight : (These : Row → Type 0) (target own : ℕ) (f : Frame) → Made These target own f → Eight f
made_eight These target own f (Make row h a b c d e i g k) = refl

cells_eight : (own : ℕ) (v : List ℕ) (t : List ℤ) (qs : List Query) → Each Eight (answer_frames own v t qs)
unfolding answer_frames Any
cells_eight own v t [] = each_none Eight
cells_eight own v t (q ∷ qs) =
    each_if Eight (past_end v t q) [] _ (each_none Eight)
    (each_one Eight _ (made_eight Any q.source own _ (query_made Any own v t q tt)))

pub tick_eight : (c : Controller) (r : Readings) (v : List ℕ) (t : List ℤ) → Each Eight (tick_frames c r v t)
unfolding tick_frames charge_frames broadcast_frames cell_frames Any
tick_eight c r v t =
    let k : Cells = cells_of v t in
    each_append Eight _ _
    (each_map _ (made_eight Any c.session.station c.settings.own)
    (charge_made Any (record { eim = tt; evm = tt; ecp = tt; erm = tt; ecr = tt; ecs = tt; esm = tt; est = tt; edm = tt; eem = tt }) c.settings r k c.session))
    (each_append Eight _ _
    (each_map _ (made_eight Any 0 c.settings.own)
    (broadcast_made Any (record { ps = tt; cvs = tt; cts = tt; fws = tt; ec = tt }) c.beat.tick c.settings.own c.settings.versions r k))
    (cells_eight c.settings.own v t (waiting c.queries)))

-- the identifier of a record is the frame's
four_back : (n : ℕ)
    → n % 256 + n / 0x100 % 256 * 0x100 + n / 0x1_0000 % 256 * 0x1_0000 + n / 0x100_0000 * 0x100_0000 ≡ n
four_back n =
    let a : n / 0x1_0000 ≡ n / 0x100 / 256 = omega arith in
    let b : n / 0x100_0000 ≡ n / 0x1_0000 / 256 = omega arith in omega arith

frame_back : (f : Frame) (rest : List ℕ) → Eight f → frame_at (frame_record f ++ rest) ≡ f
unfolding frame_at frame_record
frame_back f rest h = rw (four_back f.id, h)

rest_back : (f : Frame) (rest : List ℕ) → drop record_size (frame_record f ++ rest) ≡ rest
unfolding frame_record
rest_back f rest = refl

frames_back : (fs : List Frame) (rest : List ℕ) → Each Eight fs → frames_from (length fs) (records_of fs ++ rest) ≡ fs
unfolding frames_from records_of Each
frames_back [] rest h = refl
frames_back (f ∷ fs) rest h =
    rw (append_assoc (frame_record f) (records_of fs) rest, frame_back f (records_of fs ++ rest) h.0, rest_back f (records_of fs ++ rest), frames_back fs rest h.1)

pub frames_written_lem : (fs : List Frame) (rest : List ℕ) → Each Eight fs
    → frames_written (record_size * length fs) (records_of fs ++ rest) ≡ fs
unfolding frames_written
frames_written_lem fs rest h =
    let n : record_size * length fs / record_size ≡ length fs = omega arith in rw n (frames_back fs rest h)

pub none_written : (s : List ℕ) → frames_written 0 s ≡ []
unfolding frames_written frames_from
none_written s = refl
