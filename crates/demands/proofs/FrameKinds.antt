-- The frames of a tick told apart by the PF of their identifiers: its charge frames, its broadcasts and its cell frame,
-- where every address is a byte (proofs/Addresses.antt: in every run it is). Assumes nothing.
use Prim.Native.Nat.{ℕ, ◌+◌, ◌*◌, ◌/◌, ◌%◌, ◌<◌, ◌≤◌}
use native.Mathlib.Omega.{arith}
use mathlib.Core.Path.{◌≡◌, refl, ap, ◌∙◌}
use mathlib.Core.Bool.{Bool, true, false, cond, ◌&&◌}
use mathlib.Core.List.{List, [], ◌∷◌, ◌++◌, append-nil}
use borrow.Author.Tests.{ne_eqb, le-leb, lt-ltb, leb-false}
use lib.Dec.{eqb, leb, ltb}
use lib.IntN.{ℤ}
use Rattle.messages.specs.declared.table.Row.{Row}
use Rattle.messages.specs.Table.{pf_of, priority_of, broadcast_ps, PS, VOLTAGES}
use Rattle.messages.specs.Identifier.{parts_of, number_of, ps_part, identifier_of}
use Rattle.frames.specs.declared.Frame.{Frame}
use Rattle.readings.specs.declared.Readings.{Readings}
use Rattle.cells.specs.Summaries.{cells_of}
use Rattle.cells.specs.Tables.{tables_fit}
use Rattle.cells.proofs.Bounds.{fit, Fit}
use Rattle.messages.specs.declared.received.Kind.{Kind}
use Rattle.messages.specs.declared.received.Kind.TheVariants.{Voltages, Temperatures}
use Rattle.queries.specs.declared.Query.{Query}
use Rattle.queries.specs.Waiting.{waiting}
use Rattle.queries.specs.Answering.{per_group, group_row, group_frame, table_length, past_end, answer_frames}
use Rattle.controller.specs.declared.Controller.{Controller}
use Rattle.controller.specs.Tick.{tick_frames, charge_frames, broadcast_frames, cell_frames}
use Rattle.demands.specs.FrameKinds.{pf_in, charge_rows, some_row, is_charge_frame, is_broadcast, is_cell_frame, only}
use Rattle.demands.specs.Told.{is_beside}
use Rattle.demands.proofs.Sent.{Each, each_map, each_one, each_none, Made, Make, Ten, Five, charge_made, broadcast_made, query_made}

-- ---- the PF of an identifier that we send is the row's
ps_byte : (b : Bool) (target ps : ℕ) → target < 256 → ps < 256 → cond b target ps < 256
ps_byte true target ps h k = h
ps_byte false target ps h k = k

pf_at : (a d e f n : ℕ)
    → n ≡ a % 8 * 0x400_0000 + 0 % 2 * 0x200_0000 + 0 % 2 * 0x100_0000 + d * 0x1_0000 + e * 0x100 + f → d < 256
    → e < 256 → f < 256
    → n / 0x1_0000 % 256 ≡ d
pf_at a d e f n whole hd he hf = let q : n / 0x1_0000 ≡ a % 8 * 1024 + d = omega arith in omega arith

module _ (row : Row) (target own : ℕ) (pf : pf_of row < 256) (ps : broadcast_ps row < 256) (t : target < 256) (o : own < 256) where
  pub pf_sent : (parts_of (identifier_of row target own)).pf ≡ pf_of row
  unfolding parts_of number_of
  pf_sent = pf_at (priority_of row) (pf_of row) (ps_part row target) own _ refl pf (ps_byte (ltb (pf_of row) 240) target (broadcast_ps row) t ps) o

-- ---- a row's kind, and a frame's
pub record RowKind (charge broadcast cell : Bool) (row : Row) : Type 0 where
  pub pf_byte : pf_of row < 256
  pub ps_is_byte : broadcast_ps row < 256
  pub in_charge : some_row (pf_of row) charge_rows ≡ charge
  pub in_broadcast : eqb (pf_of row) (pf_of PS) ≡ broadcast
  pub in_cell : (leb (pf_of VOLTAGES) (pf_of row) && ltb (pf_of row) (pf_of PS)) ≡ cell

pub record FrameKind (charge broadcast cell : Bool) (f : Frame) : Type 0 where
  pub is_charge_lem : is_charge_frame f ≡ charge
  pub is_broadcast_lem : is_broadcast f ≡ broadcast
  pub is_cell : is_cell_frame f ≡ cell

module _ (a b c : Bool) (target own : ℕ) (t : target < 256) (o : own < 256) where
  pub made_kind : (f : Frame) → Made (RowKind a b c) target own f → FrameKind a b c f
  unfolding is_charge_frame is_broadcast is_cell_frame pf_in
  made_kind f (Make row h z1 z2 z3 z4 z5 z6 z7 z8) =
      let e : (parts_of (identifier_of row target own)).pf ≡ pf_of row = pf_sent row target own h.pf_byte h.ps_is_byte t o in
      record { is_charge_lem = rw e h.in_charge; is_broadcast_lem = rw e h.in_broadcast; is_cell = rw e h.in_cell }

abbrev Charged : (row : Row) → Type 0
Charged row = RowKind true false false row

ten : Ten Charged
ten =
    record {
      eim = record { pf_byte = omega arith; ps_is_byte = omega arith; in_charge = refl; in_broadcast = refl; in_cell = refl };
      evm = record { pf_byte = omega arith; ps_is_byte = omega arith; in_charge = refl; in_broadcast = refl; in_cell = refl };
      ecp = record { pf_byte = omega arith; ps_is_byte = omega arith; in_charge = refl; in_broadcast = refl; in_cell = refl };
      erm = record { pf_byte = omega arith; ps_is_byte = omega arith; in_charge = refl; in_broadcast = refl; in_cell = refl };
      ecr = record { pf_byte = omega arith; ps_is_byte = omega arith; in_charge = refl; in_broadcast = refl; in_cell = refl };
      ecs = record { pf_byte = omega arith; ps_is_byte = omega arith; in_charge = refl; in_broadcast = refl; in_cell = refl };
      esm = record { pf_byte = omega arith; ps_is_byte = omega arith; in_charge = refl; in_broadcast = refl; in_cell = refl };
      est = record { pf_byte = omega arith; ps_is_byte = omega arith; in_charge = refl; in_broadcast = refl; in_cell = refl };
      edm = record { pf_byte = omega arith; ps_is_byte = omega arith; in_charge = refl; in_broadcast = refl; in_cell = refl };
      eem = record { pf_byte = omega arith; ps_is_byte = omega arith; in_charge = refl; in_broadcast = refl; in_cell = refl };
    }

five : Five (RowKind false true false)
five =
    record {
      ps = record { pf_byte = omega arith; ps_is_byte = omega arith; in_charge = refl; in_broadcast = refl; in_cell = refl };
      cvs = record { pf_byte = omega arith; ps_is_byte = omega arith; in_charge = refl; in_broadcast = refl; in_cell = refl };
      cts = record { pf_byte = omega arith; ps_is_byte = omega arith; in_charge = refl; in_broadcast = refl; in_cell = refl };
      fws = record { pf_byte = omega arith; ps_is_byte = omega arith; in_charge = refl; in_broadcast = refl; in_cell = refl };
      ec = record { pf_byte = omega arith; ps_is_byte = omega arith; in_charge = refl; in_broadcast = refl; in_cell = refl };
    }

-- from 31 hex up, below the broadcasts'
cell_row : (row : Row) → 0x31 ≤ pf_of row → pf_of row < 0xfa → broadcast_ps row < 256 → RowKind false false true row
cell_row row l h p =
    let n = pf_of row in
    record {
      pf_byte = omega arith;
      ps_is_byte = p;
      in_charge = rw (
        ne_eqb n 0x27 (λ e. omega arith),
        ne_eqb n 0x02 (λ e. omega arith),
        ne_eqb n 0x06 (λ e. omega arith),
        ne_eqb n 0x09 (λ e. omega arith),
        ne_eqb n 0x10 (λ e. omega arith),
        ne_eqb n 0x11 (λ e. omega arith),
        ne_eqb n 0x13 (λ e. omega arith),
        ne_eqb n 0x15 (λ e. omega arith),
        ne_eqb n 0x1a (λ e. omega arith),
        ne_eqb n 0x1e (λ e. omega arith),
      );
      in_broadcast = ne_eqb n 0xfa (λ e. omega arith);
      in_cell = rw (le-leb 0x31 n l, lt-ltb n 0xfa h);
    }

-- the row of a group that begins within a table of cells
group_row_lem : (kind : Kind) (group n : ℕ) → group * per_group kind < n → n ≤ 300
    → RowKind false false true (group_row kind group)
group_row_lem Voltages group n h k = cell_row (group_row Voltages group) (omega arith) (omega arith) (omega arith)
group_row_lem Temperatures group n h k = cell_row (group_row Temperatures group) (omega arith) (omega arith) (omega arith)

-- ---- the frames of a kind
only_append : (kind : Frame → Bool) (fs gs : List Frame) → only kind (fs ++ gs) ≡ only kind fs ++ only kind gs
unfolding only
only_append kind [] gs = refl
only_append kind (f ∷ fs) gs = either (kind f) (only_append kind fs gs)
  where
    either : (b : Bool) → only kind (fs ++ gs) ≡ only kind fs ++ only kind gs
        → cond b (f ∷ only kind (fs ++ gs)) (only kind (fs ++ gs)) ≡ cond b (f ∷ only kind fs) (only kind fs) ++ only kind gs
    either true h = ap (λ (l : List Frame). f ∷ l) h
    either false h = h

only_all : (kind : Frame → Bool) (fs : List Frame) → Each (λ (f : Frame). kind f ≡ true) fs → only kind fs ≡ fs
unfolding only Each
only_all kind [] h = refl
only_all kind (f ∷ fs) h = rw (h.0, only_all kind fs h.1)

only_none : (kind : Frame → Bool) (fs : List Frame) → Each (λ (f : Frame). kind f ≡ false) fs → only kind fs ≡ []
unfolding only Each
only_none kind [] h = refl
only_none kind (f ∷ fs) h = rw (h.0, only_none kind fs h.1)

-- ---- every address is a byte
unfoldable pub Below : List Query → Type 0
Below [] = Unit {0}
Below (q ∷ qs) = (q.source < 256) × Below qs

pub record Bytes (c : Controller) : Type 0 where
  pub own : c.settings.own < 256
  pub station : c.session.station < 256
  pub sources : Below (waiting c.queries)

-- ---- the frames of a tick that is accepted
begins_within : (v : List ℕ) (t : List ℤ) (q : Query) → Fit v t → past_end v t q ≡ false
    → RowKind false false true (group_row q.kind q.group)
unfolding past_end
begins_within v t q f h = group_row_lem q.kind q.group (table_length q.kind v t) (leb-false (table_length q.kind v t) _ h) (at_most q.kind)
  where
    at_most : (kind : Kind) → table_length kind v t ≤ 300
    at_most Voltages = omega (arith, f.most)
    at_most Temperatures = omega (arith, f.most, f.same)

cells_kind : (own : ℕ) (v : List ℕ) (t : List ℤ) → Fit v t → own < 256 → (qs : List Query) → Below qs
    → Each (FrameKind false false true) (answer_frames own v t qs)
unfolding answer_frames Below
cells_kind own v t f o [] h = each_none (FrameKind false false true)
cells_kind own v t f o (q ∷ qs) h = either (past_end v t q) refl
  where
    either : (b : Bool) → past_end v t q ≡ b → Each (FrameKind false false true) (cond b [] (group_frame own v t q ∷ []))
    either true e = each_none (FrameKind false false true)
    either false e =
        each_one (FrameKind false false true) _
        (made_kind false false true q.source own h.0 o _
        (query_made (RowKind false false true) own v t q (begins_within v t q f e)))

module _ (c : Controller) (b : Bytes c) (r : Readings) (v : List ℕ) (t : List ℤ) (f : tables_fit v t ≡ true) where
  charge_kind : Each (FrameKind true false false) (charge_frames c r v t)
  unfolding charge_frames
  charge_kind =
      each_map _ (made_kind true false false c.session.station c.settings.own b.station b.own)
      (charge_made Charged ten c.settings r (cells_of v t) c.session)

  broadcast_kind : Each (FrameKind false true false) (broadcast_frames c r v t)
  unfolding broadcast_frames
  broadcast_kind =
      each_map _ (made_kind false true false 0 c.settings.own (omega arith) b.own)
      (broadcast_made (RowKind false true false) five c.beat.tick c.settings.own c.settings.versions r (cells_of v t))

  cell_kind : Each (FrameKind false false true) (cell_frames c r v t)
  unfolding cell_frames
  cell_kind = cells_kind c.settings.own v t (fit v t f) b.own (waiting c.queries) b.sources

  parts : (kind : Frame → Bool) → only kind (tick_frames c r v t)
      ≡ only kind (charge_frames c r v t) ++ (only kind (broadcast_frames c r v t) ++ only kind (cell_frames c r v t))
  unfolding tick_frames
  parts kind =
      only_append kind (charge_frames c r v t) (broadcast_frames c r v t ++ cell_frames c r v t)
      ∙ ap (λ (l : List Frame). only kind (charge_frames c r v t) ++ l) (only_append kind (broadcast_frames c r v t) (cell_frames c r v t))

  -- the charge frames among them, the broadcasts, and the cell frame
  pub charge_frames_told : only is_charge_frame (tick_frames c r v t) ≡ charge_frames c r v t
  charge_frames_told =
      parts is_charge_frame
      ∙ rw (
        only_all is_charge_frame _ (each_map _ (λ g k. k.is_charge_lem) charge_kind),
        only_none is_charge_frame _ (each_map _ (λ g k. k.is_charge_lem) broadcast_kind),
        only_none is_charge_frame _ (each_map _ (λ g k. k.is_charge_lem) cell_kind),
      )
      (append-nil (charge_frames c r v t))

  pub broadcasts_told : only is_broadcast (tick_frames c r v t) ≡ broadcast_frames c r v t
  broadcasts_told =
      parts is_broadcast
      ∙ rw (
        only_none is_broadcast _ (each_map _ (λ g k. k.is_broadcast_lem) charge_kind),
        only_all is_broadcast _ (each_map _ (λ g k. k.is_broadcast_lem) broadcast_kind),
        only_none is_broadcast _ (each_map _ (λ g k. k.is_broadcast_lem) cell_kind),
      )
      (append-nil (broadcast_frames c r v t))

  pub cell_frames_told : only is_cell_frame (tick_frames c r v t) ≡ cell_frames c r v t
  cell_frames_told =
      parts is_cell_frame
      ∙ rw (
        only_none is_cell_frame _ (each_map _ (λ g k. k.is_cell) charge_kind),
        only_none is_cell_frame _ (each_map _ (λ g k. k.is_cell) broadcast_kind),
        only_all is_cell_frame _ (each_map _ (λ g k. k.is_cell) cell_kind),
      )

  -- and the broadcasts and the cell frame together
  pub beside_told : only is_beside (tick_frames c r v t) ≡ broadcast_frames c r v t ++ cell_frames c r v t
  beside_told =
      parts is_beside
      ∙ rw (
        only_none is_beside _ (each_map _ (λ g k. rw (k.is_broadcast_lem, k.is_cell)) charge_kind),
        only_all is_beside _ (each_map _ (λ g k. rw k.is_broadcast_lem) broadcast_kind),
        only_all is_beside _ (each_map _ (λ g k. rw (k.is_broadcast_lem, k.is_cell)) cell_kind),
      )
