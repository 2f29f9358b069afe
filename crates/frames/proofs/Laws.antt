-- How sending composes: no frame, one frame, some frames after others, a looser bound; and what the buffer then holds.
-- Assumes nothing.
use Prim.Native.Nat.{ℕ, ◌+◌, ◌*◌, ◌≤◌}
use native.Mathlib.Omega.{arith}
use mathlib.Core.Path.{◌≡◌, refl, sym, ◌∙◌, ap}
use mathlib.Core.List.{List, [], ◌∷◌, ◌++◌, append_assoc, append-nil}
use lib.ListN.{length, drop, length-append}
use Rattle.buffers.specs.InnerLaid.{Laid}
use Rattle.buffers.proofs.Laws.{laid_none, laid_then, laid_eq, laid_length, laid_start}
use Rattle.frames.specs.declared.Frame.{Frame}
use Rattle.frames.specs.Frame.{record_size, frame_record, records_of}
use Rattle.frames.specs.InnerSent.{Sent}

-- every record has one size
pub length_record : (f : Frame) → length (frame_record f) ≡ record_size
unfolding frame_record
length_record f = refl

pub length_records : (fs : List Frame) → length (records_of fs) ≡ record_size * length fs
unfolding records_of
length_records [] = refl
length_records (f ∷ fs) =
    omega (arith, length-append (frame_record f) (records_of fs), length_record f, length_records fs)

pub records_append : (fs gs : List Frame) → records_of (fs ++ gs) ≡ records_of fs ++ records_of gs
unfolding records_of
records_append [] gs = refl
records_append (f ∷ fs) gs =
    ap (λ (t : List ℕ). frame_record f ++ t) (records_append fs gs)
    ∙ sym (append_assoc (frame_record f) (records_of fs) (records_of gs))

records_one : (f : Frame) → frame_record f ≡ records_of (f ∷ [])
unfolding records_of
records_one f = sym (append-nil (frame_record f))

-- no frame
pub sent_none : (old : List ℕ) (at : ℕ) → at ≤ length old → Sent 0 old old at at []
unfolding records_of
sent_none old at h = record { count = omega arith; past = omega arith; laid = laid_none old at h }

-- one frame, laid as its record
pub sent_one :
    {old new : List ℕ} {at next : ℕ} (f : Frame) → Laid old new at next (frame_record f) → Sent 1 old new at next (f ∷ [])
sent_one {old} {new} {at} {next} f a =
    record { count = omega arith; past = omega (arith, a.past, length_record f); laid = laid_eq a (records_one f) }

-- some frames after others
pub sent_then : {m n : ℕ} {old mid new : List ℕ} {at k next : ℕ} {fs gs : List Frame}
    → Sent m old mid at k fs → Sent n mid new k next gs → Sent (m + n) old new at next (fs ++ gs)
sent_then {m} {n} {old} {mid} {new} {at} {k} {next} {fs} {gs} a b =
    let l : length (fs ++ gs) ≡ length fs + length gs = length-append fs gs in
    record {
      count = omega (arith, a.count, b.count);
      past = omega (arith, a.past, b.past);
      laid = laid_eq (laid_then a.laid b.laid) (sym (records_append fs gs));
    }

module _ {m : ℕ} {old new : List ℕ} {at next : ℕ} {fs : List Frame} (a : Sent m old new at next fs) where
  -- and then no frame more
  pub sent_no_more : Sent 0 new new next next []
  sent_no_more = sent_none new next (omega (arith, a.past, a.laid.room, a.laid.past, laid_length a.laid))

  -- a looser bound
  pub sent_most : (n : ℕ) → m ≤ n → Sent n old new at next fs
  sent_most n h = record { count = omega (arith, a.count); past = a.past; laid = a.laid }

  -- the same frames, known by another name
  pub sent_eq : {gs : List Frame} → fs ≡ gs → Sent m old new at next gs
  sent_eq e = rw (← e) a

-- from the buffer's start: the records in a row, then the rest of the buffer as it was
pub sent_start : {m : ℕ} {old new : List ℕ} {next : ℕ} {fs : List Frame} → Sent m old new 0 next fs
    → new ≡ records_of fs ++ drop (record_size * length fs) old
sent_start {m} {old} {new} {next} {fs} a =
    laid_start a.laid ∙ ap (λ (k : ℕ). records_of fs ++ drop k old) (length_records fs)

-- frames sent one at a time, each from the place that the one before returned
pub data InTurn : List ℕ → ℕ → List Frame → List ℕ → ℕ → Type 0 where
  last : {old : List ℕ} {at : ℕ} → InTurn old at [] old at
  more : {old mid new : List ℕ} {at k next : ℕ} {f : Frame} {fs : List Frame}
      → Sent 1 old mid at k (f ∷ []) → InTurn mid k fs new next → InTurn old at (f ∷ fs) new next

-- are their records in a row, and the rest of the buffer unchanged, however many they are
pub in_turn : {old new : List ℕ} {at next : ℕ} {fs : List Frame} → at ≤ length old → InTurn old at fs new next
    → Sent (length fs) old new at next fs
in_turn h last = sent_none _ _ h
in_turn h (more {fs = fs} a t) =
    sent_most (sent_then a (in_turn (omega (arith, a.past, a.laid.room, laid_length a.laid)) t)) _ (omega arith)
