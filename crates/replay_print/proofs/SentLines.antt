-- Laws of the lines of frames: a frame's line reads its own 13 bytes, and one frame more is one line more. Assumes
-- nothing.
use Prim.Native.Nat.{ℕ, zero, suc, ◌+◌, ◌<◌}
use native.Mathlib.Nat.{not-suc-le-zero, le_of_suc-le-suc}
use native.Mathlib.Numerals.{add-one}
use mathlib.Core.Path.{◌≡◌, sym, ◌∙◌, ap}
use mathlib.Core.List.{List, [], ◌++◌, append_assoc, append-nil}
use native.Mathlib.Omega.{arith}
use lib.ListN.{take, drop, get_or}
use lib.Seq.{get_or-take, take-take}
use Rattle.std.proofs.lemmas.List.{drop-take}
use Rattle.std.specs.Simd.{first_chunks}
use Rattle.replay_print.proofs.Laws.{laid_append}
use Rattle.replay_print.specs.Out.{Output, laid_of}
use Rattle.replay_print.specs.Frames.{frame_text, sent_line, sent_lines}

-- a frame's line reads its own bytes alone
own_bytes : (tick : ℕ) (bytes : List ℕ) → sent_line tick (take 13 bytes) ≡ sent_line tick bytes
unfolding sent_line frame_text
own_bytes tick bytes =
    rw (
      get_or-take 13 bytes 3 0 (omega arith),
      get_or-take 13 bytes 2 0 (omega arith),
      get_or-take 13 bytes 1 0 (omega arith),
      get_or-take 13 bytes 0 0 (omega arith),
      drop-take 5 8 bytes,
      take-take 8 8 (drop 5 bytes) (omega arith),
    )

-- one frame more
lines_more : (tick n i : ℕ) (bytes : List ℕ) → i < n
    → sent_lines tick i bytes ++ sent_line tick (get_or (first_chunks 13 n bytes) i []) ≡ sent_lines tick (suc i) bytes
unfolding sent_lines
lines_more tick zero i bytes h = absurd (not-suc-le-zero h)
lines_more tick (suc n) zero bytes h = own_bytes tick bytes ∙ sym (append-nil (sent_line tick bytes))
lines_more tick (suc n) (suc i) bytes h =
    append_assoc (sent_line tick bytes) (sent_lines tick i (drop 13 bytes))
    (sent_line tick (get_or (first_chunks 13 n (drop 13 bytes)) i []))
    ∙ ap (λ (t : List ℕ). sent_line tick bytes ++ t)
    (lines_more tick n i (drop 13 bytes) (le_of_suc-le-suc h))

-- a loop over the frames prints one line more
pub lines_next : (tick n i : ℕ) (bytes : List ℕ) (x : Output) → i < n
    → laid_of (sent_lines tick (i + 1) bytes) x
    ≡ laid_of (sent_line tick (get_or (first_chunks 13 n bytes) i [])) (laid_of (sent_lines tick i bytes) x)
lines_next tick n i bytes x h =
    ap (λ (k : ℕ). laid_of (sent_lines tick k bytes) x) (add-one i)
    ∙ (ap (λ (t : List ℕ). laid_of t x) (sym (lines_more tick n i bytes h))
    ∙ laid_append (sent_lines tick i bytes) (sent_line tick (get_or (first_chunks 13 n bytes) i [])) x)
