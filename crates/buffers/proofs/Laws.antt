-- How laying composes: nothing laid, one after the other, the same bytes by another name, the length that stays.
-- Assumes nothing.
use Prim.Native.Nat.{ℕ, suc, ◌+◌, ◌≤◌}
use native.Mathlib.Nat.{add-zero, add-suc, suc-add, zero-add}
use native.Mathlib.Omega.{arith}
use mathlib.Core.Path.{◌≡◌, sym, ◌∙◌, ap}
use mathlib.Core.List.{List, [], ◌∷◌, ◌++◌}
use lib.ListN.{length, drop, set, length-append}
use lib.Seq.{sets, sets-eq, length-sets}
use Rattle.buffers.specs.InnerLaid.{Laid, laid_at}

-- element by element, as a loop stores them
pub laid_sets : (old : List ℕ) (at : ℕ) (vs : List ℕ) → at + length vs ≤ length old → sets old at vs ≡ laid_at old at vs
unfolding laid_at
laid_sets old at vs h = sets-eq vs old at h

sets_append : (l : List ℕ) (i : ℕ) (xs ys : List ℕ) → sets l i (xs ++ ys) ≡ sets (sets l i xs) (i + length xs) ys
sets_append l i [] ys = ap (λ (k : ℕ). sets l k ys) (sym (add-zero i))
sets_append l i (x ∷ xs) ys =
    sets_append (set l i x) (suc i) xs ys
    ∙ ap (λ (k : ℕ). sets (sets (set l i x) (suc i) xs) k ys) (suc-add i (length xs) ∙ sym (add-suc i (length xs)))

module _ {old new : List ℕ} {at next : ℕ} {vs : List ℕ} (a : Laid old new at next vs) where
  as_sets : new ≡ sets old at vs
  as_sets = a.holds ∙ sym (laid_sets old at vs a.room)

  -- a buffer keeps its length
  pub laid_length : length new ≡ length old
  laid_length = ap length as_sets ∙ length-sets old at vs

  -- the same bytes, known by another name
  pub laid_eq : {ws : List ℕ} → vs ≡ ws → Laid old new at next ws
  laid_eq e = rw (← e) a

-- nothing laid
pub laid_none : (old : List ℕ) (at : ℕ) → at ≤ length old → Laid old old at at []
laid_none old at h =
    let r : at + length {A = ℕ} [] ≤ length old = omega arith in
    record { room = r; past = sym (add-zero at); holds = laid_sets old at [] r }

-- one after the other
pub laid_then : {old mid new : List ℕ} {at m next : ℕ} {xs ys : List ℕ}
    → Laid old mid at m xs → Laid mid new m next ys → Laid old new at next (xs ++ ys)
laid_then {old} {mid} {new} {at} {m} {next} {xs} {ys} a b =
    let n : length (xs ++ ys) ≡ length xs + length ys = length-append xs ys in
    let r : at + length (xs ++ ys) ≤ length old = omega (arith, a.room, a.past, b.room, laid_length a) in
    record {
      room = r;
      past = omega (arith, a.past, b.past);
      holds =
          as_sets b
          ∙ (ap (λ (l : List ℕ). sets l m ys) (as_sets a)
          ∙ (ap (λ (i : ℕ). sets (sets old at xs) i ys) a.past
          ∙ (sym (sets_append old at xs ys) ∙ laid_sets old at (xs ++ ys) r)));
    }

-- from the buffer's start: the bytes, then the rest of the buffer
pub laid_start : {old new : List ℕ} {next : ℕ} {vs : List ℕ} → Laid old new 0 next vs → new ≡ vs ++ drop (length vs) old
unfolding laid_at
laid_start {old} {new} {next} {vs} a = a.holds ∙ ap (λ (k : ℕ). vs ++ drop k old) (zero-add (length vs))
