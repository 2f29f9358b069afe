-- What is kept of a count by its fold: the tests up to `back`, and the remainder by a divisor of the turn. Assumes nothing.
use mathlib.Core.Path.{◌≡◌, refl, ap, sym, ◌∙◌}
use mathlib.Core.Bool.{Bool, true, false, cond}
use mathlib.Core.Logic.{◌⊎◌, inl, inr, ⊎_elim}
use Prim.Native.Nat.{ℕ, zero, suc, ◌+◌, ◌*◌, ◌%◌, ◌≤◌, ◌<◌}
use native.Mathlib.Omega.{arith}
use native.Mathlib.Numerals.{add-one}
use native.Mathlib.Nat.{add-mul-mod_self_right, mul_assoc}
use borrow.Author.Tests.{leb-true, leb-false, ltb-true, ltb-false, le-leb, lt-leb, eq-eqb, ne_eqb}
use lib.Dec.{ltb, leb, eqb}
use Rattle.session_states.specs.Counts.{next_count, next_up_to}
use Rattle.session_paper_counts.specs.Folds.{fold}

-- the fold of one more is one step more of the fold
pub fold_next : (next : ℕ → ℕ) (n : ℕ) → fold next (n + 1) ≡ next (fold next n)
unfolding fold
fold_next next n = rw (add-one n)

-- n is its fold and some whole turns; where there is a turn, the fold has passed `back`
pub record Folded (back p n f : ℕ) : Type 0 where
  pub turns : ℕ
  pub sum : n ≡ f + turns * (p + 1)
  pub low : f ≤ back + p
  pub passed : (turns ≡ 0) ⊎ (back ≤ f)

folded_step : (back p n f : ℕ) → Folded back p n f → (t : Bool) → leb (back + p) f ≡ t → Folded back p (suc n) (cond t back (f + 1))
folded_step back p n f h true e =
    record { turns = h.turns + 1; sum = omega (arith, leb-true (back + p) f e); low = omega arith; passed = inr (omega arith) }
folded_step back p n f h false e =
    record {
      turns = h.turns;
      sum = omega arith;
      low = omega (arith, leb-false (back + p) f e);
      passed = ⊎_elim (λ z. inl z) (λ z. inr (omega arith)) h.passed;
    }

pub folded : (back p n : ℕ) → Folded back p n (fold (next_count (back + p) back) n)
unfolding fold
folded back p zero = record { turns = 0; sum = omega arith; low = omega arith; passed = inl refl }
folded back p (suc n) =
    folded_step back p n (fold (next_count (back + p) back) n) (folded back p n) (leb (back + p) (fold (next_count (back + p) back) n)) refl

no_turns : (p n f k : ℕ) → n ≡ f + k * (p + 1) → k ≡ 0 → n ≡ f
no_turns p n f k e z = let q : k * (p + 1) ≡ 0 * (p + 1) = ap (λ (x : ℕ). x * (p + 1)) z in omega arith

leb_any : (t back p n f : ℕ) → t ≤ back → Folded back p n f → (r : Bool) → leb t f ≡ r → r ≡ leb t n
leb_any t back p n f lt h true e = sym (le-leb t n (omega (arith, leb-true t f e)))
leb_any t back p n f lt h false e =
    ⊎_elim (λ z. sym (lt-leb t n (omega (arith, leb-false t f e, no_turns p n f h.turns h.sum z))))
    (λ z. absurd (omega (arith, leb-false t f e))) h.passed

-- a test up to `back` answers the same of the fold
pub fold_leb : (t back p n : ℕ) → t ≤ back → leb t (fold (next_count (back + p) back) n) ≡ leb t n
fold_leb t back p n lt =
    leb_any t back p n (fold (next_count (back + p) back) n) lt (folded back p n) (leb t (fold (next_count (back + p) back) n)) refl

pub fold_ltb : (t back p n : ℕ) → t < back → ltb t (fold (next_count (back + p) back) n) ≡ ltb t n
fold_ltb t back p n lt = fold_leb (suc t) back p n lt

zero_alike : (f n : ℕ) (x : Bool) → ltb 0 f ≡ x → ltb 0 n ≡ x → eqb f 0 ≡ eqb n 0
zero_alike f n true p q =
    ne_eqb f 0 (λ e. omega (arith, ltb-true 0 f p)) ∙ sym (ne_eqb n 0 (λ e. omega (arith, ltb-true 0 n q)))
zero_alike f n false p q =
    eq-eqb f 0 (omega (arith, ltb-false 0 f p)) ∙ sym (eq-eqb n 0 (omega (arith, ltb-false 0 n q)))

-- only 0 folds to 0
pub fold_zero : (back p n : ℕ) → 0 < back → eqb (fold (next_count (back + p) back) n) 0 ≡ eqb n 0
fold_zero back p n h = zero_alike (fold (next_count (back + p) back) n) n (ltb 0 n) (fold_ltb 0 back p n h) refl

mod_any : (d e p n f k : ℕ) → p + 1 ≡ e * d → n ≡ f + k * (p + 1) → f % d ≡ n % d
mod_any d e p n f k h s = rw (s, h, ← mul_assoc k e d) (sym (add-mul-mod_self_right f (k * e) d))

-- a remainder by a divisor of the turn is the same of the fold
pub fold_mod : (d e back p n : ℕ) → p + 1 ≡ e * d → fold (next_count (back + p) back) n % d ≡ n % d
fold_mod d e back p n h =
    mod_any d e p n (fold (next_count (back + p) back) n) (folded back p n).turns h (folded back p n).sum

-- a fold is never above `top`
pub fold_low : (back p n : ℕ) → fold (next_count (back + p) back) n ≤ back + p
fold_low back p n = (folded back p n).low

-- up to `top` a count is its own fold
up_to : (top back n f : ℕ) → f ≡ n → suc n ≤ top → (t : Bool) → leb top f ≡ t → cond t back (f + 1) ≡ suc n
up_to top back n f e h true k = absurd (omega (arith, e, leb-true top f k))
up_to top back n f e h false k = omega (arith, e)

pub fold_same : (top back n : ℕ) → n ≤ top → fold (next_count top back) n ≡ n
unfolding fold
fold_same top back zero h = refl
fold_same top back (suc n) h =
    up_to top back n (fold (next_count top back) n) (fold_same top back n (omega arith)) h (leb top (fold (next_count top back) n)) refl

pub fold_up_to : (limit n : ℕ) → n ≤ limit → fold (next_up_to limit) n ≡ n
fold_up_to limit n h = fold_same limit limit n h

-- so a fold is its own fold
pub fold_again : (back p n : ℕ) → fold (next_count (back + p) back) (fold (next_count (back + p) back) n) ≡ fold (next_count (back + p) back) n
fold_again back p n = fold_same (back + p) back (fold (next_count (back + p) back) n) (fold_low back p n)
