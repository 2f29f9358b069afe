-- What is held of the text: the last newline, and a part that is moved to the start. Assumes nothing.
use Prim.Native.Nat.{ℕ, suc, ◌-◌, ◌≤◌, ◌<◌, min}
use mathlib.Core.Path.{◌≡◌, sym, ◌∙◌, ap}
use mathlib.Core.List.{List, [], ◌∷◌, ◌++◌}
use native.Mathlib.Omega.{arith}
use borrow.Author.Tests.{lt-ltb, ne_eqb}
use lib.ListN.{length, get_or, take, drop, length-drop}
use Rattle.std.proofs.lemmas.List.{take_all, drop_min}
use Rattle.std.specs.List.{copy_within}
use native.Mathlib.Nat.{zero-add}
use lib.Seq.{take-suc, length-take-le}
use Rattle.replay_text.specs.Chars.{newline, laid_first}
use Rattle.replay_text.specs.Lines.{past_last}

-- a newline at the end is the last
ends_newline : (l : List ℕ) (b : ℕ) → b ≡ newline → past_last (l ++ (b ∷ [])) ≡ suc (length l)
unfolding past_last
ends_newline [] b e = rw e
ends_newline (x ∷ l) b e = rw (ends_newline l b e, lt-ltb 0 (suc (length l)) (omega arith))

-- any other character at the end does not count
ends_other : (l : List ℕ) (b : ℕ) → (b ≡ newline → ⊥) → past_last (l ++ (b ∷ [])) ≡ past_last l
unfolding past_last
ends_other [] b e = rw (ne_eqb b newline e)
ends_other (x ∷ l) b e = rw (ends_other l b e)

module _ (text : List ℕ) (at : ℕ) (some : 0 < at) (there : at ≤ length text) where
  one_more : take at text ≡ take (at - 1) text ++ (get_or text (at - 1) 0 ∷ [])
  one_more =
      let e : suc (at - 1) ≡ at = omega arith in
      ap (λ (k : ℕ). take k text) (sym e) ∙ take-suc text (at - 1) 0 (omega arith)

  pub last_here : get_or text (at - 1) 0 ≡ newline → past_last (take at text) ≡ at
  last_here e =
      ap past_last one_more
      ∙ (ends_newline (take (at - 1) text) (get_or text (at - 1) 0) e
      ∙ omega (arith, length-take-le (at - 1) text (omega arith)))

  pub last_before : (get_or text (at - 1) 0 ≡ newline → ⊥) → past_last (take at text) ≡ past_last (take (at - 1) text)
  last_before e = ap past_last one_more ∙ ends_other (take (at - 1) text) (get_or text (at - 1) 0) e

-- the characters from a place on, moved to the start, stand before the rest
pub moved_rest : (text : List ℕ) (from start : ℕ) → start ≡ min from (length text)
    → copy_within text start (length text) 0 ≡ laid_first (drop from text) text
unfolding laid_first
moved_rest text from start f =
    let s = drop start text in
    let d : drop from text ≡ s = sym (drop_min from text) ∙ rw (← f) in
    let k : length text - start ≡ length s = sym (length-drop start text) in
    rw (d, k, take_all (length s) s (omega arith), zero-add)
