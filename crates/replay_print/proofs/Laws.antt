-- How printing composes: one text after another; in a loop a text's next byte, one time more, one byte more in hex.
-- Assumes nothing.
use Prim.Native.Nat.{ℕ, zero, suc, ◌+◌, ◌<◌}
use native.Mathlib.Numerals.{add-one}
use mathlib.Core.Path.{◌≡◌, refl, sym, ◌∙◌, ap}
use mathlib.Core.List.{List, [], ◌∷◌, ◌++◌, append-nil, append_assoc}
use lib.ListN.{length, take, get_or, replicate}
use lib.Seq.{take-suc}
use Rattle.replay_print.specs.Out.{Output, put_of, laid_of, waits, Prints}
use Rattle.replay_print.specs.declared.out.Out.{Out}
use Rattle.replay_print.specs.Text.{hex_of, hexes_of}

-- one text after another is the two as one
pub laid_append : (xs ys : List ℕ) (x : Output) → laid_of (xs ++ ys) x ≡ laid_of ys (laid_of xs x)
unfolding laid_of
laid_append [] ys x = refl
laid_append (b ∷ xs) ys x = laid_append xs ys (put_of b x)

module _ {W : Type 0} where
  -- no text
  pub prints_none : (x : Out W) → Prints x x []
  unfolding laid_of
  prints_none x = record { later = refl }

  -- one text, then another
  pub prints_then : {x y z : Out W} {xs ys : List ℕ} → Prints x y xs → Prints y z ys → Prints x z (xs ++ ys)
  prints_then {x} {y} {z} {xs} {ys} a b =
      record { later = b.later ∙ (ap (laid_of ys) a.later ∙ sym (laid_append xs ys (waits x))) }

  -- the same text, known by another name
  pub prints_eq : {x y : Out W} {xs ys : List ℕ} → Prints x y xs → xs ≡ ys → Prints x y ys
  prints_eq a e = rw (← e) a

-- a loop over a text prints one byte more
pub laid_next : (s : List ℕ) (i : ℕ) (x : Output) → i < length s
    → laid_of (take (i + 1) s) x ≡ laid_of (get_or s i 0 ∷ []) (laid_of (take i s) x)
laid_next s i x h =
    ap (λ (k : ℕ). laid_of (take k s) x) (add-one i)
    ∙ (ap (λ (t : List ℕ). laid_of t x) (take-suc s i 0 h)
    ∙ laid_append (take i s) (get_or s i 0 ∷ []) x)

hexes_append : (xs ys : List ℕ) → hexes_of (xs ++ ys) ≡ hexes_of xs ++ hexes_of ys
unfolding hexes_of
hexes_append [] ys = refl
hexes_append (b ∷ xs) ys =
    ap (λ (t : List ℕ). hex_of b ++ t) (hexes_append xs ys) ∙ sym (append_assoc (hex_of b) (hexes_of xs) (hexes_of ys))

-- a loop over bytes prints one more in hex
pub hexes_next : (s : List ℕ) (i : ℕ) (x : Output) → i < length s
    → laid_of (hexes_of (take (i + 1) s)) x ≡ laid_of (hex_of (get_or s i 0)) (laid_of (hexes_of (take i s)) x)
unfolding hexes_of
hexes_next s i x h =
    rw (
      add-one i,
      take-suc s i 0 h,
      hexes_append (take i s) (get_or s i 0 ∷ []),
      append-nil (hex_of (get_or s i 0)),
      laid_append (hexes_of (take i s)) (hex_of (get_or s i 0)) x,
    )

repeated_next : (n b : ℕ) (x : Output) → laid_of (replicate (suc n) b) x ≡ laid_of (b ∷ []) (laid_of (replicate n b) x)
unfolding laid_of
repeated_next zero b x = refl
repeated_next (suc n) b x = repeated_next n b (put_of b x)

-- a loop prints a byte one time more
pub one_more : (n b : ℕ) (x : Output)
    → laid_of (replicate (n + 1) b) x ≡ laid_of (b ∷ []) (laid_of (replicate n b) x)
one_more n b x = rw (add-one n) (repeated_next n b x)
