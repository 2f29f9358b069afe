-- The list that the four places stand for, by how many are waiting: none, one, two, three, or all four. Assumes
-- nothing.
use Rattle.std.proofs.Common.{min}
use Rattle.std.proofs.Math.Nat.{min-eq_right}
use Prim.Native.Nat.{ℕ, zero, suc, ◌-◌, ◌≤◌, ◌<◌}
use mathlib.Core.Path.{◌≡◌, refl, ◌∙◌, ap}
use mathlib.Core.List.{List, [], ◌∷◌, ◌++◌}
use native.Mathlib.Omega.{arith}
use borrow.Author.Tests.{le-leb}
use lib.Dec.{leb}
use lib.ListN.{length, take, drop}
use lib.Seq.{take-nil}
use Rattle.queries.specs.declared.Query.{Query}
use Rattle.queries.specs.declared.Queries.{Queries}
use Rattle.queries.specs.Waiting.{most_waiting, waiting, queries_of}

-- four or more are said to wait
module _ (n : ℕ) where
  no_more : min (suc (suc (suc (suc n)))) 4 ≡ 4
  no_more = min-eq_right (omega arith)

module _ (a b c d : Query) where
  abbrev four : List Query
  four = a ∷ b ∷ c ∷ d ∷ []

  -- the first n of four without the oldest
  pub left_is :
      (n m : ℕ) → m ≡ min n most_waiting → 0 < m
      → take (m - 1) (b ∷ c ∷ d ∷ d ∷ []) ≡ drop 1 (take n four)
  left_is zero m e h = absurd (omega (arith, e))
  left_is (suc zero) m e h = rw e
  left_is (suc (suc zero)) m e h = rw e
  left_is (suc (suc (suc zero))) m e h = rw e
  left_is (suc (suc (suc (suc n)))) m e h = rw (e, no_more n, take-nil {A = Query} n)

  pub none_left : (n m : ℕ) → m ≡ min n most_waiting → m ≤ 0 → [] ≡ drop 1 (take n four)
  none_left zero m e h = refl
  none_left (suc zero) m e h = absurd (omega (arith, e))
  none_left (suc (suc zero)) m e h = absurd (omega (arith, e))
  none_left (suc (suc (suc zero))) m e h = absurd (omega (arith, e))
  none_left (suc (suc (suc (suc n)))) m e h = absurd (omega (arith, rw (no_more n) at e))

  -- four wait where four or more are said to
  pub four_wait : (n : ℕ) → leb most_waiting (length (take n four)) ≡ leb most_waiting n
  four_wait zero = refl
  four_wait (suc zero) = refl
  four_wait (suc (suc zero)) = refl
  four_wait (suc (suc (suc zero))) = refl
  four_wait (suc (suc (suc (suc n)))) = rw (take-nil {A = Query} n, le-leb 4 (suc (suc (suc (suc n)))) (omega arith))

  -- the oldest, where one waits, and the others
  pub oldest_first : (n : ℕ) → 0 < n → take n four ≡ a ∷ drop 1 (take n four)
  oldest_first zero h = absurd (omega arith)
  oldest_first (suc n) h = refl

  -- with another in the place of the oldest
  pub moved_is : (n : ℕ) → 0 < n → (q : Query) → take n (q ∷ b ∷ c ∷ d ∷ []) ≡ q ∷ drop 1 (take n four)
  moved_is zero h q = absurd (omega arith)
  moved_is (suc n) h q = refl

three_left : (n : ℕ) → n < 4 → (n ≡ 0 → ⊥) → (n ≡ 1 → ⊥) → (n ≡ 2 → ⊥) → n ≡ 3
three_left n h a b c = omega arith

-- the same of the places
module _ (q r : Queries) where
  pub left_places :
      (m : ℕ)
      → m ≡ min q.count most_waiting
      → 0 < m
      → r ≡ queries_of (take (m - 1) (q.second ∷ q.third ∷ q.fourth ∷ q.fourth ∷ []))
      → r ≡ queries_of (drop 1 (waiting q))
  unfolding waiting
  left_places m e h p =
      p ∙ ap queries_of (left_is q.first q.second q.third q.fourth q.count m e h)

  pub none_places :
      (m : ℕ) → m ≡ min q.count most_waiting → m ≤ 0 → r ≡ queries_of []
      → r ≡ queries_of (drop 1 (waiting q))
  unfolding waiting
  none_places m e h p =
      p ∙ ap queries_of (none_left q.first q.second q.third q.fourth q.count m e h)

  pub moved_places :
      (x : Query)
      → 0 < q.count
      → r ≡ queries_of (take q.count (x ∷ q.second ∷ q.third ∷ q.fourth ∷ []))
      → r ≡ queries_of (x ∷ drop 1 (waiting q))
  unfolding waiting
  moved_places x h p = p ∙ ap queries_of (moved_is q.first q.second q.third q.fourth q.count h x)

  pub added_places :
      (x : Query)
      → q.count < most_waiting
      → (q.count ≡ 0 → ⊥)
      → (q.count ≡ 1 → ⊥)
      → (q.count ≡ 2 → ⊥)
      → r ≡ queries_of (q.first ∷ q.second ∷ q.third ∷ x ∷ [])
      → r ≡ queries_of (waiting q ++ (x ∷ []))
  unfolding waiting
  added_places x h a b c p = p ∙ rw (three_left q.count h a b c)
