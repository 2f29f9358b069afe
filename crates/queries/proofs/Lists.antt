-- The waiting queries as lists alone: the places hold any list of up to four, and asking and answering go from list to
-- list. So a run of calls can be followed on the list. Assumes nothing.
use Rattle.std.specs.List.{list_any}
use Rattle.std.proofs.Common.{Option}
use Prim.Native.Nat.{ℕ, zero, suc, ◌≤◌, ◌<◌}
use mathlib.Core.Path.{◌≡◌, refl, ◌∙◌, ap}
use mathlib.Core.Bool.{Bool, true, false, cond}
use mathlib.Core.List.{List, [], ◌∷◌, ◌++◌}
use native.Mathlib.Omega.{arith}
use borrow.Author.Tests.{leb-false}
use lib.Dec.{leb, eqb}
use lib.IntN.{ℤ}
use lib.ListN.{length, take, length-append}
use lib.Seq.{take-nil}
use Rattle.messages.specs.declared.received.Kind.{Kind}
use Rattle.queries.specs.declared.Query.{Query}
use Rattle.queries.specs.declared.Queries.{Queries}
use Rattle.queries.specs.Waiting.{most_waiting, waiting, queries_of}
use Rattle.queries.specs.Asking.{same_asked, some_asks, ask_number, fresh_query, queued_of}
use Rattle.frames.specs.declared.Frame.{Frame}
use Rattle.queries.specs.Answering.{past_end, at_last, next_group, waiting_after, Answers}

-- the test of one query, asked of a list
pub some_asks_any : (source : ℕ) (kind : Kind) (l : List Query) → list_any (same_asked source kind) l ≡ some_asks source kind l
unfolding some_asks
some_asks_any source kind [] = refl
some_asks_any source kind (q ∷ qs) = rw (some_asks_any source kind qs)

-- never more than four wait
four_at_most : (a b c d : Query) (n : ℕ) → length (take n (a ∷ b ∷ c ∷ d ∷ [])) ≤ most_waiting
four_at_most a b c d zero = omega arith
four_at_most a b c d (suc zero) = omega arith
four_at_most a b c d (suc (suc zero)) = omega arith
four_at_most a b c d (suc (suc (suc zero))) = omega arith
four_at_most a b c d (suc (suc (suc (suc n)))) = rw (take-nil {A = Query} n) (omega arith)

pub waiting_at_most : (q : Queries) → length (waiting q) ≤ most_waiting
unfolding waiting
waiting_at_most q = four_at_most q.first q.second q.third q.fourth q.count

-- the places give back the list that they were made of
pub waiting_held : (l : List Query) → length l ≤ most_waiting → waiting (queries_of l) ≡ l
unfolding waiting queries_of
waiting_held [] h = refl
waiting_held (a ∷ []) h = refl
waiting_held (a ∷ b ∷ []) h = refl
waiting_held (a ∷ b ∷ c ∷ []) h = refl
waiting_held (a ∷ b ∷ c ∷ d ∷ []) h = refl
waiting_held (a ∷ b ∷ c ∷ d ∷ e ∷ l) h = absurd (omega arith)

-- who waits after a query has come
abbrev pub asked_list : ℕ → Kind → List Query → List Query
asked_list source kind l = cond (eqb (ask_number source kind l) 0) (l ++ (fresh_query source kind ∷ [])) l

module _ (source : ℕ) (kind : Kind) (l : List Query) where
  room :
      (some full : Bool) → leb most_waiting (length l) ≡ full → eqb (cond some 12 (cond full 13 0)) 0 ≡ true
      → length l < most_waiting
  room true full e h = let z : ◌≡◌ {A = Bool} false true = h in absurd (let y : ◌≡◌ {A = ℕ} 0 1 = cc in omega arith)
  room false true e h = let z : ◌≡◌ {A = Bool} false true = h in absurd (let y : ◌≡◌ {A = ℕ} 0 1 = cc in omega arith)
  room false false e h = leb-false most_waiting (length l) e

  taken_has_room : eqb (ask_number source kind l) 0 ≡ true → length l < most_waiting
  unfolding ask_number
  taken_has_room h = room (some_asks source kind l) (leb most_waiting (length l)) refl h

held :
    (q : Queries) (x : Query) (b : Bool)
    → (b ≡ true → length (waiting q) < most_waiting)
    → waiting (cond b (queries_of (waiting q ++ (x ∷ []))) q) ≡ cond b (waiting q ++ (x ∷ [])) (waiting q)
held q x true h = waiting_held (waiting q ++ (x ∷ [])) (omega (arith, h refl, length-append (waiting q) (x ∷ [])))
held q x false h = refl

-- asking goes from list to list
pub asked_waiting :
    (q : Queries) (source : ℕ) (kind : Kind)
    → waiting (queued_of q source kind).queries ≡ asked_list source kind (waiting q)
unfolding queued_of
asked_waiting q source kind =
    held q (fresh_query source kind) (eqb (ask_number source kind (waiting q)) 0) (taken_has_room source kind (waiting q))

-- and so does answering
shorter :
    (q : Query) (qs : List Query) (a b : Bool) → length (cond a qs (cond b qs (next_group q ∷ qs))) ≤ length (q ∷ qs)
shorter q qs true b = omega arith
shorter q qs false true = omega arith
shorter q qs false false = omega arith

pub later_at_most : (v : List ℕ) (t : List ℤ) (l : List Query) → length (waiting_after v t l) ≤ length l
unfolding waiting_after
later_at_most v t [] = omega arith
later_at_most v t (q ∷ qs) = shorter q qs (past_end v t q) (at_last v t q)

pub answers_waiting :
    (q : Queries) (own : ℕ) (v : List ℕ) (t : List ℤ) (next : Queries) (due : Option Frame)
    → Answers q own v t next due
    → waiting next ≡ waiting_after v t (waiting q)
answers_waiting q own v t next due h =
    ap waiting h.later
    ∙ waiting_held (waiting_after v t (waiting q)) (omega (arith, later_at_most v t (waiting q), waiting_at_most q))
