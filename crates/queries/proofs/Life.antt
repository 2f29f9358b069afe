-- A query's whole life at the front, while the tables stay as they are: it is sent each group of its table once, in
-- order, a tick each, and then it is gone and those behind it wait as they did. Assumes nothing.
use Prim.Native.Nat.{ℕ, zero, suc, ◌+◌, ◌-◌, ◌*◌, ◌/◌, ◌≤◌, ◌<◌}
use mathlib.Core.Path.{◌≡◌, ap}
use mathlib.Core.Bool.{true, false}
use mathlib.Core.List.{List, [], ◌∷◌, ◌++◌}
use native.Mathlib.Omega.{arith}
use borrow.Author.Tests.{le-leb, lt-leb}
use lib.IntN.{ℤ}
use Rattle.frames.specs.declared.Frame.{Frame}
use Rattle.messages.specs.declared.received.Kind.{Kind}
use Rattle.messages.specs.declared.received.Kind.TheVariants.{Voltages, Temperatures}
use Rattle.queries.specs.declared.Query.{Query}
use Rattle.queries.specs.Asking.{fresh_query}
use Rattle.queries.specs.Answering.{per_group, group_frame, table_length, past_end, at_last, next_group, answer_frames}
use Rattle.queries.specs.Answering.{waiting_after}

module _ (own : ℕ) (v : List ℕ) (t : List ℤ) where
  -- who waits after so many ticks, and all that they sent
  unfoldable pub wait_after : ℕ → List Query → List Query
  wait_after zero l = l
  wait_after (suc ticks) l = wait_after ticks (waiting_after v t l)

  unfoldable pub sent_in : ℕ → List Query → List Frame
  sent_in zero l = []
  sent_in (suc ticks) l = answer_frames own v t l ++ sent_in ticks (waiting_after v t l)

  -- so many groups in a row, from the one that the query is at
  unfoldable pub groups_from : ℕ → Query → List Frame
  groups_from zero q = []
  groups_from (suc k) q = group_frame own v t q ∷ groups_from k (next_group q)

  -- k more groups begin within the table after the one that the query is at
  pub record Left (k : ℕ) (q : Query) : Type 0 where
    pub begins : (q.group + k) * per_group q.kind < table_length q.kind v t
    pub ends : table_length q.kind v t ≤ (q.group + k + 1) * per_group q.kind

  here : (kind : Kind) (g k n : ℕ) → (g + k) * per_group kind < n → g * per_group kind < n
  here Voltages g k n h = omega arith
  here Temperatures g k n h = omega arith

  after : (kind : Kind) (g k n : ℕ) → (g + suc k) * per_group kind < n → (g + 1) * per_group kind < n
  after Voltages g k n h = omega arith
  after Temperatures g k n h = omega arith

  last : (kind : Kind) (g n : ℕ) → n ≤ (g + 0 + 1) * per_group kind → n ≤ (g + 1) * per_group kind
  last Voltages g n h = omega arith
  last Temperatures g n h = omega arith

  on_begins : (kind : Kind) (g k n : ℕ) → (g + suc k) * per_group kind < n → (g + 1 + k) * per_group kind < n
  on_begins Voltages g k n h = omega arith
  on_begins Temperatures g k n h = omega arith

  on_ends : (kind : Kind) (g k n : ℕ) → n ≤ (g + suc k + 1) * per_group kind → n ≤ (g + 1 + k + 1) * per_group kind
  on_ends Voltages g k n h = omega arith
  on_ends Temperatures g k n h = omega arith

  on : (k : ℕ) (q : Query) → Left (suc k) q → Left k (next_group q)
  on k q l =
      record {
        begins = on_begins q.kind q.group k (table_length q.kind v t) l.begins;
        ends = on_ends q.kind q.group k (table_length q.kind v t) l.ends;
      }

  within : (k : ℕ) (q : Query) → Left k q → past_end v t q ≡ false
  unfolding past_end
  within k q l =
      let n = table_length q.kind v t in
      lt-leb n (q.group * per_group q.kind) (here q.kind q.group k n l.begins)

  goes_on_lem : (k : ℕ) (q : Query) → Left (suc k) q → at_last v t q ≡ false
  unfolding at_last
  goes_on_lem k q l =
      let n = table_length q.kind v t in
      lt-leb n ((q.group + 1) * per_group q.kind) (after q.kind q.group k n l.begins)

  leaves : (q : Query) → Left 0 q → at_last v t q ≡ true
  unfolding at_last
  leaves q l =
      let n = table_length q.kind v t in
      le-leb n ((q.group + 1) * per_group q.kind) (last q.kind q.group n l.ends)

  -- all its groups are sent
  pub sent_whole : (k : ℕ) (q : Query) (qs : List Query) → Left k q → sent_in (suc k) (q ∷ qs) ≡ groups_from (suc k) q
  unfolding sent_in groups_from answer_frames waiting_after
  sent_whole zero q qs l = rw (within 0 q l)
  sent_whole (suc k) q qs l =
      rw (within (suc k) q l, goes_on_lem k q l)
      (ap (λ (fs : List Frame). group_frame own v t q ∷ fs) (sent_whole k (next_group q) qs (on k q l)))

  -- and then it is gone
  pub gone_after_lem : (k : ℕ) (q : Query) (qs : List Query) → Left k q → wait_after (suc k) (q ∷ qs) ≡ qs
  unfolding wait_after waiting_after
  gone_after_lem zero q qs l = rw (within 0 q l, leaves q l)
  gone_after_lem (suc k) q qs l = rw (within (suc k) q l, goes_on_lem k q l) (gone_after_lem k (next_group q) qs (on k q l))

  -- a fresh query has as many groups as its table fills
  fresh_begins : (kind : Kind) (n : ℕ) → 0 < n → (0 + (n - 1) / per_group kind) * per_group kind < n
  fresh_begins Voltages n h = omega arith
  fresh_begins Temperatures n h = omega arith

  fresh_ends : (kind : Kind) (n : ℕ) → 0 < n → n ≤ (0 + (n - 1) / per_group kind + 1) * per_group kind
  fresh_ends Voltages n h = omega arith
  fresh_ends Temperatures n h = omega arith

  pub fresh_left :
      (source : ℕ) (kind : Kind)
      → 0 < table_length kind v t
      → Left ((table_length kind v t - 1) / per_group kind) (fresh_query source kind)
  fresh_left source kind h =
      record { begins = fresh_begins kind (table_length kind v t) h; ends = fresh_ends kind (table_length kind v t) h }
