-- What asking and answering come to, an outcome a law: each takes the tests that lead to it. Assumes nothing.
use Prim.Native.Nat.{ℕ, ◌+◌, ◌*◌, ◌≤◌, ◌<◌}
use mathlib.Core.Path.{◌≡◌, refl, sym, ◌∙◌, ap}
use mathlib.Core.Bool.{true, false}
use mathlib.Core.List.{List, [], ◌∷◌, ◌++◌}
use native.Mathlib.Omega.{arith}
use borrow.Author.Tests.{le-leb, lt-leb}
use lib.Dec.{leb}
use Rattle.std.proofs.Common.{None, Some}
use lib.IntN.{ℤ}
use lib.ListN.{length, drop}
use Rattle.frames.specs.declared.Frame.{Frame}
use Rattle.cells.specs.Tables.{most_cells, tables_fit}
use Rattle.cells.proofs.Bounds.{fit}
use Rattle.messages.specs.declared.received.Kind.{Kind}
use Rattle.messages.specs.declared.received.Kind.TheVariants.{Voltages, Temperatures}
use Rattle.queries.specs.declared.Query.{Query}
use Rattle.queries.specs.declared.Queries.{Queries}
use Rattle.queries.specs.Waiting.{most_waiting, waiting, queries_of}
use Rattle.queries.specs.Asking.{some_asks, ask_number, fresh_query, queued_of}
use Rattle.queries.specs.Answering.{per_group, group_frame, table_length, past_end, at_last, next_group, answer_frames}
use Rattle.queries.specs.Answering.{waiting_after, Answers}
use Rattle.queries.proofs.Four.{four_wait, oldest_first}

-- how many wait, as the count says it
full : (q : Queries) → leb most_waiting (length (waiting q)) ≡ leb most_waiting q.count
unfolding waiting
full q = four_wait q.first q.second q.third q.fourth q.count

module _ (q : Queries) (source : ℕ) (kind : Kind) where
  pub asked_12 : some_asks source kind (waiting q) ≡ true → record { number = 12; queries = q } ≡ queued_of q source kind
  unfolding queued_of ask_number
  asked_12 h = rw h

  pub asked_13 :
      some_asks source kind (waiting q) ≡ false → most_waiting ≤ q.count
      → record { number = 13; queries = q } ≡ queued_of q source kind
  unfolding queued_of ask_number
  asked_13 h k = rw (h, full q, le-leb most_waiting q.count k)

  pub asked_0 :
      some_asks source kind (waiting q) ≡ false
      → q.count < most_waiting
      → (s : Queries)
      → s ≡ queries_of (waiting q ++ (fresh_query source kind ∷ []))
      → record { number = 0; queries = s } ≡ queued_of q source kind
  unfolding queued_of ask_number
  asked_0 h k s e = rw (h, full q, lt-leb most_waiting q.count k, e)

-- the tests of a tick; accepted tables have one length
count_is : (v : List ℕ) (t : List ℤ) → tables_fit v t ≡ true → (kind : Kind) → table_length kind v t ≡ length v
count_is v t f Voltages = refl
count_is v t f Temperatures = sym (fit v t f).same

module _ (v : List ℕ) (t : List ℤ) (f : tables_fit v t ≡ true) (q : Query) (m : ℕ) where
  module _ (e : m ≡ q.group * per_group q.kind) where
    pub is_past : length v ≤ m → past_end v t q ≡ true
    unfolding past_end
    is_past h = rw (count_is v t f q.kind, ← e) (le-leb (length v) m h)

    pub not_past : m < length v → past_end v t q ≡ false
    unfolding past_end
    not_past h = rw (count_is v t f q.kind, ← e) (lt-leb (length v) m h)

  module _ (e : m ≡ (q.group + 1) * per_group q.kind) where
    pub is_last : length v ≤ m → at_last v t q ≡ true
    unfolding at_last
    is_last h = rw (count_is v t f q.kind, ← e) (le-leb (length v) m h)

    pub not_last : m < length v → at_last v t q ≡ false
    unfolding at_last
    not_last h = rw (count_is v t f q.kind, ← e) (lt-leb (length v) m h)

oldest : (q : Queries) → 0 < q.count → waiting q ≡ q.first ∷ drop 1 (waiting q)
unfolding waiting
oldest q h = oldest_first q.first q.second q.third q.fourth q.count h

none_wait : (q : Queries) → q.count ≡ 0 → waiting q ≡ []
unfolding waiting
none_wait q h = rw h

module _ (own : ℕ) (v : List ℕ) (t : List ℤ) (q : Query) (l qs : List Query) (w : l ≡ q ∷ qs) where
  past_later : past_end v t q ≡ true → waiting_after v t l ≡ qs
  unfolding waiting_after
  past_later h = rw (w, h)

  last_later : past_end v t q ≡ false → at_last v t q ≡ true → waiting_after v t l ≡ qs
  unfolding waiting_after
  last_later h k = rw (w, h, k)

  more_later : past_end v t q ≡ false → at_last v t q ≡ false → waiting_after v t l ≡ next_group q ∷ qs
  unfolding waiting_after
  more_later h k = rw (w, h, k)

  past_frames : past_end v t q ≡ true → answer_frames own v t l ≡ []
  unfolding answer_frames
  past_frames h = rw (w, h)

  group_frames : past_end v t q ≡ false → answer_frames own v t l ≡ group_frame own v t q ∷ []
  unfolding answer_frames
  group_frames h = rw (w, h)

none_later : (v : List ℕ) (t : List ℤ) (l : List Query) → l ≡ [] → waiting_after v t l ≡ []
unfolding waiting_after
none_later v t l w = rw w

none_frames : (own : ℕ) (v : List ℕ) (t : List ℤ) (l : List Query) → l ≡ [] → answer_frames own v t l ≡ []
unfolding answer_frames
none_frames own v t l w = rw w

module _ (q : Queries) (own : ℕ) (v : List ℕ) (t : List ℤ) where
  pub answers_none : q.count ≡ 0 → (r : Queries) → r ≡ queries_of [] → Answers q own v t r None
  answers_none h r e =
      let w = none_wait q h in
      record {
        later = e ∙ sym (ap queries_of (none_later v t (waiting q) w));
        frames = sym (none_frames own v t (waiting q) w);
      }

  module _ (some : 0 < q.count) where
    pub answers_past : past_end v t q.first ≡ true → (r : Queries) → r ≡ queries_of (drop 1 (waiting q))
        → Answers q own v t r None
    answers_past h r e =
        let w = oldest q some in
        let l = drop 1 (waiting q) in
        record {
          later = e ∙ sym (ap queries_of (past_later own v t q.first (waiting q) l w h));
          frames = sym (past_frames own v t q.first (waiting q) l w h);
        }

    module _ (h : past_end v t q.first ≡ false) (s : Queries) (g : Frame)
        (i : g ≡ group_frame own v t q.first) where
      sends : g ∷ [] ≡ answer_frames own v t (waiting q)
      sends =
          ap (λ (x : Frame). x ∷ []) i
          ∙ sym (group_frames own v t q.first (waiting q) (drop 1 (waiting q)) (oldest q some) h)

      pub answers_last : at_last v t q.first ≡ true → s ≡ queries_of (drop 1 (waiting q)) → Answers q own v t s (Some g)
      answers_last k e =
          record {
            later =
                let w = waiting q in
                e ∙ sym (ap queries_of (last_later own v t q.first w (drop 1 w) (oldest q some) h k));
            frames = sends;
          }

      pub answers_more :
          at_last v t q.first ≡ false → s ≡ queries_of (next_group q.first ∷ drop 1 (waiting q)) → Answers q own v t s (Some g)
      answers_more k e =
          record {
            later =
                let w = waiting q in
                e ∙ sym (ap queries_of (more_later own v t q.first w (drop 1 w) (oldest q some) h k));
            frames = sends;
          }

-- a group whose next one begins within a table has a number that a byte can grow from
pub group_within : (kind : Kind) (group m n : ℕ) → m ≡ (group + 1) * per_group kind → m < n → n ≤ most_cells → group < 255
group_within Voltages group m n e h k = omega arith
group_within Temperatures group m n e h k = omega arith

pub some_wait : (n : ℕ) → (n ≡ 0 → ⊥) → 0 < n
some_wait n h = omega (arith, h)
