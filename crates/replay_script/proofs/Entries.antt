-- A table read number by number: what the walk has stored, and what it has to come. Assumes nothing.
use Prim.Native.Nat.{ℕ, zero, suc, ◌+◌, ◌-◌, ◌≤◌, ◌<◌}
use mathlib.Core.Path.{◌≡◌, refl, sym, ◌∙◌, ap}
use mathlib.Core.List.{List, [], ◌∷◌, ◌++◌, append-nil}
use mathlib.Core.Bool.{true, false}
use native.Mathlib.Numerals.{add-one}
use native.Mathlib.Omega.{arith}
use lib.IntN.{ℤ}
use lib.ListN.{length, take, drop, set, replicate, length-set, length-replicate, take-append-drop}
use lib.Seq.{take-suc-set, drop-set-lt, drop-drop, append_snoc, length-take-le}
use Rattle.std.specs.Prelude.{Option, None, Some, option_map}
use Rattle.replay_text.specs.Words.{is_end}
use Rattle.replay_text.specs.Numbers.{read_as}
use Rattle.replay_script.specs.Tables.{most_entries, entries_from, entries_in, table_of}

module _ {A : Type 0} where
  -- numbers before others, where those can be read
  abbrev pub after : List A → Option (List A) → Option (List A)
  after l o = option_map (λ m. l ++ m) o

  after_none : (o : Option (List A)) → o ≡ after [] o
  after_none None = refl
  after_none (Some m) = refl

  after_one : (l : List A) (x : A) (o : Option (List A)) → after l (option_map (λ m. x ∷ m) o) ≡ after (l ++ (x ∷ [])) o
  after_one l x None = refl
  after_one l x (Some m) = ap Some (sym (append_snoc l x m))

module _ {A : Type 0} (of : ℤ → Option A) (text : List ℕ) where
  entries_end : (left at : ℕ) → is_end text at ≡ true → entries_from of text left at ≡ Some []
  unfolding entries_from
  entries_end zero at e = rw e
  entries_end (suc left) at e = rw e

  -- n numbers are read and stored, with zeros after them, and the rest are those from a place on
  pub record Stored (z : A) (past : ℕ) (table : List A) (n at : ℕ) : Type 0 where
    pub all : entries_in of text past ≡ after (take n table) (entries_from of text (most_entries - n) at)
    pub room : n ≤ most_entries
    pub long : length table ≡ most_entries
    pub rest : drop n table ≡ replicate (most_entries - n) z

  pub stored_none : (z : A) (past : ℕ) → Stored z past (replicate most_entries z) 0 past
  stored_none z past =
      record {
        all = after_none (entries_in of text past);
        room = omega arith;
        long = length-replicate most_entries z;
        rest = refl;
      }

  module _ {z : A} {past : ℕ} {table : List A} {n at : ℕ} (s : Stored z past table n at) where
    -- a number more
    pub stored_more : n < most_entries → is_end text at ≡ false → (x : A) (next : ℕ) → read_as of text at ≡ Some (x, next)
        → Stored z past (set table n x) (n + 1) next
    unfolding entries_from
    stored_more m e x next g =
        let k : most_entries - n ≡ suc (most_entries - (n + 1)) = omega arith in
        let i : entries_from of text (most_entries - n) at
        ≡ option_map (λ l. x ∷ l) (entries_from of text (most_entries - (n + 1)) next)
        = rw (k, e, g) in
        let t : take (n + 1) (set table n x) ≡ take n table ++ (x ∷ [])
        = rw (add-one n) (take-suc-set table n x (omega (arith, s.long))) in
        record {
          all = s.all ∙ rw (i, t) (after_one (take n table) x (entries_from of text (most_entries - (n + 1)) next));
          room = omega arith;
          long = length-set table n x ∙ s.long;
          rest =
              drop-set-lt (n + 1) table n x (omega arith)
              ∙ (sym (drop-drop 1 n table) ∙ (ap (drop 1) s.rest ∙ rw k));
        }

    -- one that cannot be read, or one too many: the line cannot be read
    pub stored_bad : n < most_entries → is_end text at ≡ false → read_as of text at ≡ None → entries_in of text past ≡ None
    unfolding entries_from
    stored_bad m e g =
        let k : most_entries - n ≡ suc (most_entries - (n + 1)) = omega arith in
        s.all ∙ rw (k, e, g)

    pub stored_over : most_entries ≤ n → is_end text at ≡ false → entries_in of text past ≡ None
    unfolding entries_from
    stored_over m e =
        let k : most_entries - n ≡ 0 = omega arith in
        s.all ∙ rw (k, e)

    -- where the line ends, they are all
    pub stored_all : is_end text at ≡ true → entries_in of text past ≡ Some (take n table)
    stored_all e = s.all ∙ rw (entries_end (most_entries - n) at e, append-nil)

    pub stored_count : length (take n table) ≡ n
    stored_count = length-take-le n table (omega (arith, s.room, s.long))

    -- what is promised then
    pub stored_done : (old : List A) → is_end text at ≡ true
        → (Some n ≡ option_map length (entries_in of text past)) × (table ≡ table_of z old (entries_in of text past))
    stored_done old e =
        (rw (stored_all e, stored_count), rw (stored_all e, stored_count, ← s.rest) (sym (take-append-drop n table)))
