-- The two round trips of a settings record: reading what was written gives the settings back, and writing what was read
-- gives the bytes back. Assumes nothing.
use Rattle.std.proofs.Common.{Ok, Err}
use Prim.Native.Nat.{ℕ, zero, suc, ◌+◌, ◌*◌, ◌%◌, ◌/◌, ◌≤◌}
use native.Mathlib.Nat.{add-zero}
use native.Mathlib.Numerals.{add-one}
use native.Mathlib.Omega.{arith}
use mathlib.Core.Path.{◌≡◌, refl, sym, ◌∙◌, ap, ap₂}
use mathlib.Core.Bool.{Bool, true, false, cond}
use mathlib.Core.List.{List, [], ◌∷◌, ◌++◌, append-nil}
use lib.Dec.{eqb, ltb}
use lib.ListN.{length, take, drop, get_or}
use lib.Seq.{drop-cons, drop-length, take-append_seam}
use borrow.Author.Tests.{eqb-true}
use Rattle.buffers.specs.Words.{word_bytes, word_at}
use Rattle.settings.specs.declared.Settings.{Settings}
use Rattle.settings.specs.declared.Stations.{Stations}
use Rattle.numbers.specs.declared.Refusal.TheVariants.{Layout, SettingOutOfRange}
use Rattle.settings.specs.Range.{least_stations, most_stations, within, in_range, good_stations, station_list}
use Rattle.settings.specs.Record.{field, version_list, record_of}
use Rattle.settings.specs.Read.{head_at, layout_of, station_at, stations_at, versions_at, limits_of, settings_of, read_of}
use Rattle.settings.specs.Tidy.{with_stations, tidy, tidy_stations, Bytes}
use Rattle.settings.specs.Write.{Written, Wrote, write_number, written_of, buffer_after}
use Rattle.std.proofs.lemmas.Bool.{and_parts}
use Rattle.settings.proofs.Laws.{range_some, range_four, within_least, within_most, read_0}

-- what holds at 1, 2, 3 and 4 holds at each n from 1 to 4
one_to_four : (P : ℕ → Type 0) → P 1 → P 2 → P 3 → P 4 → (n : ℕ) → 1 ≤ n → n ≤ 4 → P n
one_to_four P p1 p2 p3 p4 zero h k = absurd (omega arith)
one_to_four P p1 p2 p3 p4 (suc zero) h k = p1
one_to_four P p1 p2 p3 p4 (suc (suc zero)) h k = p2
one_to_four P p1 p2 p3 p4 (suc (suc (suc zero))) h k = p3
one_to_four P p1 p2 p3 p4 (suc (suc (suc (suc zero)))) h k = p4
one_to_four P p1 p2 p3 p4 (suc (suc (suc (suc (suc n))))) h k = absurd (omega arith)

-- ---- reading what was written

word_back : (w : ℕ) → w % 256 + w / 256 * 256 ≡ w
word_back w = omega arith

-- a word that has been through its two bytes
abbrev again : ℕ → ℕ
again w = w % 256 + w / 256 * 256

-- settings whose words have been through their two bytes
words_back : (x : Settings) (s : Stations)
    → ◌≡◌ {A = Settings}
    (record {
      own = x.own;
      limits =
          record {
            cell = record { 0 = again x.limits.cell.0 };
            current = record { 0 = again x.limits.current.0 };
            pack = record { 0 = again x.limits.pack.0 };
            temperature = record { 0 = again x.limits.temperature.0 };
          };
      stations = s;
      versions = x.versions;
    })
    (with_stations x s)
words_back x s =
    let l = x.limits in
    rw (word_back l.cell.0, word_back l.current.0, word_back l.pack.0, word_back l.temperature.0)

module _ (x : Settings) where
  -- these settings with n stations
  of : ℕ → Settings
  of n =
      with_stations x
      (record {
        count = n;
        first = x.stations.first;
        second = x.stations.second;
        third = x.stations.third;
        fourth = x.stations.fourth;
      })

  -- the record has the layout, and its values are these
  record Back (n : ℕ) : Type 0 where
    layout : true ≡ layout_of (record_of (of n))
    values : settings_of (record_of (of n)) ≡ tidy (of n)

  back_values : (n : ℕ) → 1 ≤ n → n ≤ 4 → Back n
  unfolding of record_of layout_of within head_at limits_of settings_of stations_at station_at versions_at
  back_values =
      one_to_four Back
      (record { layout = refl; values = words_back x (tidy_stations (of 1).stations) })
      (record { layout = refl; values = words_back x (tidy_stations (of 2).stations) })
      (record { layout = refl; values = words_back x (tidy_stations (of 3).stations) })
      (record { layout = refl; values = words_back x (tidy_stations (of 4).stations) })

-- the record of any values with 1 to 4 stations has the layout: reading it can only be refused for a range
pub record_has_layout : (x : Settings) → 1 ≤ x.stations.count → x.stations.count ≤ 4 → layout_of (record_of x) ≡ true
unfolding of
record_has_layout x h k = sym (back_values x x.stations.count h k).layout

-- the list of stations does not look past the last, and so neither does a value's range
tidy_list : (s : Stations) → 1 ≤ s.count → s.count ≤ 4 → station_list (tidy_stations s) ≡ station_list s
tidy_list s h k =
    one_to_four
    (λ (n : ℕ).
    station_list (tidy_stations
    (record { count = n; first = s.first; second = s.second; third = s.third; fourth = s.fourth }))
    ≡ station_list (record { count = n; first = s.first; second = s.second; third = s.third; fourth = s.fourth }))
    refl refl refl refl s.count h k

tidy_range : (x : Settings) → in_range x ≡ true → in_range (tidy x) ≡ true
unfolding in_range good_stations
tidy_range x e = rw (tidy_list x.stations (range_some x e) (range_four x e)) e

-- reading what was written gives the settings back
pub read_written : (x : Settings) → in_range x ≡ true → read_of (record_of x) ≡ Ok (tidy x)
unfolding of
read_written x e =
    let b = back_values x x.stations.count (range_some x e) (range_four x e) in
    sym (read_0 (record_of x) true b.layout refl (tidy x) (sym b.values) true (sym (tidy_range x e)) refl).1

-- a write of number 0 had its settings in range
taken : (b short : Bool) → ◌≡◌ {A = ℕ} (cond b (cond short 17 0) 2) 0 → b ≡ true
taken true short e = refl
taken false short e = absurd (omega (arith, e))

-- and so does reading the bytes that a taken write left at the buffer's start
pub read_after_write : (x : Settings) (old new : List ℕ) (r : Written) → Wrote x old new r → r.number ≡ 0
    → read_of (take r.bytes new) ≡ Ok (tidy x)
unfolding written_of buffer_after write_number
read_after_write x old new r w z =
    let k : write_number x old ≡ 0 = sym (ap (λ (a : Written). a.number) w.answer) ∙ z in
    let b : r.bytes ≡ length (record_of x) = ap (λ (a : Written). a.bytes) w.answer ∙ simp k in
    let l : new ≡ record_of x ++ drop (length (record_of x)) old = w.later ∙ simp k in
    rw (b, l, take-append_seam) (read_written x (taken (in_range x) (ltb (length old) (length (record_of x))) k))

-- ---- writing what was read

-- k bytes from a place on, one by one
elems : ℕ → ℕ → List ℕ → List ℕ
elems zero at s = []
elems (suc k) at s = get_or s at 0 ∷ elems k (at + 1) s

length_elems : (k at : ℕ) (s : List ℕ) → length (elems k at s) ≡ k
unfolding elems
length_elems zero at s = refl
length_elems (suc k) at s = ap suc (length_elems k (at + 1) s)

-- they stand at that place, and what stands past them follows
split : (k at : ℕ) (s : List ℕ) → at + k ≤ length s → drop at s ≡ elems k at s ++ drop (at + k) s
unfolding elems
split zero at s h = rw (add-zero at)
split (suc k) at s h =
    drop-cons s at 0 (omega arith)
    ∙ ap (λ (t : List ℕ). get_or s at 0 ∷ t)
    (ap (λ (i : ℕ). drop i s) (sym (add-one at))
    ∙ (split k (at + 1) s (omega arith)
    ∙ (let e : at + 1 + k ≡ at + suc k = omega arith in ap (λ (i : ℕ). elems k (at + 1) s ++ drop i s) e)))

module _ (s : List ℕ) (bytes : Bytes s) where
  -- a field's head, and then its value
  field_elems :
      (at tag k : ℕ) → head_at s at tag k ≡ true
      → elems (suc (suc (suc k))) at s ≡ field tag (elems k (at + 1 + 1 + 1) s)
  unfolding Bytes elems head_at
  field_elems at tag k h =
      let w = word_at s (at + 1) in
      let t : get_or s at 0 ≡ tag = eqb-true (get_or s at 0) tag (and_parts (eqb (get_or s at 0) tag) (eqb w k) h).0 in
      let n : word_at s (at + 1) ≡ k = eqb-true w k (and_parts (eqb (get_or s at 0) tag) (eqb w k) h).1 in
      let l : get_or s (at + 1) 0 ≡ k % 256 = omega (arith, bytes (at + 1)) in
      let u : get_or s (at + 1 + 1) 0 ≡ k / 256 = omega (arith, bytes (at + 1)) in
      rw (t, l, u, length_elems k (at + 1 + 1 + 1) s)

  -- a word's two bytes
  word_elems : (at : ℕ) → elems 2 at s ≡ word_bytes (word_at s at)
  unfolding Bytes elems
  word_elems at =
      let l : get_or s at 0 ≡ word_at s at % 256 = omega (arith, bytes at) in
      let h : get_or s (at + 1) 0 ≡ word_at s at / 256 = omega (arith, bytes at) in
      ap₂ (λ (a b : ℕ). a ∷ b ∷ []) l h

  own_elems : elems 1 3 s ≡ get_or s 3 0 ∷ []
  unfolding elems
  own_elems = refl

  -- a field whose head stands at a place, and what follows it
  step : (at tag k : ℕ) → head_at s at tag k ≡ true → at + suc (suc (suc k)) ≤ length s
      → drop at s ≡ field tag (elems k (at + 1 + 1 + 1) s) ++ drop (at + suc (suc (suc k))) s
  step at tag k h room =
      split (suc (suc (suc k))) at s room
      ∙ ap (λ (f : List ℕ). f ++ drop (at + suc (suc (suc k))) s) (field_elems at tag k h)

  stations_elems : (n : ℕ) → 1 ≤ n → n ≤ 4 → elems n 27 s ≡ station_list (stations_at s n)
  unfolding elems stations_at station_at
  stations_elems = one_to_four (λ (n : ℕ). elems n 27 s ≡ station_list (stations_at s n)) refl refl refl refl

  versions_elems : (n : ℕ) → 1 ≤ n → n ≤ 4 → elems 5 (27 + n + 1 + 1 + 1) s ≡ version_list (versions_at s (30 + n))
  unfolding elems versions_at
  versions_elems =
      one_to_four (λ (n : ℕ). elems 5 (27 + n + 1 + 1 + 1) s ≡ version_list (versions_at s (30 + n))) refl refl refl refl

  -- a record of the layout is the record of its values
  pub layout_exact : layout_of s ≡ true → record_of (settings_of s) ≡ s
  unfolding layout_of record_of limits_of settings_of
  layout_exact l =
      let n : ℕ = word_at s 25 in
      let w = (and_parts (within least_stations most_stations n) _ l).0 in
      let l1 = (and_parts (within least_stations most_stations n) _ l).1 in
      let size : length s ≡ 35 + n = eqb-true (length s) (35 + n) (and_parts (eqb (length s) (35 + n)) _ l1).0 in
      let l2 = (and_parts (eqb (length s) (35 + n)) _ l1).1 in
      let l3 = (and_parts (head_at s 0 1 1) _ l2).1 in
      let l4 = (and_parts (head_at s 4 2 2) _ l3).1 in
      let l5 = (and_parts (head_at s 9 3 2) _ l4).1 in
      let l6 = (and_parts (head_at s 14 4 2) _ l5).1 in
      let l7 = (and_parts (head_at s 19 5 2) _ l6).1 in
      let some : 1 ≤ n = within_least least_stations most_stations n w in
      let four : n ≤ 4 = within_most least_stations most_stations n w in
      let e1 = step 0 1 1 (and_parts (head_at s 0 1 1) _ l2).0 (omega arith) in
      let e2 = step 4 2 2 (and_parts (head_at s 4 2 2) _ l3).0 (omega arith) in
      let e3 = step 9 3 2 (and_parts (head_at s 9 3 2) _ l4).0 (omega arith) in
      let e4 = step 14 4 2 (and_parts (head_at s 14 4 2) _ l5).0 (omega arith) in
      let e5 = step 19 5 2 (and_parts (head_at s 19 5 2) _ l6).0 (omega arith) in
      let e6 = step 24 6 n (and_parts (head_at s 24 6 n) _ l7).0 (omega arith) in
      let e7 = step (27 + n) 7 5 (and_parts (head_at s 24 6 n) _ l7).1 (omega arith) in
      let m : 24 + suc (suc (suc n)) ≡ 27 + n = omega arith in
      let z : 27 + n + 8 ≡ length s = omega arith in
      let last :
      field 7 (elems 5 (27 + n + 1 + 1 + 1) s) ++ drop (27 + n + 8) s ≡ field 7 (elems 5 (27 + n + 1 + 1 + 1) s) =
      rw (z, drop-length) (append-nil (field 7 (elems 5 (27 + n + 1 + 1 + 1) s))) in
      let tail : drop 24 s ≡ field 6 (elems n 27 s) ++ field 7 (elems 5 (27 + n + 1 + 1 + 1) s) =
      e6
      ∙ (ap (λ (i : ℕ). field 6 (elems n 27 s) ++ drop i s) m
      ∙ ap (λ (t : List ℕ). field 6 (elems n 27 s) ++ t) (e7 ∙ last)) in
      let whole =
      e1
      ∙ ap (λ (t : List ℕ). field 1 (elems 1 3 s) ++ t)
      (e2
      ∙ ap (λ (t : List ℕ). field 2 (elems 2 7 s) ++ t)
      (e3
      ∙ ap (λ (t : List ℕ). field 3 (elems 2 12 s) ++ t)
      (e4
      ∙ ap (λ (t : List ℕ). field 4 (elems 2 17 s) ++ t)
      (e5 ∙ ap (λ (t : List ℕ). field 5 (elems 2 22 s) ++ t) tail)))) in
      sym
      (whole
      ∙ rw (
        own_elems,
        word_elems 7,
        word_elems 12,
        word_elems 17,
        word_elems 22,
        stations_elems n some four,
        versions_elems n some four,
      ))

-- what a record that was read says of its layout, its ranges and its values
record Taken (l b : Bool) (x y : Settings) : Type 0 where
  layout : l ≡ true
  range : b ≡ true
  values : y ≡ x

taken_read : (l b : Bool) (x y : Settings) → cond l (cond b (Ok y) (Err SettingOutOfRange)) (Err Layout) ≡ Ok x → Taken l b x y
taken_read true true x y e = record { layout = refl; range = refl; values = cc }
taken_read true false x y e = let z : ◌≡◌ {A = ℕ} 0 1 = cc in absurd (omega arith)
taken_read false b x y e = let z : ◌≡◌ {A = ℕ} 0 1 = cc in absurd (omega arith)

twice : (b : Bool) (v : ℕ) → cond b (cond b v 0) 0 ≡ cond b v 0
twice true v = refl
twice false v = refl

tidy_values : (s : List ℕ) → tidy (settings_of s) ≡ settings_of s
unfolding settings_of stations_at station_at
tidy_values s =
    let n : ℕ = word_at s 25 in
    rw (
      twice (ltb 0 n) (get_or s 27 0),
      twice (ltb 1 n) (get_or s 28 0),
      twice (ltb 2 n) (get_or s 29 0),
      twice (ltb 3 n) (get_or s 30 0),
    )

module _ (s : List ℕ) (x : Settings) (e : read_of s ≡ Ok x) where
  read_taken : Taken (layout_of s) (in_range (settings_of s)) x (settings_of s)
  unfolding read_of
  read_taken = taken_read (layout_of s) (in_range (settings_of s)) x (settings_of s) e

  -- settings that were read are in range
  pub read_in_range : in_range x ≡ true
  read_in_range = rw (← read_taken.values) read_taken.range

  -- writing what was read gives the bytes back
  pub written_read : Bytes s → record_of x ≡ s
  written_read bytes = rw (← read_taken.values) (layout_exact s bytes read_taken.layout)

  -- settings that were read have 0 in the places past the last station
  pub read_is_tidy : tidy x ≡ x
  read_is_tidy = rw (← read_taken.values) (tidy_values s)
