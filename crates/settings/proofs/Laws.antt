-- Laws of the settings' definitions that the proofs cite. Assumes nothing.
use Rattle.std.proofs.Common.{Result, Ok}
use Prim.Native.Nat.{ℕ, ◌+◌, ◌≤◌, ◌<◌}
use native.Mathlib.Omega.{arith}
use mathlib.Core.Path.{◌≡◌, sym, ◌∙◌, ap}
use mathlib.Core.Bool.{Bool, true, false, ◌&&◌}
use mathlib.Core.List.{List, [], ◌∷◌}
use lib.Dec.{leb}
use lib.ListN.{length, length-append}
use lib.Seq.{length-take-le}
use borrow.Author.Tests.{leb-true, lt-ltb, le-ltb}
use Rattle.buffers.specs.InnerLaid.{Laid}
use Rattle.buffers.proofs.Laws.{laid_start}
use Rattle.settings.specs.declared.Settings.{Settings}
use Rattle.settings.specs.declared.Stations.{Stations}
use Rattle.numbers.specs.declared.Refusal.{Refusal}
use Rattle.numbers.specs.Numbers.{answered}
use Rattle.settings.specs.Range.{last_address, least_stations, most_stations, within, distinct, each_good}
use Rattle.settings.specs.Range.{station_list, good_stations, limits_in_range, in_range}
use Rattle.settings.specs.Record.{field, version_list, record_of}
use Rattle.settings.specs.Read.{layout_of, settings_of, record_number, read_of}
use Rattle.settings.specs.Write.{Wrote, write_number, written_of, buffer_after}
use Rattle.std.proofs.lemmas.Bool.{and_parts}

-- ---- ranges

pub within_least : (least most n : ℕ) → within least most n ≡ true → least ≤ n
unfolding within
within_least least most n e = leb-true least n (and_parts (leb least n) (leb n most) e).0

pub within_most : (least most n : ℕ) → within least most n ≡ true → n ≤ most
unfolding within
within_most least most n e = leb-true n most (and_parts (leb least n) (leb n most) e).1

-- settings in range have good stations
range_stations : (x : Settings) → in_range x ≡ true → good_stations x.own x.stations ≡ true
unfolding in_range
range_stations x e =
    (and_parts (limits_in_range x.limits) (good_stations x.own x.stations)
    (and_parts (within 0 last_address x.own) _ e).1).1

range_count : (x : Settings) → in_range x ≡ true → within least_stations most_stations x.stations.count ≡ true
unfolding good_stations
range_count x e =
    let s = x.stations in
    (and_parts (within least_stations most_stations s.count)
    (distinct (station_list s) && each_good x.own (station_list s)) (range_stations x e)).0

pub range_some : (x : Settings) → in_range x ≡ true → 1 ≤ x.stations.count
range_some x e = within_least least_stations most_stations x.stations.count (range_count x e)

pub range_four : (x : Settings) → in_range x ≡ true → x.stations.count ≤ 4
range_four x e = within_most least_stations most_stations x.stations.count (range_count x e)

-- ---- reading

-- what reading answers where the layout and the ranges are right: the number, and the answer itself
abbrev pub Says : List ℕ → Result Settings Refusal → Type 0
Says s r = (answered r ≡ record_number s) × (r ≡ read_of s)

module _ (s : List ℕ) (l : Bool) (layout : l ≡ layout_of s)
    (taken : l ≡ true) (x : Settings) (values : x ≡ settings_of s) (b : Bool) (range : b ≡ in_range x) where
  pub read_0 : b ≡ true → Says s (Ok x)
  unfolding record_number read_of
  read_0 e =
      let told = sym (ap in_range values) ∙ (sym range ∙ e) in
      (simp (sym layout ∙ taken, told), simp (values, sym layout ∙ taken, told))

-- ---- the record

pub length_stations : (s : Stations) → s.count ≤ 4 → length (station_list s) ≡ s.count
length_stations s h = length-take-le s.count (s.first ∷ s.second ∷ s.third ∷ s.fourth ∷ []) h

-- the total is 35 + stations
pub length_record : (x : Settings) → x.stations.count ≤ 4 → length (record_of x) ≡ 35 + x.stations.count
unfolding record_of
length_record x h =
    let s = x.stations in
    omega (arith, length-append (station_list s) (field 7 (version_list x.versions)), length_stations s h)

-- ---- writing

module _ (x : Settings) (old : List ℕ) (b : Bool) (range : b ≡ in_range x) where
  pub wrote_2 : b ≡ false → Wrote x old old (record { number = 2; bytes = 0 })
  unfolding write_number written_of buffer_after
  wrote_2 e =
      let w : write_number x old ≡ 2 = simp (sym range ∙ e) in
      record { answer = simp w; later = simp w }

  pub wrote_17 : b ≡ true → length old < 35 + x.stations.count → Wrote x old old (record { number = 17; bytes = 0 })
  unfolding write_number written_of buffer_after
  wrote_17 e h =
      let l : length (record_of x) ≡ 35 + x.stations.count = length_record x (range_four x (sym range ∙ e)) in
      let w : write_number x old ≡ 17 = simp (sym range ∙ e, l, lt-ltb _ _ h) in
      record { answer = simp w; later = simp w }

  pub wrote_0 : b ≡ true → 35 + x.stations.count ≤ length old → (new : List ℕ) (r : ℕ) → Laid old new 0 r (record_of x)
      → Wrote x old new (record { number = 0; bytes = r })
  unfolding write_number written_of buffer_after
  wrote_0 e h new r a =
      let l : length (record_of x) ≡ 35 + x.stations.count = length_record x (range_four x (sym range ∙ e)) in
      let w : write_number x old ≡ 0 = simp (sym range ∙ e, l, le-ltb _ _ h) in
      let k : r ≡ length (record_of x) = omega (arith, a.past) in
      record { answer = simp (w, k); later = simp w (laid_start a) }
