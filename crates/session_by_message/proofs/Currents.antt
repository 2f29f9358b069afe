-- What a current word of a CMP means, on either side of 4000, for every word; and the yes rule without the test that
-- every distance passes. Assumes nothing.
use Prim.Native.Nat.{ℕ, zero, suc, ◌+◌, ◌-◌, ◌<◌, ◌≤◌}
use mathlib.Core.Path.{◌≡◌, sym, ap, ◌∙◌}
use mathlib.Core.Bool.{Bool, true, false, cond, ◌&&◌}
use native.Mathlib.Omega.{arith}
use borrow.Author.Tests.{le-leb, lt-leb}
use lib.Dec.{leb, leb-zero}
use Rattle.settings.specs.declared.Settings.{Settings}
use Rattle.charge_messages.specs.declared.Offer.{Offer}
use Rattle.units.specs.declared.RawAmps.{RawAmps}
use Rattle.units.specs.declared.TenthAmps.{TenthAmps}
use Rattle.session_by_message.specs.Offer.{offered_tenths, accepted_of, station_maximum}

-- a current word
abbrev pub word : ℕ → RawAmps
word n = record { 0 = n }

-- a word up to 4000, and a word above it
module _ (raw : RawAmps) where
  pub up_to_4000 : raw.0 ≤ 4000 → 4000 - raw.0 ≡ offered_tenths raw
  unfolding offered_tenths
  up_to_4000 h = rw (le-leb raw.0 4000 h)

  pub above_4000 : 4000 < raw.0 → raw.0 - 4000 ≡ offered_tenths raw
  unfolding offered_tenths
  above_4000 h = rw (lt-leb raw.0 4000 h)

-- either side: so many tenths below 4000, and so many above it, are that current
pub so_far_below : (n : ℕ) → n ≤ 4000 → offered_tenths (word (4000 - n)) ≡ n
so_far_below n h = sym (up_to_4000 (word (4000 - n)) (omega arith)) ∙ omega arith

pub so_far_above : (n : ℕ) → offered_tenths (word (4000 + n)) ≡ n
so_far_above zero = sym (up_to_4000 (word 4000) (omega arith))
so_far_above (suc n) = sym (above_4000 (word (4000 + suc n)) (omega arith)) ∙ omega arith

-- nothing wraps: of all 65,536 words the widest is 6153.5 A, which 16 bits hold
pub at_most_61535 : (raw : RawAmps) → raw.0 < 65536 → offered_tenths raw ≤ 61535
unfolding offered_tenths
at_most_61535 raw h = either_side (leb raw.0 4000)
  where
    either_side : (below : Bool) → cond below (4000 - raw.0) (raw.0 - 4000) ≤ 61535
    either_side true = omega arith
    either_side false = omega arith

-- the rule without the test that every distance passes, that it is not below 0
pub accepted_told :
    (x : Settings) (o : Offer)
    → (leb o.lowest.0 x.limits.pack.0
    && (leb x.limits.pack.0 o.highest.0
    && (leb (offered_tenths o.least) (offered_tenths o.most)
    && leb (offered_tenths o.least) x.limits.current.0)))
    ≡ accepted_of x o
unfolding accepted_of
accepted_told x o = rw (leb-zero (offered_tenths o.least))

-- the station's maximum is what its word means
pub maximum_told : (o : Offer) (a : TenthAmps) → a.0 ≡ offered_tenths o.most → a ≡ station_maximum o
unfolding station_maximum
maximum_told o a h = ap (λ (n : ℕ). record { 0 = n }) h

pub maximum_above : (o : Offer) (n : ℕ) → o.most.0 ≡ 4000 + n → record { 0 = n } ≡ station_maximum o
maximum_above o n h =
    maximum_told o (record { 0 = n }) (sym (ap (λ (raw : ℕ). offered_tenths (word raw)) h ∙ so_far_above n))
