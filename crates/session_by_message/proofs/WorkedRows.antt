-- Worked rows that are about the yes rule (02, request 1). What a single word means is shown by the two laws of either
-- side (Currents.antt). Assumes nothing.
use Prim.Native.Nat.{◌<◌, ◌≤◌}
use mathlib.Core.Path.{◌≡◌, ap, ◌∙◌}
use mathlib.Core.Bool.{Bool, true, false, ◌&&◌, and-false}
use borrow.Author.Tests.{le-leb, lt-leb}
use lib.Dec.{leb}
use Rattle.settings.specs.declared.Settings.{Settings}
use Rattle.charge_messages.specs.declared.Offer.{Offer}
use Rattle.session_by_message.specs.Offer.{distance, offered_tenths, accepted_of}

-- the CMP of 000's trace is answered yes
pub trace_accepted :
    (x : Settings) (o : Offer)
    → o.highest.0 ≡ 4000 → o.lowest.0 ≡ 100 → o.most.0 ≡ 8500 → o.least.0 ≡ 4100
    → 100 ≤ x.limits.pack.0 → x.limits.pack.0 ≤ 4000 → 100 ≤ x.limits.current.0 → accepted_of x o ≡ true
unfolding accepted_of offered_tenths
trace_accepted x o h l m n above below within =
    rw (h, l, m, n, le-leb 100 x.limits.pack.0 above, le-leb x.limits.pack.0 4000 below, le-leb 100 x.limits.current.0 within)

-- and not its minimum where maximum current is below it, nor its two words exchanged
module _ (x : Settings) (o : Offer) where
  -- the tests of the voltages, whatever they say
  abbrev voltages_then : Bool → Bool
  voltages_then b = leb o.lowest.0 x.limits.pack.0 && (leb x.limits.pack.0 o.highest.0 && b)

  then_false : voltages_then false ≡ false
  then_false =
      rw (and-false (leb x.limits.pack.0 o.highest.0)) (and-false (leb o.lowest.0 x.limits.pack.0))

  pub minimum_refused : o.least.0 ≡ 4100 → x.limits.current.0 < 100 → accepted_of x o ≡ false
  unfolding accepted_of offered_tenths
  minimum_refused n h =
      rw (n, lt-leb 100 x.limits.current.0 h) (ap voltages_then (and-false (leb 100 (distance o.most.0 4000))) ∙ then_false)

  pub exchanged_refused : o.most.0 ≡ 4100 → o.least.0 ≡ 8500 → accepted_of x o ≡ false
  unfolding accepted_of offered_tenths
  exchanged_refused m n = rw (m, n) then_false
