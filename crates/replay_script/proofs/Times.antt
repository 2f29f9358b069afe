-- The digits of a time and of an identifier are few, so that what they come to fits. Assumes nothing.
use Prim.Native.Nat.{ℕ, ◌≤◌, ◌<◌, ◌^◌}
use mathlib.Core.Path.{◌≡◌}
use mathlib.Core.List.{List}
use native.Mathlib.Omega.{arith}
use Rattle.replay_text.specs.declared.digits.Digits.{Digits}
use Rattle.replay_text.specs.Digits.{digits_at}
use Rattle.replay_text.proofs.Values.{digits_below}

-- digits of a base that are at most k
digits_fit : (base : ℕ) → 1 ≤ base → (text : List ℕ) (at k : ℕ) (d : Digits) → d ≡ digits_at base text at
    → d.count ≤ k → d.value < base ^ k
digits_fit base b text at k d e h = rw e (digits_below base b text at k (rw e at h))

module _ (text : List ℕ) (at : ℕ) (d : Digits) where
  pub eight_fit : d ≡ digits_at 16 text at → d.count ≤ 8 → d.value < 4_294_967_296
  eight_fit e h = digits_fit 16 (omega arith) text at 8 d e h

  pub twelve_fit : d ≡ digits_at 10 text at → d.count ≤ 12 → d.value < 1_000_000_000_000
  twelve_fit e h = digits_fit 10 (omega arith) text at 12 d e h

  pub six_fit : d ≡ digits_at 10 text at → d.count ≡ 6 → d.value < 1_000_000
  six_fit e h = digits_fit 10 (omega arith) text at 6 d e (omega arith)
