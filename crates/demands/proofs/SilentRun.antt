-- 800 accepted ticks are not enough for a session whose station falls silent: a run from a fresh controller, by the CIM
-- of the station 56 to us, F4, and 800 ticks at which charge is wanted and nothing comes. Assumes nothing.
use Prim.Native.Nat.{ℕ, zero, suc}
use native.Mathlib.Omega.{arith}
use mathlib.Core.Path.{◌≡◌, refl, sym, ◌∙◌}
use mathlib.Core.Bool.{false, false≢true}
use mathlib.Core.List.{[], ◌∷◌}
use lib.IntN.{pos}
use Rattle.controller.specs.declared.Controller.{Controller}
use Rattle.controller.specs.Start.{fresh_of}
use Rattle.demands.specs.Machine.{Call, Receive, Tick}
use Rattle.demands.specs.After.{after, ends_within}
use Rattle.demands.specs.Silent.{Unheeded, Silence, is_accepted_tick, ticks_in, EndsBy}
use Rattle.session.specs.Session as session
use Rattle.demands.proofs.Silent.{repeated, zeros, quiet_readings, such_a_tick, not_within_800}
use Rattle.demands.proofs.Reach.{cim_opens}
use Rattle.demands.proofs.ReachRun.{ours, is_listed, cim_data, says_cim}

-- ---- a fresh controller, and the CIM that opens its session
abbrev pub after_cim : Controller
after_cim = after (fresh_of ours) (Receive 0x1826_f456 cim_data)

pub just_opened : after_cim.session ≡ session.opened 0x56
unfolding fresh_of
just_opened = cim_opens (fresh_of ours) 0x56 0x1826_f456 cim_data refl is_listed says_cim

-- ---- 800 ticks
abbrev pub tick : Call
tick = Tick quiet_readings (330 ∷ []) (pos 20 ∷ []) (zeros 117)

pub ticks_silent : (n : ℕ) (c : Controller) → Silence c (repeated n tick)
unfolding Silence Unheeded repeated
ticks_silent zero c = tt
ticks_silent (suc n) c = λ o. (tt, ticks_silent n (after c tick))

pub ticks_many : (n : ℕ) → ticks_in (repeated n tick) ≡ n
unfolding ticks_in repeated is_accepted_tick
ticks_many zero = refl
ticks_many (suc n) = rw (such_a_tick.0, ticks_many n) (omega arith)

-- the session that the CIM opened lives through them
pub lives_through : ends_within after_cim (repeated 800 tick) ≡ false
lives_through =
    not_within_800 quiet_readings (330 ∷ []) (pos 20 ∷ []) (zeros 117) such_a_tick.0 such_a_tick.1 after_cim 0x56 0 just_opened

pub eight_hundred_are_not_enough : EndsBy 800 → ⊥
eight_hundred_are_not_enough h =
    let n : ticks_in (repeated 800 tick) ≡ 800 = ticks_many 800 in
    false≢true (sym lives_through ∙ h after_cim (repeated 800 tick) (ticks_silent 800 after_cim) (omega (arith, n)))
