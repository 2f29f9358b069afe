-- Rows of 01, "Worked rows", marked P, that are about requests. Assumes nothing.
use Prim.Native.Nat.{ℕ}
use Rattle.std.specs.declared.ops.ControlFlow.TheVariants.{Continue, Break}
use mathlib.Core.Path.{◌≡◌, refl}
use mathlib.Core.Bool.{false}
use Rattle.units.specs.declared.TenthAmps.{TenthAmps}
use Rattle.session_states.specs.declared.phases.Phase.TheVariants.{Drive, Rest, Hold}
use Rattle.session_states.specs.Phases.{start_phase, after_rest, drive_rules, hold_rules, phase_after}

-- so many tenths of an ampere
abbrev pub tenths : ℕ → TenthAmps
tenths n = record { 0 = n }

-- R 60 drives, 59 holds: at the start by the station's maximum, and after a Rest
pub sixty_drives : start_phase (tenths 400) (tenths 60) ≡ Drive (tenths 60) 1 0
unfolding start_phase
sixty_drives = refl

pub fifty_nine_holds : start_phase (tenths 400) (tenths 59) ≡ Hold 0
unfolding start_phase
fifty_nine_holds = refl

pub sixty_drives_again : phase_after (Rest (tenths 120) 1 6000) false ≡ Continue (Drive (tenths 60) 2 0)
unfolding phase_after after_rest drive_rules
sixty_drives_again = refl

pub fifty_nine_holds_then : phase_after (Rest (tenths 119) 1 6000) false ≡ Continue (Hold 0)
unfolding phase_after after_rest hold_rules
fifty_nine_holds_then = refl
