-- Laws of standings by their numbers: what each prints, and which are the same, by the numbers alone. Assumes nothing.
use Prim.Native.Nat.{ℕ, zero, suc, ◌-◌}
use mathlib.Core.Path.{◌≡◌, refl}
use mathlib.Core.Bool.{◌&&◌, ◌||◌, cond}
use mathlib.Core.List.{List, [], ◌∷◌, ◌++◌}
use native.Mathlib.Omega.{arith}
use borrow.Author.Tests.{ne_eqb}
use lib.Dec.{eqb}
use lib.ListN.{get_or}
use Rattle.session_states.specs.declared.states.State.{State}
use Rattle.session_states.specs.declared.states.State.TheVariants as state
use Rattle.replay_print.specs.declared.standings.Name.{Name}
use Rattle.replay_print.specs.declared.standings.Name.TheVariants as name
use Rattle.replay_print.specs.declared.standings.Standing.TheVariants.{In}
use Rattle.replay_print.specs.Quoted.{quoted}
use Rattle.replay_print.specs.Text.{hex_of}
use Rattle.replay_print.specs.Standings.{standing_of, standing_numbered, standing_text, name_number, same_standing}

-- the number of a state
abbrev pub state_number : State → ℕ
state_number state.Idle = 0
state_number state.Offered = 1
state_number state.Unverified = 2
state_number state.Parameters = 3
state_number (state.Ready accepted maximum) = 4
state_number (state.Charging p) = 5
state_number (state.Stopping acknowledged est) = 6
state_number state.Error = 7

-- a state's standing is that of its number
pub state_numbered : (x : State) (s : ℕ) → standing_of x s ≡ standing_numbered (state_number x) s
unfolding standing_of standing_numbered
state_numbered state.Idle s = refl
state_numbered state.Offered s = refl
state_numbered state.Unverified s = refl
state_numbered state.Parameters s = refl
state_numbered (state.Ready accepted maximum) s = refl
state_numbered (state.Charging p) s = refl
state_numbered (state.Stopping acknowledged est) s = refl
state_numbered state.Error s = refl

-- the states' names, in the order of their numbers
abbrev pub state_names : List (List ℕ)
state_names =
    quoted "Idle"
    ∷ quoted "Offered"
    ∷ quoted "Unverified"
    ∷ quoted "Parameters"
    ∷ quoted "Ready"
    ∷ quoted "Charging"
    ∷ quoted "Stopping"
    ∷ quoted "Error"
    ∷ []

-- the name by the number, where every number that no state has is printed as Error, and the station, unless it is 0
pub text_numbered : (n station : ℕ) → standing_text (standing_numbered n station)
    ≡ get_or state_names n (quoted "Error") ++ cond (eqb n 0) [] (quoted " " ++ hex_of station)
unfolding standing_numbered standing_text
text_numbered zero s = refl
text_numbered (suc zero) s = refl
text_numbered (suc (suc zero)) s = refl
text_numbered (suc (suc (suc zero))) s = refl
text_numbered (suc (suc (suc (suc zero)))) s = refl
text_numbered (suc (suc (suc (suc (suc zero))))) s = refl
text_numbered (suc (suc (suc (suc (suc (suc zero)))))) s = refl
text_numbered (suc (suc (suc (suc (suc (suc (suc zero))))))) s = refl
text_numbered (suc (suc (suc (suc (suc (suc (suc (suc n)))))))) s =
    rw (ne_eqb (suc (suc (suc (suc (suc (suc (suc (suc n)))))))) 0 (omega arith)) refl

-- a number past 0 has a name with just this number
named : (n station : ℕ) → (a : Name) × ((standing_numbered (suc n) station ≡ In a station) × (name_number a ≡ suc n))
unfolding standing_numbered
named zero s = (name.Offered, (refl, refl))
named (suc zero) s = (name.Unverified, (refl, refl))
named (suc (suc zero)) s = (name.Parameters, (refl, refl))
named (suc (suc (suc zero))) s = (name.Ready, (refl, refl))
named (suc (suc (suc (suc zero)))) s = (name.Charging, (refl, refl))
named (suc (suc (suc (suc (suc zero))))) s = (name.Stopping, (refl, refl))
named (suc (suc (suc (suc (suc (suc n)))))) s =
    (name.Error (suc (suc (suc (suc (suc (suc (suc n)))))) - 7), (refl, omega arith))

-- two are the same whose numbers are and, unless that is 0, whose stations are
pub same_numbered : (n m station other : ℕ)
    → same_standing (standing_numbered n station) (standing_numbered m other)
    ≡ (eqb n m && (eqb n 0 || eqb station other))
unfolding standing_numbered same_standing
same_numbered zero zero s t = refl
same_numbered zero (suc m) s t = rw ((named m t).1.0, ne_eqb 0 (suc m) (omega arith)) refl
same_numbered (suc n) zero s t = rw ((named n s).1.0, ne_eqb (suc n) 0 (omega arith)) refl
same_numbered (suc n) (suc m) s t =
    let a = named n s in
    let b = named m t in
    rw (a.1.0, b.1.0, a.1.1, b.1.1, ne_eqb (suc n) 0 (omega arith)) refl
