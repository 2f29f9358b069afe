-- A number tells its refusal: no two lines of the table share one, and none has that of a call that is taken.
use Rattle.std.proofs.Common.{ℕ, arith, ◌≡◌, ◌∙◌, ap, sym, refl, List, [], ◌∷◌, get_or}
use Rattle.numbers.specs.declared.Refusal.{Refusal}
use Rattle.numbers.specs.declared.Refusal.TheVariants.{Layout, SettingOutOfRange, NotCan, FlagSet, NotForUs, BadSource, NotOneOfTheNine, TooShort, NotTheStation, ContentNotAllowed, NotInThisState, AlreadyWaiting, FourWaiting, Tables, ReadingOutOfRange, TickBuffer, RecordBuffer}
use Rattle.numbers.specs.Numbers.{number_of}

abbrev table : List Refusal
table =
    Layout
    ∷ Layout
    ∷ SettingOutOfRange
    ∷ NotCan
    ∷ FlagSet
    ∷ NotForUs
    ∷ BadSource
    ∷ NotOneOfTheNine
    ∷ TooShort
    ∷ NotTheStation
    ∷ ContentNotAllowed
    ∷ NotInThisState
    ∷ AlreadyWaiting
    ∷ FourWaiting
    ∷ Tables
    ∷ ReadingOutOfRange
    ∷ TickBuffer
    ∷ RecordBuffer
    ∷ []

abbrev with_number : ℕ → Refusal
with_number n = get_or table n Layout

back : (r : Refusal) → with_number (number_of r) ≡ r
back Layout = refl
back SettingOutOfRange = refl
back NotCan = refl
back FlagSet = refl
back NotForUs = refl
back BadSource = refl
back NotOneOfTheNine = refl
back TooShort = refl
back NotTheStation = refl
back ContentNotAllowed = refl
back NotInThisState = refl
back AlreadyWaiting = refl
back FourWaiting = refl
back Tables = refl
back ReadingOutOfRange = refl
back TickBuffer = refl
back RecordBuffer = refl

pub number_tells : (a b : Refusal) → number_of a ≡ number_of b → a ≡ b
number_tells a b e = sym (back a) ∙ ap with_number e ∙ back b

-- a refusal's number is not that of a call that is taken
pub not_taken : (r : Refusal) → number_of r ≡ 0 → ⊥
not_taken r e =
    let first : r ≡ Layout = sym (back r) ∙ ap with_number e in
    let one : number_of r ≡ 1 = ap number_of first in
    omega (arith, e, one)
