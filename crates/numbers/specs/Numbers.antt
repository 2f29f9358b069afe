-- The numbers of the table "Numbers returned" (01), a line a refusal; 0 is taken.
use Rattle.std.specs.Prelude.{ℕ, Result, Ok, Err}
use Rattle.numbers.specs.declared.Refusal.{Refusal}
use Rattle.numbers.specs.declared.Refusal.TheVariants.{Layout, SettingOutOfRange, NotCan, FlagSet, NotForUs, BadSource, NotOneOfTheNine, TooShort, NotTheStation, ContentNotAllowed, NotInThisState, AlreadyWaiting, FourWaiting, Tables, ReadingOutOfRange, TickBuffer, RecordBuffer}

abbrev pub number_of : Refusal → ℕ
number_of Layout = 1
number_of SettingOutOfRange = 2
number_of NotCan = 3
number_of FlagSet = 4
number_of NotForUs = 5
number_of BadSource = 6
number_of NotOneOfTheNine = 7
number_of TooShort = 8
number_of NotTheStation = 9
number_of ContentNotAllowed = 10
number_of NotInThisState = 11
number_of AlreadyWaiting = 12
number_of FourWaiting = 13
number_of Tables = 14
number_of ReadingOutOfRange = 15
number_of TickBuffer = 16
number_of RecordBuffer = 17

-- the number that a call carries, whatever it gives where it is taken
abbrev pub answered : {A : Type 0} → Result A Refusal → ℕ
answered (Ok x) = 0
answered (Err refusal) = number_of refusal
