-- Which message a received PF is, read off the table (01, "Identifier and message numbers", and number 7).
use Rattle.std.specs.Prelude.{ℕ, Bool, false, cond, ◌||◌, List, [], ◌∷◌, eqb, Result, Ok, Err, ◌≡◌}
use Rattle.numbers.specs.declared.Refusal.{Refusal}
use Rattle.numbers.specs.declared.Refusal.TheVariants.{NotOneOfTheNine}
use Rattle.numbers.specs.Numbers.{answered}
use Rattle.messages.specs.declared.table.Row.{Row}
use Rattle.messages.specs.declared.received.Charge.{Charge}
use Rattle.messages.specs.declared.received.Charge.TheVariants.{Cim, Cvm, Cmp, Crm, Ccs, Cst, Cem}
use Rattle.messages.specs.declared.received.Kind.{Kind}
use Rattle.messages.specs.declared.received.Kind.TheVariants.{Voltages, Temperatures}
use Rattle.messages.specs.declared.received.Message.{Message}
use Rattle.messages.specs.declared.received.Message.TheVariants as message
use Rattle.messages.specs.Table.{pf_of, length_of, CIM, CVM, CMP, CRM, CCS, CST, CEM, ACV, ACT}

-- the row of each of the nine
abbrev pub charge_row : Charge → Row
charge_row Cim = CIM
charge_row Cvm = CVM
charge_row Cmp = CMP
charge_row Crm = CRM
charge_row Ccs = CCS
charge_row Cst = CST
charge_row Cem = CEM

abbrev pub query_row : Kind → Row
query_row Voltages = ACV
query_row Temperatures = ACT

abbrev pub row_of : Message → Row
row_of (message.Charge c) = charge_row c
row_of (message.Query k) = query_row k

-- "least length"
abbrev pub least_length : Message → ℕ
least_length m = length_of (row_of m)

abbrev pub nine : List Message
nine =
    message.Charge Cim
    ∷ message.Charge Cvm
    ∷ message.Charge Cmp
    ∷ message.Charge Crm
    ∷ message.Charge Ccs
    ∷ message.Charge Cst
    ∷ message.Charge Cem
    ∷ message.Query Voltages
    ∷ message.Query Temperatures
    ∷ []

-- the first of the messages whose row has this PF; where none has, 7: "PF not one of the nine"
abbrev pub first_with : ℕ → List Message → Result Message Refusal
first_with pf [] = Err NotOneOfTheNine
first_with pf (m ∷ ms) = cond (eqb pf (pf_of (row_of m))) (Ok m) (first_with pf ms)

abbrev pub recognized_of : ℕ → Result Message Refusal
recognized_of pf = first_with pf nine

-- one of the messages has this PF
abbrev pub some_has : ℕ → List Message → Bool
some_has pf [] = false
some_has pf (m ∷ ms) = eqb pf (pf_of (row_of m)) || some_has pf ms

-- 7: "PF not one of the nine"
abbrev pub pf_number : ℕ → ℕ
pf_number pf = cond (some_has pf nine) 0 7

-- what a PF is told to be: the message or the refusal, and so its number
pub record RecognizesAs (pf : ℕ) (r : Result Message Refusal) : Type 0 where
  pub number : answered r ≡ pf_number pf
  pub answer : r ≡ recognized_of pf
