-- Allowed content (01, "Numbers returned", 10): CIM 01 01 00; CVM 00 or AA; CRM 00, AA or FF; CCS byte 5 00 or 01; CST
-- and CEM byte 3 00 or AA; CMP any. The paper counts bytes from 1, a list from 0.
use Rattle.std.specs.Prelude.{ℕ, Bool, true, false, cond, ◌&&◌, ◌||◌, List, eqb, get_or, Result, Ok, Err}
use Rattle.numbers.specs.declared.Refusal.{Refusal}
use Rattle.numbers.specs.declared.Refusal.TheVariants.{ContentNotAllowed}
use Rattle.buffers.specs.Words.{word_at}
use Rattle.messages.specs.declared.received.Charge.{Charge}
use Rattle.messages.specs.declared.received.Charge.TheVariants as charge
use Rattle.charge_messages.specs.declared.ChargeMessage.{ChargeMessage}
use Rattle.charge_messages.specs.declared.ChargeMessage.TheVariants.{Cim, Cvm, Cmp, Crm, Ccs, Cst, Cem}

abbrev pub cim_of : ℕ → ℕ → ℕ → Result ChargeMessage Refusal
cim_of a b c = cond (eqb a 0x01 && (eqb b 0x01 && eqb c 0x00)) (Ok Cim) (Err ContentNotAllowed)

abbrev pub cvm_of : ℕ → Result ChargeMessage Refusal
cvm_of a = cond (eqb a 0xaa) (Ok (Cvm true)) (cond (eqb a 0x00) (Ok (Cvm false)) (Err ContentNotAllowed))

-- CMP holds maximum and minimum voltage, maximum and minimum current
abbrev pub cmp_of : List ℕ → Result ChargeMessage Refusal
cmp_of s =
    Ok
    (Cmp
    (record {
      highest = record { 0 = word_at s 0 };
      lowest = record { 0 = word_at s 2 };
      most = record { 0 = word_at s 4 };
      least = record { 0 = word_at s 6 };
    }))

abbrev pub crm_of : ℕ → Result ChargeMessage Refusal
crm_of a =
    cond (eqb a 0xaa) (Ok (Crm true))
    (cond (eqb a 0x00) (Ok (Crm false)) (cond (eqb a 0xff) (Ok (Crm false)) (Err ContentNotAllowed)))

abbrev pub ccs_of : ℕ → Result ChargeMessage Refusal
ccs_of e = cond (eqb e 0x01) (Ok (Ccs true)) (cond (eqb e 0x00) (Ok (Ccs false)) (Err ContentNotAllowed))

abbrev pub cst_of : ℕ → Result ChargeMessage Refusal
cst_of c = cond (eqb c 0xaa) (Ok (Cst true)) (cond (eqb c 0x00) (Ok (Cst false)) (Err ContentNotAllowed))

abbrev pub cem_of : ℕ → Result ChargeMessage Refusal
cem_of c = cond (eqb c 0xaa) (Ok Cem) (cond (eqb c 0x00) (Ok Cem) (Err ContentNotAllowed))

unfoldable pub content_of : Charge → List ℕ → Result ChargeMessage Refusal
content_of charge.Cim s = cim_of (get_or s 0 0) (get_or s 1 0) (get_or s 2 0)
content_of charge.Cvm s = cvm_of (get_or s 0 0)
content_of charge.Cmp s = cmp_of s
content_of charge.Crm s = crm_of (get_or s 0 0)
content_of charge.Ccs s = ccs_of (get_or s 4 0)
content_of charge.Cst s = cst_of (get_or s 2 0)
content_of charge.Cem s = cem_of (get_or s 2 0)

-- the content is allowed
unfoldable pub allowed_content : Charge → List ℕ → Bool
allowed_content charge.Cim s = eqb (get_or s 0 0) 0x01 && (eqb (get_or s 1 0) 0x01 && eqb (get_or s 2 0) 0x00)
allowed_content charge.Cvm s = eqb (get_or s 0 0) 0xaa || eqb (get_or s 0 0) 0x00
allowed_content charge.Cmp s = true
allowed_content charge.Crm s = eqb (get_or s 0 0) 0xaa || (eqb (get_or s 0 0) 0x00 || eqb (get_or s 0 0) 0xff)
allowed_content charge.Ccs s = eqb (get_or s 4 0) 0x01 || eqb (get_or s 4 0) 0x00
allowed_content charge.Cst s = eqb (get_or s 2 0) 0xaa || eqb (get_or s 2 0) 0x00
allowed_content charge.Cem s = eqb (get_or s 2 0) 0xaa || eqb (get_or s 2 0) 0x00

-- 10: "content not allowed"; 0 where it is
unfoldable pub refusal_of : Charge → List ℕ → ℕ
refusal_of m s = cond (allowed_content m s) 0 10
