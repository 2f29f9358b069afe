-- 10 is given exactly where the content is not allowed. Assumes nothing.
use Rattle.std.proofs.Common.{Result, Ok, Err}
use Prim.Native.Nat.{ℕ}
use mathlib.Core.Path.{◌≡◌, refl, ap, ◌∙◌}
use mathlib.Core.Bool.{Bool, true, false, cond, ◌&&◌, ◌||◌}
use mathlib.Core.List.{List}
use lib.Dec.{eqb}
use lib.ListN.{get_or}
use Rattle.messages.specs.declared.received.Charge.{Charge}
use Rattle.messages.specs.declared.received.Charge.TheVariants as charge
use Rattle.charge_messages.specs.declared.ChargeMessage.{ChargeMessage}
use Rattle.numbers.specs.declared.Refusal.{Refusal}
use Rattle.numbers.specs.declared.Refusal.TheVariants.{ContentNotAllowed}
use Rattle.numbers.specs.Numbers as numbers
use Rattle.charge_messages.specs.Content.{content_of, allowed_content, refusal_of}

one : (a : Bool) (m : ChargeMessage) → numbers.answered (cond a (Ok m) (Err ContentNotAllowed)) ≡ cond a 0 10
one true m = refl
one false m = refl

two : (a b : Bool) (m k : ChargeMessage) → numbers.answered (cond a (Ok m) (cond b (Ok k) (Err ContentNotAllowed))) ≡ cond (a || b) 0 10
two true b m k = refl
two false true m k = refl
two false false m k = refl

three : (a b c : Bool) (m k l : ChargeMessage)
    → numbers.answered (cond a (Ok m) (cond b (Ok k) (cond c (Ok l) (Err ContentNotAllowed)))) ≡ cond (a || (b || c)) 0 10
three true b c m k l = refl
three false true c m k l = refl
three false false true m k l = refl
three false false false m k l = refl

pub content_number_lem : (m : Charge) (s : List ℕ) → numbers.answered (content_of m s) ≡ refusal_of m s
unfolding content_of allowed_content refusal_of
content_number_lem charge.Cim s = one (eqb (get_or s 0 0) 0x01 && (eqb (get_or s 1 0) 0x01 && eqb (get_or s 2 0) 0x00)) _
content_number_lem charge.Cvm s = two (eqb (get_or s 0 0) 0xaa) (eqb (get_or s 0 0) 0x00) _ _
content_number_lem charge.Cmp s = refl
content_number_lem charge.Crm s = three (eqb (get_or s 0 0) 0xaa) (eqb (get_or s 0 0) 0x00) (eqb (get_or s 0 0) 0xff) _ _ _
content_number_lem charge.Ccs s = two (eqb (get_or s 4 0) 0x01) (eqb (get_or s 4 0) 0x00) _ _
content_number_lem charge.Cst s = two (eqb (get_or s 2 0) 0xaa) (eqb (get_or s 2 0) 0x00) _ _
content_number_lem charge.Cem s = two (eqb (get_or s 2 0) 0xaa) (eqb (get_or s 2 0) 0x00) _ _

-- both promises of an answer, from the second
pub answered : (m : Charge) (s : List ℕ) (r : Result ChargeMessage Refusal) → r ≡ content_of m s → (numbers.answered r ≡ refusal_of m s) × (r ≡ content_of m s)
answered m s r e = (ap numbers.answered e ∙ content_number_lem m s, e)
