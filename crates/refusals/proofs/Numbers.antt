-- The number of what 3 to 8 make of a frame is the first that refuses it. Assumes nothing.
use Rattle.std.proofs.Common.{Result, Ok, Err}
use Prim.Native.Nat.{ℕ}
use mathlib.Core.Path.{◌≡◌, refl, ap, ◌∙◌}
use mathlib.Core.Bool.{Bool, true, false, cond}
use mathlib.Core.List.{List}
use lib.Dec.{ltb}
use lib.ListN.{length}
use Rattle.numbers.specs.declared.Refusal.{Refusal}
use Rattle.numbers.specs.declared.Refusal.TheVariants.{TooShort}
use Rattle.numbers.specs.Numbers.{answered}
use Rattle.messages.specs.declared.received.Message.{Message}
use Rattle.messages.specs.Identifier.{parts_of}
use Rattle.messages.specs.Received.{least_length, recognized_of}
use Rattle.refusals.specs.Frame.{not_can, flags_set, not_for_us, bad_source, long_enough, message_in, known_number, frame_number}

-- a test decides between two answers as it does between their numbers
both : (t : Bool) (a b : Result Message Refusal) (m n : ℕ) → answered a ≡ m → answered b ≡ n
    → answered (cond t a b) ≡ cond t m n
both true a b m n h k = h
both false a b m n h k = k

long_number : (s : List ℕ) (r : Result Message Refusal) → answered (long_enough s r) ≡ known_number s r
unfolding long_enough
long_number s (Ok m) = both (ltb (length s) (least_length m)) (Err TooShort) (Ok m) 8 0 refl refl
long_number s (Err refusal) = refl

number_in : (own id : ℕ) (s : List ℕ) → answered (message_in own id s) ≡ frame_number own id s
unfolding message_in frame_number
number_in own id s =
    both (not_can id s) _ _ _ _ refl
    (both (flags_set (parts_of id)) _ _ _ _ refl
    (both (not_for_us own (parts_of id)) _ _ _ _ refl
    (both (bad_source own (parts_of id)) _ _ _ _ refl (long_number s (recognized_of (parts_of id).pf)))))

-- what is the message in a frame has its number
pub numbered : (own id : ℕ) (s : List ℕ) {r : Result Message Refusal} → r ≡ message_in own id s
    → (answered r ≡ frame_number own id s) × (r ≡ message_in own id s)
numbered own id s e = (ap answered e ∙ number_in own id s, e)
