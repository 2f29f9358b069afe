-- An identifier and its parts say the same: made of what was taken apart it is itself again, and the other way round.
-- Assumes nothing.
use mathlib.Core.Path.{◌≡◌}
use Prim.Native.Nat.{ℕ, ◌+◌, ◌*◌, ◌/◌, ◌%◌, ◌<◌}
use native.Mathlib.Omega.{arith}
use Rattle.messages.specs.declared.identifier.Identifier.{Identifier}
use Rattle.messages.specs.Identifier.{parts_of, number_of}

-- quotients that are each the quotient of the one before, and their remainders
joined : (id q1 q2 q3 q4 q5 r0 r1 r2 r3 r4 : ℕ)
    → q1 * 256 + r0 ≡ id → q2 * 256 + r1 ≡ q1 → q3 * 256 + r2 ≡ q2 → q4 * 2 + r3 ≡ q3 → q5 * 2 + r4 ≡ q4
    → q5 * 0x400_0000 + r4 * 0x200_0000 + r3 * 0x100_0000 + r2 * 0x1_0000 + r1 * 0x100 + r0 ≡ id
joined id q1 q2 q3 q4 q5 r0 r1 r2 r3 r4 h1 h2 h3 h4 h5 = omega arith

-- every identifier of 29 bits is the number of its parts
pub number_of_parts : (id : ℕ) → id < 0x2000_0000 → number_of (parts_of id) ≡ id
unfolding parts_of number_of
number_of_parts id h =
    let p : id / 0x400_0000 % 8 % 8 ≡ id / 0x400_0000 = omega arith in
    let r : id / 0x200_0000 % 2 % 2 ≡ id / 0x200_0000 % 2 = omega arith in
    let d : id / 0x100_0000 % 2 % 2 ≡ id / 0x100_0000 % 2 = omega arith in
    rw (p, r, d)
    (joined id (id / 0x100) (id / 0x1_0000) (id / 0x100_0000) (id / 0x200_0000) (id / 0x400_0000)
    (id % 256) (id / 0x100 % 256) (id / 0x1_0000 % 256) (id / 0x100_0000 % 2) (id / 0x200_0000 % 2)
    (omega arith) (omega arith) (omega arith) (omega arith) (omega arith))

-- parts that keep to their bits
pub record Within (p : Identifier) : Type 0 where
  pub priority_3 : p.priority < 8
  pub reserved_1 : p.reserved < 2
  pub page_1 : p.page < 2
  pub pf_8 : p.pf < 256
  pub ps_8 : p.ps < 256
  pub source_8 : p.source < 256

module _ (n a b c d e f : ℕ)
    (whole : n ≡ a * 0x400_0000 + b * 0x200_0000 + c * 0x100_0000 + d * 0x1_0000 + e * 0x100 + f)
    (ha : a < 8) (hb : b < 2) (hc : c < 2) (hd : d < 256) (he : e < 256) (hf : f < 256) where
  at_priority : n / 0x400_0000 % 8 ≡ a
  at_priority = let q : n / 0x400_0000 ≡ a = omega arith in omega arith

  at_reserved : n / 0x200_0000 % 2 ≡ b
  at_reserved = let q : n / 0x200_0000 ≡ a * 2 + b = omega arith in omega arith

  at_page : n / 0x100_0000 % 2 ≡ c
  at_page = let q : n / 0x100_0000 ≡ (a * 2 + b) * 2 + c = omega arith in omega arith

  at_pf : n / 0x1_0000 % 256 ≡ d
  at_pf = let q : n / 0x1_0000 ≡ ((a * 2 + b) * 2 + c) * 256 + d = omega arith in omega arith

  at_ps : n / 0x100 % 256 ≡ e
  at_ps = let q : n / 0x100 ≡ (((a * 2 + b) * 2 + c) * 256 + d) * 256 + e = omega arith in omega arith

  at_source : n % 256 ≡ f
  at_source = omega arith

  parts_are : parts_of n ≡ record { priority = a; reserved = b; page = c; pf = d; ps = e; source = f }
  unfolding parts_of
  parts_are = simp (at_priority, at_reserved, at_page, at_pf, at_ps, at_source)

-- and parts that keep to their bits are the parts of their number
pub parts_of_number : (p : Identifier) → Within p → parts_of (number_of p) ≡ p
unfolding number_of
parts_of_number p w =
    let r : p.priority % 8 ≡ p.priority = omega (arith, w.priority_3) in
    let s : p.reserved % 2 ≡ p.reserved = omega (arith, w.reserved_1) in
    let t : p.page % 2 ≡ p.page = omega (arith, w.page_1) in
    parts_are (number_of p) p.priority p.reserved p.page p.pf p.ps p.source (rw (r, s, t))
    w.priority_3 w.reserved_1 w.page_1 w.pf_8 w.ps_8 w.source_8
