-- Hex digits read two by two: what the walk has laid, and what it has to come. Assumes nothing.
use Prim.Native.Nat.{ℕ, suc, ◌+◌, ◌*◌, ◌-◌, ◌≤◌, ◌<◌}
use mathlib.Core.Path.{◌≡◌, refl, sym, ◌∙◌, ap}
use mathlib.Core.List.{List, [], ◌∷◌, ◌++◌, append-nil}
use mathlib.Core.Bool.{Bool, true, false}
use native.Mathlib.Numerals.{add-one}
use native.Mathlib.Omega.{arith}
use borrow.Author.Tests.{lt-ltb, ltb-true, ltb-false}
use Rattle.std.proofs.lemmas.Bool.Decides.{nat_tests}
use lib.Dec.{ltb}
use lib.ListN.{length, take, drop, set, length-set, get_or-eq_default, take-append-drop}
use lib.Seq.{take-nil, take-suc-set, drop-set-lt, drop-drop, append_snoc, length-take-le}
use Rattle.std.specs.Prelude.{None, Some}
use Rattle.replay_text.specs.Chars.{newline, byte_at, laid_first}
use Rattle.replay_text.specs.Digits.{digit_of, digit_value, is_digit, digits_from}
use Rattle.replay_text.specs.Hex.{most_hex, hex_from, pairs_of, whole_pairs, bytes_in, hex_in}
use Rattle.replay_text.proofs.Walks.{read_there, leading_more, leading_none, leading_past}

-- a digit counts at most 15
pub digit_small : (b a : ℕ) → digit_of b ≡ Some a → a < 16
unfolding digit_of
digit_small b a e = grind (arith, nat_tests)

-- and is one of base 16
is_hex : (b a : ℕ) → digit_of b ≡ Some a → is_digit 16 b ≡ true
is_hex b a e = rw e (lt-ltb a 16 (digit_small b a e))

no_hex : (b : ℕ) → digit_of b ≡ None → is_digit 16 b ≡ false
no_hex b e = rw e

module _ (text : List ℕ) (at : ℕ) where
  -- a digit stands within the text
  within : (a : ℕ) (p : Bool) → ltb at (length text) ≡ p → digit_of (byte_at text at) ≡ Some a → at < length text
  unfolding digit_of
  within a true e h = ltb-true at (length text) e
  within a false e h =
      let past : byte_at text at ≡ newline = get_or-eq_default text newline (ltb-false at (length text) e) in
      let none : digit_of (byte_at text at) ≡ None = rw past in
      cc

  pub digit_within : (a : ℕ) → digit_of (byte_at text at) ≡ Some a → at < length text
  digit_within a h = within a (ltb at (length text)) refl h

  -- and begins those from its place on
  pub digit_here : (a : ℕ) → digit_of (byte_at text at) ≡ Some a
      → digits_from 16 text at ≡ byte_at text at ∷ digits_from 16 text (at + 1)
  digit_here a h =
      let l = digit_within a h in
      let r = read_there text at 0 newline l in
      leading_more (is_digit 16) text at l (rw r (is_hex _ a h)) ∙ rw r

  nowhere : (p : Bool) → ltb at (length text) ≡ p → digit_of (byte_at text at) ≡ None → digits_from 16 text at ≡ []
  nowhere true e h =
      let l = ltb-true at (length text) e in
      leading_none (is_digit 16) text at l (rw (read_there text at 0 newline l) (no_hex _ h))
  nowhere false e h = leading_past (is_digit 16) text at (ltb-false at (length text) e)

  -- where there is none, there are none
  pub no_digit : digit_of (byte_at text at) ≡ None → digits_from 16 text at ≡ []
  no_digit h = nowhere (ltb at (length text)) refl h

-- and no bytes
pub no_bytes : (text : List ℕ) (at : ℕ) → digit_of (byte_at text at) ≡ None → bytes_in text at ≡ []
unfolding bytes_in pairs_of
no_bytes text at h = rw (no_digit text at h)

-- the digits to come, at a place with n bytes read
abbrev pub left : List ℕ → ℕ → ℕ → List ℕ
left text n at = take (most_hex - 2 * n) (digits_from 16 text at)

module _ (text : List ℕ) (n at : ℕ) where
  pub none_left : digit_of (byte_at text at) ≡ None → left text n at ≡ []
  none_left h = rw (no_digit text at h) (take-nil (most_hex - 2 * n))

  pub half_left : n < 2048 → (a : ℕ) → digit_of (byte_at text at) ≡ Some a → digit_of (byte_at text (at + 1)) ≡ None
      → left text n at ≡ byte_at text at ∷ []
  half_left m x a b =
      let k : most_hex - 2 * n ≡ suc (most_hex - (2 * n + 1)) = omega arith in
      rw (k, digit_here text at x a, no_digit text (at + 1) b, take-nil {A = ℕ} (most_hex - (2 * n + 1)))

module _ (text : List ℕ) (from : ℕ) (old : List ℕ) where
  -- n bytes are read and laid, and the rest will be those of the digits to come
  pub record Reading (out : List ℕ) (n at : ℕ) : Type 0 where
    pub place : at ≡ from + 2 * n
    pub room : n ≤ length out
    pub long : length out ≡ length old
    pub rest : drop n out ≡ drop n old
    pub bytes : bytes_in text from ≡ take n out ++ pairs_of (left text n at)
    pub whole : whole_pairs (hex_from text from) ≡ whole_pairs (left text n at)
    pub digits : length (hex_from text from) ≡ 2 * n + length (left text n at)

  pub read_none : Reading old 0 from
  unfolding bytes_in
  read_none =
      record {
        place = omega arith;
        room = omega arith;
        long = refl;
        rest = refl;
        bytes = refl;
        whole = refl;
        digits = omega arith;
      }

  module _ {out : List ℕ} {n at : ℕ} (r : Reading out n at) where
    -- two digits more are a byte more
    pub read_more : n < length out → n < 2048 → (x y : ℕ) → digit_of (byte_at text at) ≡ Some x
        → digit_of (byte_at text (at + 1)) ≡ Some y → Reading (set out n (x * 16 + y)) (n + 1) (at + 2)
    unfolding pairs_of whole_pairs
    read_more l m x y a b =
        let v = x * 16 + y in
        let p : digit_value (byte_at text at) * 16 + digit_value (byte_at text (at + 1)) ≡ v = rw (a, b) in
        let k : most_hex - 2 * n ≡ suc (suc (most_hex - 2 * (n + 1))) = omega arith in
        let two : at + 1 + 1 ≡ at + 2 = omega arith in
        let e : left text n at ≡ byte_at text at ∷ byte_at text (at + 1) ∷ left text (n + 1) (at + 2)
        = rw (k, digit_here text at x a, digit_here text (at + 1) y b, two) in
        let t : take (n + 1) (set out n v) ≡ take n out ++ (v ∷ []) = rw (add-one n) (take-suc-set out n v l) in
        record {
          place = omega (arith, r.place);
          room = simp length-set (omega arith);
          long = length-set out n v ∙ r.long;
          rest =
              drop-set-lt (n + 1) out n v (omega arith)
              ∙ (sym (drop-drop 1 n out) ∙ ap (drop 1) r.rest ∙ drop-drop 1 n old);
          bytes =
              r.bytes
              ∙ rw (e, t, p)
              (sym (append_snoc (take n out) v (pairs_of (left text (n + 1) (at + 2)))));
          whole = r.whole ∙ rw e;
          digits = omega (arith, r.digits, ap length e);
        }

    laid : pairs_of (left text n at) ≡ [] → bytes_in text from ≡ take n out
    laid e = r.bytes ∙ rw (e, append-nil)

    -- where no byte is to come, all are laid
    pub read_laid : pairs_of (left text n at) ≡ [] → out ≡ laid_first (bytes_in text from) old
    unfolding laid_first
    read_laid e =
        rw (laid e, length-take-le n out r.room, ← r.rest) (sym (take-append-drop n out))

    -- where no digit is to come, they are whole bytes
    pub read_all : left text n at ≡ [] → (Some (n, at) ≡ hex_in text from) × (out ≡ laid_first (bytes_in text from) old)
    unfolding hex_in whole_pairs pairs_of
    read_all e =
        let p : pairs_of (left text n at) ≡ [] = rw e in
        let count : length (bytes_in text from) ≡ n = ap length (laid p) ∙ length-take-le n out r.room in
        let past : from + length (hex_from text from) ≡ at = omega (arith, r.digits, ap length e, r.place) in
        let w : whole_pairs (hex_from text from) ≡ true = r.whole ∙ rw e in
        (rw (w, count, past), read_laid p)

    -- a digit alone is half a byte
    pub read_half : (x : ℕ) → left text n at ≡ x ∷ []
        → (None ≡ hex_in text from) × (out ≡ laid_first (bytes_in text from) old)
    unfolding hex_in whole_pairs pairs_of
    read_half x e =
        let w : whole_pairs (hex_from text from) ≡ false = r.whole ∙ rw e in
        (rw w, read_laid (rw e))
