-- The lines `voltages N N ..` and `temperatures N N ..` (docs/REPLAY.md, "Input"): numbers to the end of the line, at
-- most 512.
use Rattle.std.specs.Prelude.{ℕ, zero, suc, ◌-◌, cond, List, [], ◌∷◌, ◌++◌, ℤ, length, replicate}
use Rattle.std.specs.Prelude.{Option, None, Some, option_map, option_and_then}
use Rattle.replay_text.specs.Words.{is_end}
use Rattle.replay_text.specs.Numbers.{up_to, of_16_bits, read_as}

-- as many entries as a table has
abbrev pub most_entries : ℕ
most_entries = 512

module _ {A : Type 0} (of : ℤ → Option A) (text : List ℕ) where
  -- the numbers from a place to the end of the line, at most so many, each by what a number is to be; none where one
  -- cannot be read or there are more
  unfoldable pub entries_from : ℕ → ℕ → Option (List A)
  entries_from zero at = cond (is_end text at) (Some []) None
  entries_from (suc left) at =
      cond (is_end text at) (Some [])
      (option_and_then (λ p. option_map (λ l. p.0 ∷ l) (entries_from left p.1)) (read_as of text at))

  -- as many as a table has
  abbrev pub entries_in : ℕ → Option (List A)
  entries_in past = entries_from most_entries past

-- voltages are of 16 bits
abbrev pub voltages_in : List ℕ → ℕ → Option (List ℕ)
voltages_in text past = entries_in (up_to 65535) text past

-- temperatures are of 16 bits with their sign
abbrev pub temperatures_in : List ℕ → ℕ → Option (List ℤ)
temperatures_in text past = entries_in of_16_bits text past

-- the table after such a line: the numbers, and zeros after them; as it was where they cannot be read
abbrev pub table_of : {A : Type 0} → A → List A → Option (List A) → List A
table_of z old None = old
table_of z old (Some l) = l ++ replicate (most_entries - length l) z
