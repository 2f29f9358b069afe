-- The lines of the text, and what is held of one that the input has not ended yet. A line may have 4,096 characters; a
-- longer one is unreadable (docs/REPLAY.md, "Input").
use Rattle.std.specs.Prelude.{ℕ, suc, ◌+◌, cond, ◌&&◌, List, [], ◌∷◌, ltb, leb, eqb, length, set}
use Rattle.replay_text.specs.Chars.{newline, byte_at, past_all, in_line}
use Rattle.replay_text.specs.Words.{past_gaps}

-- as many characters as a line may have
abbrev pub longest : ℕ
longest = 4096

-- the place of the first newline from a place on; the text's end where there is none
abbrev pub line_end : List ℕ → ℕ → ℕ
line_end text at = past_all in_line text at

-- the place past the last newline of a list; 0 where there is none
unfoldable pub past_last : List ℕ → ℕ
past_last [] = 0
past_last (b ∷ l) = cond (ltb 0 (past_last l)) (suc (past_last l)) (cond (eqb b newline) 1 0)

-- how many are kept of the n characters of a line that is not ended: one more than a line may have is enough
unfoldable pub kept_of : ℕ → ℕ
kept_of n = cond (leb n longest) n (longest + 1)

-- of a line that is too long it matters only whether it is blank or a comment: where all that are kept are gaps, and
-- there is one in it that is none, the first such takes the place of the last that is kept
unfoldable pub shortened_of : List ℕ → List ℕ
shortened_of line =
    cond (ltb longest (length line) && (ltb longest (past_gaps line 0) && ltb (past_gaps line 0) (length line)))
    (set line longest (byte_at line (past_gaps line 0)))
    line
