-- What it is to lay bytes into a lent buffer: the whole of its later contents.
use Rattle.std.specs.Prelude.{ℕ, ◌+◌, ◌≤◌, ◌≡◌, List, ◌++◌, length, take, drop}

-- the buffer `old` with the bytes `vs` from `at` on: what stood before them, the bytes, what stood after them
unfoldable pub laid_at : List ℕ → ℕ → List ℕ → List ℕ
laid_at old at vs = take at old ++ vs ++ drop (at + length vs) old

-- there was room for `vs` from `at` on, `new` is `old` with them there, and `next` is the place past them
pub record Laid (old new : List ℕ) (at next : ℕ) (vs : List ℕ) : Type 0 where
  pub room : at + length vs ≤ length old
  pub past : next ≡ at + length vs
  pub holds : new ≡ laid_at old at vs
