-- What the functions that write a part of a report tell.
use Rattle.std.specs.Prelude.{ℕ, ◌+◌, ◌≤◌, ◌≡◌, List, ◌++◌, length, take, drop}

-- `text` was written over the bytes d of a buffer from byte `at` on, and ends before byte r; d' are the buffer's bytes then
pub record Wrote (d : List ℕ) (at : ℕ) (text d' : List ℕ) (r : ℕ) : Type 0 where
  pub ends : r ≡ at + length text
  pub fits : r ≤ length d
  pub content : d' ≡ take at d ++ (text ++ drop r d)
