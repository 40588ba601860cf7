-- Where the words of a row stand among n words.
use Rattle.std.specs.Prelude.{ℕ, ◌+◌, ◌*◌, ◌≡◌, ◌≤◌}

-- row c of rows of this size, which is among n words, is what stands from `start` to `end`
pub record IsRowRange (size c n start end : ℕ) : Type 0 where
  pub from : start ≡ c * size
  pub to : end ≡ start + size
  pub inside : end ≤ n
