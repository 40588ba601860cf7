-- Laws of single words: which of them stand for one entry.
use Prim.Native.Nat.{ℕ, ◌/◌, ◌%◌, ◌<◌}
use mathlib.Core.Path.{◌≡◌, refl}
use mathlib.Core.Bool.{false}
use lib.Dec.{eqb}
use borrow.Author.Tests.{eq-eqb, ne_eqb, lt-ltb}
use Rattle.model.specs.Limits.{word_limit}
use Rattle.model.specs.step.Track.{is_entry}

-- by the two low bits of a word of 32 bits
module _ (g w : ℕ) (fits : w < word_limit) where
  pub entry_if : w % 4 ≡ 2 → eqb (w / 128 % 2) g ≡ is_entry g w
  unfolding is_entry
  entry_if h = simp (lt-ltb w word_limit fits, eq-eqb (w % 4) 2 h) refl

  pub entry_only_if : (w % 4 ≡ 2 → ⊥) → false ≡ is_entry g w
  unfolding is_entry
  entry_only_if h = simp (lt-ltb w word_limit fits, ne_eqb (w % 4) 2 h) refl
