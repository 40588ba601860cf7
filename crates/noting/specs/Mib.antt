-- Noting the pages of a MiB, which share one level-one descriptor.
use Rattle.std.specs.Prelude.{ℕ, ◌+◌, ◌*◌, ◌<◌, ◌≡◌, min, List}
use Rattle.model.specs.step.Rows.{map_words}
use Rattle.model.specs.step.Walk.{descriptor_at, first_from, walk_from}
use Rattle.model.specs.step.Track.{add_outcome}
use Rattle.model.specs.Types.{Outcome}

-- how many pages a MiB has
abbrev pub mib_pages : ℕ
mib_pages = 256

-- the words of this MiB among the n words of a row are what stands from `start` to `end`
pub record IsMibRange (mib n start end : ℕ) : Type 0 where
  pub from : start ≡ min (mib * mib_pages) n
  pub to : end ≡ min (start + mib_pages) n

-- for the first n pages, whatever a call of this kind answers is what f says
abbrev pub Finds : (ℕ → Outcome → Type 0) → ℕ → (ℕ → Outcome) → Type 0
Finds post n f = (i : ℕ) (o : Outcome) → i < n → post i o → o ≡ f i

-- Words of a row of kind g.

-- a word after noting page i, whose walk finds what f says
abbrev pub note_found : (ℕ → Outcome) → ℕ → ℕ → ℕ → ℕ
note_found f g i w = add_outcome g w (f i)

-- a word after noting page i of the MiB whose level-one descriptor stands at `at`
abbrev pub note_mib : List ℕ → ℕ → ℕ → ℕ → ℕ → ℕ
note_mib m at g i w = add_outcome g w (walk_from (first_from (descriptor_at m at) i) m i)

-- The words of a page in a context's row and in the global row.

-- noting what the walk of its page found leaves both as they are
pub record Stays (own shared : ℕ) (o : Outcome) : Type 0 where
  pub in_own : add_outcome 0 own o ≡ own
  pub in_shared : add_outcome 1 shared o ≡ shared

-- a change of each word, told the kind of its row, leaves a context's row and the global row as they are
pub record Both (f : ℕ → ℕ → ℕ → ℕ) (own shared : List ℕ) : Type 0 where
  pub in_own : own ≡ map_words (f 0) own
  pub in_shared : shared ≡ map_words (f 1) shared
