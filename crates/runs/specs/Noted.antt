-- When a track is noted: to note it again changes no word.
use Rattle.std.specs.Prelude.{ℕ, ◌+◌, ◌*◌, ◌<◌, ◌≡◌, true, List, length}
use Rattle.model.specs.Limits.{row_size}
use Rattle.model.specs.reference.Rules.{State, Scope, noted_in, contexts, track_word, has_row}

-- A track of whole rows, with a window of w MiB, one of them the current context's, that to note again would not change.
pub record Noted (w : ℕ) (s : State) (t : List ℕ) : Type 0 where
  pub whole : length t ≡ row_size w * (contexts w t + 1)
  pub current : s.registers.context < contexts w t
  pub stays : (u : Scope) (p : ℕ) → has_row w t u ≡ true → p < row_size w → noted_in s u p (track_word w t u p) ≡ track_word w t u p
