-- Text put into a lent buffer. Where there is no room for it, nothing is written.
use Rattle.std.specs.Prelude.{ℕ, ◌+◌, Bool, cond, List, ◌++◌, leb, length, take, drop}

-- d with s written over it from place `at` on
unfoldable pub over : List ℕ → ℕ → List ℕ → List ℕ
over d at s = (take at d ++ s) ++ drop (at + length s) d

-- whether `room` bytes are left in d from place `at` on
unfoldable pub has_room : ℕ → List ℕ → ℕ → Bool
has_room room d at = leb (at + room) (length d)

-- what d holds after s was put at place `at`, if `room` bytes were left there
unfoldable pub wrote : ℕ → List ℕ → ℕ → List ℕ → List ℕ
wrote room d at s = cond (has_room room d at) (over d at s) d

-- the place after it
unfoldable pub place_after : ℕ → List ℕ → ℕ → List ℕ → ℕ
place_after room d at s = cond (has_room room d at) (at + length s) at
