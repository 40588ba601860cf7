-- Numbers of one, two or four bytes in memory, low byte first.
use Rattle.std.specs.Prelude.{ℕ, ◌+◌, ◌*◌, ◌/◌, ◌%◌, Bool, cond, List, leb, length, get_or, set, Option, Some, None}
use Rattle.model.specs.Types.{Size, One, Two, Four}

-- how many bytes a size is
abbrev pub bytes_of : Size → ℕ
bytes_of One = 1
bytes_of Two = 2
bytes_of Four = 4

-- whether the bytes of this size from `at` lie in memory
unfoldable pub within : Size → List ℕ → ℕ → Bool
within size m at = leb (at + bytes_of size) (length m)

-- the number that the two bytes from `at` make
abbrev pub half_at : List ℕ → ℕ → ℕ
half_at m at = get_or m at 0 + 256 * get_or m (at + 1) 0

-- the number that the bytes of this size make from `at`
abbrev pub number_at : Size → List ℕ → ℕ → ℕ
number_at One m at = get_or m at 0
number_at Two m at = half_at m at
number_at Four m at = half_at m at + 65536 * half_at m (at + 2)

-- what loading finds
unfoldable pub load_at : Size → List ℕ → ℕ → Option ℕ
load_at size m at = cond (within size m at) (Some (number_at size m at)) None

-- memory with the low two bytes of v stored from `at`
abbrev pub half_stored : List ℕ → ℕ → ℕ → List ℕ
half_stored m at v = set (set m at (v % 256)) (at + 1) (v / 256 % 256)

-- memory with the low bytes of v stored from `at`
abbrev pub stored_at : Size → List ℕ → ℕ → ℕ → List ℕ
stored_at One m at v = set m at (v % 256)
stored_at Two m at v = half_stored m at v
stored_at Four m at v = half_stored (half_stored m at v) (at + 2) (v / 65536)

-- memory after a store that may not lie in it: as it was, where it does not
unfoldable pub written_at : Size → List ℕ → ℕ → ℕ → List ℕ
written_at size m at v = cond (within size m at) (stored_at size m at v) m
