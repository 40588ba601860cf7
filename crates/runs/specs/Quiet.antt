-- Whether a store is quiet: it touches no byte that a present walk uses. The test goes over the level-one words of the window alone.
use Rattle.std.specs.Prelude.{ℕ, zero, suc, ◌*◌, ◌-◌, Bool, true, false, cond, not, List, ltb, Ok, Err}
use Rattle.model.specs.step.Walk.{descriptor_at, first_from}
use Rattle.model.specs.declared.Tables.{Tables}
use Rattle.model.specs.declared.FirstLevel.TheVariants.{Table, Section}
use Rattle.runs.specs.Used.{word_size, table_size, first_place}
use Rattle.model.specs.Types.{FirstOutcome}

-- whether the n bytes from a on and the k bytes from b on have one in common
unfoldable pub overlap : ℕ → ℕ → ℕ → ℕ → Bool
overlap a n b k = cond (ltb a b) (ltb (b - a) n) (ltb (a - b) k)

-- whether the n bytes from `at` on touch the table that a level-one word points to, if it points to one
abbrev pub touches_table : FirstOutcome → ℕ → ℕ → Bool
touches_table (Err f) at n = false
touches_table (Ok (Section e)) at n = false
touches_table (Ok (Table table)) at n = overlap at n table.base table_size

-- whether they touch the table of one of the first k MiB
unfoldable pub touches_tables : List ℕ → Tables → ℕ → ℕ → ℕ → Bool
touches_tables m tables zero at n = false
touches_tables m tables (suc k) at n =
    cond (touches_table (first_from (descriptor_at m (first_place tables.root k)) 0) at n) true (touches_tables m tables k at n)

-- whether they touch what the walks of the first k MiB use: the level-one words, which stand one behind the other, and these tables
unfoldable pub touches : List ℕ → Tables → ℕ → ℕ → ℕ → Bool
touches m tables k at n = cond (overlap at n tables.root (word_size * k)) true (touches_tables m tables k at n)

-- a store of n bytes at `at` that touches nothing in use with a window of w MiB
unfoldable pub quiet : ℕ → List ℕ → Tables → ℕ → ℕ → Bool
quiet w m tables at n = not (touches m tables w at n)
