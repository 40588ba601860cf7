-- Lists of words in rows of one size: a change of each word by its index, of one row, and of each row.
use Rattle.std.specs.Prelude.{ℕ, zero, suc, ◌+◌, ◌*◌, cond, List, [], ◌∷◌, ◌++◌, leb, length, take, drop}

-- the first n words changed by f, which is told each word's index; the list starts at index i
abbrev pub map_first : (ℕ → ℕ → ℕ) → ℕ → ℕ → List ℕ → List ℕ
map_first f i zero l = l
map_first f i (suc n) [] = []
map_first f i (suc n) (w ∷ ws) = f i w ∷ map_first f (suc i) n ws

-- every word changed by f
abbrev pub map_words : (ℕ → ℕ → ℕ) → List ℕ → List ℕ
map_words f l = map_first f 0 (length l) l

-- where a row starts in n words, or n where it starts past them
unfoldable pub row_start : ℕ → ℕ → ℕ → ℕ
row_start size row n = cond (leb (row * size) n) (row * size) n

-- the part of this size from `start` on, changed by f
abbrev pub in_part : ℕ → ℕ → (List ℕ → List ℕ) → List ℕ → List ℕ
in_part start size f l = take start l ++ (f (take size (drop start l)) ++ drop size (drop start l))

-- row c of rows of this size changed by f, where the list has that row
unfoldable pub in_row : ℕ → ℕ → (List ℕ → List ℕ) → List ℕ → List ℕ
in_row size c f l = cond (leb (c * size + size) (length l)) (in_part (c * size) size f l) l

-- the first k rows changed by f
unfoldable pub each_row : ℕ → ℕ → (List ℕ → List ℕ) → List ℕ → List ℕ
each_row size zero f l = l
each_row size (suc k) f l = in_row size k f (each_row size k f l)
