-- A text taken apart at the first of some byte, and the sameness of two texts as a test.
use Rattle.std.specs.Prelude.{ℕ, Bool, true, false, cond, List, [], ◌∷◌, eqb}

-- whether b stands in the list
unfoldable pub has : ℕ → List ℕ → Bool
has b [] = false
has b (x ∷ xs) = cond (eqb x b) true (has b xs)

-- what stands before the first b: everything where there is none
unfoldable pub until : ℕ → List ℕ → List ℕ
until b [] = []
until b (x ∷ xs) = cond (eqb x b) [] (x ∷ until b xs)

-- what stands after the first b: nothing where there is none
unfoldable pub past : ℕ → List ℕ → List ℕ
past b [] = []
past b (x ∷ xs) = cond (eqb x b) xs (past b xs)

-- whether two lists are the same
unfoldable pub same : List ℕ → List ℕ → Bool
same [] [] = true
same [] (y ∷ ys) = false
same (x ∷ xs) [] = false
same (x ∷ xs) (y ∷ ys) = cond (eqb x y) (same xs ys) false
