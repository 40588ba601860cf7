-- The place of an answer on the sheet, made and taken apart, and one test over a whole table of answers.
use Rattle.std.specs.Prelude.{ℕ, suc, ◌+◌, ◌*◌, ◌/◌, ◌%◌, Bool, true, cond, ◌&&◌, List, [], ◌∷◌, eqb}
use Rattle.model.specs.reference.Rules.{ruling}
use Rattle.model.specs.declared.Purpose.{Purpose}
use Rattle.model.specs.declared.Purpose.TheVariants.{ToRead, ToWrite, ToFetch}
use Rattle.permissions.specs.Sheet.{answer}

-- where a kind of access stands among the kinds, and which stands there
abbrev pub kind_place : Purpose → ℕ
kind_place ToRead = 0
kind_place ToWrite = 1
kind_place ToFetch = 2

abbrev pub kind_at : ℕ → Purpose
kind_at n = cond (eqb n 0) ToRead (cond (eqb n 1) ToWrite ToFetch)

-- where an answer stands
unfoldable pub place_of : ℕ → ℕ → Purpose → ℕ → ℕ → ℕ
place_of ap mode kind field xn = (((ap * 2 + mode) * 3 + kind_place kind) * 4 + field) * 2 + xn

-- the answer of the rules at a place
unfoldable pub by_rules : ℕ → ℕ
by_rules k = answer (ruling (k / 48) (k / 24 % 2) (kind_at (k / 8 % 3)) (k / 2 % 4) (k % 2))

-- whether each answer of a table, whose first stands at place i, is that of the rules at its place
unfoldable pub agree : ℕ → List ℕ → Bool
agree i [] = true
agree i (x ∷ xs) = eqb x (by_rules i) && agree (suc i) xs
