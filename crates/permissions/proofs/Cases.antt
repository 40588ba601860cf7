-- The sheet of permissions, by hand.
use Prim.Native.Nat.{ℕ, zero, suc, ◌+◌, ◌*◌}
use mathlib.Core.Path.{◌≡◌, refl}
use mathlib.Core.Bool.{true, cond}
use mathlib.Core.List.{List, [], ◌∷◌}
use lib.Dec.{eqb}
use lib.ListN.{length, take}
use Rattle.model.specs.reference.Rules.{right_of, may_read, may_write, permits, ruling}
use Rattle.model.specs.declared.Purpose.TheVariants.{ToRead, ToFetch}
use Rattle.model.proofs.CaseTools.{all_match}
use Rattle.permissions.specs.Sheet.{each, answers, answer_at, lines_of, sheet}
use Rattle.permissions.specs.Places.{place_of}

-- the answers in eights, each as the digits of a number; k + 1 of the next number, which begins with v, are still to come
abbrev eights : ℕ → ℕ → List ℕ → List ℕ
eights k v [] = []
eights zero v (x ∷ xs) = (v * 10 + x) ∷ eights 7 0 xs
eights (suc k) v (x ∷ xs) = eights k (v * 10 + x) xs

-- for each AP the kernel's read, write and fetch, then the user's; each for fields 0 to 3, with XN clear and set
abbrev sheet_by_hand : List ℕ
sheet_by_hand =
    22112200 ∷ 22112200 ∷ 22112200 ∷ 22112200 ∷ 22112200 ∷ 22112200
    ∷ 22002200 ∷ 22002200 ∷ 22012200 ∷ 22112200 ∷ 22112200 ∷ 22112200
    ∷ 22002200 ∷ 22002200 ∷ 22012200 ∷ 22002200 ∷ 22112200 ∷ 22012200
    ∷ 22002200 ∷ 22002200 ∷ 22012200 ∷ 22002200 ∷ 22002200 ∷ 22012200
    ∷ 22112200 ∷ 22112200 ∷ 22112200 ∷ 22112200 ∷ 22112200 ∷ 22112200
    ∷ 22002200 ∷ 22112200 ∷ 22012200 ∷ 22112200 ∷ 22112200 ∷ 22112200
    ∷ 22002200 ∷ 22112200 ∷ 22012200 ∷ 22002200 ∷ 22112200 ∷ 22012200
    ∷ 22002200 ∷ 22112200 ∷ 22012200 ∷ 22002200 ∷ 22112200 ∷ 22012200
    ∷ []

pub sheet_by_hand_lem : eights 7 0 answers ≡ sheet_by_hand
unfolding answers each ruling permits right_of may_read may_write
sheet_by_hand_lem = refl

-- how many of the answers are x
abbrev count : ℕ → List ℕ → ℕ
count x [] = 0
count x (a ∷ rest) = cond (eqb a x) 1 0 + count x rest

-- places: of the first answer, of AP 3, user, fetch, field 1, XN 1, and of the last; none behind it. How many are allowed, denied by
-- permission and by the domain, and how long the text is
abbrev sheet_cases : List (ℕ × ℕ)
sheet_cases =
    (place_of 0 0 ToRead 0 0, 0) ∷ (place_of 3 1 ToFetch 1 1, 187) ∷ (place_of 7 1 ToFetch 3 1, 383)
    ∷ (answer_at 187, 1) ∷ (answer_at 383, 0) ∷ (answer_at 384, 3)
    ∷ (count 0 answers, 134) ∷ (count 1 answers, 58) ∷ (count 2 answers, 192) ∷ (length sheet, 768)
    ∷ []

pub sheet_cases_lem : all_match sheet_cases ≡ true
unfolding answers each answer_at place_of lines_of sheet ruling permits right_of may_read may_write
sheet_cases_lem = refl

-- the first four lines: 2, 2, 1, 1
pub first_lines : take 8 sheet ≡ 50 ∷ 10 ∷ 50 ∷ 10 ∷ 49 ∷ 10 ∷ 49 ∷ 10 ∷ []
unfolding answers each lines_of sheet ruling permits right_of may_read may_write
first_lines = refl
