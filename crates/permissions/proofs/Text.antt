-- The text of a list of answers, line by line.
use Rattle.std.proofs.Common.{ℕ, zero, suc, ◌+◌, ◌*◌, ◌<◌, ◌≡◌, List, [], ◌∷◌, ◌++◌, get_or, length, length-set, append_assoc, set, take, take_all, refl, sym, ap, ◌∙◌, arith}
use Rattle.std.proofs.lemmas.Grind.{take-set_at}
use Rattle.std.proofs.lemmas.List.{take_more}
use Rattle.permissions.specs.Sheet.{answers, answer_at, lines_of, sheet}
use Rattle.permissions.proofs.Places.{answers_many}

lines_append : (xs ys : List ℕ) → lines_of (xs ++ ys) ≡ lines_of xs ++ lines_of ys
unfolding lines_of
lines_append [] ys = refl
lines_append (x ∷ xs) ys = ap (λ (l : List ℕ). (48 + x) ∷ 10 ∷ l) (lines_append xs ys)

-- a buffer in which the first k lines are written, and then line k
pub next_line : (out : List ℕ) (k v : ℕ) → length out ≡ 768 → k < 384 → v ≡ answer_at k → take (2 * k) out ≡ lines_of (take k answers) → take (2 * (k + 1)) (set (set out (2 * k) (48 + v)) (2 * k + 1) 10) ≡ lines_of (take (k + 1) answers)
unfolding lines_of answer_at
next_line out k v long h e written =
    take-set_at (set out (2 * k) (48 + v)) (2 * k + 1) (2 * (k + 1)) 10 (omega arith) (omega (arith, length-set out (2 * k) (48 + v)))
    ∙ ap (λ (l : List ℕ). l ++ 10 ∷ []) (take-set_at out (2 * k) (2 * k + 1) (48 + v) refl (omega arith))
    ∙ rw (written, e, append_assoc) (sym (ap lines_of (take_more answers k 3 (omega (arith, answers_many))) ∙ lines_append (take k answers) (answer_at k ∷ [])))

-- a buffer in which all lines are written is the sheet
pub all_lines : (out : List ℕ) (k : ℕ) → length out ≡ 768 → k ≡ 384 → take (2 * k) out ≡ lines_of (take k answers) → out ≡ sheet
unfolding sheet
all_lines out k long e written =
    sym (take_all (2 * k) out (omega arith)) ∙ written ∙ ap lines_of (take_all k answers (omega (arith, answers_many)))

lines_many : (xs : List ℕ) → length (lines_of xs) ≡ 2 * length xs
unfolding lines_of
lines_many [] = refl
lines_many (x ∷ xs) = omega (arith, lines_many xs)

-- line k, counted from 0: a digit, then a newline
line_digit : (xs : List ℕ) (k z d : ℕ) → k < length xs → get_or (lines_of xs) (2 * k) z ≡ 48 + get_or xs k d
unfolding lines_of
line_digit [] k z d h = absurd (let e : ⊥ = omega arith in e)
line_digit (x ∷ xs) zero z d h = refl
line_digit (x ∷ xs) (suc k) z d h =
    ap (λ (n : ℕ). get_or (lines_of (x ∷ xs)) n z) (let e : 2 * suc k ≡ suc (suc (2 * k)) = omega arith in e) ∙ line_digit xs k z d (omega arith)

line_end : (xs : List ℕ) (k z : ℕ) → k < length xs → get_or (lines_of xs) (2 * k + 1) z ≡ 10
unfolding lines_of
line_end [] k z h = absurd (let e : ⊥ = omega arith in e)
line_end (x ∷ xs) zero z h = refl
line_end (x ∷ xs) (suc k) z h =
    ap (λ (n : ℕ). get_or (lines_of (x ∷ xs)) n z) (let e : 2 * suc k + 1 ≡ suc (suc (2 * k + 1)) = omega arith in e) ∙ line_end xs k z (omega arith)

-- the bytes of the sheet
pub sheet_many : length sheet ≡ 768
unfolding sheet
sheet_many = omega (arith, lines_many answers, answers_many)

pub sheet_digit : (k z : ℕ) → k < 384 → get_or sheet (2 * k) z ≡ 48 + answer_at k
unfolding sheet answer_at
sheet_digit k z h = line_digit answers k z 3 (omega (arith, answers_many))

pub sheet_end : (k z : ℕ) → k < 384 → get_or sheet (2 * k + 1) z ≡ 10
unfolding sheet
sheet_end k z h = line_end answers k z (omega (arith, answers_many))
