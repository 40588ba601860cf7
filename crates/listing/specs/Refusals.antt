-- When a list is turned back and with which number: the conditions 1 to 6 of the rules, one by one, told from the list's bytes and
-- apart from how a list is read; and that the reader gives a number exactly when the conditions do.
use Rattle.std.specs.Prelude.{ℕ, suc, ◌≡◌, ◌⊎◌, ◌↔◌, Bool, true, false, cond, not, ◌&&◌, ◌||◌, List, [], ◌∷◌, eqb, leb, length, get_or, drop}
use Rattle.std.proofs.Math.Option.{some}
use Rattle.text.specs.Split.{same}
use Rattle.names.specs.Names.{comma, newline, names, name, kinds}
use Rattle.model.specs.declared.Kind.{Kind}
use Rattle.model.specs.declared.Kind.TheVariants.{Read, Write, Root, Asid, Mode, All, Addr, Ctx, AddrCtx, Fetch, Domain}
use Rattle.model.specs.reference.Rules.{Given}
use Rattle.listing.specs.Line.{line_of}
use Rattle.listing.specs.Whole.{line_number, ending_number, finished, read_list}

-- ── Lists ──
-- whether a test holds of one of a list, and of each
unfoldable pub any : {A : Type 0} → (A → Bool) → List A → Bool
any test [] = false
any test (x ∷ xs) = test x || any test xs

unfoldable pub every : {A : Type 0} → (A → Bool) → List A → Bool
every test [] = true
every test (x ∷ xs) = test x && every test xs

-- ── Lines and fields ──
-- a byte in front of the first of some parts
unfoldable pub in_front : ℕ → List (List ℕ) → List (List ℕ)
in_front x [] = (x ∷ []) ∷ []
in_front x (p ∷ ps) = (x ∷ p) ∷ ps

-- the parts of a text that the byte b separates: one more than there are b
unfoldable pub parts : ℕ → List ℕ → List (List ℕ)
parts b [] = [] ∷ []
parts b (x ∷ xs) = cond (eqb x b) ([] ∷ parts b xs) (in_front x (parts b xs))

-- a line: its text, and whether a newline ends it
pub record Written : Type 0 where
  pub text : List ℕ
  pub ended : Bool

-- A newline ends each part but the last; nothing left after the last newline is the end, and no line.
unfoldable pub lines_of : List (List ℕ) → List Written
lines_of [] = []
lines_of (t ∷ []) = cond (eqb (length t) 0) [] (record { text = t; ended = false } ∷ [])
lines_of (t ∷ u ∷ ps) = record { text = t; ended = true } ∷ lines_of (u ∷ ps)

abbrev pub lines_in : List ℕ → List Written
lines_in l = lines_of (parts newline l)

-- the first line of what is left of a list; where nothing is left, no byte and no newline
unfoldable pub first_line : List ℕ → Written
first_line l = get_or (lines_in l) 0 (record { text = []; ended = false })

-- the fields of a line are what commas separate
abbrev pub fields_in : Written → List (List ℕ)
fields_in w = parts comma w.text

-- 0 is op, 1 is a, 2 is b, 3 is c; a field that is missing is empty
abbrev pub field : ℕ → List (List ℕ) → List ℕ
field i fs = get_or fs i []

-- ── Values and operations ──
-- `0` to `9`, `a` to `f`
unfoldable pub is_digit : ℕ → Bool
is_digit x = leb 48 x && leb x 57 || leb 97 x && leb x 102

-- a `0` in front of another digit
unfoldable pub leading_zero : List ℕ → Bool
leading_zero s = leb 2 (length s) && eqb (get_or s 0 0) 48

-- Values are 1 to 8 lower-case hexadecimal digits, no leading zero except `0` itself.
unfoldable pub is_value : List ℕ → Bool
is_value s = leb 1 (length s) && leb (length s) 8 && every is_digit s && not (leading_zero s)

-- `0`
abbrev pub zero_text : List ℕ
zero_text = 48 ∷ []

-- the fields that an operation does not use
abbrev pub unused : Kind → List ℕ
unused Read = 3 ∷ []
unused Write = []
unused Root = 2 ∷ 3 ∷ []
unused Asid = 2 ∷ 3 ∷ []
unused Mode = 2 ∷ 3 ∷ []
unused All = 1 ∷ 2 ∷ 3 ∷ []
unused Addr = 2 ∷ 3 ∷ []
unused Ctx = 2 ∷ 3 ∷ []
unused AddrCtx = 3 ∷ []
unused Fetch = 2 ∷ 3 ∷ []
unused Domain = 2 ∷ 3 ∷ []

-- ── The conditions ──
-- 1: list too long
unfoldable pub refuses1 : List ℕ → Bool
refuses1 l = not (leb (length l) 65536)

-- 2: names line
unfoldable pub refuses2 : Written → Bool
refuses2 w = not (w.ended && same w.text names)

-- 3: not four fields and a newline
unfoldable pub refuses3 : Bool → List (List ℕ) → Bool
refuses3 ended fs = not (ended && eqb (length fs) 4)

-- 4: a value's spelling
unfoldable pub refuses4 : List (List ℕ) → Bool
refuses4 fs = not (is_value (field 1 fs) && is_value (field 2 fs) && is_value (field 3 fs))

-- 5: unknown operation
unfoldable pub refuses5 : List (List ℕ) → Bool
refuses5 fs = not (any (λ k. same (field 0 fs) (name k)) kinds)

-- 6: unused field not zero
unfoldable pub refuses6 : List (List ℕ) → Bool
refuses6 fs = any (λ k. same (field 0 fs) (name k) && any (λ i. not (same (field i fs) zero_text)) (unused k)) kinds

-- A line is tested for 3, 4, 5, then 6.
unfoldable pub conditions_of : Bool → List (List ℕ) → List (ℕ × Bool)
conditions_of ended fs = (3, refuses3 ended fs) ∷ (4, refuses4 fs) ∷ (5, refuses5 fs) ∷ (6, refuses6 fs) ∷ []

abbrev pub of_line : Written → List (ℕ × Bool)
of_line w = conditions_of w.ended (fields_in w)

-- the conditions of the first line of what is left of a list
abbrev pub line_conditions : List ℕ → List (ℕ × Bool)
line_conditions l = of_line (first_line l)

-- the conditions of lines from line n on, each with the line's number
unfoldable pub numbered : ℕ → List Written → List (ℕ × List (ℕ × Bool))
numbered n [] = []
numbered n (w ∷ ws) = (n, of_line w) ∷ numbered (suc n) ws

-- Line 1 is tested for 1, then 2; the lines after it follow, line by line.
unfoldable pub list_conditions : List ℕ → List (ℕ × List (ℕ × Bool))
list_conditions l = (1, (1, refuses1 l) ∷ (2, refuses2 (first_line l)) ∷ []) ∷ numbered 2 (drop 1 (lines_in l))

-- A line and a number are given when the number is given for the line and none is for a line before it.
unfoldable pub GivenAt : ℕ → ℕ → List (ℕ × List (ℕ × Bool)) → Type 0
GivenAt n r [] = ⊥
GivenAt n r (x ∷ xs) = ((x.0 ≡ n) × Given r x.1) ⊎ (((s : ℕ) → Given s x.1 → ⊥) × GivenAt n r xs)

-- ── What is proved ──
-- The reader turns a list back by the rules, whatever bytes it is handed.
pub record RefusedExactly : Type 0 where
  -- a line is turned back with a number exactly when the number's condition holds and none before it does
  pub line : (l : List ℕ) (r : ℕ) → (line_number (line_of l) ≡ some r) ↔ Given r (line_conditions l)
  -- the same of a whole list, with the number of the line
  pub whole : (l : List ℕ) (n r : ℕ) → (ending_number (read_list l).ending ≡ some (n, r)) ↔ GivenAt n r (list_conditions l)
  -- a list is read to its end exactly when no number is given
  pub accepted : (l : List ℕ) → ((read_list l).ending ≡ finished) ↔ ((n r : ℕ) → GivenAt n r (list_conditions l) → ⊥)
