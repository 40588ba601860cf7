-- How a number is spelled: 1 to 8 lower-case hexadecimal digits, with no zero in front except in `0` itself.
use Rattle.std.specs.Prelude.{ℕ, zero, suc, ◌+◌, ◌*◌, ◌/◌, ◌%◌, ◌-◌, Bool, true, false, cond, not, List, [], ◌∷◌, Option, Some, None, leb, ltb, eqb, length}

-- whether x is one of low to high
abbrev pub between : ℕ → ℕ → ℕ → Bool
between low high x = cond (leb low x) (leb x high) false

-- what a byte is worth as a digit, `0` to `9` and `a` to `f`, and 16 where it is none
unfoldable pub digit : ℕ → ℕ
digit x = cond (between 48 57 x) (x - 48) (cond (between 97 102 x) (x - 87) 16)

-- the same as an option
unfoldable pub digit_of : ℕ → Option ℕ
digit_of x = cond (ltb (digit x) 16) (Some (digit x)) None

-- the byte of a digit below 16
unfoldable pub glyph : ℕ → ℕ
glyph d = cond (ltb d 10) (48 + d) (87 + d)

-- whether every byte is a digit
unfoldable pub digits : List ℕ → Bool
digits [] = true
digits (x ∷ xs) = cond (ltb (digit x) 16) (digits xs) false

-- the number that begins with v's digits and goes on with the list's
unfoldable pub number : ℕ → List ℕ → ℕ
number v [] = v
number v (x ∷ xs) = number (v * 16 + digit x) xs

-- whether the first of several bytes is no `0`
unfoldable pub lean : List ℕ → Bool
lean [] = false
lean (x ∷ []) = true
lean (x ∷ y ∷ ys) = not (eqb x 48)

unfoldable pub spelled : List ℕ → Bool
spelled s = cond (leb (length s) 8) (cond (lean s) (digits s) false) false

-- the number that a value spells
unfoldable pub value_of : List ℕ → Option ℕ
value_of s = cond (spelled s) (Some (number 0 s)) None

-- n in hexadecimal in front of acc, in at most k digits
unfoldable pub spell : ℕ → ℕ → List ℕ → List ℕ
spell zero n acc = acc
spell (suc k) n acc = cond (ltb n 16) (glyph n ∷ acc) (spell k (n / 16) (glyph (n % 16) ∷ acc))

-- a number of 32 bits as text
unfoldable pub hex_of : ℕ → List ℕ
hex_of n = spell 8 n []
