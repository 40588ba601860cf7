-- When lines are turned back and with which number: the conditions 18 and 19 of the rules, one by one, told from the lines' bytes and apart from
-- how they are read; and that a number is given exactly when the conditions give it. Lines, fields and values are those of lists.
use Rattle.std.specs.Prelude.{ℕ, suc, ◌+◌, ◌%◌, ◌≡◌, ◌↔◌, Bool, false, not, ◌&&◌, ◌||◌, List, [], ◌∷◌, ◌++◌, eqb, leb, length, drop}
use Rattle.std.proofs.Math.Option.{Option, none, some}
use Rattle.text.specs.Split.{same}
use Rattle.text.specs.Hex.{number}
use Rattle.listing.specs.Refusals.{Written, lines_in, first_line, fields_in, field, is_value, GivenAt}
use Rattle.lines.specs.Form.{line_names}
use Rattle.lines.specs.Ways.{gives, refusal, image_of}

-- the address and the word of a line that has them
abbrev pub address_in : Written → ℕ
address_in w = number 0 (field 0 (fields_in w))

abbrev pub word_in : Written → ℕ
word_in w = number 0 (field 1 (fields_in w))

-- ── The conditions ──
-- 18: the names line
unfoldable pub other_names : Written → Bool
other_names w = not (w.ended && same w.text line_names)

-- 18: the shape or spelling of a line: not two fields, each a value, and a newline
unfoldable pub misshapen : Written → Bool
misshapen w = not (w.ended && eqb (length (fields_in w)) 2 && is_value (field 0 (fields_in w)) && is_value (field 1 (fields_in w)))

-- 19: order: an address that is not above the one before
unfoldable pub not_above : Option ℕ → ℕ → Bool
not_above none a = false
not_above (some b) a = leb a b

-- 19: an address not a multiple of 4
unfoldable pub no_multiple : ℕ → Bool
no_multiple a = not (eqb (a % 4) 0)

-- 19: a zero word on a line that bytes follow
unfoldable pub zero_followed : ℕ → List Written → Bool
zero_followed w after = eqb w 0 && not (eqb (length after) 0)

unfoldable pub misplaced : Option ℕ → Written → List Written → Bool
misplaced before w after = not_above before (address_in w) || no_multiple (address_in w) || zero_followed (word_in w) after

-- 19: an image length outside the rules, or above the limit
unfoldable pub wrong_length : ℕ → ℕ → Bool
wrong_length limit n = not (eqb (n % 4096) 0 && leb 4096 n && leb n 16777216 && leb n limit)

-- the length of the image: four bytes more than the last address
unfoldable pub length_of : ℕ → List Written → ℕ
length_of n [] = n
length_of n (w ∷ ws) = length_of (address_in w + 4) ws

-- ── Their order ──
-- 18 comes before 19 on each line
unfoldable pub of_line : Option ℕ → Written → List Written → List (ℕ × Bool)
of_line before w after = (18, misshapen w) ∷ (19, misplaced before w after) ∷ []

-- the conditions of lines from line n on, each with the line's number; `before` is the address of the line before
unfoldable pub numbered : ℕ → Option ℕ → List Written → List (ℕ × List (ℕ × Bool))
numbered n before [] = []
numbered n before (w ∷ ws) = (n, of_line before w ws) ∷ numbered (suc n) (some (address_in w)) ws

-- the lines behind the names line
abbrev pub word_lines : List ℕ → List Written
word_lines l = drop 1 (lines_in l)

-- Line 1 is tested for 18; the lines after it follow; and the length is tested last, as line 0.
unfoldable pub conditions_for : ℕ → List ℕ → List (ℕ × List (ℕ × Bool))
conditions_for limit l = (1, (18, other_names (first_line l)) ∷ []) ∷ (numbered 2 none (word_lines l) ++ ((0, (19, wrong_length limit (length_of 0 (word_lines l))) ∷ []) ∷ []))

-- ── What is proved ──
-- Lines are turned back by the rules, whatever bytes they are.
pub record LinesRefused : Type 0 where
  -- with a line and a number exactly when the number's condition holds there, and none before it does
  pub exactly : (limit : ℕ) (l : List ℕ) (n r : ℕ) → (image_of limit l ≡ refusal n r) ↔ GivenAt n r (conditions_for limit l)
  -- and they have an image exactly when no number is given
  pub accepted : (limit : ℕ) (l : List ℕ) → ((m : List ℕ) × (image_of limit l ≡ gives m)) ↔ ((n r : ℕ) → GivenAt n r (conditions_for limit l) → ⊥)
