-- The two ways: the lines of an image, and the image of lines; each gives its bytes, or the line and the number of a refusal. And what is
-- proved of them.
use Rattle.std.specs.Prelude.{ℕ, zero, suc, ◌+◌, ◌%◌, ◌<◌, ◌≡◌, Bool, true, false, cond, not, ◌&&◌, ◌||◌, List, [], ◌∷◌, ◌++◌, eqb, ltb, leb, length, Option, Some, None}
use Rattle.text.specs.Split.{has, until, past, same}
use Rattle.names.specs.Names.{newline}
use Rattle.model.specs.step.Checks.{memory_fits}
use Rattle.lines.specs.Form.{line_names, line_of, pair_text}
use Rattle.lines.specs.Words.{Word, is_empty, words_from, image_from, end_from}

-- what a way gives: bytes, or the line and the number of a refusal
pub data Converted : Type 0 where
  gives : List ℕ → Converted
  refusal : ℕ → ℕ → Converted

-- 19: an image length that a memory cannot have, or above the limit
unfoldable pub length_fits : ℕ → ℕ → Bool
length_fits limit n = cond (memory_fits n) (leb n limit) false

-- ── From an image to lines ──
unfoldable pub lines_text : List Word → List ℕ
lines_text [] = []
lines_text (x ∷ xs) = pair_text x.address x.word ++ lines_text xs

-- the names, then a line for each word
unfoldable pub text_of : List Word → List ℕ
text_of xs = line_names ++ (newline ∷ lines_text xs)

-- the lines of an image
unfoldable pub lines_of : ℕ → List ℕ → Converted
lines_of limit m = cond (length_fits limit (length m)) (gives (text_of (words_from 0 m))) (refusal 0 19)

-- ── From lines to an image ──
-- what is read of lines: their words, or the line and the number of the first that is turned back
pub data Read : Type 0 where
  words : List Word → Read
  turned : ℕ → ℕ → Read

-- a word in front of what is read of the rest
abbrev pub with_word : Word → Read → Read
with_word x (words xs) = words (x ∷ xs)
with_word x (turned n r) = turned n r

-- 19: order. Addresses rise; `least` is the address behind the word of the line before
unfoldable pub falls : ℕ → ℕ → Bool
falls least a = ltb a least

-- 19: an address that is no multiple of 4
unfoldable pub unaligned : ℕ → Bool
unaligned a = not (eqb (a % 4) 0)

-- 19: a zero word on a line that bytes follow
unfoldable pub zero_before : ℕ → List ℕ → Bool
zero_before w rest = eqb w 0 && not (is_empty rest)

unfoldable pub refuses19 : ℕ → ℕ → ℕ → List ℕ → Bool
refuses19 least a w rest = falls least a || unaligned a || zero_before w rest

-- what line n, in front of `rest`, comes to: 18 before 19
abbrev pub judged : ℕ → ℕ → List ℕ → Option (ℕ × ℕ) → Read → Read
judged n least rest None more = turned n 18
judged n least rest (Some (a, w)) more = cond (refuses19 least a w rest) (turned n 19) (with_word (record { address = a; word = w }) more)

-- the address behind a line's word
abbrev pub behind : Option (ℕ × ℕ) → ℕ
behind (Some (a, w)) = a + 4
behind None = 0

-- 18: no newline
abbrev pub ended : Bool → ℕ → Read → Read
ended true n x = x
ended false n x = turned n 18

-- what is read of the lines from line n on; each line takes a byte, so as many turns as there are bytes are enough
unfoldable pub read_lines : ℕ → ℕ → ℕ → List ℕ → Read
read_lines zero n least l = cond (is_empty l) (words []) (turned n 18)
read_lines (suc turns) n least l =
    cond (is_empty l) (words [])
    (ended (has newline l) n
    (judged n least (past newline l) (line_of (until newline l)) (read_lines turns (suc n) (behind (line_of (until newline l))) (past newline l))))

-- the names line, ended by a newline
unfoldable pub has_names : List ℕ → Bool
has_names l = has newline l && same (until newline l) line_names

-- 18: the names line; then the lines from line 2 on
unfoldable pub read_all : List ℕ → Read
read_all l = cond (has_names l) (read_lines (length (past newline l)) 2 0 (past newline l)) (turned 1 18)

-- the length is tested last, as line 0
abbrev pub made : ℕ → Read → Converted
made limit (words xs) = cond (length_fits limit (end_from 0 xs)) (gives (image_from 0 xs)) (refusal 0 19)
made limit (turned n r) = refusal n r

-- the image of lines
unfoldable pub image_of : ℕ → List ℕ → Converted
image_of limit l = made limit (read_all l)

-- ── The output of a program ──
-- A refusal is the whole output: line number, comma, refusal, newline.
abbrev pub output : Converted → List ℕ
output (gives s) = s
output (refusal n r) = pair_text n r

-- ── What is proved ──
-- every element is a byte
pub data Bytes : List ℕ → Type 0 where
  no_more : Bytes []
  more : {x : ℕ} {xs : List ℕ} → x < 256 → Bytes xs → Bytes (x ∷ xs)

-- For every limit; the longest memory is one of them.
pub record SameBytes : Type 0 where
  -- every image of a length that fits has lines, and their image is the same bytes
  pub image_back : (limit : ℕ) (m : List ℕ) → Bytes m → length_fits limit (length m) ≡ true → image_of limit (output (lines_of limit m)) ≡ gives m
  -- lines that are accepted have an image, whose lines are the same bytes
  pub lines_back : (limit : ℕ) (l m : List ℕ) → image_of limit l ≡ gives m → lines_of limit m ≡ gives l
  -- two accepted inputs with the same image are the same bytes
  pub same_lines : (limit : ℕ) (l k m : List ℕ) → image_of limit l ≡ gives m → image_of limit k ≡ gives m → l ≡ k
  -- an accepted image consists of bytes, and its length fits
  pub images : (limit : ℕ) (l m : List ℕ) → image_of limit l ≡ gives m → Bytes m × (length_fits limit (length m) ≡ true)
