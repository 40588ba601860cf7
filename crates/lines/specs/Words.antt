-- The words of an image that have lines, and the image of words.
use Rattle.std.specs.Prelude.{ℕ, ◌+◌, ◌*◌, ◌-◌, ◌/◌, ◌%◌, Bool, true, false, cond, List, [], ◌∷◌, ◌++◌, eqb, replicate}

-- a word and its address
pub record Word : Type 0 where
  pub address : ℕ
  pub word : ℕ

abbrev pub is_empty : List ℕ → Bool
is_empty [] = true
is_empty (x ∷ xs) = false

-- ── From an image to its words ──
-- the word that four bytes make, low byte first
abbrev pub word_of : ℕ → ℕ → ℕ → ℕ → ℕ
word_of a b c d = a + 256 * b + 65536 * (c + 256 * d)

-- A word is nonzero, except that the last word of the image always has its line.
unfoldable pub has_line : ℕ → List ℕ → Bool
has_line w rest = cond (eqb w 0) (is_empty rest) true

-- a word in front of others, where it has a line
abbrev pub kept : Bool → Word → List Word → List Word
kept true x xs = x ∷ xs
kept false x xs = xs

-- the words that have lines, of the bytes of an image from an address on
unfoldable pub words_from : ℕ → List ℕ → List Word
words_from at [] = []
words_from at (a ∷ []) = []
words_from at (a ∷ b ∷ []) = []
words_from at (a ∷ b ∷ c ∷ []) = []
words_from at (a ∷ b ∷ c ∷ d ∷ rest) = kept (has_line (word_of a b c d) rest) (record { address = at; word = word_of a b c d }) (words_from (at + 4) rest)

-- ── From words to their image ──
-- the four bytes of a word, low byte first, in front of others
abbrev pub bytes_of : ℕ → List ℕ → List ℕ
bytes_of w rest = w % 256 ∷ w / 256 % 256 ∷ w / 65536 % 256 ∷ w / 16777216 % 256 ∷ rest

-- the bytes of the image from an address on: zero but for the words, and the last word ends it
unfoldable pub image_from : ℕ → List Word → List ℕ
image_from at [] = []
image_from at (x ∷ xs) = replicate (x.address - at) 0 ++ bytes_of x.word (image_from (x.address + 4) xs)

-- where the image ends
unfoldable pub end_from : ℕ → List Word → ℕ
end_from at [] = at
end_from at (x ∷ xs) = end_from (x.address + 4) xs
