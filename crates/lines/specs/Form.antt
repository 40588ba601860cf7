-- A line: the address of four bytes of an image and the word that they make, low byte first.
use Rattle.std.specs.Prelude.{ℕ, List, [], ◌∷◌, ◌++◌, Option, Some, None}
use Rattle.text.specs.Split.{until, past}
use Rattle.text.specs.Hex.{value_of, hex_of}
use Rattle.names.specs.Names.{comma, newline}

-- `at,word`, the names
abbrev pub line_names : List ℕ
line_names = 97 ∷ 116 ∷ 44 ∷ 119 ∷ 111 ∷ 114 ∷ 100 ∷ []

-- two values, each of them spelled as in a list
abbrev pub pair_of : Option ℕ → Option ℕ → Option (ℕ × ℕ)
pair_of (Some a) (Some w) = Some (a, w)
pair_of (Some a) None = None
pair_of None w = None

-- what a line without its newline says: a value, a comma and a value. A second comma is no digit, and nothing is no value.
unfoldable pub line_of : List ℕ → Option (ℕ × ℕ)
line_of l = pair_of (value_of (until comma l)) (value_of (past comma l))

-- two numbers as a line
unfoldable pub pair_text : ℕ → ℕ → List ℕ
pair_text a b = hex_of a ++ (comma ∷ (hex_of b ++ (newline ∷ [])))

-- how many bytes a line has at most, without its newline and with it
abbrev pub line_most : ℕ
line_most = 17

abbrev pub pair_room : ℕ
pair_room = 18
