-- The text of a line of the report.
use Rattle.std.specs.Prelude.{ℕ, ◌≡◌, List, [], ◌∷◌, ◌++◌}
use Rattle.text.specs.Quoted.{quoted}
use Rattle.text.specs.Hex.{hex_of}
use Rattle.names.specs.Names.{comma, newline}
use Rattle.model.specs.Numbers.{Result, ok, fault, refused}

-- `line,op,answer,value`, the names of a report, and a newline
abbrev pub header : List ℕ
header = 108 ∷ 105 ∷ 110 ∷ 101 ∷ 44 ∷ 111 ∷ 112 ∷ 44 ∷ 97 ∷ 110 ∷ 115 ∷ 119 ∷ 101 ∷ 114 ∷ 44 ∷ 118 ∷ 97 ∷ 108 ∷ 117 ∷ 101 ∷ 10 ∷ []

-- `-`, the operation of a line that is turned back, and `start`, that of a start
abbrev pub no_name : List ℕ
no_name = 45 ∷ []

abbrev pub start_name : List ℕ
start_name = 115 ∷ 116 ∷ 97 ∷ 114 ∷ 116 ∷ []

-- `ok`, `fault` or `refused`
abbrev pub word : Result → List ℕ
word (ok v) = 111 ∷ 107 ∷ []
word (fault n) = 102 ∷ 97 ∷ 117 ∷ 108 ∷ 116 ∷ []
word (refused n) = 114 ∷ 101 ∷ 102 ∷ 117 ∷ 115 ∷ 101 ∷ 100 ∷ []

-- the value, the fault or the refusal
abbrev pub value : Result → ℕ
value (ok v) = v
value (fault n) = n
value (refused n) = n

-- a line of the report: line number, operation, answer, value
abbrev pub line_text : ℕ → List ℕ → List ℕ → ℕ → List ℕ
line_text n op w v = hex_of n ++ (comma ∷ (op ++ (comma ∷ (w ++ (comma ∷ (hex_of v ++ (newline ∷ [])))))))

unfoldable pub report_line : ℕ → List ℕ → Result → List ℕ
report_line n op r = line_text n op (word r) (value r)

-- how many bytes a line of the report has at most, where its operation has at most 7
abbrev pub line_room : ℕ
line_room = 34

-- The same in letters, and two lines.
pub record LinesSpelled : Type 0 where
  pub names : header ≡ quoted "line,op,answer,value\n"
  pub words : (n : ℕ) → (word (ok n) ≡ quoted "ok") × (word (fault n) ≡ quoted "fault") × (word (refused n) ≡ quoted "refused")
  pub answer : report_line 0x1f (quoted "addrctx") (ok 0xabcdef01) ≡ quoted "1f,addrctx,ok,abcdef01\n"
  pub line_refused : report_line 10 no_name (refused 3) ≡ quoted "a,-,refused,3\n"
  pub start_refused : report_line 0 start_name (refused 13) ≡ quoted "0,start,refused,d\n"
