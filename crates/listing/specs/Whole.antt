-- A whole list: its operations up to its end or its first refusal, and the text of operations.
use Rattle.std.specs.Prelude.{ℕ, zero, suc, ◌≤◌, ◌≡◌, Bool, false, cond, List, [], ◌∷◌, ◌++◌, Result, Ok, Err, ltb, length}
use Rattle.std.proofs.Math.Option.{Option, none, some}
use Rattle.text.specs.Split.{has, until, past, same}
use Rattle.model.specs.declared.Operation.{Operation}
use Rattle.listing.specs.declared.Reason.{Reason}
use Rattle.listing.specs.declared.Reason.TheVariants.{TooLong, Names, Shape, Spelling, Unknown, Unused}
use Rattle.names.specs.Names.{newline, names}
use Rattle.listing.specs.Line.{line_of, line_text, Valid}

-- the numbers of the rules for a list that is turned back
abbrev pub list_number : Reason → ℕ
list_number TooLong = 1
list_number Names = 2
list_number Shape = 3
list_number Spelling = 4
list_number Unknown = 5
list_number Unused = 6

-- the number of what a line says: none where it is an operation
abbrev pub line_number : Result Operation Reason → Option ℕ
line_number (Ok o) = none
line_number (Err x) = some (list_number x)

-- how many bytes a list may have
abbrev pub list_limit : ℕ
list_limit = 65536

unfoldable pub too_long : List ℕ → Bool
too_long l = ltb list_limit (length l)

-- the names line, ended by a newline
unfoldable pub has_names : List ℕ → Bool
has_names l = cond (has newline l) (same (until newline l) names) false

-- how the reading of a list ends: at its end, or at a line that is turned back
pub data Ending : Type 0 where
  finished : Ending
  stopped : ℕ → Reason → Ending

-- the line and the number of an ending: none at the end of the list
abbrev pub ending_number : Ending → Option (ℕ × ℕ)
ending_number finished = none
ending_number (stopped n x) = some (n, list_number x)

-- what is read of a list: the operations of its lines before the end or the refusal, and how it ends
pub record Reading : Type 0 where
  pub operations : List Operation
  pub ending : Ending

abbrev pub stopped_at : ℕ → Reason → Reading
stopped_at n x = record { operations = []; ending = stopped n x }

abbrev pub nothing_left : Reading
nothing_left = record { operations = []; ending = finished }

-- a line, line n, in front of what is read of the rest
abbrev pub read_line : ℕ → Result Operation Reason → Reading → Reading
read_line n (Ok o) r = record { operations = o ∷ r.operations; ending = r.ending }
read_line n (Err x) r = stopped_at n x

abbrev pub if_empty : {A : Type 0} → List ℕ → A → A → A
if_empty [] p q = p
if_empty (x ∷ xs) p q = q

-- what is read of the lines from line n on; each line takes a byte, so as many turns as there are bytes are enough
unfoldable pub read_lines : ℕ → ℕ → List ℕ → Reading
read_lines zero n l = if_empty l nothing_left (stopped_at n Shape)
read_lines (suc turns) n l = if_empty l nothing_left (read_line n (line_of l) (read_lines turns (suc n) (past newline l)))

-- the lines after the names line
abbrev pub read_rest : List ℕ → Reading
read_rest l = read_lines (length l) 2 l

-- 1 before 2, both at line 1; then the lines
unfoldable pub read_list : List ℕ → Reading
read_list l = cond (too_long l) (stopped_at 1 TooLong) (cond (has_names l) (read_rest (past newline l)) (stopped_at 1 Names))

-- the list l is accepted with the operations os
abbrev pub Accepts : List ℕ → List Operation → Type 0
Accepts l os = read_list l ≡ record { operations = os; ending = finished }

-- the text of a list of operations
unfoldable pub lines_text : List Operation → List ℕ
lines_text [] = []
lines_text (o ∷ os) = line_text o ++ lines_text os

unfoldable pub list_text : List Operation → List ℕ
list_text os = names ++ (newline ∷ lines_text os)

pub data AllValid : List Operation → Type 0 where
  no_more : AllValid []
  more : {o : Operation} {os : List Operation} → Valid o → AllValid os → AllValid (o ∷ os)

-- The second sentence of demand 2: two accepted lists with the same operations and field values are the same bytes, because an
-- accepted list is the text of its operations; and every text of operations that have lines is accepted, if it is not too long.
pub record Canonical : Type 0 where
  pub printed : (l : List ℕ) (os : List Operation) → Accepts l os → l ≡ list_text os
  pub same_bytes : (l m : List ℕ) (os : List Operation) → Accepts l os → Accepts m os → l ≡ m
  pub accepted : (os : List Operation) → AllValid os → length (list_text os) ≤ list_limit → Accepts (list_text os) os
