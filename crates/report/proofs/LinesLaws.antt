-- Laws of the report's lines, and what holds at each turn of the loop that writes them. Assumes nothing.
use Prim.Native.Nat.{ℕ, zero, suc, ◌≤◌, ◌<◌}
use mathlib.Core.Path.{◌≡◌, refl, ap, ◌∙◌}
use mathlib.Core.List.{List, [], ◌∷◌, ◌++◌, append_assoc}
use native.Mathlib.Omega.{arith}
use lib.ListN.{length}
use Rattle.std.specs.Prelude.{Result, Ok, Err}
use Rattle.text.specs.Split.{past}
use Rattle.model.specs.Numbers.{refused, shown}
use Rattle.model.specs.declared.Operation.{Operation}
use Rattle.model.specs.step.Machine.{After}
use Rattle.model.specs.reference.Runs.{last, next, checker_run}
use Rattle.model.specs.Invisible.{checker}
use Rattle.names.specs.Names.{newline, name}
use Rattle.listing.specs.declared.Reason.{Reason}
use Rattle.listing.specs.Line.{line_of}
use Rattle.listing.specs.Whole.{list_number, Reading, stopped_at, nothing_left, read_line, read_lines}
use Rattle.report_line.specs.Text.{no_name, report_line}
use Rattle.report.specs.Report.{answer_lines, answer_text, end_text, Left, replayed}

-- text in front of a part of the report
abbrev pub behind : List ℕ → Left → Left
behind s r = record { text = s ++ r.text; memory = r.memory; track = r.track }

-- the line of an operation carried out from x on
abbrev pub line_for : ℕ → Operation → After → List ℕ
line_for n o x = report_line n (name o.kind) (shown (next checker o x).answer)

-- a turn of the definition
read_turn : (turns n : ℕ) (l : List ℕ) (i : Result Operation Reason) → 0 < length l → line_of l ≡ i → read_lines (suc turns) n l ≡ read_line n i (read_lines turns (suc n) (past newline l))
unfolding read_lines
read_turn turns n [] i h e = absurd (omega arith)
read_turn turns n (y ∷ ys) i h e = ap (λ (j : Result Operation Reason). read_line n j (read_lines turns (suc n) (past newline (y ∷ ys)))) e

carried_op : (n : ℕ) (x : After) (o : Operation) (r : Reading) → replayed n x (read_line n (Ok o) r) ≡ behind (line_for n o x) (replayed (suc n) (next checker o x) r)
unfolding checker_run answer_lines answer_text last
carried_op n x o r =
    let xs = checker_run checker (next checker o x) r.operations in
    ap (λ (s : List ℕ). record { text = s; memory = (last (next checker o x) xs).memory; track = (last (next checker o x) xs).track })
    (append_assoc (line_for n o x) (answer_text (answer_lines (suc n) r.operations xs)) (end_text r.ending))

pub lines_op : (turns n : ℕ) (x : After) (l : List ℕ) (o : Operation) → 0 < length l → line_of l ≡ Ok o →
    replayed n x (read_lines (suc turns) n l) ≡ behind (line_for n o x) (replayed (suc n) (next checker o x) (read_lines turns (suc n) (past newline l)))
lines_op turns n x l o h e = ap (replayed n x) (read_turn turns n l (Ok o) h e) ∙ carried_op n x o (read_lines turns (suc n) (past newline l))

-- the end of a list, and a line that is turned back
abbrev pub ended : List ℕ → After → Left
ended s x = record { text = s; memory = x.memory; track = x.track }

pub stopped_at_lem : (n k : ℕ) (x : After) (r : Reason) → replayed n x (stopped_at k r) ≡ ended (report_line k no_name (refused (list_number r))) x
unfolding checker_run answer_lines answer_text last
stopped_at_lem n k x r = refl

pub nothing_left_lem : (n : ℕ) (x : After) → replayed n x nothing_left ≡ ended [] x
unfolding checker_run answer_lines answer_text last
nothing_left_lem n x = refl

pub lines_refused : (turns n : ℕ) (x : After) (l : List ℕ) (r : Reason) → 0 < length l → line_of l ≡ Err r →
    replayed n x (read_lines (suc turns) n l) ≡ ended (report_line n no_name (refused (list_number r))) x
lines_refused turns n x l r h e = ap (replayed n x) (read_turn turns n l (Err r) h e) ∙ stopped_at_lem n n x r

pub lines_end : (turns n : ℕ) (x : After) (l : List ℕ) → length l ≤ 0 → replayed n x (read_lines turns n l) ≡ ended [] x
unfolding read_lines
lines_end zero n x [] h = nothing_left_lem n x
lines_end (suc turns) n x [] h = nothing_left_lem n x
lines_end turns n x (y ∷ ys) h = absurd (omega arith)
