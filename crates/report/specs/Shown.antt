-- The third demand carried to the report, and that a buffer of the named size is long enough for every report.
use Rattle.std.specs.Prelude.{ℕ, suc, ◌≤◌, ◌≡◌, true, cond, not, List, map, ◌++◌, length, take}
use Rattle.std.proofs.Math.Option.{Option, none, some}
use Rattle.model.specs.Numbers.{Result, shown}
use Rattle.model.specs.reference.Rules.{State, Move}
use Rattle.model.specs.reference.Runs.{is_refused, Moment}
use Rattle.model.specs.step.Machine.{started}
use Rattle.model.specs.Invisible.{Session, Accepted, checker, checker_run_of, plain_run_of, chip_run_of}
use Rattle.listing.specs.Whole.{read_list}
use Rattle.report_line.specs.Text.{header, start_name, report_line}
use Rattle.report.specs.Report.{setting, track_length, memory_length, looks_at_list, AnswerLine, answer_lines, answer_text, end_text, report_of, report_limit}

-- a start with memory m, track t and root 0, and the operations read of the list l: those of its lines before the end or the refusal
abbrev pub session : List ℕ → List ℕ → List ℕ → Session
session m t l = record { image = m; track = t; setting = setting; operations = (read_list l).operations }

-- the lines of the report before its end or the list refusal
abbrev pub lines : List ℕ → List ℕ → List ℕ → List AnswerLine
lines m t l = answer_lines 2 (read_list l).operations (checker_run_of checker (session m t l))

-- what a line shows, if it is not `refused`
unfoldable pub unless_refused : AnswerLine → Option Result
unless_refused r = cond (is_refused r.result) none (some r.result)

-- what the plain machine and a chip answer
abbrev pub plain_answer : Option Result × State → Option Result
plain_answer x = x.0

abbrev pub chip_answer : Moment → Option Result
chip_answer x = x.answer

-- For every image and every list, refused lists too, and every track: each line before the end or the list refusal that is not
-- `refused` shows the plain machine's answer and that of every chip, whatever its size and its moves.
pub record Honest : Type 0 where
  -- after an accepted start the report is the header, these lines, and the list refusal, if there is one
  pub accepted : (m t l : List ℕ) → Accepted checker (session m t l) →
      (report_of m t l).text ≡ header ++ (answer_text (lines m t l) ++ end_text (read_list l).ending)
  -- after a refused start it is the header and the start's line
  pub refused_start : (m t l : List ℕ) → is_refused (shown (started m t setting).answer) ≡ true →
      (report_of m t l).text ≡ header ++ report_line 0 start_name (shown (started m t setting).answer)
  -- whether the start is accepted is known from the image's length alone, before the list is looked at
  pub before_the_list : (i t : List ℕ) (n : ℕ) → n ≤ length i → length t ≡ track_length →
      looks_at_list n ≡ not (is_refused (shown (started (take (memory_length n) i) t setting).answer))
  pub plain : (m t l : List ℕ) → Accepted checker (session m t l) →
      map unless_refused (lines m t l) ≡ map plain_answer (plain_run_of checker (session m t l))
  pub chip : (m t l : List ℕ) → Accepted checker (session m t l) → (n : ℕ) (first : List Move) (script : ℕ → List Move) →
      map unless_refused (lines m t l) ≡ map chip_answer (chip_run_of checker (session m t l) (suc n) first script)
  -- no report is longer than the named size
  pub fits : (m t l : List ℕ) → length (report_of m t l).text ≤ report_limit
