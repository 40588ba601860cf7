-- The whole report: from the bytes of an image and of a list to the bytes of the report.
use Rattle.std.specs.Prelude.{ℕ, suc, ◌+◌, ◌≡◌, Bool, true, false, cond, List, [], ◌∷◌, ◌++◌, leb, ltb, eqb, length, take, drop, Ok, Err}
use Rattle.model.specs.Numbers.{Result, refused, refusal_number, shown}
use Rattle.model.specs.declared.Operation.{Operation}
use Rattle.model.specs.declared.Answer.{Answer}
use Rattle.model.specs.declared.Answer.TheVariants.{Done, Faulted, Refused}
use Rattle.model.specs.Types.{Check}
use Rattle.model.specs.step.Checks.{start_checks, first_failing}
use Rattle.model.specs.step.Machine.{After, started}
use Rattle.model.specs.reference.Rules.{rooted}
use Rattle.model.specs.reference.Runs.{last, checker_run}
use Rattle.model.specs.declared.Setting.{Setting}
use Rattle.model.specs.Invisible.{checker}
use Rattle.text.specs.Put.{over}
use Rattle.names.specs.Names.{name}
use Rattle.listing.specs.Whole.{list_number, Ending, finished, stopped, Reading, read_list}
use Rattle.report_line.specs.Text.{header, no_name, start_name, report_line}
use Rattle.std.specs.declared.result.Result as Answered
use Rattle.report.specs.declared.NoReport.{NoReport}
use Rattle.report.specs.declared.NoReport.TheVariants.{ShortBuffer, WrongTrack, WrongCounts}

-- the program's settings: the longest image, 8 contexts and so 9 rows of 1,024 words, root 0
abbrev pub image_limit : ℕ
image_limit = 32768

abbrev pub track_length : ℕ
track_length = 9216

abbrev pub setting : Setting
setting = rooted 0

-- the memory that an image file of n bytes gives: one that is too long counts as length 0, and so does a missing one, of which 0 bytes
-- are read
abbrev pub memory_length : ℕ → ℕ
memory_length n = cond (leb n image_limit) n 0

-- whether a check lets a start pass
abbrev pub passes : Check → Bool
passes (Ok tt) = true
passes (Err r) = false

-- whether the list is looked at: only after a start, from an image file of n bytes, that is accepted
unfoldable pub looks_at_list : ℕ → Bool
looks_at_list n = passes (first_failing (start_checks (memory_length n) track_length setting))

-- a line of the report: the number of the list's line, its operation, and the result
pub record AnswerLine : Type 0 where
  pub line : ℕ
  pub operation : Operation
  pub result : Result

-- the lines of the report, from line n on: each operation with the answer of its step
unfoldable pub answer_lines : ℕ → List Operation → List After → List AnswerLine
answer_lines n [] xs = []
answer_lines n (o ∷ os) [] = []
answer_lines n (o ∷ os) (x ∷ xs) = record { line = n; operation = o; result = shown x.answer } ∷ answer_lines (suc n) os xs

unfoldable pub answer_text : List AnswerLine → List ℕ
answer_text [] = []
answer_text (r ∷ rs) = report_line r.line (name r.operation.kind) r.result ++ answer_text rs

-- a list refusal ends the report
abbrev pub end_text : Ending → List ℕ
end_text finished = []
end_text (stopped n x) = report_line n no_name (refused (list_number x))

-- what a run leaves: the report, memory and track
pub record Left : Type 0 where
  pub text : List ℕ
  pub memory : List ℕ
  pub track : List ℕ

-- the operations read carried out one after the other, from x on, the first of them line n
abbrev pub replayed : ℕ → After → Reading → Left
replayed n x l =
    let xs = checker_run checker x l.operations in
    record {
      text = answer_text (answer_lines n l.operations xs) ++ end_text l.ending;
      memory = (last x xs).memory;
      track = (last x xs).track;
    }

-- a refused start ends the report before the list is looked at
abbrev pub after_start : Answer → After → List ℕ → Left
after_start (Refused r) x l = record { text = report_line 0 start_name (refused (refusal_number r)); memory = x.memory; track = x.track }
after_start (Done v) x l = replayed 2 x (read_list l)
after_start (Faulted f) x l = replayed 2 x (read_list l)

-- the report of memory m and list l, with a track t
unfoldable pub body_of : List ℕ → List ℕ → List ℕ → Left
body_of m t l = after_start (started m t setting).answer (started m t setting) l

abbrev pub headed : Left → Left
headed r = record { text = header ++ r.text; memory = r.memory; track = r.track }

unfoldable pub report_of : List ℕ → List ℕ → List ℕ → Left
report_of m t l = headed (body_of m t l)

-- how long a buffer has to be for every list and every image
abbrev pub report_limit : ℕ
report_limit = 262272

-- ── What the code gives ──

-- a part of the report, with what it leaves: the text r was put into d at place `at`, and p is the place after it
pub record Ran (r : Left) (d : List ℕ) (at p : ℕ) (m t out : List ℕ) : Type 0 where
  pub memory : m ≡ r.memory
  pub track : t ≡ r.track
  pub place : p ≡ at + length r.text
  pub bytes : out ≡ over d at r.text

-- what a call answers: how long the report is, or why there is none
abbrev pub Told : Type 0
Told = Answered.Result ℕ NoReport

-- the answer, and what is left in each buffer
pub record ReportCall : Type 0 where
  pub told : Told
  pub image : List ℕ
  pub track : List ℕ
  pub out : List ℕ

-- an answer of its own, which changes nothing
abbrev pub unchanged : NoReport → List ℕ → List ℕ → List ℕ → ReportCall
unchanged x i t out = record { told = Err x; image = i; track = t; out = out }

-- the report, in front of what the buffer held behind it
abbrev pub reported : Left → ℕ → List ℕ → List ℕ → ReportCall
reported r size i out =
    record { told = Ok (length r.text); image = r.memory ++ drop size i; track = r.track; out = over out 0 r.text }

-- a call with an image buffer of which n bytes were read, a list buffer of which k were, a track, and a buffer for the report
unfoldable pub called : List ℕ → ℕ → List ℕ → ℕ → List ℕ → List ℕ → ReportCall
called i n l k t out =
    cond (ltb (length out) report_limit) (unchanged ShortBuffer i t out)
    (cond (eqb (length t) track_length)
    (cond (ltb (length i) n) (unchanged WrongCounts i t out)
    (cond (ltb (length l) k) (unchanged WrongCounts i t out)
    (reported (report_of (take (memory_length n) i) t (take k l)) (memory_length n) i out)))
    (unchanged WrongTrack i t out))

-- what code returns and leaves is what a `ReportCall` says
pub record GivesReport (y : ReportCall) (x : Told) (i t d : List ℕ) : Type 0 where
  pub told : x ≡ y.told
  pub image : i ≡ y.image
  pub track : t ≡ y.track
  pub out : d ≡ y.out
