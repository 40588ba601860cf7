-- The lines of the report show what the plain machine and every chip answer, and the report fits the named size. Assumes nothing.
use Prim.Native.Nat.{ℕ, zero, suc, ◌+◌, ◌*◌, ◌≤◌, ◌<◌}
use mathlib.Core.Path.{◌≡◌, refl, ap, ap₂, sym, ◌∙◌}
use mathlib.Core.Bool.{Bool, true, false, not, true≢false}
use mathlib.Core.List.{List, [], ◌∷◌, ◌++◌, map}
use mathlib.Core.Option.{Option}
use native.Mathlib.Omega.{arith}
use lib.ListN.{length, length-append, take}
use lib.Seq.{length-take-le}
use Rattle.text.specs.Split.{past}
use Rattle.text.proofs.SplitLaws.{past_length}
use Rattle.model.specs.Numbers.{Result, refusal_number, shown}
use Rattle.model.specs.declared.Answer.{Answer}
use Rattle.model.specs.declared.Answer.TheVariants.{Done, Faulted, Refused}
use Rattle.model.specs.declared.Operation.{Operation}
use Rattle.model.specs.reference.Rules.{Move}
use Rattle.model.specs.reference.Runs.{next, checker_run, is_refused, seen, Moment, chip_seen}
use Rattle.model.specs.Types.{Check}
use Rattle.std.specs.Prelude.{Ok, Err}
use Rattle.model.specs.step.Checks.{start_checks, first_failing}
use Rattle.model.specs.step.Machine.{After, started, started_by}
use Rattle.model.specs.Invisible.{Accepted, checker, plain_run_of, chip_run_of}
use Rattle.model.proofs.ThirdDemand.{invisible}
use Rattle.std.specs.declared.result.Result as Line
use Rattle.listing.specs.Line.{line_of}
use Rattle.listing.specs.Whole.{list_number, too_long, has_names, Reading, read_lines, read_list, stopped_at}
use Rattle.listing.specs.declared.Reason.{Reason}
use Rattle.listing.specs.declared.Reason.TheVariants.{TooLong, Names}
use Rattle.listing.proofs.CanonicalLaws.{line_rest}
use Rattle.names.specs.Names.{newline}
use Rattle.report_line.specs.Text.{header, start_name, report_line}
use Rattle.report_line.proofs.ReportLineLaws.{line_most, refusal_most, start_most}
use Rattle.std.specs.declared.result.Result.TheVariants.{Ok, Err}
use Rattle.report.specs.Report.{setting, answer_lines, answer_text, end_text, Left, replayed, after_start, body_of, memory_length, track_length, passes, looks_at_list, report_of, report_limit}
use Rattle.report.specs.Shown.{session, lines, unless_refused, plain_answer, chip_answer, Honest}
use Rattle.report.proofs.LinesLaws.{line_for, ended, lines_op, lines_refused, lines_end, stopped_at_lem}
use Rattle.report.proofs.ReportLaws.{read_long, read_names, read_none, not_long, memory_fits, start_accepted}

-- ── The lines ──

-- what the lines show is what the checker's run shows
lines_seen : (n : ℕ) (x : After) (os : List Operation) → map unless_refused (answer_lines n os (checker_run checker x os)) ≡ map plain_answer (map seen (checker_run checker x os))
unfolding checker_run answer_lines unless_refused seen
lines_seen n x [] = refl
lines_seen n x (o ∷ os) = ap (λ (r : List (Option Result)). (seen (next checker o x)).0 ∷ r) (lines_seen (suc n) (next checker o x) os)

chip_firsts : (xs : List Moment) → map plain_answer (map chip_seen xs) ≡ map chip_answer xs
unfolding chip_seen
chip_firsts [] = refl
chip_firsts (x ∷ xs) = ap (λ (r : List (Option Result)). x.answer ∷ r) (chip_firsts xs)

shows_plain : (m t l : List ℕ) → Accepted checker (session m t l) → map unless_refused (lines m t l) ≡ map plain_answer (plain_run_of checker (session m t l))
shows_plain m t l a =
    lines_seen 2 (started m t setting) (read_list l).operations ∙ ap (map plain_answer) (sym (invisible.same.plain (session m t l) a))

shows_chip : (m t l : List ℕ) → Accepted checker (session m t l) → (n : ℕ) (first : List Move) (script : ℕ → List Move) →
    map unless_refused (lines m t l) ≡ map chip_answer (chip_run_of checker (session m t l) (suc n) first script)
shows_chip m t l a n first script =
    lines_seen 2 (started m t setting) (read_list l).operations
    ∙ ap (map plain_answer) (sym (invisible.same.chip (session m t l) a n first script))
    ∙ chip_firsts (chip_run_of checker (session m t l) (suc n) first script)

-- ── The two ways of a start ──

start_refused : (a : Answer) (x : After) (l : List ℕ) → is_refused (shown a) ≡ true → after_start a x l ≡ ended (report_line 0 start_name (shown a)) x
unfolding is_refused
start_refused (Done v) x l h = absurd (true≢false (sym h))
start_refused (Faulted f) x l h = absurd (true≢false (sym h))
start_refused (Refused r) x l h = refl

-- a start is accepted exactly if its checks let it pass
start_passes : (c : Check) (m t : List ℕ) → passes c ≡ not (is_refused (shown (started_by c m t setting).answer))
unfolding is_refused
start_passes (Ok tt) m t = refl
start_passes (Err r) m t = refl

memory_most : (n : ℕ) (i : List ℕ) → n ≤ length i → length (take (memory_length n) i) ≡ memory_length n
memory_most n i h = length-take-le (memory_length n) i (memory_fits n (length i) h)

before_list : (i t : List ℕ) (n : ℕ) → n ≤ length i → length t ≡ track_length →
    looks_at_list n ≡ not (is_refused (shown (started (take (memory_length n) i) t setting).answer))
unfolding looks_at_list started
before_list i t n h e =
    ap₂ (λ (a b : ℕ). passes (first_failing (start_checks a b setting))) (sym (memory_most n i h)) (sym e)
    ∙ start_passes (first_failing (start_checks (length (take (memory_length n) i)) (length t) setting)) (take (memory_length n) i) t

shows_lines : (m t l : List ℕ) → Accepted checker (session m t l) → (report_of m t l).text ≡ header ++ (answer_text (lines m t l) ++ end_text (read_list l).ending)
unfolding report_of body_of
shows_lines m t l a = ap (λ (r : Left). header ++ r.text) (start_accepted (started m t setting).answer (started m t setting) l a)

shows_start : (m t l : List ℕ) → is_refused (shown (started m t setting).answer) ≡ true → (report_of m t l).text ≡ header ++ report_line 0 start_name (shown (started m t setting).answer)
unfolding report_of body_of
shows_start m t l h = ap (λ (r : Left). header ++ r.text) (start_refused (started m t setting).answer (started m t setting) l h)

-- ── The size ──

-- a line of the list takes ten bytes or more, and its line of the report 34 at most
abbrev Fits : ℕ → ℕ → After → List ℕ → Type 0
Fits turns n x l = length (replayed n x (read_lines turns n l)).text ≤ 4 * length l + 34

end_fits : (turns n : ℕ) (x : After) (l : List ℕ) → length l ≤ 0 → Fits turns n x l
end_fits turns n x l h = let f = ap (λ (k : Left). length k.text) (lines_end turns n x l h) in omega (arith, f)

line_fits : (turns n : ℕ) (x : After) (l : List ℕ) → length l ≤ suc turns → 0 < length l →
    ((o : Operation) → length (past newline l) ≤ turns → Fits turns (suc n) (next checker o x) (past newline l)) → (i : Line.Result Operation Reason) → line_of l ≡ i → Fits (suc turns) n x l
line_fits turns n x l h pos ih (Ok o) e =
    let rest : Left = replayed (suc n) (next checker o x) (read_lines turns (suc n) (past newline l)) in
    let less = line_rest o l e in
    let f : length (replayed n x (read_lines (suc turns) n l)).text ≡ length (line_for n o x ++ rest.text) =
    ap (λ (r : Left). length r.text) (lines_op turns n x l o pos e) in
    omega (arith, f, length-append (line_for n o x) rest.text, line_most n o.kind (shown (next checker o x).answer), ih o (omega (arith, h, less)), less)
line_fits turns n x l h pos ih (Err r) e =
    let f = ap (λ (k : Left). length k.text) (lines_refused turns n x l r pos e) in
    omega (arith, f, refusal_most n (list_number r))

turn_fits : (turns n : ℕ) (x : After) (l : List ℕ) → length l ≤ suc turns →
    ((o : Operation) → length (past newline l) ≤ turns → Fits turns (suc n) (next checker o x) (past newline l)) → Fits (suc turns) n x l
turn_fits turns n x [] h ih = end_fits (suc turns) n x [] (omega arith)
turn_fits turns n x (y ∷ ys) h ih = line_fits turns n x (y ∷ ys) h (omega arith) ih (line_of (y ∷ ys)) refl

lines_fit : (turns n : ℕ) (x : After) (l : List ℕ) → length l ≤ turns → Fits turns n x l
lines_fit zero n x l h = end_fits zero n x l h
lines_fit (suc turns) n x l h = turn_fits turns n x l h (λ o k. lines_fit turns (suc n) (next checker o x) (past newline l) k)

list_fits : (x : After) (l : List ℕ) → length (replayed 2 x (read_list l)).text ≤ 262178
list_fits x l = go (too_long l) refl (has_names l) refl
  where
    stops : (w : Reason) → read_list l ≡ stopped_at 1 w → length (replayed 2 x (read_list l)).text ≤ 262178
    stops w e =
        let f = ap (λ (k : Left). length k.text) (ap (replayed 2 x) e ∙ stopped_at_lem 2 1 x w) in
        omega (arith, f, refusal_most 1 (list_number w))

    go : (b : Bool) → too_long l ≡ b → (c : Bool) → has_names l ≡ c → length (replayed 2 x (read_list l)).text ≤ 262178
    go true e c f = stops TooLong (read_long l e)
    go false e false f = stops Names (read_none l e f)
    go false e true f =
        let q = ap (λ (r : Reading). length (replayed 2 x r).text) (read_names l e f) in
        omega (arith, q, lines_fit (length (past newline l)) 2 x (past newline l) (omega arith), past_length newline l, not_long l e)

body_fits : (a : Answer) (x : After) (l : List ℕ) → length (after_start a x l).text ≤ 262178
body_fits (Done v) x l = list_fits x l
body_fits (Faulted f) x l = list_fits x l
body_fits (Refused r) x l = omega (arith, start_most (refusal_number r))

pub report_fits : (m t l : List ℕ) → length (report_of m t l).text ≤ report_limit
unfolding report_of body_of
report_fits m t l =
    let r = after_start (started m t setting).answer (started m t setting) l in
    omega (arith, length-append header r.text, body_fits (started m t setting).answer (started m t setting) l)

pub honest : Honest
honest = record { accepted = shows_lines; refused_start = shows_start; before_the_list = before_list; plain = shows_plain; chip = shows_chip; fits = report_fits }
