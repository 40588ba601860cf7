-- What is claimed, in the order of the rules: above each theorem stands its sentence, and its type says the sentence in full, in words of the
-- reference (`Rules`, `Runs` in crates/model/specs/reference) and of lists, reports and lines (crates/listing/specs, report/specs, lines/specs). Each
-- proof cites the theorem that has it. Words that are not the reference's own are defined first; `started` and `stepped` are what the code is proved to carry out.
use Prim.Native.Nat.{ℕ, suc, ◌+◌, ◌*◌, ◌-◌, ◌/◌, ◌^◌, ◌<◌, ◌≤◌}
use mathlib.Core.Path.{◌≡◌, refl}
use mathlib.Core.Logic.{◌⊎◌, inl, inr, ◌↔◌}
use mathlib.Core.Bool.{Bool, true, false, cond, not, ◌||◌}
use mathlib.Core.List.{List, [], ◌∷◌, ◌++◌, map}
use mathlib.Core.Option.{Option, none, some}
use Rattle.std.specs.declared.result.Result.TheVariants.{Ok}
use native.Mathlib.Nat.{mul_comm}
use lib.Dec.{eqb}
use lib.ListN.{length, get_or, replicate, take}
use borrow.Author.Tests.{le-leb, lt-leb, eq-eqb}
use Rattle.model.specs.Limits.{page_size, old_split, old_window, address_limit, row_size, root_alignment}
use Rattle.model.specs.Numbers.{kind_number, Result, ok, fault, refused, shown}
use Rattle.model.specs.reference.Rules.{Translation, found, failed, in_memory, value, bits, domain_of, section, table_word, walk, physical, ruling, State, rooted, fresh, stored, aligned, among, access_size, effect, outcome, carried_out, Scope, global, scope_of, covers, flushes, Held, Places, held_scope, matches, Move, drop, load, move, moves, chip_outcome, flush_place, chip_step, several, one, kept, word_of, suits, noted_in, word_after, has_row, track_word, stale, conditions, start_conditions, walk_conditions, Given, translation_number, refused_walk}
use Rattle.model.specs.reference.Runs.{last, Checker, checker_run, is_refused, seen, told, plain_run, Moment, chip_start, chip_next, chip_run, chip_seen, Holds}
use Rattle.model.specs.step.Machine.{After, started, stepped}
use Rattle.model.specs.step.Track.{note_track}
use Rattle.model.specs.step.WalkAnswer.{walk_answer}
use Rattle.model.specs.declared.Registers.{Registers}
use Rattle.model.specs.declared.Setting.{Setting}
use Rattle.model.specs.declared.Tables.{Tables}
use Rattle.model.specs.declared.Operation.{Operation}
use Rattle.model.specs.declared.Entry.{Entry}
use Rattle.model.specs.declared.Kind.{Kind}
use Rattle.model.specs.declared.Kind.TheVariants.{Read, Write, All, Addr, Ctx, AddrCtx, Fetch, Domain}
use Rattle.model.specs.declared.Purpose.{Purpose}
use Rattle.model.specs.Demands.{Call}
use Rattle.model.specs.Invisible.{Session, is_access, aligned_access}
use Rattle.model.specs.Domains.{redomained, with_domain}
use Rattle.model.specs.Sections.{as_page, equal_page, second_place}
use Rattle.model.proofs.Calls.{total, faithful}
use Rattle.model.proofs.OddWords.{odd_words}
use Rattle.model.proofs.SingleWalk.{single_walk}
use Rattle.model.proofs.ThirdDemand.{invisible}
use Rattle.model.proofs.Pinned.{pinned}
use Rattle.runs.specs.Used.{window_words, Used, Untouched, Reads}
use Rattle.runs.specs.Quiet.{quiet}
use Rattle.runs.specs.Step.{run_stepped}
use Rattle.runs.proofs.UsedLaws.{window_words_lem}
use Rattle.runs.proofs.Walks.{used_by_walks}
use Rattle.runs.proofs.SameRuns.{quiet_stores, same_runs}
use Rattle.runs.proofs.Cuts.{cuts}
use Rattle.cases.proofs.Across.{used_across}
use Rattle.cases.proofs.Domains.{register_forgotten, domain_remembered}
use Rattle.cases.proofs.Sections.{section_remembered}
use Rattle.cases.proofs.RootChanges.{root_changes}
use Rattle.ffi.specs.Words.{kind_from}
use Rattle.ffi.proofs.Laws.{kind_numbers}
use Rattle.permissions.specs.Sheet.{answer, answer_at}
use Rattle.permissions.specs.Places.{place_of}
use Rattle.permissions.proofs.Places.{at_place}
use Rattle.text.specs.Quoted.{quoted}
use Rattle.names.specs.Names.{names, name, kinds}
use Rattle.names.proofs.NameCases.{spelled as names-spelled}
use Rattle.listing.specs.Line.{used, zeros, line_of}
use Rattle.listing.specs.Whole.{line_number, ending_number, finished, read_list, list_text, AllValid, no_more, more}
use Rattle.listing.specs.Refusals.{line_conditions, list_conditions, GivenAt}
use Rattle.listing.proofs.RefusalLaws.{refused_exactly}
use Rattle.listing.proofs.CanonicalLaws.{canonical}
use Rattle.report_line.specs.Text.{header, no_name, start_name, word, report_line}
use Rattle.report_line.proofs.ReportLineCases.{spelled as lines-spelled}
use Rattle.report.specs.Report.{track_length, memory_length, looks_at_list, AnswerLine, answer_lines, answer_text, end_text, report_of}
use Rattle.report.specs.Shown.{unless_refused}
use Rattle.report.proofs.ShownLaws.{honest}
use Rattle.lines.specs.Ways.{gives, refusal, length_fits, lines_of, image_of, output, Bytes}
use Rattle.lines.specs.Refusals.{conditions_for}
use Rattle.lines.proofs.RefusalLaws.{lines_refused}
use Rattle.lines.proofs.Theorem.{same_bytes}
use Rattle.line_writer.specs.Call.{room_for, called as written}
use Rattle.line_writer.proofs.Front.{written as lines-written, file_written}
use Rattle.line_reader.specs.Reading.{State as Reading, begun, is_decided, feed, ending, finished as readingEnds, finished_file}
use Rattle.line_reader.proofs.Streams.{streamed, file_streamed}

-- ── Words ──
-- the checker of this project: its start and its step
abbrev pub mine : Checker
mine = record { start = started; step = stepped }

-- memory and registers that a start or an operation left
abbrev pub state_after : After → State
state_after x = record { memory = x.memory; registers = x.registers }

-- the answer, and memory and registers after it
abbrev pub visible : After → Result × State
visible x = (shown x.answer, state_after x)

-- no number is given: an operation, and a start, that is not refused
abbrev pub Passes : Operation → Registers → List ℕ → List ℕ → Type 0
Passes o r m t = (n : ℕ) → Given n (conditions o r m t) → ⊥

abbrev pub StartPasses : List ℕ → List ℕ → Setting → Type 0
StartPasses m t g = (n : ℕ) → Given n (start_conditions m t g) → ⊥

-- A list of operations after a start: that the start is accepted, and the runs of the checker, the plain machine and a chip of n places.
module _ (image track : List ℕ) (g : Setting) where
  abbrev pub Accepted : Type 0
  Accepted = is_refused (shown (started image track g).answer) ≡ false

  module _ (os : List Operation) where
    abbrev pub my_run : List After
    my_run = checker_run mine (started image track g) os

    abbrev pub my_end : After
    my_end = last (started image track g) my_run

    abbrev pub told_of : List (Operation × Bool)
    told_of = told mine (started image track g) os

    abbrev pub plain_of : List (Option Result × State)
    plain_of = plain_run (fresh image g) told_of

    abbrev pub plain_end : State
    plain_end = (last (none, fresh image g) plain_of).1

    abbrev pub chip_of : ℕ → List Move → (ℕ → List Move) → List Moment
    chip_of n first script = chip_run (chip_start n (fresh image g) first) told_of script

    abbrev pub held_at_end : ℕ → List Move → (ℕ → List Move) → Places
    held_at_end n first script = (last (chip_start n (fresh image g) first) (chip_of n first script)).held

    abbrev given : Session
    given = record { image = image; track = track; setting = g; operations = os }

abbrev call : Operation → Registers → List ℕ → List ℕ → Call
call o r m t = record { operation = o; registers = r; memory = m; track = t }

-- ── Demand 1 ──
-- "Whatever it is handed, however damaged, it ends with the result that the rules name." "A number is given only when its condition holds and none
-- before it does."
pub operation_ends : (o : Operation) (r : Registers) (m t : List ℕ) (n : ℕ) → (shown (stepped o r m t).answer ≡ refused n) ↔ Given n (conditions o r m t)
operation_ends o r m t = total.exactly (call o r m t)

pub start_ends : (m t : List ℕ) (g : Setting) (n : ℕ) → (shown (started m t g).answer ≡ refused n) ↔ Given n (start_conditions m t g)
start_ends = total.start_exactly

-- "A refused operation carries its number, and memory, track and registers hold afterwards what they held before." "A refused start returns zero registers."
pub refused_operation_changes_nothing : (o : Operation) (r : Registers) (m t : List ℕ) (n : ℕ) → shown (stepped o r m t).answer ≡ refused n →
    ((stepped o r m t).registers ≡ r) × ((stepped o r m t).memory ≡ m) × ((stepped o r m t).track ≡ t)
refused_operation_changes_nothing o r m t n e = let l = total.unchanged (call o r m t) n e in (l.registers, l.memory, l.track)

pub refused_start_changes_nothing : (m t : List ℕ) (g : Setting) (n : ℕ) → shown (started m t g).answer ≡ refused n →
    ((started m t g).registers ≡ record { root = 0; context = 0; mode = 0; domains = 0 }) × ((started m t g).memory ≡ m) × ((started m t g).track ≡ t)
refused_start_changes_nothing m t g n e = let l = total.start_unchanged m t g n e in (l.registers, l.memory, l.track)

-- The numbers that the conditions go by: addresses below 0x400000, rows of 1,024 words, roots that are multiples of 0x80; and for any window of w MiB and any N.
pub limits_of_the_machine : (address_limit old_window ≡ 0x400000) × (row_size old_window ≡ 1024) × (root_alignment old_split ≡ 0x80) × (window_words old_window ≡ 4)
unfolding address_limit row_size root_alignment window_words
limits_of_the_machine = (refl, refl, refl, refl)

pub limits_of_a_window : (w n : ℕ) → (address_limit w ≡ 0x100000 * w) × (row_size w ≡ 256 * w) × (root_alignment n ≡ 2 ^ (14 - n)) × (window_words w ≡ w)
unfolding address_limit row_size root_alignment
limits_of_a_window w n = (mul_comm w 0x100000, refl, refl, window_words_lem w)

-- "List, per line in this order: 1 list too long (line 1); 2 names line; 3 not four fields and a newline; 4 a value's spelling; 5 unknown operation; 6
-- unused field not zero." A line, a whole list with the number of the line, and a list that is read to its end.
pub line_ends : (l : List ℕ) (n : ℕ) → (line_number (line_of l) ≡ some n) ↔ Given n (line_conditions l)
line_ends = refused_exactly.line

pub list_ends : (l : List ℕ) (line n : ℕ) → (ending_number (read_list l).ending ≡ some (line, n)) ↔ GivenAt line n (list_conditions l)
list_ends = refused_exactly.whole

pub list_is_read : (l : List ℕ) → ((read_list l).ending ≡ finished) ↔ ((line n : ℕ) → GivenAt line n (list_conditions l) → ⊥)
list_is_read = refused_exactly.accepted

-- "The line of names `op,a,b,c`", and the names of the operations with their numbers: the bytes of each, in letters.
pub names_in_letters :
    (names ≡ quoted "op,a,b,c")
    × (map name kinds ≡ map quoted ("read" ∷ "write" ∷ "root" ∷ "asid" ∷ "mode" ∷ "all" ∷ "addr" ∷ "ctx" ∷ "addrctx" ∷ "fetch" ∷ "domain" ∷ []))
    × (map kind_number kinds ≡ 0 ∷ 1 ∷ 2 ∷ 3 ∷ 4 ∷ 5 ∷ 6 ∷ 7 ∷ 8 ∷ 9 ∷ 10 ∷ [])
names_in_letters = (names-spelled.header, names-spelled.operations, names-spelled.numbers)

-- The single walk "takes root and address and tests as start does, with no track, then 8"; "its 64-bit answer is an entry's track word, 0x100000000 plus a fault, or
-- 0x200000000 plus a refusal".
pub single_walk_ends : (m : List ℕ) (root a n : ℕ) → (walk_answer m root a ≡ refused_walk n) ↔ Given n (walk_conditions m root a)
single_walk_ends = single_walk.exactly

pub single_walk_walks : (m : List ℕ) (root a : ℕ) → ((n : ℕ) → Given n (walk_conditions m root a) → ⊥) → walk_answer m root a ≡ translation_number (walk m root a)
single_walk_walks = single_walk.walks

-- From C an operation's kind is its place in the rules' list of operations, from 0 to 10.
pub kinds_from_C : ((k : Kind) → kind_from (kind_number k) ≡ k) × ((n : ℕ) → n < 11 → kind_number (kind_from n) ≡ n)
kinds_from_C = (kind_numbers.there, kind_numbers.back)

-- ── Demand 2 ──
-- "An operation carried out gives the value or fault, memory and registers of the ARMv7-A short-descriptor rules."
pub carried_out_by_the_rules : (o : Operation) (r : Registers) (m t : List ℕ) → Passes o r m t →
    visible (stepped o r m t) ≡ carried_out o (record { memory = m; registers = r })
carried_out_by_the_rules o r m t = faithful.plain (call o r m t)

-- "Start sets context 0 and kernel mode, empties the track, then notes it. It leaves memory as found."
pub started_by_the_rules : (m t : List ℕ) (g : Setting) → StartPasses m t g → visible (started m t g) ≡ (ok 0, fresh m g)
started_by_the_rules = faithful.start

-- "A flush empties the sets it names, and then noting follows": what each word of the track holds after a start and after an operation.
pub start_notes : (m t : List ℕ) (g : Setting) → StartPasses m t g → (u : Scope) (page : ℕ) → has_row old_window t u ≡ true → page < row_size old_window →
    track_word old_window (started m t g).track u page ≡ noted_in (fresh m g) u page 0
start_notes = faithful.start_words

pub operation_notes : (o : Operation) (r : Registers) (m t : List ℕ) → Passes o r m t → (u : Scope) (page : ℕ) → has_row old_window t u ≡ true → page < row_size old_window →
    track_word old_window (stepped o r m t).track u page ≡ word_after o (carried_out o (record { memory = m; registers = r })).1 u page (track_word old_window t u page)
operation_notes o r m t = faithful.words (call o r m t)

pub tracks_keep_their_length : (o : Operation) (r : Registers) (m t : List ℕ) (g : Setting) →
    (length (stepped o r m t).track ≡ length t) × (length (started m t g).track ≡ length t)
tracks_keep_their_length o r m t g = (faithful.track_length (call o r m t), faithful.start_track_length m t g)

-- "Any other word counts as 1, and stays as found until a flush empties it."
pub other_words_count_as_several : (u : Scope) (w : ℕ) → (w ≡ 0 → ⊥) →
    ((e : Entry) → e.frame < 0x100000 → e.ap < 8 → e.section < 2 → e.global < 2 → e.xn < 2 → e.domain < 16 → suits u e ≡ true → w ≡ word_of e → ⊥) → kept u w ≡ several
other_words_count_as_several = odd_words.counts

pub other_words_stay : (o : Operation) (r : Registers) (m t : List ℕ) → Passes o r m t → (u : Scope) (page : ℕ) → has_row old_window t u ≡ true → page < row_size old_window →
    kept u (track_word old_window t u page) ≡ several → flushes o.kind o u page ≡ false → track_word old_window (stepped o r m t).track u page ≡ track_word old_window t u page
other_words_stay o r m t = odd_words.stays (call o r m t)

pub other_words_are_stale : (w : ℕ) (t : List ℕ) (u : Scope) (context page : ℕ) (y : Translation) → covers u context ≡ true → kept u (track_word w t u page) ≡ several →
    stale w t context page y ≡ true
other_words_are_stale = odd_words.is_stale

pub other_words_go : (o : Operation) (r : Registers) (m t : List ℕ) → Passes o r m t → (u : Scope) (page : ℕ) → has_row old_window t u ≡ true → page < row_size old_window →
    flushes o.kind o u page ≡ true → track_word old_window (stepped o r m t).track u page ≡ noted_in (carried_out o (record { memory = m; registers = r })).1 u page 0
other_words_go o r m t = odd_words.goes (call o r m t)

-- "Two accepted lists with the same operations and field values are the same bytes": an accepted list is the text of its operations, and such a text is accepted.
pub accepted_lists_are_the_same_bytes : (l k : List ℕ) (os : List Operation) → read_list l ≡ record { operations = os; ending = finished } →
    read_list k ≡ record { operations = os; ending = finished } → l ≡ k
accepted_lists_are_the_same_bytes = canonical.same_bytes

pub accepted_lists_are_printed : (l : List ℕ) (os : List Operation) → read_list l ≡ record { operations = os; ending = finished } → l ≡ list_text os
accepted_lists_are_printed = canonical.printed

-- one of a list
unfoldable pub In : Operation → List Operation → Type 0
In o [] = ⊥
In o (x ∷ xs) = (x ≡ o) ⊎ In o xs

-- an operation that a line can say: fields of 32 bits, and 0 where they are unused
abbrev pub HasLine : Operation → Type 0
HasLine o = (o.a < 0x100000000) × (o.b < 0x100000000) × (o.c < 0x100000000) × (zeros (used o.kind) o.a o.b o.c ≡ true)

all_valid : (os : List Operation) → ((o : Operation) → In o os → HasLine o) → AllValid os
unfolding In
all_valid [] h = no_more
all_valid (o ∷ os) h =
    let x = h o (inl refl) in more (record { a_fits = x.0; b_fits = x.1; c_fits = x.2; unused = x.3 }) (all_valid os (λ p i. h p (inr i)))

pub printed_lists_are_accepted : (os : List Operation) → ((o : Operation) → In o os → HasLine o) → length (list_text os) ≤ 65536 →
    read_list (list_text os) ≡ record { operations = os; ending = finished }
printed_lists_are_accepted os h = canonical.accepted os (all_valid os h)

-- ── Demand 3, the first half ──
-- "Take every list of operations of any kind, refused ones included, after an accepted fresh start, each handed the registers that the call before returned
-- and the memory and track it left. Take with it a TLB of any size from one entry up. Whatever it does, the chip with it, the machine with none and mine give
-- each operation not refused the same answer, and agree after every operation in all registers and memory bytes."
pub the_tlb_makes_no_difference : (image track : List ℕ) (g : Setting) → Accepted image track g → (os : List Operation) →
    (state_after (started image track g) ≡ fresh image g)
    × (plain_of image track g os ≡ map seen (my_run image track g os))
    × ((n : ℕ) (first : List Move) (script : ℕ → List Move) → map chip_seen (chip_of image track g os (suc n) first script) ≡ map seen (my_run image track g os))
the_tlb_makes_no_difference image track g acc os =
    let x = given image track g os in (invisible.same.begins x acc, invisible.same.plain x acc, invisible.same.chip x acc)

-- ── Demand 3, the second half ──
-- "After such a list, an aligned access that no earlier check turns back is refused as stale exactly when some such TLB could then hold for that page and
-- context an entry other than the tables' present outcome."
pub stale_exactly_when : (image track : List ℕ) (g : Setting) → Accepted image track g → (os : List Operation) (o : Operation) →
    among o.kind (Read ∷ Write ∷ Fetch ∷ []) ≡ true →
    (eqb (access_size o) 1 || eqb (access_size o) 2 || eqb (access_size o) 4) ≡ true →
    aligned o.a (access_size o) ≡ true →
    let end = my_end image track g os in
    let plain = plain_end image track g os in
    let after = stepped o end.registers end.memory end.track in
    ((n : ℕ) → shown after.answer ≡ refused n → n ≡ 16) →
    (shown after.answer ≡ refused 16)
    ↔ ((n : ℕ) × (first : List Move) × (script : ℕ → List Move) × (h : Held)
    × Holds h (held_at_end image track g os (suc n) first script)
    × (matches h plain.registers.context (o.a / page_size) ≡ true)
    × (outcome plain o.a ≡ found h.entry → ⊥))
stale_exactly_when image track g acc os o access size divides only16 =
    let aligned-access : aligned_access o ≡ true = unfold aligned_access is_access in rw (access, size, divides) in
    let both = invisible.exactly.stale (given image track g os) acc o aligned-access only16 in (
      λ e. let d = both.0 e in (d.places, d.first, d.script, d.held, d.holds, d.matching, d.other),
      λ d. both.1 (record { places = d.0; first = d.1; script = d.2; held = d.3; holds = d.4; matching = d.5; other = d.6 }),
    )

-- The checker, the plain machine and every chip come to one state, of which the second half speaks.
pub all_end_in_one_state : (image track : List ℕ) (g : Setting) → Accepted image track g → (os : List Operation) →
    (state_after (my_end image track g os) ≡ plain_end image track g os)
    × ((n : ℕ) (first : List Move) (script : ℕ → List Move) →
    (last (chip_start (suc n) (fresh image g) first) (chip_of image track g os (suc n) first script)).state ≡ plain_end image track g os)
all_end_in_one_state image track g acc os = let x = given image track g os in (pinned.checker_ends x acc, pinned.chip_ends x acc)

-- ── Demand 3, the TLB ──
-- "A TLB that begins empty": and makes its first moves from there.
pub a_tlb_begins_empty : (n : ℕ) (s : State) (ms : List Move) → (chip_start n s ms).held ≡ moves s (replicate n none) ms
a_tlb_begins_empty = pinned.moves_at_first

-- "Before the first operation and after each, refused ones too, it makes any finite number of moves": one after the other. "Nothing else changes what is held"
-- but a flush, which "drops what is held under the contexts and pages it names".
pub moves_are_made_in_turn : (s : State) (ps : Places) (m : Move) (ms ns : List Move) →
    (moves s ps [] ≡ ps) × (moves s ps (m ∷ []) ≡ move s ps m) × (moves s ps (ms ++ ns) ≡ moves s (moves s ps ms) ns)
moves_are_made_in_turn s ps m ms ns = (pinned.no_move s ps, pinned.one_move s ps m, pinned.in_turn s ps ms ns)

pub moves_follow_a_refused_operation : (x : Moment) (o : Operation) (ms : List Move) → (chip_next x o true ms).held ≡ moves x.state x.held ms
moves_follow_a_refused_operation = pinned.moves_after_refused

pub moves_follow_a_flush : (x : Moment) (o : Operation) (ms : List Move) →
    (chip_next x o false ms).held ≡ moves (chip_next x o false ms).state (map (flush_place o) x.held) ms
moves_follow_a_flush = pinned.moves_after_carried

pub moves_follow_each_operation : (x : Moment) (o : Operation) (is_refused : Bool) (ys : List (Operation × Bool)) (script : ℕ → List Move) →
    chip_run x ((o, is_refused) ∷ ys) script
    ≡ chip_next x o is_refused (script 0) ∷ chip_run (chip_next x o is_refused (script 0)) ys (λ i. script (suc i))
moves_follow_each_operation = pinned.by_the_script

-- what a chip of n places holds after any list, told which operations were refused, and any moves
abbrev pub held_after : ℕ → State → List (Operation × Bool) → List Move → (ℕ → List Move) → Places
held_after n s xs first script = (last (chip_start n s first) (chip_run (chip_start n s first) xs script)).held

-- "The TLB may hold at most one entry that matches a page in a given context", and never more than its n places.
pub at_most_one_matches : (n : ℕ) (s : State) (xs : List (Operation × Bool)) (first : List Move) (script : ℕ → List Move) (i j : ℕ) (h k : Held) (context page : ℕ) →
    get_or (held_after n s xs first script) i none ≡ some h → get_or (held_after n s xs first script) j none ≡ some k →
    matches h context page ≡ true → matches k context page ≡ true → i ≡ j
at_most_one_matches = pinned.once

pub places_stay_n : (n : ℕ) (s : State) (xs : List (Operation × Bool)) (first : List Move) (script : ℕ → List Move) → length (held_after n s xs first script) ≡ n
places_stay_n = pinned.size

-- "Uses a held entry before the tables."
pub held_before_the_tables : (n : ℕ) (s : State) (xs : List (Operation × Bool)) (first : List Move) (script : ℕ → List Move) (now : State) (a : ℕ) (h : Held) →
    Holds h (held_after n s xs first script) → matches h now.registers.context (a / page_size) ≡ true →
    chip_outcome now (held_after n s xs first script) a ≡ found h.entry
held_before_the_tables = pinned.held_used

-- "Drops what it likes": a drop empties its place, and no other.
pub drops_what_it_likes : (s : State) (ps : Places) (i j : ℕ) →
    (get_or (move s ps (drop i)) i none ≡ none) × ((j ≡ i → ⊥) → get_or (move s ps (drop i)) j none ≡ get_or ps j none)
drops_what_it_likes s ps i j = (pinned.drops s ps i, pinned.drops_only s ps i j)

-- "Loads any page now mapped in the current context that it doesn't hold", "only where none matches": with a place free, unless something held matches, in some context, a
-- page that the new entry would match there too.
pub loads_any_mapped_page : (s : State) (ps : Places) (i page : ℕ) (e : Entry) → i < length ps → get_or ps i none ≡ none → page < row_size old_window →
    outcome s (page * page_size) ≡ found e →
    let new : Held = record { context = s.registers.context; page = page; entry = e } in
    ((h : Held) (context p : ℕ) → Holds h ps → matches h context p ≡ true → matches new context p ≡ true → ⊥) →
    Holds new (move s ps (load i page))
loads_any_mapped_page = pinned.can_load

-- An access uses the translation of its own address and no other, the same in a whole page; "a translation that is a fault" is the answer.
pub own_translation : (o : Operation) (s : State) (f g : ℕ → Translation) → f o.a ≡ g o.a → effect o.kind o s f ≡ effect o.kind o s g
own_translation = pinned.own_page

pub one_translation_a_page : (s : State) (ps : Places) (a b : ℕ) → a / page_size ≡ b / page_size → chip_outcome s ps a ≡ chip_outcome s ps b
one_translation_a_page = pinned.whole_page

pub a_failed_walk_answers : (o : Operation) (s : State) (f : ℕ → Translation) (n : ℕ) → among o.kind (Read ∷ Write ∷ Fetch ∷ []) ≡ true →
    (eqb (access_size o) 1 || eqb (access_size o) 2 || eqb (access_size o) 4) ≡ true → aligned o.a (access_size o) ≡ true →
    f o.a ≡ failed n → effect o.kind o s f ≡ (fault n, s)
a_failed_walk_answers o s f n access size divides =
    let aligned-access : aligned_access o ≡ true = unfold aligned_access is_access in rw (access, size, divides) in
    pinned.fault_answers o s f n aligned-access

-- ── The report ──
-- the lines of the report of memory m and list l before its end or the list refusal
abbrev pub lines_of_report : List ℕ → List ℕ → List ℕ → List AnswerLine
lines_of_report m t l = answer_lines 2 (read_list l).operations (my_run m t (rooted 0) (read_list l).operations)

-- what a line shows, if it is not `refused`
abbrev pub shown_by : AnswerLine → Option Result
shown_by r = cond (is_refused r.result) none (some r.result)

-- "It prints the names, then one line per list line read. A list refusal ends the report; the lines before it have been carried out."
pub report_after_an_accepted_start : (m t l : List ℕ) → Accepted m t (rooted 0) →
    (report_of m t l).text ≡ header ++ (answer_text (lines_of_report m t l) ++ end_text (read_list l).ending)
report_after_an_accepted_start = honest.accepted

-- "A refused start prints line 0, operation `start`, and ends the report before the list is looked at."
pub report_after_a_refused_start : (m t l : List ℕ) → is_refused (shown (started m t (rooted 0)).answer) ≡ true →
    (report_of m t l).text ≡ header ++ report_line 0 start_name (shown (started m t (rooted 0)).answer)
report_after_a_refused_start = honest.refused_start

pub known_before_the_list : (i t : List ℕ) (n : ℕ) → n ≤ length i → length t ≡ track_length →
    looks_at_list n ≡ not (is_refused (shown (started (take (memory_length n) i) t (rooted 0)).answer))
known_before_the_list = honest.before_the_list

-- Each line that is not `refused` shows the answer of the plain machine and of every chip; and no report is longer than its buffer.
pub report_shows_the_plain_machine : (m t l : List ℕ) → Accepted m t (rooted 0) →
    map shown_by (lines_of_report m t l) ≡ map (λ (x : Option Result × State). x.0) (plain_of m t (rooted 0) (read_list l).operations)
unfolding unless_refused
report_shows_the_plain_machine = honest.plain

pub report_shows_every_chip : (m t l : List ℕ) → Accepted m t (rooted 0) → (n : ℕ) (first : List Move) (script : ℕ → List Move) →
    map shown_by (lines_of_report m t l) ≡ map (λ (x : Moment). x.answer) (chip_of m t (rooted 0) (read_list l).operations (suc n) first script)
unfolding unless_refused
report_shows_every_chip = honest.chip

pub reports_fit : (m t l : List ℕ) → length (report_of m t l).text ≤ 262272
reports_fit = honest.fits

-- "The names `line,op,answer,value`, then line number, operation, `ok`, `fault` or `refused`, and the value. All four numbers are in hexadecimal": in letters, with a line of each
-- kind.
pub reports_in_letters :
    (header ≡ quoted "line,op,answer,value\n")
    × ((n : ℕ) → (word (ok n) ≡ quoted "ok") × (word (fault n) ≡ quoted "fault") × (word (refused n) ≡ quoted "refused"))
    × (report_line 0x1f (quoted "addrctx") (ok 0xabcdef01) ≡ quoted "1f,addrctx,ok,abcdef01\n")
    × (report_line 10 no_name (refused 3) ≡ quoted "a,-,refused,3\n")
    × (report_line 0 start_name (refused 13) ≡ quoted "0,start,refused,d\n")
reports_in_letters = (lines-spelled.names, lines-spelled.words, lines-spelled.answer, lines-spelled.line_refused, lines-spelled.start_refused)

-- "Memory from the file `image.bin` (at most 32,768 bytes), with 8 contexts and root 0. An image file that is missing or too long counts as length 0."
pub settings_of_the_program : (track_length ≡ 1024 * (8 + 1)) × ((n : ℕ) → n ≤ 32768 → memory_length n ≡ n) × ((n : ℕ) → 32768 < n → memory_length n ≡ 0)
settings_of_the_program = (refl, λ n h. rw (le-leb n 32768 h), λ n h. rw (lt-leb n 32768 h))

-- ── L1: fault codes as the manual has them ──
-- "The pages of a section split into equal pages without a flush are now stale in each context whose set still holds its entry." The level-one word w of a section is
-- replaced by v, which points to a table with an equal page for the address: its entry is the section's but that it came from a page; and the page is stale in
-- each context that uses a set in which the section's entry is noted.
pub L1-equal-pages : (m : List ℕ) (a w v : ℕ) → bits 1 0 v ≡ 1 → domain_of v ≡ domain_of w → in_memory m (second_place a v) 4 ≡ true →
    value m (second_place a v) 4 ≡ equal_page a w → table_word m a v ≡ found (as_page (section a w))
L1-equal-pages = section_remembered.alone

pub L1-split-section-is-stale : (m t : List ℕ) (window a w v : ℕ) (u : Scope) (context : ℕ) → table_word m a v ≡ found (as_page (section a w)) → covers u context ≡ true →
    kept u (track_word window t u (a / page_size)) ≡ one (section a w) → stale window t context (a / page_size) (table_word m a v) ≡ true
L1-split-section-is-stale = section_remembered.stale

-- ── L2: shared kernel mappings ──
-- "The chips then use that entry in every context": a run, told that nothing was refused, in which a chip that holds a global entry, loaded under another context, reads
-- through it a page that the tables no longer map, and the plain machine faults.
abbrev pub unrefused : List Operation → List (Operation × Bool)
unrefused os = map (λ o. (o, false)) os

pub L2-used-in-every-context :
    (image : List ℕ) × (g : Setting) × (os : List Operation) × (o : Operation) × (n : ℕ) × (first : List Move) × (script : ℕ → List Move) × (h : Held) × (v : ℕ) × (code : ℕ)
    × (let plain = (last (none, fresh image g) (plain_run (fresh image g) (unrefused os))).1 in
    let begin = chip_start n (fresh image g) first in
    Holds h (held_after n (fresh image g) (unrefused os) first script)
    × (held_scope h ≡ global)
    × (h.context ≡ plain.registers.context → ⊥)
    × (matches h plain.registers.context (o.a / page_size) ≡ true)
    × (outcome plain o.a ≡ failed code)
    × ((last begin (chip_run begin (unrefused (os ++ o ∷ [])) script)).answer ≡ some (ok v))
    × ((last (none, fresh image g) (plain_run (fresh image g) (unrefused (os ++ o ∷ [])))).0 ≡ some (fault code)))
L2-used-in-every-context =
    let x = used_across in (
      x.image,
      x.setting,
      x.before,
      x.access,
      x.places,
      x.first,
      x.script,
      x.held,
      x.value,
      x.number,
      (x.holds, x.shared, x.elsewhere, x.matching, x.unmapped, x.chip_answers, x.plain_faults),
    )

-- "An entry with nG clear is global: it matches every context." "`ctx` spares global entries; `addr` and `addrctx` drop the global entry of that page."
pub L2-global-entries-match-every-context : (h : Held) (context : ℕ) → h.entry.global ≡ 1 → matches h context h.page ≡ true
unfolding matches covers held_scope scope_of
L2-global-entries-match-every-context h context g = rw (eq-eqb h.entry.global 1 g) (eq-eqb h.page h.page refl)

pub L2-flushes-of-global-entries : (o : Operation) (page : ℕ) →
    (flushes Ctx o global page ≡ false) × (flushes Addr o global (o.a / page_size) ≡ true) × (flushes AddrCtx o global (o.a / page_size) ≡ true)
unfolding flushes covers
L2-flushes-of-global-entries o page =
    let its_own = eq-eqb (o.a / page_size) (o.a / page_size) refl in (refl, its_own, rw its_own)

-- ── L3: instruction fetch ──
-- "The sameness with and without a TLB covers fetched words too": the halves above are of lists with fetches, whose answers are the words; and a fetch of a multiple of 4 that
-- no other number turns back is refused as stale exactly when some TLB could differ.
pub L3-fetches-too : (image track : List ℕ) (g : Setting) → Accepted image track g → (os : List Operation) (a b c : ℕ) → aligned a 4 ≡ true →
    let end = my_end image track g os in
    let plain = plain_end image track g os in
    let after = stepped (record { kind = Fetch; a = a; b = b; c = c }) end.registers end.memory end.track in
    ((n : ℕ) → shown after.answer ≡ refused n → n ≡ 16) →
    (shown after.answer ≡ refused 16)
    ↔ ((n : ℕ) × (first : List Move) × (script : ℕ → List Move) × (h : Held)
    × Holds h (held_at_end image track g os (suc n) first script)
    × (matches h plain.registers.context (a / page_size) ≡ true)
    × (outcome plain a ≡ found h.entry → ⊥))
L3-fetches-too image track g acc os a b c divides =
    let o : Operation = record { kind = Fetch; a = a; b = b; c = c } in
    stale_exactly_when image track g acc os o (unfold among in refl) (unfold access_size among in refl) (unfold access_size among in divides)

-- ── L5: domains ──
-- "A TLB never remembers the register, so changing it makes nothing stale": after every list from an accepted start `domain`, with any fields and refused or not, leaves the whole
-- track, and every page in every context as stale or trusted as it was.
abbrev pub stale_in : After → ℕ → ℕ → Bool
stale_in x context page = stale old_window x.track context page (outcome (state_after x) (page * page_size))

pub L5-the-register-is-not-remembered : (image track : List ℕ) (g : Setting) → Accepted image track g → (os : List Operation) (a b c : ℕ) →
    let end = my_end image track g os in
    let after = stepped (record { kind = Domain; a = a; b = b; c = c }) end.registers end.memory end.track in
    (after.track ≡ end.track) × ((context page : ℕ) → stale_in after context page ≡ stale_in end context page)
L5-the-register-is-not-remembered image track g acc os a b c =
    (register_forgotten.track (given image track g os) acc a b c, register_forgotten.stale (given image track g os) acc a b c)

-- What a chip moves, flushes and translates by is the same whatever the register says.
pub L5-no-chip-goes-by-the-register : (s : State) (d : ℕ) →
    let other : State = record { memory = s.memory; registers = record { root = s.registers.root; context = s.registers.context; mode = s.registers.mode; domains = d } } in
    ((ps : Places) (ms : List Move) → moves other ps ms ≡ moves s ps ms)
    × ((o : Operation) (b : Bool) (ps : Places) → (chip_step o b other ps).2 ≡ (chip_step o b s ps).2)
    × ((ps : Places) (a : ℕ) → chip_outcome other ps a ≡ chip_outcome s ps a)
L5-no-chip-goes-by-the-register s d =
    (register_forgotten.moves s d, λ o b ps. register_forgotten.flushes o b s d ps, register_forgotten.translates s d)

-- "Changing a descriptor's domain alone does, for each page it maps, wherever the old entry is still noted."
pub L5-another-domain-alone : (m : List ℕ) (a w d : ℕ) (e : Entry) → d < 16 → table_word m a w ≡ found e → table_word m a (redomained d w) ≡ found (with_domain e d)
L5-another-domain-alone = domain_remembered.alone

pub L5-another-domain-is-stale : (m t : List ℕ) (window a w d : ℕ) (e : Entry) (u : Scope) (context : ℕ) → d < 16 → (d ≡ domain_of w → ⊥) → table_word m a w ≡ found e →
    covers u context ≡ true → kept u (track_word window t u (a / page_size)) ≡ one e → stale window t context (a / page_size) (table_word m a (redomained d w)) ≡ true
L5-another-domain-is-stale = domain_remembered.stale

-- ── L6: a permission table ──
-- "All 384 places are shown to agree with the rules."
pub L6-places-agree-with-the-rules : (ap mode field xn : ℕ) (kind : Purpose) → ap < 8 → mode < 2 → field < 4 → xn < 2 →
    answer_at (place_of ap mode kind field xn) ≡ answer (ruling ap mode kind field xn)
L6-places-agree-with-the-rules = at_place

-- ── L7: images as lines ──
-- "Image to lines to image returns the same bytes, and so does the way from accepted lines."
pub L7-image-to-lines-to-image : (limit : ℕ) (m : List ℕ) → Bytes m → length_fits limit (length m) ≡ true → image_of limit (output (lines_of limit m)) ≡ gives m
L7-image-to-lines-to-image = same_bytes.image_back

pub L7-lines-to-image-to-lines : (limit : ℕ) (l m : List ℕ) → image_of limit l ≡ gives m → lines_of limit m ≡ gives l
L7-lines-to-image-to-lines = same_bytes.lines_back

pub L7-lines-of-one-image-are-one : (limit : ℕ) (l k m : List ℕ) → image_of limit l ≡ gives m → image_of limit k ≡ gives m → l ≡ k
L7-lines-of-one-image-are-one = same_bytes.same_lines

pub L7-images-are-bytes : (limit : ℕ) (l m : List ℕ) → image_of limit l ≡ gives m → Bytes m × (length_fits limit (length m) ≡ true)
L7-images-are-bytes = same_bytes.images

-- "Checks: 18 .. 19 .. 18 comes before 19 on each line, and the length is tested last, as line 0."
pub L7-lines-end : (limit : ℕ) (l : List ℕ) (line n : ℕ) → (image_of limit l ≡ refusal line n) ↔ GivenAt line n (conditions_for limit l)
L7-lines-end = lines_refused.exactly

pub L7-lines-are-read : (limit : ℕ) (l : List ℕ) → ((m : List ℕ) × (image_of limit l ≡ gives m)) ↔ ((line n : ℕ) → GivenAt line n (conditions_for limit l) → ⊥)
L7-lines-are-read = lines_refused.accepted

-- "A program turns an image into lines": what its library puts into a buffer with room for every image file, of which n bytes were read, is the whole output under the
-- limit of 32,768 bytes.
pub L7-the-lines-of-a-file : (image : List ℕ) (n : ℕ) (d : List ℕ) → n ≤ length image → 147474 ≤ length d →
    let text = output (lines_of 32768 (take n image)) in
    let call = written 32768 image n d in
    (call.told ≡ Ok (length text)) × (take (length text) call.out ≡ text)
L7-the-lines-of-a-file = file_written.front

-- The same for every limit, in a buffer with as much room as the image's length asks for.
pub L7-the-lines-of-an-image : (limit : ℕ) (image : List ℕ) (n : ℕ) (d : List ℕ) → n ≤ length image → room_for limit n ≤ length d →
    let text = output (lines_of limit (take n image)) in
    let call = written limit image n d in
    (call.told ≡ Ok (length text)) × (take (length text) call.out ≡ text)
L7-the-lines-of-an-image limit image n d inside room =
    let told = lines-written.enough limit image n d inside room in
    (told, lines-written.front limit image n d (length (output (lines_of limit (take n image)))) told)

-- "And another turns lines into the image, a line at a time": part by part is the whole, and what its library leaves in front of an image's buffer of 32,768 bytes, from a
-- buffer that can hold a line, is the whole output.
pub L7-lines-in-parts : (xs ys : List ℕ) (s : Reading) → feed (xs ++ ys) s ≡ feed ys (feed xs s)
L7-lines-in-parts = streamed.parts

pub L7-nothing-behind-a-refusal : (l : List ℕ) (s : Reading) → is_decided s.reader ≡ true → feed l s ≡ s
L7-nothing-behind-a-refusal = streamed.decided

-- The same for every limit, which is the length of the image's buffer, where a refusal fits there: what the end of the input gives, and the whole output.
pub L7-the-end-of-lines : (d : List ℕ) (limit : ℕ) (l : List ℕ) → 17 ≤ length d → let read = feed l (begun d limit) in ending read.reader read.image ≡ image_of limit l
L7-the-end-of-lines = streamed.whole

pub L7-the-image-of-lines : (d : List ℕ) (limit : ℕ) (l : List ℕ) → 17 ≤ length d → 18 ≤ limit →
    let bytes = output (image_of limit l) in
    let read = feed l (begun d limit) in
    let end = readingEnds read.reader read.image in
    (end.told ≡ Ok (length bytes)) × (take (length bytes) end.image ≡ bytes)
L7-the-image-of-lines = streamed.front

pub L7-the-image-of-a-file : (d l : List ℕ) → 17 ≤ length d →
    let bytes = output (image_of 32768 l) in
    let read = feed l (begun d 32768) in
    let end = finished_file read.reader read.image in
    (end.told ≡ Ok (length bytes)) × (take (length bytes) end.image ≡ bytes)
L7-the-image-of-a-file = file_streamed.front

-- ── L8: root changes only under context 0 ──
-- A call, refused or not, under another context returns the root that it was given.
pub L8-root-changes-under-context-0 : (o : Operation) (r : Registers) (m t : List ℕ) → (r.context ≡ 0 → ⊥) → (stepped o r m t).registers.root ≡ r.root
L8-root-changes-under-context-0 o r m t = root_changes.kept (call o r m t)

-- ── L9: quicker long lists ──
-- "In a run from a fresh start, a store that touches no descriptor byte used by any present walk changes no track word."
pub L9-untouched-stores-change-no-track-word : (image track : List ℕ) (g : Setting) → Accepted image track g → (os : List Operation) (o : Operation) (e : Entry) →
    let end = my_end image track g os in
    o.kind ≡ Write → walk end.memory end.registers.root o.a ≡ found e →
    Untouched old_window end.memory end.registers.root (physical e o.a) o.b →
    (stepped o end.registers end.memory end.track).track ≡ end.track
L9-untouched-stores-change-no-track-word image track g acc os = same_runs.untouched (given image track g os) acc

-- Neither does an operation that leaves memory, root and context as they were and flushes nothing.
pub L9-what-changes-nothing-changes-no-track-word : (image track : List ℕ) (g : Setting) → Accepted image track g → (os : List Operation) (o : Operation) →
    let end = my_end image track g os in
    let after = stepped o end.registers end.memory end.track in
    after.memory ≡ end.memory → after.registers.root ≡ end.registers.root → after.registers.context ≡ end.registers.context →
    ((u : Scope) (page : ℕ) → flushes o.kind o u page ≡ false) → after.track ≡ end.track
L9-what-changes-nothing-changes-no-track-word image track g acc os = same_runs.leaves (given image track g os) acc

-- The bytes "used by any present walk" are those in memory that the walk of some address of the window reads; and a walk reads no others.
pub L9-used-by-a-present-walk : (w : ℕ) (m : List ℕ) (root b : ℕ) → Used w m root b ↔ ((a : ℕ) × (a < address_limit w) × Reads m root a b × (b < length m))
L9-used-by-a-present-walk = used_by_walks.exactly

pub L9-a-walk-reads-no-others : (m k : List ℕ) (root a : ℕ) → length k ≡ length m → ((b : ℕ) → Reads m root a b → b < length m → get_or k b 0 ≡ get_or m b 0) →
    walk k root a ≡ walk m root a
L9-a-walk-reads-no-others = used_by_walks.nothing_else

-- The test by which a list's run tells such stores says it exactly; and after one the walk of every address of the window finds what it found before.
pub L9-quiet-exactly : (w : ℕ) (m : List ℕ) (tables : Tables) (at n : ℕ) → 0 < w → 0 < n → at + n ≤ length m →
    (quiet w m tables at n ≡ true) ↔ Untouched w m tables.root at n
L9-quiet-exactly = quiet_stores.exactly

pub L9-quiet-stores-leave-walks : (w : ℕ) (m : List ℕ) (tables : Tables) (at n v a : ℕ) → at + n ≤ length m → quiet w m tables at n ≡ true → a < address_limit w →
    walk (stored m at n v) tables.root a ≡ walk m tables.root a
L9-quiet-stores-leave-walks = quiet_stores.walks

-- "Answers and track stay those of the full noting": after every list from an accepted start to note the track again changes no word, and the run by the quicker step is the
-- same, operation by operation.
pub L9-noted-after-every-list : (image track : List ℕ) (g : Setting) → Accepted image track g → (os : List Operation) →
    let end = my_end image track g os in
    note_track old_window end.memory (record { root = end.registers.root }) end.registers.context end.track ≡ end.track
L9-noted-after-every-list image track g acc os = same_runs.noted (given image track g os) acc

pub L9-the-same-step : (image track : List ℕ) (g : Setting) → Accepted image track g → (os : List Operation) (o : Operation) →
    let end = my_end image track g os in run_stepped o end.registers end.memory end.track ≡ stepped o end.registers end.memory end.track
L9-the-same-step image track g acc os = same_runs.step (given image track g os) acc

pub L9-the-same-runs : (image track : List ℕ) (g : Setting) → Accepted image track g → (os : List Operation) →
    checker_run (record { start = started; step = run_stepped }) (started image track g) os ≡ my_run image track g os
L9-the-same-runs image track g acc os = same_runs.run (given image track g os) acc

-- On any lent state the two steps have the same answer, registers and memory; the track is fully noted by `stepped`, "which a single operation on a lent track still does".
pub L9-alike-on-any-lent-state : (o : Operation) (r : Registers) (m t : List ℕ) →
    ((run_stepped o r m t).answer ≡ (stepped o r m t).answer) × ((run_stepped o r m t).registers ≡ (stepped o r m t).registers) × ((run_stepped o r m t).memory ≡ (stepped o r m t).memory)
L9-alike-on-any-lent-state o r m t = let x = same_runs.alike o r m t in (x.answer, x.registers, x.memory)

-- ── Where a list may be cut ──
-- Directly behind an `all` that is carried out while the registers are those of a start. What follows it in the whole run is, operation by operation, what it is in a run of its own, which a start with that root begins
-- from the memory as it is there, whatever the track holds that it is lent.
pub a_list_may_be_cut_behind_all : (image track : List ℕ) (g : Setting) (os : List Operation) (o : Operation) (ps : List Operation) (again : Setting) (lent : List ℕ) →
    let end = my_end image track g os in
    let second = started end.memory lent again in
    o.kind ≡ All → end.registers ≡ (record { root = again.root; context = 0; mode = 0; domains = 0x55555555 }) →
    is_refused (shown (stepped o end.registers end.memory end.track).answer) ≡ false → length lent ≡ length track →
    my_run image track g (os ++ (o ∷ ps)) ≡ my_run image track g os ++ (second ∷ checker_run mine second ps)
a_list_may_be_cut_behind_all image track g os = cuts.parts (given image track g os)
