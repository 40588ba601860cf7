-- Wrong checkers made of this project's, one for each part of the third demand, each refuted by that part alone.
use Prim.Native.Nat.{ℕ, zero, suc, ◌/◌}
use mathlib.Core.Path.{◌≡◌, refl, sym, ap, ap₂, ◌∙◌, subst}
use mathlib.Core.Logic.{inl, inr}
use mathlib.Core.Bool.{Bool, true, false, cond, ◌&&◌, true≢false}
use mathlib.Core.Option.{Option, none, some}
use mathlib.Core.List.{List, [], ◌∷◌, ◌++◌, map}
use native.Mathlib.Omega.{arith}
use lib.ListN.{length, get_or, replicate, length-replicate}
use Rattle.model.specs.Limits.{page_size, old_window, row_size}
use Rattle.model.specs.Numbers.{Result, ok, fault, refused, shown}
use Rattle.model.specs.reference.Rules.{Translation, State, fresh, outcome, carried_out, plain_step, walk, descriptor, table_word, section, bits, value, in_memory, effect, access, translated, touched, aligned, access_size, may_read, may_write, permits, field_of, ruling, ruled, right_of, physical, among, accesses, track_word, stale, kept, differs, conditions, Given, refuses16, set_registers, chip_outcome, or_walk, chip_step, moves, move, is_free, held_for, put_in, flush_place, flushes, any_clash, matches, covers, held_scope, scope_of, global_by, domain_of, Scope, own, global, rooted}
use Rattle.model.specs.reference.Runs.{Checker, next, checker_run, is_refused, seen, told, plain_run, chip_start, chip_next, chip_run, chip_seen}
use Rattle.model.specs.step.Checks.{checks}
use Rattle.model.specs.step.Machine.{After, turned_back, started, stepped}
use Rattle.model.specs.Invisible.{Session, Accepted, checker_run_of, told_of, plain_run_of, is_access, aligned_access, Same, checker}
use Rattle.model.specs.Wrong.{SameBegins, SamePlain, SameChip, StaleOnlyThen, StaleAlwaysThen, SaysStaleAtOnce, Orderly, Copies, GoesByTrack, NeverStale}
use Rattle.model.specs.declared.Registers.{Registers}
use Rattle.model.specs.declared.Operation.{Operation}
use Rattle.model.specs.declared.Answer.{Answer}
use Rattle.model.specs.declared.Answer.TheVariants.{Done, Faulted, Refused}
use Rattle.model.specs.declared.Refusal.TheVariants.{StalePage}
use Rattle.model.proofs.BoolLaws.{and_both}
use Rattle.model.proofs.Checks.{as_conditions, stale_condition, checks_same}
use Rattle.model.proofs.Calls.{not_refused, exactly, plain, unchanged}
use Rattle.model.proofs.Refuted.{image, read_page2, track0, session, to_root, after_first, chip_plain, start_accepted, free0, first_done, second_done, read_done, copying_orderly, copying_by_track, no_user_start, no_stale_at_once, no_never_stale, orderly, by_track, call, copying, copying_step}
use Rattle.model.proofs.CaseTools.{next as stepOn}

-- ── What agrees with the plain machine in each step agrees with it in each run ──

abbrev state_of : List ℕ → Registers → State
state_of i g = record { memory = i; registers = g }

-- each step does what the plain machine does, told whether it was refused
abbrev StepsPlain : Checker → Type 0
StepsPlain m = (o : Operation) (g : Registers) (i t : List ℕ) → plain_step o (is_refused (shown (m.step o g i t).answer)) (state_of i g) ≡ seen (m.step o g i t)

-- each step of this project's checker does, on any track
step_plain : StepsPlain checker
unfolding plain_step seen is_refused
step_plain o g i t = by (shown y.answer) refl
  where
    y : After
    y = stepped o g i t

    left : State
    left = state_of y.memory y.registers

    does : (x : Result) → shown y.answer ≡ x → is_refused x ≡ false → carried_out o (state_of i g) ≡ (x, left)
    does x e f =
        sym (plain (call o g i t) (λ r p. not_refused (shown y.answer) r (ap is_refused e ∙ f) ((exactly (call o g i t) r).1 p)))
        ∙ (λ k. (e k, left))

    by : (x : Result) → shown y.answer ≡ x → plain_step o (is_refused x) (state_of i g) ≡ (cond (is_refused x) none (some x), left)
    by (ok v) e = ap (λ (z : Result × State). (some z.0, z.1)) (does (ok v) e refl)
    by (fault n) e = ap (λ (z : Result × State). (some z.0, z.1)) (does (fault n) e refl)
    by (refused r) e = let u = unchanged (call o g i t) r e in λ k. (none, state_of (sym u.memory k) (sym u.registers k))

run_plain : (m : Checker) → StepsPlain m → (x : After) (os : List Operation) → plain_run (state_of x.memory x.registers) (told m x os) ≡ map seen (checker_run m x os)
unfolding plain_run told checker_run seen
run_plain m h x [] = refl
run_plain m h x (o ∷ os) =
    let e = h o x.registers x.memory x.track in
    ap₂ ◌∷◌ e (ap (λ (y : Option Result × State). plain_run y.1 (told m (next m o x) os)) e ∙ run_plain m h (next m o x) os)

started_plain : (step : Operation → Registers → List ℕ → List ℕ → After) → StepsPlain (record { start = started; step = step }) → SamePlain (record { start = started; step = step })
started_plain step h x acc =
    ap (λ (s : State). plain_run s (told_of (record { start = started; step = step }) x)) (sym (by_track.begins x acc))
    ∙ run_plain (record { start = started; step = step }) h (started x.image x.track x.setting) x.operations

-- ── `Same.begins`: its start returns user mode ──

pub user_start : Checker
user_start = record { start = λ i t g. in_user_mode (started i t g); step = stepped }
  where
    in_user_mode : After → After
    in_user_mode x = record {
      answer = x.answer;
      registers = record { root = x.registers.root; context = x.registers.context; mode = 1; domains = x.registers.domains };
      memory = x.memory;
      track = x.track;
    }

user_orderly : Orderly user_start
unfolding user_start
user_orderly = record {
  starts = orderly.starts;
  steps = orderly.steps;
  only16 = orderly.only16;
  start_length = orderly.start_length;
  step_length = orderly.step_length;
}

pub user_start_refuted : SameBegins user_start → ⊥
unfolding user_start
user_start_refuted begins = no_user_start user_start user_orderly (λ i t root. refl) begins

-- ── `Same.plain`: it answers 0 to every read that it carries out ──

pub reads_zero : Checker
reads_zero = record { start = started; step = λ o g i t. zeroed (stepped o g i t) }
  where
    zero_answer : Answer → Answer
    zero_answer (Done v) = Done 0
    zero_answer (Faulted f) = Faulted f
    zero_answer (Refused r) = Refused r

    zeroed : After → After
    zeroed x = record { answer = zero_answer x.answer; registers = x.registers; memory = x.memory; track = x.track }

-- with root 0x80 page 2 is mapped, and the plain machine reads 7 there
read_once : Session
read_once = session 0x80 (read_page2 ∷ [])

head_answer : List (Option Result × State) → Option Result
head_answer [] = none
head_answer (y ∷ ys) = y.0

zero_accepted : Accepted reads_zero read_once
unfolding reads_zero read_once session image track0 is_refused stepOn
zero_accepted = refl

zero_read : head_answer (map seen (checker_run_of reads_zero read_once)) ≡ some (ok 0)
unfolding reads_zero read_once head_answer session image track0 read_page2 checker_run seen is_refused stepOn
zero_read = refl

seven_read : head_answer (plain_run_of reads_zero read_once) ≡ some (ok 7)
unfolding reads_zero read_once head_answer session image track0 read_page2 told is_refused stepOn plain_run plain_step carried_out effect access translated touched aligned access_size among may_read may_write permits field_of ruling ruled right_of physical fresh outcome walk descriptor table_word section domain_of bits value in_memory
seven_read = refl

pub reads_zero_refuted : SamePlain reads_zero → ⊥
reads_zero_refuted plain = zero_seven (sym zero_read ∙ ap head_answer (sym (plain read_once zero_accepted)) ∙ seven_read)
  where
    zero_seven : ◌≡◌ {A = Option Result} (some (ok 0)) (some (ok 7)) → ⊥
    zero_seven q = let z : ◌≡◌ {A = ℕ} 0 7 = cc in omega arith

-- ── `Same.chip`: it copies the track ──

-- root 0x80, root 0, a read of page 2, all carried out
abbrev read_after : List (Operation × Bool)
read_after = (to_root 0x80, false) ∷ (to_root 0, false) ∷ (read_page2, false) ∷ []

third_answer : List (Option Result × State) → Option Result
third_answer [] = none
third_answer (x ∷ []) = none
third_answer (x ∷ y ∷ zs) = head_answer zs

-- the plain machine faults; a chip of one place that loaded page 2 after the first operation reads the 7
plain_faults : third_answer (plain_run (fresh image (rooted 0)) read_after) ≡ some (fault 0x5)
unfolding third_answer head_answer plain_run plain_step carried_out effect set_registers access translated aligned access_size among fresh outcome walk descriptor table_word bits value in_memory read_page2 to_root image
plain_faults = refl

chip_reads : third_answer (map chip_seen (chip_run (chip_start 1 (fresh image (rooted 0)) []) read_after after_first)) ≡ some (ok 7)
unfolding third_answer head_answer chip_run chip_start chip_next chip_step chip_seen chip_outcome or_walk effect set_registers access translated touched aligned access_size among may_read may_write permits field_of ruling ruled right_of physical fresh moves move row_size is_free held_for matches any_clash put_in outcome walk descriptor table_word section global_by domain_of bits value in_memory held_scope scope_of covers flush_place flushes read_page2 to_root image after_first
chip_reads = refl

faults_reads : ◌≡◌ {A = Option Result} (some (fault 0x5)) (some (ok 7)) → ⊥
faults_reads q = let z : ◌≡◌ {A = Bool} true false = cc in true≢false z

-- Start with root 0, `root 0x80`, `root 0`, a read of page 2: one that copies the track and goes by it carries the read out, as
-- the word of page 2 is empty since start. No answer then agrees both with a chip that loaded page 2 between and with one that loaded nothing.
pub no_copying_chip : (m : Checker) → Orderly m → GoesByTrack m → Copies m → SameChip m → ⊥
unfolding session told
no_copying_chip m ord by w agrees =
    faults_reads
    (sym plain_faults
    ∙ ap (λ l. third_answer (plain_run (fresh image (rooted 0)) l)) (sym told_all)
    ∙ ap third_answer (plain all acc ∙ sym (agrees all acc 0 [] after_first))
    ∙ ap (λ l. third_answer (map chip_seen (chip_run (chip_start 1 (fresh image (rooted 0)) []) l after_first))) told_all
    ∙ chip_reads)
  where
    plain : SamePlain m
    plain = chip_plain m agrees

    all : Session
    all = session 0 (to_root 0x80 ∷ to_root 0 ∷ read_page2 ∷ [])

    acc : Accepted m all
    acc = start_accepted m ord 0 free0 (to_root 0x80 ∷ to_root 0 ∷ read_page2 ∷ [])

    told_all : told_of m all ≡ read_after
    told_all = λ i. (to_root 0x80, first_done m ord by.begins plain i) ∷ (to_root 0, second_done m ord by.begins plain i) ∷ (read_page2, read_done m ord by.begins plain w by i) ∷ []

-- so too the one made of this project's checker
pub copying_not_chip : SameChip copying → ⊥
unfolding copying copying_step
copying_not_chip agrees = no_copying_chip copying copying_orderly copying_by_track (λ o g i t. refl) agrees

pub copying_not_same : Same copying → ⊥
copying_not_same s = copying_not_chip s.chip

-- the other two fields of the first half hold of it
pub copying_begins : SameBegins copying
unfolding copying
copying_begins = by_track.begins

pub copying_plain : SamePlain copying
unfolding copying copying_step seen
copying_plain = started_plain copying_step step_plain

-- ── `Exactly.stale`, 16 only where a TLB could differ: it says 16 at every aligned access ──

pub always_stale : Checker
always_stale = record { start = started; step = λ o g i t. cond (aligned_access o) (turned_back StalePage g i t) (stepped o g i t) }

says_at_once : SaysStaleAtOnce always_stale
unfolding always_stale session image track0 read_page2 is_refused stepOn aligned_access is_access among access_size aligned
says_at_once = record { session = session 0 []; operation = read_page2; nothing_before = refl; accepted = refl; access = refl; says16 = refl }

pub always_stale_refuted : StaleOnlyThen always_stale → ⊥
always_stale_refuted then = no_stale_at_once always_stale says_at_once then

-- ── `Exactly.stale`, 16 wherever a TLB could differ: it empties the track before each operation, and so never says 16 ──

emptied : List ℕ → List ℕ
emptied t = replicate (length t) 0

pub forgetful : Checker
forgetful = record { start = started; step = λ o g i t. stepped o g i (emptied t) }

emptied_length : (t : List ℕ) → length (emptied t) ≡ length t
unfolding emptied
emptied_length t = length-replicate (length t) 0

zero_at : (n i : ℕ) → get_or {A = ℕ} (replicate n 0) i 0 ≡ 0
zero_at zero i = refl
zero_at (suc n) zero = refl
zero_at (suc n) (suc i) = zero_at n i

-- so no page is stale by it, in any context
emptied_word : (t : List ℕ) (u : Scope) (p : ℕ) → track_word old_window (emptied t) u p ≡ 0
unfolding emptied track_word
emptied_word t u p = zero_at (length t) _

emptied_free : (t : List ℕ) (c p : ℕ) (y : Translation) → stale old_window (emptied t) c p y ≡ false
unfolding stale kept differs
emptied_free t c p y = rw (emptied_word t (own c) p, emptied_word t global p)

emptied_never : NeverStale forgetful
unfolding forgetful refuses16
emptied_never o g i t q =
    let y = walk i g.root o.a in
    true≢false
    (sym (and_both (among o.kind accesses && aligned o.a (access_size o)) (stale old_window (emptied t) g.context (o.a / page_size) y) (by_track.says16 o g i (emptied t) q)).1
    ∙ emptied_free t g.context (o.a / page_size) y)

-- it refuses by other numbers as the rules do: their conditions ask no more of the track than its length
other_last : (r : ℕ) (b c : Bool) → (r ≡ 16 → ⊥) → (xs : List (ℕ × Bool)) → Given r (xs ++ (16, b) ∷ []) → Given r (xs ++ (16, c) ∷ [])
unfolding Given
other_last r b c n [] (inl g) = absurd (n (sym g.0))
other_last r b c n [] (inr g) = absurd g.1
other_last r b c n (x ∷ xs) (inl g) = inl g
other_last r b c n (x ∷ xs) (inr g) = inr (g.0, other_last r b c n xs g.1)

by_length : (o : Operation) (g : Registers) (i t u : List ℕ) (r : ℕ) → length t ≡ length u → (r ≡ 16 → ⊥) → Given r (conditions o g i t) → Given r (conditions o g i u)
by_length o g i t u r e n y =
    subst (Given r) (checks_same (call o g i u))
    (subst (λ k. Given r (as_conditions (checks o g (length i) k) ++ stale_condition (call o g i u) ∷ [])) e
    (other_last r _ _ n (as_conditions (checks o g (length i) (length t))) (subst (Given r) (sym (checks_same (call o g i t))) y)))

forgetful_orderly : Orderly forgetful
unfolding forgetful
forgetful_orderly = record {
  starts = orderly.starts;
  steps = λ o g i t r q n. by_length o g i (emptied t) t r (emptied_length t) n (orderly.steps o g i (emptied t) r q n);
  only16 = λ o g i t q. orderly.only16 o g i (emptied t) q;
  start_length = orderly.start_length;
  step_length = λ o g i t. orderly.step_length o g i (emptied t) ∙ emptied_length t;
}

pub forgetful_plain : SamePlain forgetful
unfolding forgetful
forgetful_plain = started_plain _ (λ o g i t. step_plain o g i (emptied t))

pub forgetful_refuted : StaleAlwaysThen forgetful → ⊥
unfolding forgetful
forgetful_refuted always = no_never_stale forgetful forgetful_orderly by_track.begins forgetful_plain emptied_never always
