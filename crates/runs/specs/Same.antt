-- What is said of the step for runs: from an accepted start it is the full step.
use Rattle.std.specs.Prelude.{ℕ, ◌+◌, ◌≤◌, ◌<◌, ◌≡◌, ◌↔◌, true, false, List, length, get_or}
use Rattle.model.specs.Limits.{old_window, address_limit}
use Rattle.model.specs.reference.Rules.{found, walk, physical, stored, Scope, flushes}
use Rattle.model.specs.reference.Runs.{Checker, next}
use Rattle.model.specs.step.Memory.{bytes_of}
use Rattle.model.specs.step.Track.{note_track}
use Rattle.model.specs.step.Machine.{After, tables_of, size_of, access_at, stepped, started}
use Rattle.model.specs.Invisible.{Session, Accepted, checker_run_of, at_end, checker}
use Rattle.model.specs.declared.Registers.{Registers}
use Rattle.model.specs.declared.Tables.{Tables}
use Rattle.model.specs.declared.Operation.{Operation}
use Rattle.model.specs.declared.Entry.{Entry}
use Rattle.model.specs.declared.Kind.TheVariants.{Write}
use Rattle.model.specs.declared.Access.TheVariants.{Physical}
use Rattle.model.specs.declared.Purpose.TheVariants.{ToWrite}
use Rattle.runs.specs.Used.{Used, Untouched, Reads}
use Rattle.runs.specs.Quiet.{quiet}
use Rattle.runs.specs.Step.{run_stepped}

-- A byte of memory is used exactly when the walk of some address of the window reads it; and a walk reads nothing else: in a memory of the
-- same length that has the same bytes there it finds the same.
pub record UsedByWalks : Type 0 where
  pub exactly : (w : ℕ) (m : List ℕ) (root b : ℕ) → Used w m root b ↔ ((a : ℕ) × (a < address_limit w) × Reads m root a b × (b < length m))
  pub nothing_else : (m k : List ℕ) (root a : ℕ) → length k ≡ length m →
      ((b : ℕ) → Reads m root a b → b < length m → get_or k b 0 ≡ get_or m b 0) → walk k root a ≡ walk m root a

-- The test of a store in memory says that it is quiet exactly when it touches no used byte; and then the walk of every address of the
-- window finds afterwards what it found before.
pub record QuietStores : Type 0 where
  pub exactly : (w : ℕ) (m : List ℕ) (tables : Tables) (at n : ℕ) → 0 < w → 0 < n → at + n ≤ length m → (quiet w m tables at n ≡ true) ↔ Untouched w m tables.root at n
  pub walks : (w : ℕ) (m : List ℕ) (tables : Tables) (at n v a : ℕ) → at + n ≤ length m → quiet w m tables at n ≡ true → a < address_limit w →
      walk (stored m at n v) tables.root a ≡ walk m tables.root a

-- the same answer, registers and memory
pub record Alike (x y : After) : Type 0 where
  pub answer : x.answer ≡ y.answer
  pub registers : x.registers ≡ y.registers
  pub memory : x.memory ≡ y.memory

-- the checker whose step is the one for runs
abbrev pub run_checker : Checker
run_checker = record { start = started; step = run_stepped }

-- what a run from a start has come to
abbrev pub reached : Session → After
reached x = at_end checker x

pub record SameRuns : Type 0 where
  -- whatever it is handed, answer, registers and memory are those of the full step
  pub alike : (o : Operation) (r : Registers) (m t : List ℕ) → Alike (run_stepped o r m t) (stepped o r m t)
  -- after every operation of a run from an accepted start, to note the track again changes no word
  pub noted : (x : Session) → Accepted checker x →
      note_track old_window (reached x).memory (tables_of (reached x).registers) (reached x).registers.context (reached x).track ≡ (reached x).track
  -- so a store that touches no byte that a present walk uses changes no track word: a write, whatever becomes of it, through the entry that
  -- its address has now
  pub untouched : (x : Session) → Accepted checker x → (o : Operation) (e : Entry) → o.kind ≡ Write →
      walk (reached x).memory (reached x).registers.root o.a ≡ found e →
      Untouched old_window (reached x).memory (reached x).registers.root (physical e o.a) o.b →
      (next checker o (reached x)).track ≡ (reached x).track
  -- the same of one that the test calls quiet,
  pub quiet_store : (x : Session) → Accepted checker x → (o : Operation) (p : ℕ) → o.kind ≡ Write →
      access_at (reached x).registers (reached x).memory (reached x).track ToWrite (size_of o.b) o.a ≡ Physical p →
      quiet old_window (reached x).memory (tables_of (reached x).registers) p (bytes_of (size_of o.b)) ≡ true →
      (next checker o (reached x)).track ≡ (reached x).track
  -- and neither does an operation that leaves memory, root and context as they were and flushes nothing
  pub leaves : (x : Session) → Accepted checker x → (o : Operation) →
      (next checker o (reached x)).memory ≡ (reached x).memory →
      (next checker o (reached x)).registers.root ≡ (reached x).registers.root →
      (next checker o (reached x)).registers.context ≡ (reached x).registers.context →
      ((u : Scope) (page : ℕ) → flushes o.kind o u page ≡ false) →
      (next checker o (reached x)).track ≡ (reached x).track
  -- On every state that such a run reaches, the step for runs is the full step, and so is the whole run.
  pub step : (x : Session) → Accepted checker x → (o : Operation) → next run_checker o (reached x) ≡ next checker o (reached x)
  pub run : (x : Session) → Accepted checker x → checker_run_of run_checker x ≡ checker_run_of checker x
