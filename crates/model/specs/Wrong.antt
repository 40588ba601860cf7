-- Mistakes that the third demand rules out, as properties of a checker, whatever else the checker does.
use Rattle.std.specs.Prelude.{ℕ, suc, ◌*◌, ◌<◌, ◌≡◌, true, List, [], map, length}
use Rattle.model.specs.Limits.{page_size, old_window, row_size}
use Rattle.model.specs.Numbers.{refused, shown}
use Rattle.model.specs.reference.Rules.{failed, fresh, outcome, own, global, Move, track_word, conditions, start_conditions, refuses16, Given}
use Rattle.model.specs.reference.Runs.{Checker, next, seen, chip_seen}
use Rattle.model.specs.Invisible.{Session, begun, Accepted, checker_run_of, plain_run_of, chip_run_of, at_end, aligned_access, CouldDiffer}
use Rattle.model.specs.Types.{Registers, Setting, Operation, Root}

-- ── The third demand part by part, so that each can be seen to fail alone ──

-- the three fields of `Same`
abbrev pub SameBegins : Checker → Type 0
SameBegins m = (x : Session) → Accepted m x → (record { memory = (begun m x).memory; registers = (begun m x).registers }) ≡ fresh x.image x.setting

abbrev pub SamePlain : Checker → Type 0
SamePlain m = (x : Session) → Accepted m x → plain_run_of m x ≡ map seen (checker_run_of m x)

abbrev pub SameChip : Checker → Type 0
SameChip m = (x : Session) → Accepted m x → (n : ℕ) (first : List Move) (script : ℕ → List Move) →
    map chip_seen (chip_run_of m x (suc n) first script) ≡ map seen (checker_run_of m x)

-- the two directions of `Exactly`'s field: 16 is said only where a TLB could differ, and wherever one could
abbrev pub StaleOnlyThen : Checker → Type 0
StaleOnlyThen m = (x : Session) → Accepted m x → (o : Operation) → aligned_access o ≡ true →
    ((r : ℕ) → shown (next m o (at_end m x)).answer ≡ refused r → r ≡ 16) →
    shown (next m o (at_end m x)).answer ≡ refused 16 → CouldDiffer m x o

abbrev pub StaleAlwaysThen : Checker → Type 0
StaleAlwaysThen m = (x : Session) → Accepted m x → (o : Operation) → aligned_access o ≡ true →
    ((r : ℕ) → shown (next m o (at_end m x)).answer ≡ refused r → r ≡ 16) →
    CouldDiffer m x o → shown (next m o (at_end m x)).answer ≡ refused 16

-- ── The mistakes ──

-- Its start returns user mode.
abbrev pub StartsInUserMode : Checker → Type 0
StartsInUserMode m = (i t : List ℕ) (y : Setting) → (m.start i t y).registers.mode ≡ 1

-- It says 16 at an aligned access directly after some accepted start.
pub record SaysStaleAtOnce (m : Checker) : Type 0 where
  pub session : Session
  pub operation : Operation
  pub nothing_before : session.operations ≡ []
  pub accepted : Accepted m session
  pub access : aligned_access operation ≡ true
  pub says16 : shown (next m operation (begun m session)).answer ≡ refused 16

-- It refuses by 16 none but aligned accesses, and by another number only where the rules do; no lent track changes its length.
pub record Orderly (m : Checker) : Type 0 where
  pub starts : (i t : List ℕ) (y : Setting) (r : ℕ) → shown (m.start i t y).answer ≡ refused r → Given r (start_conditions i t y)
  pub steps : (o : Operation) (g : Registers) (i t : List ℕ) (r : ℕ) → shown (m.step o g i t).answer ≡ refused r → (r ≡ 16 → ⊥) → Given r (conditions o g i t)
  pub only16 : (o : Operation) (g : Registers) (i t : List ℕ) → shown (m.step o g i t).answer ≡ refused 16 → aligned_access o ≡ true
  pub start_length : (i t : List ℕ) (y : Setting) → length (m.start i t y).track ≡ length t
  pub step_length : (o : Operation) (g : Registers) (i t : List ℕ) → length (m.step o g i t).track ≡ length t

-- After start it only copies the track.
abbrev pub Copies : Checker → Type 0
Copies m = (o : Operation) (g : Registers) (i t : List ℕ) → (m.step o g i t).track ≡ t

-- It never says 16.
abbrev pub NeverStale : Checker → Type 0
NeverStale m = (o : Operation) (g : Registers) (i t : List ℕ) → shown (m.step o g i t).answer ≡ refused 16 → ⊥

-- It goes by the track: it says 16 only where the track that it is lent makes the page stale, and its accepted start returns what the
-- rules say and leaves empty, in context 0 and in the global row, the word of every page that the tables do not map.
pub record GoesByTrack (m : Checker) : Type 0 where
  pub says16 : (o : Operation) (g : Registers) (i t : List ℕ) → shown (m.step o g i t).answer ≡ refused 16 → refuses16 o g i t ≡ true
  pub begins : SameBegins m
  pub unmapped : (x : Session) → Accepted m x → (p n : ℕ) → p < row_size old_window → outcome (fresh x.image x.setting) (p * page_size) ≡ failed n →
      (track_word old_window (begun m x).track (own 0) p ≡ 0) × (track_word old_window (begun m x).track global p ≡ 0)

-- two tracks, of rows for a window of w MiB, that differ at most in the row of one context and in the global row
pub record AlikeBut (w context : ℕ) (t u : List ℕ) : Type 0 where
  pub lengths : length t ≡ length u
  pub others : (c p : ℕ) → (c ≡ context → ⊥) → p < row_size w → track_word w t (own c) p ≡ track_word w u (own c) p

-- It looks for stale entries in the rows of other contexts alone, not in the global row either, and leaves the rows of contexts as the
-- rules do: empty after start, and as they were after an operation that flushes nothing and stays in its context.
pub record LooksElsewhere (m : Checker) : Type 0 where
  pub blind : (o : Operation) (g : Registers) (i t u : List ℕ) → AlikeBut old_window g.context t u → (m.step o g i t).answer ≡ (m.step o g i u).answer
  pub start_others : (i t : List ℕ) (y : Setting) (c p : ℕ) → (c ≡ 0 → ⊥) → p < row_size old_window → track_word old_window (m.start i t y).track (own c) p ≡ 0
  pub root_others : (a : ℕ) (g : Registers) (i t : List ℕ) (c p : ℕ) → (c ≡ g.context → ⊥) → p < row_size old_window →
      track_word old_window (m.step (record { kind = Root; a = a; b = 0; c = 0 }) g i t).track (own c) p ≡ track_word old_window t (own c) p
