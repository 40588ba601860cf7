-- What is proved of the step, in the reference's words: the first demand, and what the second asks of a single call.
use Rattle.std.specs.Prelude.{ℕ, ◌<◌, ◌≡◌, ◌↔◌, Bool, true, false, List, length}
use Rattle.model.specs.Limits.{old_window, row_size}
use Rattle.model.specs.Numbers.{Result, ok, refused, shown}
use Rattle.model.specs.reference.Rules.{Translation, State, Scope, covers, fresh, carried_out, flushes, several, kept, word_of, track_word, stale, noted_in, word_after, has_row, suits, conditions, start_conditions, walk_conditions, Given, walk, translation_number, refused_walk}
use Rattle.model.specs.step.Machine.{After, stepped, started}
use Rattle.model.specs.step.WalkAnswer.{walk_answer}
use Rattle.model.specs.Types.{Registers, Setting, Operation, Entry}

-- What an operation is given: registers by value, memory and track lent.
pub record Call : Type 0 where
  pub operation : Operation
  pub registers : Registers
  pub memory : List ℕ
  pub track : List ℕ

abbrev pub conditions_of : Call → List (ℕ × Bool)
conditions_of x = conditions x.operation x.registers x.memory x.track

-- what one operation gives, and the state that it was given
abbrev pub after : Call → After
after x = stepped x.operation x.registers x.memory x.track

abbrev pub before : Call → State
before x = record { memory = x.memory; registers = x.registers }

-- the answer, and memory and registers after it
abbrev pub visible : After → Result × State
visible x = (shown x.answer, record { memory = x.memory; registers = x.registers })

-- registers returned, memory and track left
pub record Leaves (x : After) (r : Registers) (m t : List ℕ) : Type 0 where
  pub registers : x.registers ≡ r
  pub memory : x.memory ≡ m
  pub track : x.track ≡ t

-- Every call ends with the result that the rules name, whatever it is handed.
pub record Total : Type 0 where
  -- an operation is refused with a number exactly when the number's condition holds and none before it does
  pub exactly : (x : Call) (r : ℕ) → (shown (after x).answer ≡ refused r) ↔ Given r (conditions_of x)
  -- a refused operation returns the registers, and leaves memory and track, as given
  pub unchanged : (x : Call) (r : ℕ) → shown (after x).answer ≡ refused r → Leaves (after x) x.registers x.memory x.track
  -- the same of start, which returns zero registers when refused
  pub start_exactly : (m t : List ℕ) (g : Setting) (r : ℕ) → (shown (started m t g).answer ≡ refused r) ↔ Given r (start_conditions m t g)
  pub start_unchanged : (m t : List ℕ) (g : Setting) (r : ℕ) → shown (started m t g).answer ≡ refused r →
      Leaves (started m t g) (record { root = 0; context = 0; mode = 0; domains = 0 }) m t

-- A call that is not refused is carried out by the rules.
pub record Faithful : Type 0 where
  -- an operation gives the plain machine's answer, and leaves its memory and registers
  pub plain : (x : Call) → ((r : ℕ) → Given r (conditions_of x) → ⊥) → visible (after x) ≡ carried_out x.operation (before x)
  -- it leaves in each word of the track, in the rows of its contexts and in the global row, what is remembered of its scope and page
  pub words : (x : Call) → ((r : ℕ) → Given r (conditions_of x) → ⊥) → (u : Scope) (p : ℕ) → has_row old_window x.track u ≡ true → p < row_size old_window →
      track_word old_window (after x).track u p ≡ word_after x.operation (carried_out x.operation (before x)).1 u p (track_word old_window x.track u p)
  pub track_length : (x : Call) → length (after x).track ≡ length x.track
  -- start gives the plain machine's first state, and a track that remembers what the tables map now in context 0
  pub start : (m t : List ℕ) (g : Setting) → ((r : ℕ) → Given r (start_conditions m t g) → ⊥) → visible (started m t g) ≡ (ok 0, fresh m g)
  pub start_words : (m t : List ℕ) (g : Setting) → ((r : ℕ) → Given r (start_conditions m t g) → ⊥) → (u : Scope) (p : ℕ) → has_row old_window t u ≡ true → p < row_size old_window →
      track_word old_window (started m t g).track u p ≡ noted_in (fresh m g) u p 0
  pub start_track_length : (m t : List ℕ) (g : Setting) → length (started m t g).track ≡ length t

-- Words that no start and no operation leaves, but that may be lent.
pub record OddWords : Type 0 where
  -- a word that is neither 0 nor the word of an entry that suits its row counts as several
  pub counts : (u : Scope) (w : ℕ) → (w ≡ 0 → ⊥) →
      ((e : Entry) → e.frame < 0x100000 → e.ap < 8 → e.section < 2 → e.global < 2 → e.xn < 2 → e.domain < 16 → suits u e ≡ true → w ≡ word_of e → ⊥) → kept u w ≡ several
  -- a word that counts as several stays as found under noting
  pub stays : (x : Call) → ((r : ℕ) → Given r (conditions_of x) → ⊥) → (u : Scope) (p : ℕ) → has_row old_window x.track u ≡ true → p < row_size old_window →
      kept u (track_word old_window x.track u p) ≡ several → flushes x.operation.kind x.operation u p ≡ false →
      track_word old_window (after x).track u p ≡ track_word old_window x.track u p
  -- its page is stale, whatever the tables say: in its context, or in every context where it stands in the global row
  pub is_stale : (w : ℕ) (t : List ℕ) (u : Scope) (c p : ℕ) (y : Translation) → covers u c ≡ true → kept u (track_word w t u p) ≡ several → stale w t c p y ≡ true
  -- a flush that names it empties it, and noting follows as for any empty set
  pub goes : (x : Call) → ((r : ℕ) → Given r (conditions_of x) → ⊥) → (u : Scope) (p : ℕ) → has_row old_window x.track u ≡ true → p < row_size old_window →
      flushes x.operation.kind x.operation u p ≡ true →
      track_word old_window (after x).track u p ≡ noted_in (carried_out x.operation (before x)).1 u p 0

-- The walk of one address of an image, as one number.
pub record SingleWalk : Type 0 where
  -- it is refused with a number exactly when the number's condition holds and none before it does
  pub exactly : (m : List ℕ) (root a r : ℕ) → (walk_answer m root a ≡ refused_walk r) ↔ Given r (walk_conditions m root a)
  -- else its answer is what the walk of the rules finds
  pub walks : (m : List ℕ) (root a : ℕ) → ((r : ℕ) → Given r (walk_conditions m root a) → ⊥) →
      walk_answer m root a ≡ translation_number (walk m root a)
