-- The third demand: the TLB is invisible.
use Rattle.std.specs.Prelude.{ℕ, suc, ◌*◌, ◌/◌, ◌<◌, ◌≡◌, ◌↔◌, Bool, true, false, ◌&&◌, ◌||◌, List, [], ◌∷◌, ◌++◌, map, eqb, length, get_or, replicate}
use Rattle.std.proofs.Math.Option.{Option, none, some}
use Rattle.model.specs.Limits.{page_size, old_window, row_size}
use Rattle.model.specs.Numbers.{Result, ok, fault, refused, shown}
use Rattle.model.specs.reference.Rules.{Translation, found, failed, State, fresh, effect, outcome, aligned, among, access_size, global, Held, Places, held_scope, matches, Move, drop, load, move, moves, chip_outcome, flush_place}
use Rattle.model.specs.reference.Runs.{last, Checker, next, checker_run, is_refused, seen, told, plain_run, Moment, chip_start, chip_next, chip_run, chip_seen, Holds}
use Rattle.model.specs.step.Machine.{After, started, stepped}
use Rattle.model.specs.Types.{Setting, Operation, Read, Write, Fetch, Entry}

-- A start with any image, any track and any root, and a list of operations of any kind with any fields.
pub record Session : Type 0 where
  pub image : List ℕ
  pub track : List ℕ
  pub setting : Setting
  pub operations : List Operation

-- the chip with n places before the first operation: it is given image and root
abbrev pub chip_start_of : Session → ℕ → List Move → Moment
chip_start_of x n first = chip_start n (fresh x.image x.setting) first

-- a read, a write or a fetch
unfoldable pub is_access : Operation → Bool
is_access o = among o.kind (Read ∷ Write ∷ Fetch ∷ [])

-- an access whose size is 1, 2 or 4 and divides its address
unfoldable pub aligned_access : Operation → Bool
aligned_access o =
    is_access o && (eqb (access_size o) 1 || eqb (access_size o) 2 || eqb (access_size o) 4) && aligned o.a (access_size o)

module _ (m : Checker) where
  -- the checker's start, and that it is accepted
  abbrev pub begun : Session → After
  begun x = m.start x.image x.track x.setting

  abbrev pub Accepted : Session → Type 0
  Accepted x = is_refused (shown (begun x).answer) ≡ false

  -- the checker's run, and what is told of it
  abbrev pub checker_run_of : Session → List After
  checker_run_of x = checker_run m (begun x) x.operations

  abbrev pub told_of : Session → List (Operation × Bool)
  told_of x = told m (begun x) x.operations

  -- the plain machine's run, and the chip's with n places and these moves: they are given image and root, and what is told
  abbrev pub plain_run_of : Session → List (Option Result × State)
  plain_run_of x = plain_run (fresh x.image x.setting) (told_of x)

  abbrev pub chip_run_of : Session → ℕ → List Move → (ℕ → List Move) → List Moment
  chip_run_of x n first script = chip_run (chip_start_of x n first) (told_of x) script

  -- The first half: whatever a TLB of any size from one place up does, the chip with it, the machine with none and the checker give
  -- each operation not refused the same answer, and agree after every operation in all registers and memory bytes.
  pub record Same : Type 0 where
    pub begins : (x : Session) → Accepted x → (record { memory = (begun x).memory; registers = (begun x).registers }) ≡ fresh x.image x.setting
    pub plain : (x : Session) → Accepted x → plain_run_of x ≡ map seen (checker_run_of x)
    pub chip : (x : Session) → Accepted x → (n : ℕ) (first : List Move) (script : ℕ → List Move) →
        map chip_seen (chip_run_of x (suc n) first script) ≡ map seen (checker_run_of x)

  -- what the checker and the plain machine have come to at the end of the list
  abbrev pub at_end : Session → After
  at_end x = last (begun x) (checker_run_of x)

  abbrev pub plain_end : Session → State
  plain_end x = (last (none, fresh x.image x.setting) (plain_run_of x)).1

  -- some TLB could then hold an entry that matches the page of o in the current context, whichever context it was loaded in, other
  -- than the present outcome
  pub record CouldDiffer (x : Session) (o : Operation) : Type 0 where
    pub places : ℕ
    pub first : List Move
    pub script : ℕ → List Move
    pub held : Held
    pub holds : Holds held (last (chip_start_of x (suc places) first) (chip_run_of x (suc places) first script)).held
    pub matching : matches held (plain_end x).registers.context (o.a / page_size) ≡ true
    pub other : outcome (plain_end x) o.a ≡ found held.entry → ⊥

  -- The second half: after such a list, an aligned access that no other number turns back is refused as stale exactly when some such
  -- TLB could then hold for its page and context an entry other than the tables' present outcome.
  pub record Exactly : Type 0 where
    pub stale : (x : Session) → Accepted x → (o : Operation) → aligned_access o ≡ true →
        ((r : ℕ) → shown (next m o (at_end x)).answer ≡ refused r → r ≡ 16) →
        (shown (next m o (at_end x)).answer ≡ refused 16) ↔ CouldDiffer x o

  pub record Invisible : Type 0 where
    pub same : Same
    pub exactly : Exactly

-- the checker of this project
abbrev pub checker : Checker
checker = record { start = started; step = stepped }

-- What a chip of n places holds after any list of operations, told which were refused, and any moves.
abbrev pub held_by : ℕ → State → List (Operation × Bool) → List Move → (ℕ → List Move) → Places
held_by n s xs first script = (last (chip_start n s first) (chip_run (chip_start n s first) xs script)).held

-- the entry of a page, loaded in the current context
abbrev pub loaded_now : State → ℕ → Entry → Held
loaded_now s page e = record { context = s.registers.context; page = page; entry = e }

-- The chip and the operations that the two halves speak of are those of the rules.
pub record Pinned : Type 0 where
  -- what is held and matches the page of an address in the current context is what the address is translated by
  pub held_used : (n : ℕ) (s : State) (xs : List (Operation × Bool)) (first : List Move) (script : ℕ → List Move) (now : State) (a : ℕ) (h : Held) →
      Holds h (held_by n s xs first script) → matches h now.registers.context (a / page_size) ≡ true →
      chip_outcome now (held_by n s xs first script) a ≡ found h.entry
  -- a page of the window that the tables map can be loaded into a free place, unless something held matches, in some context, a page that the
  -- new entry would match there too
  pub can_load : (s : State) (ps : Places) (i page : ℕ) (e : Entry) → i < length ps → get_or ps i none ≡ none → page < row_size old_window →
      outcome s (page * page_size) ≡ found e →
      ((h : Held) (c p : ℕ) → Holds h ps → matches h c p ≡ true → matches (loaded_now s page e) c p ≡ true → ⊥) →
      Holds (loaded_now s page e) (move s ps (load i page))
  -- a drop empties its place and no other
  pub drops : (s : State) (ps : Places) (i : ℕ) → get_or (move s ps (drop i)) i none ≡ none
  pub drops_only : (s : State) (ps : Places) (i j : ℕ) → (j ≡ i → ⊥) → get_or (move s ps (drop i)) j none ≡ get_or ps j none
  -- moves are made one after the other, as many as there are
  pub no_move : (s : State) (ps : Places) → moves s ps [] ≡ ps
  pub one_move : (s : State) (ps : Places) (m : Move) → moves s ps (m ∷ []) ≡ move s ps m
  pub in_turn : (s : State) (ps : Places) (ms ns : List Move) → moves s ps (ms ++ ns) ≡ moves s (moves s ps ms) ns
  -- they are made before the first operation, with nothing held, after a refused operation, and after one carried out and its flush
  pub moves_at_first : (n : ℕ) (s : State) (ms : List Move) → (chip_start n s ms).held ≡ moves s (replicate n none) ms
  pub moves_after_refused : (x : Moment) (o : Operation) (ms : List Move) → (chip_next x o true ms).held ≡ moves x.state x.held ms
  pub moves_after_carried : (x : Moment) (o : Operation) (ms : List Move) →
      (chip_next x o false ms).held ≡ moves (chip_next x o false ms).state (map (flush_place o) x.held) ms
  -- and after each operation of a list those that the script has for it
  pub by_the_script : (x : Moment) (o : Operation) (b : Bool) (ys : List (Operation × Bool)) (script : ℕ → List Move) →
      chip_run x ((o, b) ∷ ys) script ≡ chip_next x o b (script 0) ∷ chip_run (chip_next x o b (script 0)) ys (λ i. script (suc i))
  -- never two places that match one page in one context, whichever it is, and never more places than n
  pub once : (n : ℕ) (s : State) (xs : List (Operation × Bool)) (first : List Move) (script : ℕ → List Move) (i j : ℕ) (h k : Held) (c p : ℕ) →
      get_or (held_by n s xs first script) i none ≡ some h → get_or (held_by n s xs first script) j none ≡ some k →
      matches h c p ≡ true → matches k c p ≡ true → i ≡ j
  pub size : (n : ℕ) (s : State) (xs : List (Operation × Bool)) (first : List Move) (script : ℕ → List Move) → length (held_by n s xs first script) ≡ n
  -- an access uses the translation of its own address and no other, and of an address that translates alike in its whole page
  pub own_page : (o : Operation) (s : State) (f g : ℕ → Translation) → f o.a ≡ g o.a → effect o.kind o s f ≡ effect o.kind o s g
  pub whole_page : (s : State) (ps : Places) (a b : ℕ) → a / page_size ≡ b / page_size → chip_outcome s ps a ≡ chip_outcome s ps b
  -- a translation that is a fault is the answer
  pub fault_answers : (o : Operation) (s : State) (f : ℕ → Translation) (n : ℕ) → aligned_access o ≡ true → f o.a ≡ failed n →
      effect o.kind o s f ≡ (fault n, s)
  -- the checker, the plain machine and every chip end in the state that the second half speaks of
  pub checker_ends : (x : Session) → Accepted checker x →
      (record { memory = (at_end checker x).memory; registers = (at_end checker x).registers }) ≡ plain_end checker x
  pub chip_ends : (x : Session) → Accepted checker x → (n : ℕ) (first : List Move) (script : ℕ → List Move) →
      (last (chip_start_of x (suc n) first) (chip_run_of checker x (suc n) first script)).state ≡ plain_end checker x

-- operations told as carried out, each of them
abbrev pub none_refused : List Operation → List (Operation × Bool)
none_refused os = map (λ o. (o, false)) os

-- what the plain machine and a chip have come to after these
abbrev pub plain_last : List ℕ → Setting → List Operation → Option Result × State
plain_last image g os = last (none, fresh image g) (plain_run (fresh image g) (none_refused os))

abbrev pub chip_last : List ℕ → Setting → List Operation → ℕ → List Move → (ℕ → List Move) → Moment
chip_last image g os n first script =
    last (chip_start n (fresh image g) first) (chip_run (chip_start n (fresh image g) first) (none_refused os) script)

-- A chip can use under one context a global entry that was loaded under another: a run, told that nothing was refused, in which the tables
-- no longer map the page, the chip answers `ok` through the entry, and the plain machine faults.
pub record UsedAcross : Type 0 where
  pub image : List ℕ
  pub setting : Setting
  pub before : List Operation
  pub access : Operation
  pub places : ℕ
  pub first : List Move
  pub script : ℕ → List Move
  pub held : Held
  pub value : ℕ
  pub number : ℕ
  -- what the chip holds before the access is global, was loaded under another context, and matches the page of the access
  pub holds : Holds held (held_by places (fresh image setting) (none_refused before) first script)
  pub shared : held_scope held ≡ global
  pub elsewhere : held.context ≡ (plain_last image setting before).1.registers.context → ⊥
  pub matching : matches held (plain_last image setting before).1.registers.context (access.a / page_size) ≡ true
  pub unmapped : outcome (plain_last image setting before).1 access.a ≡ failed number
  -- the last answers
  pub chip_answers : (chip_last image setting (before ++ access ∷ []) places first script).answer ≡ some (ok value)
  pub plain_faults : (plain_last image setting (before ++ access ∷ [])).0 ≡ some (fault number)
