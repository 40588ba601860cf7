-- Lists of operations: a checker, the plain machine and the chip over the same list.
use Rattle.std.specs.Prelude.{ℕ, suc, ◌≡◌, ◌⊎◌, Bool, true, false, cond, List, [], ◌∷◌, replicate}
use Rattle.std.proofs.Math.Option.{Option, none, some}
use Rattle.model.specs.Numbers.{Result, ok, fault, refused, shown}
use Rattle.model.specs.reference.Rules.{State, plain_step, Held, Places, Move, moves, chip_step}
use Rattle.model.specs.step.Machine.{After}
use Rattle.model.specs.Types.{Registers, Setting, Operation}

-- the last of what a run gives, or what it began with
unfoldable pub last : {A : Type 0} → A → List A → A
last x [] = x
last x (y ∷ ys) = last y ys

-- ── A checker: a start, given memory, track and its setting, and a step ──
pub record Checker : Type 0 where
  pub start : List ℕ → List ℕ → Setting → After
  pub step : Operation → Registers → List ℕ → List ℕ → After

-- Each operation is handed what the one before returned and left.
abbrev pub next : Checker → Operation → After → After
next m o x = m.step o x.registers x.memory x.track

unfoldable pub checker_run : Checker → After → List Operation → List After
checker_run m x [] = []
checker_run m x (o ∷ os) = next m o x ∷ checker_run m (next m o x) os

-- whether an operation was refused, and what it shows: an answer if it was not, memory and registers
unfoldable pub is_refused : Result → Bool
is_refused (ok v) = false
is_refused (fault n) = false
is_refused (refused r) = true

unfoldable pub seen : After → Option Result × State
seen x = (cond (is_refused (shown x.answer)) none (some (shown x.answer)), record { memory = x.memory; registers = x.registers })

-- What the chip and the plain machine are told: the operations, and which were refused.
unfoldable pub told : Checker → After → List Operation → List (Operation × Bool)
told m x [] = []
told m x (o ∷ os) = (o, is_refused (shown (next m o x).answer)) ∷ told m (next m o x) os

-- ── The plain machine: the answers and states after each operation ──
unfoldable pub plain_run : State → List (Operation × Bool) → List (Option Result × State)
plain_run s [] = []
plain_run s (x ∷ xs) = plain_step x.0 x.1 s ∷ plain_run (plain_step x.0 x.1 s).1 xs

-- ── The chip: the answer, the state and what is held after each operation and the moves that follow it ──
pub record Moment : Type 0 where
  pub answer : Option Result
  pub state : State
  pub held : Places

-- before the first operation: nothing held, then the first moves
unfoldable pub chip_start : ℕ → State → List Move → Moment
chip_start n s ms = record { answer = none; state = s; held = moves s (replicate n none) ms }

-- one operation, told whether it was refused, then moves
unfoldable pub chip_next : Moment → Operation → Bool → List Move → Moment
chip_next x o b ms = settle (chip_step o b x.state x.held)
  where
    settle : Option Result × State × Places → Moment
    settle y = record { answer = y.0; state = y.1; held = moves y.1 y.2 ms }

-- `script i` are the moves after operation i
unfoldable pub chip_run : Moment → List (Operation × Bool) → (ℕ → List Move) → List Moment
chip_run x [] script = []
chip_run x (y ∷ ys) script = chip_next x y.0 y.1 (script 0) ∷ chip_run (chip_next x y.0 y.1 (script 0)) ys (λ i. script (suc i))

unfoldable pub chip_seen : Moment → Option Result × State
chip_seen x = (x.answer, x.state)

-- some place holds h
unfoldable pub Holds : Held → Places → Type 0
Holds h [] = ⊥
Holds h (p ∷ ps) = (p ≡ some h) ⊎ Holds h ps
