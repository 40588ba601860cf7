-- A chip: a memory beside the machine, the moves that it makes by itself, and its run over a list of operations.
use Rattle.std.specs.Prelude.{ℕ, suc, Bool, true, false, List, [], ◌∷◌}
use Rattle.std.proofs.Math.Option.{Option, none, some}
use Rattle.tlb.specs.Machine.{Machine, Walk}

pub record Chip (A : Machine) : Type 1 where
  pub Held : Type 0
  pub Move : Type 0
  -- what is held at first; after a move; after a flush
  pub empty : Held
  pub move : A.State → Held → Move → Held
  pub obey : A.Op → Held → Held
  -- how a page is translated with this held
  pub through : A.State → Held → A.Page → Walk A.Entry A.Fault

-- the machine itself, as a chip that holds nothing and makes no move
abbrev pub plain : (A : Machine) → Chip A
plain A = record { Held = Unit {0}; Move = ⊥; empty = tt; move = λ s h m. h; obey = λ o h. h; through = λ s h. A.walk s }

module _ (A : Machine) (C : Chip A) where
  -- one operation, told whether it was refused: the answer, if it was not, and the state after it
  unfoldable pub chip_step : A.State → C.Held → A.Op → Bool → Option A.Answer × A.State
  chip_step s h o true = (none, s)
  chip_step s h o false = (some (A.carry s o (C.through s h)).0, (A.carry s o (C.through s h)).1)

  unfoldable pub held_after : C.Held → A.Op → Bool → C.Held
  held_after h o true = h
  held_after h o false = C.obey o h

  unfoldable pub moves : A.State → C.Held → List C.Move → C.Held
  moves s h [] = h
  moves s h (m ∷ ms) = moves s (C.move s h m) ms

  -- what is held after an operation and the moves that follow it
  unfoldable pub held_next : A.State → C.Held → A.Op → Bool → List C.Move → C.Held
  held_next s h o b ms = moves (chip_step s h o b).1 (held_after h o b) ms

  -- the answers and states after each operation, where `after i` are the moves after operation i
  unfoldable pub trace : A.State → C.Held → List (A.Op × Bool) → (ℕ → List C.Move) → List (Option A.Answer × A.State)
  trace s h [] after = []
  trace s h (x ∷ xs) after =
      chip_step s h x.0 x.1 ∷ trace (chip_step s h x.0 x.1).1 (held_next s h x.0 x.1 (after 0)) xs (λ i. after (suc i))

  -- what is held at the end, the last moves included
  unfoldable pub held_at_end : A.State → C.Held → List (A.Op × Bool) → (ℕ → List C.Move) → C.Held
  held_at_end s h [] after = h
  held_at_end s h (x ∷ xs) after = held_at_end (chip_step s h x.0 x.1).1 (held_next s h x.0 x.1 (after 0)) xs (λ i. after (suc i))
