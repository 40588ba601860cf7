-- The chip's moves are made one after the other, before the first operation and after each, refused ones too.
use Prim.Native.Nat.{ℕ, suc}
use mathlib.Core.Path.{◌≡◌, refl}
use mathlib.Core.Bool.{Bool, true, false}
use mathlib.Core.Option.{none}
use mathlib.Core.List.{List, [], ◌∷◌, ◌++◌, map}
use lib.ListN.{replicate}
use Rattle.model.specs.reference.Rules.{State, Places, Move, move, moves, flush_place, chip_step}
use Rattle.model.specs.reference.Runs.{Moment, chip_start, chip_next, chip_run}
use Rattle.model.specs.Types.{Operation}

pub no_moves : (s : State) (ps : Places) → moves s ps [] ≡ ps
unfolding moves
no_moves s ps = refl

pub one_move_lem : (s : State) (ps : Places) (m : Move) → moves s ps (m ∷ []) ≡ move s ps m
unfolding moves
one_move_lem s ps m = refl

pub moves_in_turn : (s : State) (ps : Places) (ms ns : List Move) → moves s ps (ms ++ ns) ≡ moves s (moves s ps ms) ns
unfolding moves
moves_in_turn s ps [] ns = refl
moves_in_turn s ps (m ∷ ms) ns = moves_in_turn s (move s ps m) ms ns

pub moves_at_first_lem : (n : ℕ) (s : State) (ms : List Move) → (chip_start n s ms).held ≡ moves s (replicate n none) ms
unfolding chip_start
moves_at_first_lem n s ms = refl

pub moves_after_refused_lem : (x : Moment) (o : Operation) (ms : List Move) → (chip_next x o true ms).held ≡ moves x.state x.held ms
unfolding chip_next chip_step
moves_after_refused_lem x o ms = refl

pub moves_after_carried_lem : (x : Moment) (o : Operation) (ms : List Move) →
    (chip_next x o false ms).held ≡ moves (chip_next x o false ms).state (map (flush_place o) x.held) ms
unfolding chip_next chip_step
moves_after_carried_lem x o ms = refl

pub moves_by_the_script : (x : Moment) (o : Operation) (b : Bool) (ys : List (Operation × Bool)) (script : ℕ → List Move) →
    chip_run x ((o, b) ∷ ys) script ≡ chip_next x o b (script 0) ∷ chip_run (chip_next x o b (script 0)) ys (λ i. script (suc i))
unfolding chip_run
moves_by_the_script x o b ys script = refl
