use Rattle.std.proofs.Common.{◌≡◌, ℕ}
use Rattle.model.specs.step.Rows.{map_first}
use Rattle.track.proofs.empty_row.Given as goal

abbrev pub invariant-loop-p : goal.invariant-loop-p
invariant-loop-p l = l.row ≡ map_first (λ (i w : ℕ). 0) 0 l.p l.initial.row
