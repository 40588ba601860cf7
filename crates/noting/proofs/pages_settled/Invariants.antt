use Rattle.std.proofs.Common.{◌≡◌, ℕ, true, length}
use Rattle.model.specs.Types.{Outcome}
use Rattle.noting.specs.Mib.{Finds, note_found}
use Rattle.noting.proofs.Settled.{Through}
use Rattle.noting.proofs.pages_settled.Given as goal

abbrev pub invariant-loop-i : goal.invariant-loop-i
invariant-loop-i g l = (f : ℕ → Outcome) → Finds (goal.F-post g l.found) (length l.own) f → l.settled ≡ true → Through (note_found f) l.i l.own l.shared
