use Rattle.std.proofs.Common.{◌≡◌, ℕ, length}
use Rattle.model.specs.Types.{Outcome}
use Rattle.model.specs.step.Rows.{map_first}
use Rattle.noting.specs.Mib.{Finds, note_found}
use Rattle.noting.proofs.note_pages.Given as goal

abbrev pub invariant-loop-i : goal.invariant-loop-i
invariant-loop-i g l = (f : ℕ → Outcome) → Finds (goal.F-post g l.found) (length l.initial.pages) f → l.pages ≡ map_first (note_found f l.global) 0 l.i l.initial.pages
