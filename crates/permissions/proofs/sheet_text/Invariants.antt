use Rattle.std.proofs.Common.{◌≡◌, ◌*◌, length, take}
use Rattle.permissions.specs.Sheet.{answers, lines_of}
use Rattle.permissions.proofs.sheet_text.Given as goal

abbrev pub invariant-loop-i : goal.invariant-loop-i
invariant-loop-i l = (length l.out ≡ 768) × (take (2 * l.i) l.out ≡ lines_of (take l.i answers))
