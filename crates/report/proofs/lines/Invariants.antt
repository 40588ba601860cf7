use Rattle.std.proofs.Common.{◌≡◌, length}
use Rattle.model.specs.declared.Answer.TheVariants.{Done}
use Rattle.listing.specs.Whole.{read_lines}
use Rattle.report.specs.Report.{replayed}
use Rattle.report.proofs.Running.{Running}
use Rattle.report.proofs.lines.Given as goal

abbrev pub invariant-loop-left : goal.invariant-loop-left
invariant-loop-left l =
    (l.w.out.ghost_name ≡ l.initial.w.out.ghost_name)
    × Running (replayed 2 (record { answer = Done 0; registers = l.initial.regs; memory = l.initial.m; track = l.initial.t }) (read_lines (length l.list) 2 l.list)) l.initial.w.out.now l.initial.w.at l.regs l.m l.t l.w.out.now l.left l.w.at l.line

abbrev pub decreases-loop-left : goal.decreases-loop-left
decreases-loop-left l = length l.left
