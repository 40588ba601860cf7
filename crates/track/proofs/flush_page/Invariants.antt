use Rattle.std.proofs.Common.{◌≡◌}
use Rattle.model.specs.Limits.{row_size}
use Rattle.model.specs.step.Rows.{each_row}
use Rattle.model.specs.step.Track.{empty_page}
use Rattle.track.proofs.flush_page.Given as goal

abbrev pub invariant-loop-row : goal.invariant-loop-row
invariant-loop-row l = l.track ≡ each_row (row_size l.window) l.row (empty_page l.page) l.initial.track
