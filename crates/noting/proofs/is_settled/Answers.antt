use Rattle.std.proofs.Common.{ℕ, List, ap, ◌∙◌}
use Rattle.model.specs.Limits.{row_size}
use Rattle.model.specs.step.Rows.{in_row}
use Rattle.model.specs.step.Track.{note_row, note_track}
use Rattle.track.proofs.Rows.{still_range}
use Rattle.noting.proofs.is_settled.Goals as goal

pub returns : goal.returns
unfolding note_track
returns c = let a = c.args in let size = row_size a.window in let t : List ℕ = a.track.now in
    λ h. let y = c.rows_settled.ensures h in
    let own = still_range (note_row a.m.now a.tables 0) size a.context _ _ t c.in-Some-Some.ensures y.in_own in
    let shared = still_range (note_row a.m.now a.tables 1) size c.last_row-last.result _ _ t c.in-Some-Some.ensures' y.in_shared in
    shared ∙ ap (in_row size c.last_row-last.result (note_row a.m.now a.tables 1)) own
    ∙ ap (λ (n : ℕ). in_row size n (note_row a.m.now a.tables 1) (in_row size a.context (note_row a.m.now a.tables 0) t)) c.last_row-last.ensures
