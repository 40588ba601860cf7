use Rattle.std.proofs.Common.{get_or, ap, ◌∙◌, arith}
use Rattle.model.specs.step.Track.{add_outcome}
use Rattle.noting.specs.Mib.{note_found}
use Rattle.track.proofs.Rows.{turn}
use Rattle.noting.proofs.note_pages.Goals as goal

pub loop-i-preserved : goal.loop-i-preserved
loop-i-preserved g c = let a = c.args in let i = c.loop-i.i in
    λ f h. turn (note_found f a.global) _ _ _ _ (c.loop-i.invariant f h) (omega arith)
    (c.add_outcome.ensures ∙ ap (add_outcome a.global (get_or c.loop-i.pages i 0)) (h i _ (omega arith) c.found.ensures))
