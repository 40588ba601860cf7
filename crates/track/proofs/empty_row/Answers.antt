use Rattle.std.proofs.Common.{ℕ, refl, ap, ◌∙◌, arith}
use lib.ListN.{set}
use Rattle.track.proofs.Rows.{turn}
use Rattle.track.proofs.empty_row.Goals as goal

-- the word that is emptied is word p, however its number is written
pub loop-p-preserved : goal.loop-p-preserved
loop-p-preserved c = let l = c.loop-p in
    ap (λ (q : ℕ). set l.row q 0) (omega arith) ∙ turn (λ (i w : ℕ). 0) _ l.row l.p 0 l.invariant (omega arith) refl
