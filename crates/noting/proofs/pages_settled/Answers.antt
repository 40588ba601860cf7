use Rattle.std.proofs.Common.{get_or, subst, refl, arith, rules}
use Rattle.model.specs.Types.{Outcome}
use Rattle.noting.specs.Mib.{note_found, Stays}
use Rattle.noting.proofs.Settled.{through_turn}
use Rattle.noting.proofs.pages_settled.Goals as goal

pub loop-i-preserved : goal.loop-i-preserved
loop-i-preserved g c = let a = c.args in let i = c.loop-i.i in
    λ f h s. through_turn (note_found f) i a.own.now a.shared.now _ (λ k w. refl) (c.loop-i.invariant f h (search rules)) (omega arith) (omega (arith, c.requires.same))
    (subst (λ (x : Outcome). Stays (get_or a.own.now i 0) (get_or a.shared.now i 0) x) (h i _ (omega arith) c.found.ensures) (c.stays-settled.ensures (search rules)))
