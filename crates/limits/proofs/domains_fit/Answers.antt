use Rattle.std.proofs.Common.{◌≡◌, ℕ, suc, ◌+◌, ◌-◌, ◌<◌, ◌/◌, ◌%◌, false, cond, sym, ap, ◌∙◌, arith}
use lib.Dec.{eqb}
use borrow.Author.Tests.{ne_eqb}
use Rattle.model.specs.step.Checks.{fields_fit}
use Rattle.limits.proofs.domains_fit.Goals as goal

-- the fields from field i on: the lowest, then the rest
one_field : (i w : ℕ) → i < 16 → fields_fit (16 - i) w ≡ cond (eqb (w % 4) 2) false (fields_fit (16 - (i + 1)) (w / 4))
unfolding fields_fit
one_field i w h = ap (λ n. fields_fit n w) (let q : 16 - i ≡ suc (16 - (i + 1)) = omega (arith, h) in q)

pub loop-preserved : goal.loop-preserved
loop-preserved c = sym (one_field c.loop.counter c.loop.rest c.loop-test.true ∙ rw (ne_eqb _ 2 c.if-rest-eq2.false)) ∙ c.loop.invariant
