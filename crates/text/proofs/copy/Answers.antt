use mathlib.Core.Path.{sym, ap, ◌∙◌}
use mathlib.Core.List.{List, [], ◌∷◌, ◌++◌}
use Prim.Native.Nat.{ℕ}
use native.Mathlib.Omega.{arith}
use lib.ListN.{get_or}
use lib.Seq.{take_all}
use Rattle.std.proofs.lemmas.List.{take_more, take_more_set}
use Rattle.text.proofs.copy.Goals as goal

pub loop-i-preserved : goal.loop-i-preserved
loop-i-preserved c = let l = c.loop-i in let text = c.args.text.now in
    take_more_set l.part l.i _ (omega (arith, l.auto.part, c.requires, c.loop-i-test.true))
    ∙ ap (λ (xs : List ℕ). xs ++ (get_or text l.i 0 ∷ [])) l.invariant
    ∙ sym (take_more text l.i 0 c.loop-i-test.true)

pub returns : goal.returns
returns c = let l = c.loop-i in
    sym (take_all l.i l.part (omega (arith, l.auto.part, c.requires, c.loop-i-test.false))) ∙ l.invariant ∙ take_all l.i c.args.text.now c.loop-i-test.false
