use Rattle.std.proofs.Common.{refl, ◌∙◌, arith, rules}
use Rattle.permissions.specs.Sheet.{lines_of}
use Rattle.permissions.proofs.Places.{answer_at_small}
use Rattle.permissions.proofs.Text.{next_line, all_lines}
use Rattle.permissions.proofs.sheet_text.Goals.{in-Some, in_default}
use Rattle.permissions.proofs.sheet_text.Goals as goal

pub loop-i-init : goal.loop-i-init
unfolding lines_of
loop-i-init c = (refl, refl)

pub loop-i-preserved : goal.loop-i-preserved
loop-i-preserved c =
    let l = c.loop-i in
    elim c.match-compute.branch [
      | in-Some w ↦ rw w.out-is (search rules, next_line l.out l.i _ l.invariant.0 c.loop-i-test.true (w.number_of.ensures ∙ w.in-Some.ensures) l.invariant.1)
      | in_default w ↦ absurd (let e : ⊥ = omega (arith, w.in_default.ensures, answer_at_small l.i c.loop-i-test.true) in e)
    ]

pub returns : goal.returns
returns c = let l = c.loop-i in all_lines l.out l.i l.invariant.0 (omega arith) l.invariant.1
