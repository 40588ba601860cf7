use Rattle.std.proofs.Common.{refl, sym, ap, ◌∙◌}
use Rattle.permissions.specs.Sheet.{answer}
use Rattle.permissions.proofs.Places.{past_answers}
use Rattle.rulings.specs.declared.table.TheConstants.{TABLE}
use Rattle.rulings.proofs.Laws.{found, table_agrees}
use Rattle.rulings.proofs.answer_at.Goals as goal

pub returns-in_err-number : goal.returns-in_err-number
returns-in_err-number c = rw c.from_residual.ensures (sym (past_answers _ c.in_err-number.ensures.lookup.3))

pub returns : goal.returns
returns c = let at = c.in_ok-number.ensures in ap answer c.ruling_of.ensures ∙ found TABLE _ _ table_agrees refl at.lookup.0 at.lookup.1
