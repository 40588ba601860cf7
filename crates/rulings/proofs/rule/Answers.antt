use Rattle.std.proofs.Common.{ap, ◌∙◌}
use Rattle.model.proofs.Tellings.{tells}
use Rattle.permissions.specs.Sheet.{answer, answer_at}
use Rattle.rulings.proofs.Laws.{looked_up}
use Rattle.rulings.proofs.rule.Goals as goal

pub returns : goal.returns
returns c =
    let a = c.args in
    tells answer (c.unwrap_or.ensures
    ∙ looked_up a.ap a.mode a.purpose a.field a.xn c.answer_at.result (c.answer_at.ensures ∙ ap answer_at c.place-at.ensures))
