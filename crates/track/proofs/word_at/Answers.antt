use Rattle.std.proofs.Common.{◌≡◌, ℕ, ◌+◌, ◌*◌, ◌-◌, List, length, take, drop, get_or, Option, Some, None, Bor, unwrap_or, ap, ◌∙◌, arith}
use Rattle.std.proofs.lemmas.Grind.{common_steps}
use Rattle.std.proofs.lemmas.List.{get_or-drop, get_or_past}
use Rattle.std.specs.Option.{option_copied}
use Rattle.std.specs.Slice.{IsItemAt}
use Rattle.model.specs.Limits.{row_size}
use Rattle.model.specs.step.Rows.{row_start}
use Rattle.track.proofs.word_at.Goals as goal

-- what stands at `page` from where the row starts
at_row : (size row page : ℕ) (t : List ℕ) → get_or (drop (row_start size row (length t)) t) page 0 ≡ get_or t (row * size + page) 0
unfolding row_start
at_row size row page t = grind (arith, common_steps, get_or-drop, get_or_past)

-- what `get` finds of the words from `start` on, or 0
found : (start page : ℕ) (t : List ℕ) (r : Option (Bor ℕ)) → IsItemAt (take (length t - start) (drop start t)) page r → unwrap_or (option_copied r) 0 ≡ get_or (drop start t) page 0
found start page t (Some x) h = grind (arith, common_steps)
found start page t None h = grind (arith, common_steps)

pub returns : goal.returns
returns c = let a = c.args in
    c.unwrap_or.ensures
    ∙ ap (λ (r : Option ℕ). unwrap_or r 0) c.copied.ensures
    ∙ found c.row_start-start.result a.page a.track.now c.get.result c.get.ensures.lookup
    ∙ ap (λ (n : ℕ). get_or (drop n a.track.now) a.page 0) c.row_start-start.ensures.0
    ∙ at_row (row_size a.window) a.row a.page a.track.now
