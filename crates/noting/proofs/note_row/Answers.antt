use Rattle.std.proofs.Common.{◌≡◌, ℕ, ◌+◌, ◌*◌, ◌-◌, ◌≤◌, drop, length, min, sym, ap, ◌∙◌, arith}
use Rattle.model.specs.step.Rows.{map_first}
use Rattle.model.specs.step.Track.{note_page}
use Rattle.noting.specs.Mib.{mib_pages}
use Rattle.track.proofs.Rows.{part_turn}
use Rattle.noting.proofs.Mib.{by_mib}
use Rattle.noting.proofs.note_row.Goals as goal

pub loop-mib-preserved : goal.loop-mib-preserved
loop-mib-preserved c = let a = c.args in let mib = c.loop-mib.mib in
    let f : ℕ → ℕ → ℕ = note_page a.m.now a.tables a.global in
    let start : ℕ = c.mib_range-words.result.start in
    let k : ℕ = c.mib_range-words.result.end - start in
    let from : start ≡ min (mib * mib_pages) (length a.row.now) = c.mib_range-words.ensures.from ∙ ap (min (mib * mib_pages)) c.loop-mib.auto.row in
    let here : start ≡ mib * mib_pages = omega (arith, c.div_ceil-mib-end.ensures) in
    let few : k ≤ mib_pages = omega (arith, c.mib_range-words.ensures.to) in
    let next : start + k ≡ min ((mib + 1) * mib_pages) (length a.row.now) = omega (arith, c.mib_range-words.ensures.to, c.loop-mib.auto.row) in
    part_turn f a.row.now c.loop-mib.row _ start k (c.loop-mib.invariant ∙ ap (λ (n : ℕ). map_first f 0 n a.row.now) (sym from)) (omega arith)
    (c.note_mib.ensures ∙ sym (by_mib a.m.now a.tables a.global mib start k (drop start c.loop-mib.row) here few))
    ∙ ap (λ (n : ℕ). map_first f 0 n a.row.now) next
