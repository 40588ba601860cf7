use Rattle.std.proofs.Common.{◌≡◌, ℕ, ◌+◌, ◌*◌, ◌-◌, ◌≤◌, drop, length, min, sym, ap, ◌∙◌, arith, rules}
use Rattle.model.specs.step.Rows.{map_first}
use Rattle.model.specs.step.Track.{note_page}
use Rattle.noting.specs.Mib.{mib_pages}
use Rattle.track.proofs.Rows.{still_part}
use Rattle.noting.proofs.Mib.{by_mib}
use Rattle.noting.proofs.rows_settled.Goals as goal

pub loop-mib-preserved : goal.loop-mib-preserved
loop-mib-preserved c = let a = c.args in let mib = c.loop-mib.mib in
    let start : ℕ = c.mib_range-words.result.start in
    let k : ℕ = c.mib_range-words.result.end - start in
    let from : start ≡ min (mib * mib_pages) (length a.own.now) = c.mib_range-words.ensures.from in
    let here : start ≡ mib * mib_pages = omega (arith, c.div_ceil-mib-end.ensures) in
    let few : k ≤ mib_pages = omega (arith, c.mib_range-words.ensures.to) in
    let next : start + k ≡ min ((mib + 1) * mib_pages) (length a.own.now) = omega (arith, c.mib_range-words.ensures.to) in
    let z = c.mib_settled.ensures (search rules) in
    record {
      in_own = still_part (note_page a.m.now a.tables 0) a.own.now start k (c.loop-mib.invariant.in_own ∙ ap (λ (n : ℕ). map_first (note_page a.m.now a.tables 0) 0 n a.own.now) (sym from)) (omega arith)
          (z.in_own ∙ sym (by_mib a.m.now a.tables 0 mib start k (drop start a.own.now) here few))
          ∙ ap (λ (n : ℕ). map_first (note_page a.m.now a.tables 0) 0 n a.own.now) next;
      in_shared = still_part (note_page a.m.now a.tables 1) a.shared.now start k (c.loop-mib.invariant.in_shared ∙ ap (λ (n : ℕ). map_first (note_page a.m.now a.tables 1) 0 n a.shared.now) (sym from)) (omega (arith, c.requires))
          (z.in_shared ∙ sym (by_mib a.m.now a.tables 1 mib start k (drop start a.shared.now) here few))
          ∙ ap (λ (n : ℕ). map_first (note_page a.m.now a.tables 1) 0 n a.shared.now) next;
    }
