use Prim.Native.Nat.{ℕ, ◌+◌, ◌*◌, ◌/◌}
use mathlib.Core.Path.{◌≡◌, ap, ap₂, subst, ◌∙◌}
use mathlib.Core.List.{List, []}
use lib.ListN.{length, get_or}
use native.Mathlib.Omega.{arith}
use borrow.Author.Rules.{rules}
use Rattle.line_writer.specs.Call.{place_after_word, wrote_word}
use Rattle.line_writer.proofs.Laws.{Going, going_word, going_end, rest_part, word_at, word_four}
use Rattle.line_writer.proofs.put_words.Goals as goal

pub loop-k-preserved : goal.loop-k-preserved
loop-k-preserved c =
    let m = c.args.image.now in
    let w = c.args.w.now in
    let l = c.loop-k in
    let at = 4 * l.k in
    let b = c.as_chunks.ensures in
    let e : c.number.result ≡ word_at m at =
    c.number.ensures ∙ ap (λ (s : List (List ℕ)). word_at (get_or s l.k []) 0) b.front ∙ word_four m (length m / 4) l.k (omega (arith, b.front_len, c.loop-k-test.true, l.auto.k-end)) in
    let r = rest_part m (at + 4) in
    let q = c.put_word.ensures in
    let g =
    going_word m w.out.now w.at at l.w.at l.w.out.now l.invariant.going _ _ (omega (arith, b.front_len, c.loop-k-test.true, l.auto.k-end))
    (q.place ∙ ap₂ (place_after_word l.w.out.now l.w.at at) e r, q.holds ∙ ap₂ (wrote_word l.w.out.now l.w.at at) e r) in
    record { same_buffer = search rules; going = subst (λ (n : ℕ). Going m w.out.now w.at n c.put_word.new.w.at c.put_word.new.w.out.now) (let z : at + 4 ≡ 4 * (l.k + 1) = omega arith in z) g }

pub returns : goal.returns
returns c =
    let l = c.loop-k in
    let q = going_end c.args.image.now c.args.w.now.out.now c.args.w.now.at (4 * l.k) l.w.at l.w.out.now l.invariant.going (omega (arith, c.as_chunks.ensures.front_len, c.loop-k-test.false, l.auto.k-end)) in
    record { same_buffer = l.invariant.same_buffer; place = q.0; holds = q.1 }
