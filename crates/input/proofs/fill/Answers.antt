-- What a read brings into the rest of the buffer stands right behind what came before.
use Rattle.std.proofs.Common.{◌≡◌, ℕ, ◌+◌, ◌≤◌, List, ◌++◌, rules, length, take, drop, sym, ap, subst, ◌∙◌, le_refl, drop_at, length-take-le}
use Rattle.std.proofs.lemmas.Slice.{take-put_mid_below}
use Rattle.std.specs.Io.KnownBytes.{Consumes}
use Rattle.std.proofs.KnownBytes.{Consumes-trans}
use borrow.Rule.Slice.PartMut.{put_mid, post_of}
use lib.Seq.{take-add, take-append-le}
use Rattle.input.proofs.fill.Goals as goal

joined : (d k n : ℕ) (xs ys : List ℕ) → d ≤ length xs → n ≤ length ys → take (d + n) (put_mid d k xs ys) ≡ take d xs ++ take n ys
joined d k n xs ys within fits =
    let after = post_of d k xs in
    let front = take-put_mid_below d k xs ys d (le_refl d) within in
    let back = ap (take n) (drop_at (take d xs) (ys ++ after) d (length-take-le d xs within)) ∙ take-append-le n ys after fits in
    take-add d n (put_mid d k xs ys) ∙ ap (λ l. l ++ take n (drop d (put_mid d k xs ys))) front ∙ ap (λ l. take d xs ++ l) back

pub loop-count-preserved : goal.loop-count-preserved
loop-count-preserved g c =
    let read = c.in-Ok.ensures in
    let before = c.loop-count.invariant in
    record {
      within = search rules;
      same_length = search rules;
      bytes = subst (Consumes _ _) (sym (joined _ _ _ _ _ before.within read.bound.0)) (Consumes-trans _ _ _ _ _ before.bytes read.bytes.0);
    }
