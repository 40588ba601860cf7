use Prim.Native.Nat.{ℕ, ◌+◌}
use mathlib.Core.Path.{◌≡◌, refl, ap, sym, ◌∙◌}
use mathlib.Core.List.{List, [], ◌∷◌, ◌++◌}
use native.Mathlib.Omega.{arith}
use borrow.Author.Rules.{rules}
use lib.ListN.{length}
use Rattle.text.specs.Put.{over}
use Rattle.text.proofs.PutLaws.{put_first, wrote_fits}
use Rattle.lines.specs.Form.{pair_text}
use Rattle.lines.specs.Words.{words_from}
use Rattle.lines.specs.Ways.{lines_text, text_of, lines_of, output}
use Rattle.lines.proofs.Theorem.{fits_parts}
use Rattle.line_writer.proofs.Laws.{text_behind, room_text, room_refusal, output_text, output_refusal}
use Rattle.line_writer.proofs.Front.{output_fits}
use Rattle.line_writer.proofs.put_output.Goals as goal

-- the names line
abbrev name_line : List ℕ
name_line = 97 ∷ 116 ∷ 44 ∷ 119 ∷ 111 ∷ 114 ∷ 100 ∷ 10 ∷ []

pub put_words-requires : goal.put_words-requires
put_words-requires c =
    let n = length c.args.image.now in
    let yes = sym c.length_fits.ensures ∙ c.if-length_fits.true in
    let room = room_text c.args.limit n yes in
    let e = c.put.ensures in
    let w = put_first {d = c.args.w.now.out.now} {at = c.args.w.now.at} 8 name_line 8 (omega arith) (omega arith) (omega (arith, c.requires, room)) (e.place, e.holds) in
    record { size = (fits_parts c.args.limit n yes).2; room = omega (arith, c.requires, room, w.place, w.long) }

pub returns-then-length_fits : goal.returns-then-length_fits
returns-then-length_fits c =
    let n = length c.args.image.now in
    let w = c.args.w.now in
    let yes = sym c.length_fits.ensures ∙ c.if-length_fits.true in
    let e = c.put.ensures in
    let f = c.put_words.ensures in
    let q = text_behind w.out.now name_line (lines_text (words_from 0 c.args.image.now)) w.at _ _ _ _ (omega (arith, c.requires, room_text c.args.limit n yes)) (e.place, e.holds) (f.place, f.holds) in
    let s : output (lines_of c.args.limit c.args.image.now) ≡ name_line ++ lines_text (words_from 0 c.args.image.now) = output_text c.args.limit c.args.image.now yes ∙ unfold text_of in refl in
    let p = q.0 ∙ ap (λ (t : List ℕ). w.at + length t) (sym s) in
    let o = q.1 ∙ ap (over w.out.now w.at) (sym s) in
    record { same_buffer = search rules; place = p; holds = o; fits = output_fits c.args.limit c.args.image.now w.out.now w.at _ _ c.requires p o }

pub returns-else-length_fits : goal.returns-else-length_fits
returns-else-length_fits c =
    let n = length c.args.image.now in
    let w = c.args.w.now in
    let no = sym c.length_fits.ensures ∙ c.if-length_fits.false in
    let e = c.put_pair.ensures in
    let q = wrote_fits 18 w.out.now w.at (pair_text 0 19) _ _ (omega (arith, c.requires, room_refusal c.args.limit n no)) (e.place, e.holds) in
    let s = output_refusal c.args.limit c.args.image.now no in
    let p = q.0 ∙ ap (λ (t : List ℕ). w.at + length t) (sym s) in
    let o = q.1 ∙ ap (over w.out.now w.at) (sym s) in
    record { same_buffer = search rules; place = p; holds = o; fits = output_fits c.args.limit c.args.image.now w.out.now w.at _ _ c.requires p o }
