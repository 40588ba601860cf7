use Prim.Native.Nat.{ℕ, ◌+◌}
use mathlib.Core.Path.{◌≡◌, refl, ap, sym, ◌∙◌}
use mathlib.Core.List.{List, [], ◌∷◌, ◌++◌, append_assoc}
use native.Mathlib.Omega.{arith}
use borrow.Author.Rules.{rules}
use lib.ListN.{length}
use Rattle.text.specs.Hex.{hex_of}
use Rattle.text.specs.Put.{over}
use Rattle.text.proofs.HexLaws.{hex_length}
use Rattle.text.proofs.PutLaws.{put_first, put_more, room_left, wrote_yes, wrote_no}
use Rattle.names.specs.Names.{comma, newline}
use Rattle.lines.specs.Form.{pair_text}
use Rattle.line_writer.proofs.put_pair.Goals as goal

-- After each call, what has been written so far is one text (`Written`).
pub returns-then-has_room : goal.returns-then-has_room
unfolding pair_text
returns-then-has_room c =
    let w = c.args.w.now in
    let d = w.out.now in
    let yes = sym c.has_room.ensures ∙ c.if-has_room.true in
    let room = room_left 18 d w.at (pair_text c.args.a c.args.b) yes in
    let a = c.put_hex.ensures in
    let b = c.put.ensures in
    let e = c.put_hex-then-has_room.ensures in
    let f = c.put-then-has_room.ensures in
    let w1 = put_first {d = d} {at = w.at} 8 (hex_of c.args.a) 8 (omega arith) (hex_length c.args.a) (omega (arith, room)) (a.place, a.holds) in
    let w2 = put_more 1 (comma ∷ []) 1 w1 (omega arith) (omega arith) (omega (arith, room)) (b.place, b.holds) in
    let w3 = put_more 8 (hex_of c.args.b) 8 w2 (omega arith) (hex_length c.args.b) (omega (arith, room)) (e.place, e.holds) in
    let w4 = put_more 1 (newline ∷ []) 1 w3 (omega arith) (omega arith) (omega (arith, room)) (f.place, f.holds) in
    let s : ((hex_of c.args.a ++ (comma ∷ [])) ++ hex_of c.args.b) ++ (newline ∷ []) ≡ pair_text c.args.a c.args.b = simp append_assoc in
    let q = wrote_yes 18 d w.at (pair_text c.args.a c.args.b) _ _ yes (w4.place ∙ ap (λ (t : List ℕ). w.at + length t) s, w4.bytes ∙ ap (over d w.at) s) in
    record { same_buffer = search rules; place = q.0; holds = q.1 }

pub returns-else-has_room : goal.returns-else-has_room
returns-else-has_room c =
    let w = c.args.w.now in
    let q = wrote_no 18 w.out.now w.at (pair_text c.args.a c.args.b) (sym c.has_room.ensures ∙ c.if-has_room.false) in
    record { same_buffer = refl; place = q.0; holds = q.1 }
