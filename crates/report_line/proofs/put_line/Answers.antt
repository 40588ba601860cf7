use Prim.Native.Nat.{ℕ, ◌+◌}
use mathlib.Core.Path.{◌≡◌, sym, ap, ◌∙◌}
use mathlib.Core.List.{List, [], ◌∷◌, ◌++◌, append_assoc}
use native.Mathlib.Omega.{arith}
use lib.ListN.{length}
use Rattle.text.specs.Hex.{hex_of}
use Rattle.text.specs.Put.{over}
use Rattle.text.proofs.HexLaws.{hex_length}
use Rattle.text.proofs.PutLaws.{put_first, put_more, room_left, wrote_yes}
use Rattle.names.specs.Names.{comma, newline}
use Rattle.report_line.specs.Text.{line_text}
use Rattle.report_line.proofs.put_line.Goals as goal

-- After each call, what has been written so far is one text (`Written`).
pub returns-then-has_room-clause-put : goal.returns-then-has_room-clause-put
returns-then-has_room-clause-put c =
    let a = c.args in
    let d = a.w.now.out.now in
    let s : List ℕ = line_text a.line a.op.now a.word.now a.value in
    let yes = sym c.has_room.ensures ∙ c.if-has_room.true in
    let room = room_left 34 d a.w.now.at s yes in
    let sep : List ℕ = comma ∷ [] in
    let w1 = put_first 8 (hex_of a.line) 8 (omega arith) (hex_length a.line) (omega (arith, room)) (c.put_hex.ensures.place, c.put_hex.ensures.holds) in
    let w2 = put_more 1 sep 1 w1 (omega arith) (omega arith) (omega (arith, room)) (c.put.ensures.place, c.put.ensures.holds) in
    let w3 = put_more (length a.op.now) a.op.now 7 w2 c.requires.op c.requires.op (omega (arith, room)) (c.put-then-has_room.ensures.place, c.put-then-has_room.ensures.holds) in
    let w4 = put_more 1 sep 1 w3 (omega arith) (omega arith) (omega (arith, room)) (c.put-then-has_room-2.ensures.place, c.put-then-has_room-2.ensures.holds) in
    let w5 = put_more (length a.word.now) a.word.now 7 w4 c.requires.word c.requires.word (omega (arith, room)) (c.put-then-has_room-3.ensures.place, c.put-then-has_room-3.ensures.holds) in
    let w6 = put_more 1 sep 1 w5 (omega arith) (omega arith) (omega (arith, room)) (c.put-then-has_room-4.ensures.place, c.put-then-has_room-4.ensures.holds) in
    let w7 = put_more 8 (hex_of a.value) 8 w6 (omega arith) (hex_length a.value) (omega (arith, room)) (c.put_hex-then-has_room.ensures.place, c.put_hex-then-has_room.ensures.holds) in
    let w8 = put_more 1 (newline ∷ []) 1 w7 (omega arith) (omega arith) (omega (arith, room)) (c.put-then-has_room-5.ensures.place, c.put-then-has_room-5.ensures.holds) in
    let e : ((((((hex_of a.line ++ sep) ++ a.op.now) ++ sep) ++ a.word.now) ++ sep) ++ hex_of a.value) ++ (newline ∷ []) ≡ s = simp append_assoc in
    wrote_yes 34 d a.w.now.at s _ _ yes (w8.place ∙ ap (λ (t : List ℕ). a.w.now.at + length t) e, w8.bytes ∙ ap (over d a.w.now.at) e)
