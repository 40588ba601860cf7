-- Where the buffer is long enough, its front is the whole output. Assumes nothing.
use Prim.Native.Nat.{ℕ, ◌+◌, ◌*◌, ◌/◌, ◌≤◌}
use mathlib.Core.Path.{◌≡◌, refl, ap, sym, ◌∙◌}
use mathlib.Core.Bool.{Bool, true, false, cond}
use mathlib.Core.List.{List, [], ◌∷◌, ◌++◌}
use native.Mathlib.Omega.{arith}
use lib.Dec.{ltb}
use lib.ListN.{length, take, drop, length-append}
use lib.Seq.{take_at, length-take-le}
use borrow.Author.Tests.{le-leb, ltb-false}
use Rattle.text.specs.Put.{over, has_room}
use Rattle.text.proofs.PutLaws.{length_over, room_left}
use Rattle.names.specs.Names.{newline}
use Rattle.lines.specs.Form.{line_names, pair_text}
use Rattle.lines.specs.Words.{word_of, has_line, kept, words_from}
use Rattle.lines.specs.Ways.{gives, refusal, length_fits, lines_text, text_of, lines_of, output}
use Rattle.lines.specs.Settings.{image_limit, file_lines}
use Rattle.lines.proofs.LineLaws.{pair_most}
use Rattle.lines.proofs.Theorem.{fits_parts}
use Rattle.std.specs.declared.result.Result.TheVariants.{Ok}
use Rattle.line_writer.specs.declared.NoLines.TheVariants.{ShortBuffer, WrongCounts}
use Rattle.line_writer.specs.Call.{room_for, LinesCall, in_front, left, called, Written, file_room, FileWritten}
use Rattle.line_writer.proofs.Laws.{called_good}

-- the front of a buffer in which a text was put
in_front_lem : (s d : List ℕ) (n : ℕ) → (in_front s d).told ≡ Ok n → take n (in_front s d).out ≡ s
unfolding over
in_front_lem s d n h =
    let e : length s ≡ n = cc in
    ap (λ (k : ℕ). take k (in_front s d).out) (sym e) ∙ take_at s (drop (0 + length s) d) (length s) refl

front : (limit : ℕ) (image : List ℕ) (n : ℕ) (d : List ℕ) (size : ℕ) → (called limit image n d).told ≡ Ok size → take size (called limit image n d).out ≡ output (lines_of limit (take n image))
unfolding called
front limit image n d size h = go (ltb (length image) n) (has_room (room_for limit n) d 0) h
  where
    s : List ℕ
    s = output (lines_of limit (take n image))

    go : (t u : Bool) → (cond t (left WrongCounts d) (cond u (in_front s d) (left ShortBuffer d))).told ≡ Ok size → take size (cond t (left WrongCounts d) (cond u (in_front s d) (left ShortBuffer d))).out ≡ s
    go true u k = let z : ◌≡◌ {A = ℕ} 0 1 = cc in absurd (omega arith)
    go false true k = in_front_lem s d size k
    go false false k = let z : ◌≡◌ {A = ℕ} 0 1 = cc in absurd (omega arith)

enough : (limit : ℕ) (image : List ℕ) (n : ℕ) (d : List ℕ) → n ≤ length image → room_for limit n ≤ length d → (called limit image n d).told ≡ Ok (length (output (lines_of limit (take n image))))
enough limit image n d h k = ap (λ (c : LinesCall). c.told) (called_good limit image n d h (found limit n d k))
  where
    found : (limit n : ℕ) (d : List ℕ) → room_for limit n ≤ length d → has_room (room_for limit n) d 0 ≡ true
    found limit n d k = unfold has_room in le-leb (0 + room_for limit n) (length d) (omega arith)

-- ── The room ──
lines_most : (at : ℕ) (m : List ℕ) → length (lines_text (words_from at m)) ≤ 18 * (length m / 4)
unfolding words_from lines_text
lines_most at [] = omega arith
lines_most at (x ∷ []) = omega arith
lines_most at (x ∷ y ∷ []) = omega arith
lines_most at (x ∷ y ∷ z ∷ []) = omega arith
lines_most at (x ∷ y ∷ z ∷ u ∷ rest) = go (lines_most (at + 4) rest) (has_line w rest)
  where
    w : ℕ
    w = word_of x y z u

    go : length (lines_text (words_from (at + 4) rest)) ≤ 18 * (length rest / 4) → (t : Bool) → length (lines_text (kept t (record { address = at; word = w }) (words_from (at + 4) rest))) ≤ 18 * (length (x ∷ y ∷ z ∷ u ∷ rest) / 4)
    go ih true = omega (arith, ih, pair_most at w, length-append (pair_text at w) (lines_text (words_from (at + 4) rest)))
    go ih false = omega (arith, ih)

room : (limit : ℕ) (m : List ℕ) → length (output (lines_of limit m)) ≤ room_for limit (length m)
unfolding lines_of room_for text_of
room limit m = go (length_fits limit (length m))
  where
    go : (t : Bool) → length (output (cond t (gives (line_names ++ (newline ∷ lines_text (words_from 0 m)))) (refusal 0 19))) ≤ cond t (18 + 18 * (length m / 4)) 18
    go true = omega (arith, lines_most 0 m)
    go false = pair_most 0 19

-- the output that was put where there is room lies in the buffer
pub output_fits : (limit : ℕ) (m d : List ℕ) (at p : ℕ) (o : List ℕ) → at + room_for limit (length m) ≤ length d → p ≡ at + length (output (lines_of limit m)) → o ≡ over d at (output (lines_of limit m)) → p ≤ length o
output_fits limit m d at p o h e f =
    let fit = room limit m in
    omega (arith, h, e, fit, ap length f, length_over d at (output (lines_of limit m)) (omega (arith, h, fit)))

-- what a call tells is never longer than its buffer
pub told_fits : (limit : ℕ) (image : List ℕ) (n : ℕ) (d : List ℕ) (size : ℕ) → (called limit image n d).told ≡ Ok size → size ≤ length d
unfolding called
told_fits limit image n d size h = go (ltb (length image) n) refl (has_room (room_for limit n) d 0) refl h
  where
    s : List ℕ
    s = output (lines_of limit (take n image))

    go : (t : Bool) → ltb (length image) n ≡ t → (u : Bool) → has_room (room_for limit n) d 0 ≡ u → (cond t (left WrongCounts d) (cond u (in_front s d) (left ShortBuffer d))).told ≡ Ok size → size ≤ length d
    go true e u f k = let z : ◌≡◌ {A = ℕ} 0 1 = cc in absurd (omega arith)
    go false e true f k =
        let q : length s ≡ size = cc in
        omega (arith, room limit (take n image), ap (room_for limit) (length-take-le n image (ltb-false (length image) n e)), room_left (room_for limit n) d 0 s f)
    go false e false f k = let z : ◌≡◌ {A = ℕ} 0 1 = cc in absurd (omega arith)

pub written : Written
written = record { front = front; enough = enough; room = room }

-- ── The programs ──
file_room_lem : (n : ℕ) → room_for image_limit n ≤ file_room
unfolding room_for
file_room_lem n = go (length_fits image_limit n) refl
  where
    go : (t : Bool) → length_fits image_limit n ≡ t → cond t (18 + 18 * (n / 4)) 18 ≤ file_room
    go true e = omega (arith, (fits_parts image_limit n e).3)
    go false e = omega arith

file_front : (image : List ℕ) (n : ℕ) (d : List ℕ) → n ≤ length image → file_room ≤ length d → let s = output (file_lines (take n image)) in
    ((called image_limit image n d).told ≡ Ok (length s)) × (take (length s) (called image_limit image n d).out ≡ s)
file_front image n d h k =
    let e = enough image_limit image n d h (omega (arith, file_room_lem n)) in
    (e, front image_limit image n d (length (output (file_lines (take n image)))) e)

pub file_written : FileWritten
file_written = record { front = file_front }
