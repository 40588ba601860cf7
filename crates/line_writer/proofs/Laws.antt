-- The lines of an image's words, one behind the other in a buffer. Assumes nothing.
use Prim.Native.Nat.{ℕ, zero, suc, ◌+◌, ◌*◌, ◌-◌, ◌/◌, ◌≤◌, ◌<◌}
use mathlib.Core.Path.{◌≡◌, refl, ap, ap₂, sym, ◌∙◌, subst}
use mathlib.Core.Bool.{Bool, true, false, cond}
use mathlib.Core.List.{List, [], ◌∷◌, ◌++◌}
use native.Mathlib.Omega.{arith}
use lib.Dec.{eqb}
use lib.ListN.{length, get_or, take, drop, length-append, length-drop}
use Rattle.std.specs.Simd.{first_chunks}
use Rattle.std.proofs.lemmas.List.{get_or-take, get_or-drop}
use lib.Seq.{drop-cons, take_all}
use borrow.Author.Tests.{ne_eqb, le-ltb}
use Rattle.text.specs.Put.{over, has_room, wrote, place_after}
use Rattle.text.proofs.PutLaws.{over_over, over_none, length_over, wrote_fits}
use Rattle.lines.specs.Form.{pair_text}
use Rattle.lines.specs.Words.{is_empty, word_of, has_line, kept, words_from}
use Rattle.lines.specs.Ways.{length_fits, lines_text, text_of, lines_of, output}
use Rattle.lines.proofs.LineLaws.{pair_most}
use Rattle.line_writer.specs.Call.{place_after_word, wrote_word, room_for, in_front, called}

pub is_empty_lem : (l : List ℕ) → eqb (length l) 0 ≡ is_empty l
is_empty_lem [] = refl
is_empty_lem (x ∷ xs) = ne_eqb (length (x ∷ xs)) 0 (λ e. omega arith)

-- what is left of an image from a place on, as a part of it is cut
pub rest_part : (l : List ℕ) (i : ℕ) → take (length l - i) (drop i l) ≡ drop i l
rest_part l i = take_all (length l - i) (drop i l) (omega (arith, length-drop i l))

-- the word at a place
abbrev pub word_at : List ℕ → ℕ → ℕ
word_at m at = word_of (get_or m at 0) (get_or m (at + 1) 0) (get_or m (at + 2) 0) (get_or m (at + 3) 0)

-- an image from a place on, four bytes of which lie in it
four_bytes : (l : List ℕ) (i : ℕ) → i + 4 ≤ length l → drop i l ≡ get_or l i 0 ∷ get_or l (i + 1) 0 ∷ get_or l (i + 2) 0 ∷ get_or l (i + 3) 0 ∷ drop (i + 4) l
four_bytes l i h =
    drop-cons l i 0 (omega arith)
    ∙ ap (λ (r : List ℕ). get_or l i 0 ∷ r) (next (suc i) (i + 1) (omega arith) (omega arith))
    ∙ ap (λ (r : List ℕ). get_or l i 0 ∷ get_or l (i + 1) 0 ∷ r) (next (suc (i + 1)) (i + 2) (omega arith) (omega arith))
    ∙ ap (λ (r : List ℕ). get_or l i 0 ∷ get_or l (i + 1) 0 ∷ get_or l (i + 2) 0 ∷ r) (next (suc (i + 2)) (i + 3) (omega arith) (omega arith))
    ∙ ap (λ (n : ℕ). get_or l i 0 ∷ get_or l (i + 1) 0 ∷ get_or l (i + 2) 0 ∷ get_or l (i + 3) 0 ∷ drop n l) (let e : suc (i + 3) ≡ i + 4 = omega arith in e)
  where
    next : (k j : ℕ) → k ≡ j → j < length l → drop k l ≡ get_or l j 0 ∷ drop (suc j) l
    next k j e p = ap (λ (n : ℕ). drop n l) e ∙ drop-cons l j 0 p

-- byte j of the k-th four bytes of an image
four_at : (m : List ℕ) (n k j : ℕ) → k < n → j < 4 → get_or (get_or (first_chunks 4 n m) k []) j 0 ≡ get_or m (4 * k + j) 0
four_at m zero k j h p = absurd (let e : ⊥ = omega arith in e)
four_at m (suc n) zero j h p = get_or-take 4 m j 0 p ∙ ap (λ (i : ℕ). get_or m i 0) (let e : j ≡ 4 * 0 + j = omega arith in e)
four_at m (suc n) (suc k) j h p = four_at (drop 4 m) n k j (omega arith) p ∙ get_or-drop 4 m (4 * k + j) 0 ∙ ap (λ (i : ℕ). get_or m i 0) (let e : 4 + (4 * k + j) ≡ 4 * suc k + j = omega arith in e)

-- the word of the k-th four bytes
pub word_four : (m : List ℕ) (n k : ℕ) → k < n → word_at (get_or (first_chunks 4 n m) k []) 0 ≡ word_at m (4 * k)
word_four m n k h =
    let z : get_or m (4 * k + 0) 0 ≡ get_or m (4 * k) 0 = ap (λ (i : ℕ). get_or m i 0) (let e : 4 * k + 0 ≡ 4 * k = omega arith in e) in
    omega (arith, four_at m n k 0 h (omega arith), z, four_at m n k 1 h (omega arith), four_at m n k 2 h (omega arith), four_at m n k 3 h (omega arith))

words_turn : (m : List ℕ) (at : ℕ) → at + 4 ≤ length m → words_from at (drop at m) ≡ kept (has_line (word_at m at) (drop (at + 4) m)) (record { address = at; word = word_at m at }) (words_from (at + 4) (drop (at + 4) m))
unfolding words_from
words_turn m at h = ap (words_from at) (four_bytes m at h)

words_end : (at : ℕ) (m : List ℕ) → length m < 4 → words_from at m ≡ []
unfolding words_from
words_end at [] h = refl
words_end at (x ∷ []) h = refl
words_end at (x ∷ y ∷ []) h = refl
words_end at (x ∷ y ∷ z ∷ []) h = refl
words_end at (x ∷ y ∷ z ∷ u ∷ m) h = absurd (let e : ⊥ = omega arith in e)

-- the lines of the words from a place on
abbrev pub lines_from : List ℕ → ℕ → List ℕ
lines_from m at = lines_text (words_from at (drop at m))

-- out holds the lines of the words before a place, and there is room for the lines of the rest
pub record Going (m d : List ℕ) (start at place : ℕ) (out : List ℕ) : Type 0 where
  pub left : over out place (lines_from m at) ≡ over d start (lines_from m 0)
  pub places : place + length (lines_from m at) ≡ start + length (lines_from m 0)
  pub room : place + 18 * ((length m - at) / 4) ≤ length out
  pub inside : at ≤ length m
  pub long : length out ≡ length d

pub going_start : (m d : List ℕ) (start : ℕ) → start + 18 * (length m / 4) ≤ length d → Going m d start 0 start d
going_start m d start h = record { left = refl; places = refl; room = omega (arith, h); inside = omega arith; long = refl }

module _ (m d : List ℕ) (start at place : ℕ) (out : List ℕ) (g : Going m d start at place out) where
  -- a word without a line
  going_past : at + 4 ≤ length m → has_line (word_at m at) (drop (at + 4) m) ≡ false → Going m d start (at + 4) place out
  going_past h k =
      let e : lines_from m at ≡ lines_from m (at + 4) =
      ap lines_text (words_turn m at h ∙ ap (λ (t : Bool). kept t (record { address = at; word = word_at m at }) (words_from (at + 4) (drop (at + 4) m))) k) in
      record {
        left = ap (over out place) (sym e) ∙ g.left;
        places = ap (λ (s : List ℕ). place + length s) (sym e) ∙ g.places;
        room = omega (arith, g.room);
        inside = h;
        long = g.long;
      }

  -- a word with a line
  going_on : (p : ℕ) (o : List ℕ) → at + 4 ≤ length m → has_line (word_at m at) (drop (at + 4) m) ≡ true
      → (p ≡ place_after 18 out place (pair_text at (word_at m at))) × (o ≡ wrote 18 out place (pair_text at (word_at m at))) → Going m d start (at + 4) p o
  going_on p o h k w =
      let s = pair_text at (word_at m at) in
      let t = lines_from m (at + 4) in
      let many : (length m - at) / 4 ≡ 1 + (length m - (at + 4)) / 4 = omega arith in
      let fit : place + 18 ≤ length out = omega (arith, g.room, many) in
      let short = pair_most at (word_at m at) in
      let q = wrote_fits 18 out place s p o fit w in
      let e : lines_from m at ≡ s ++ t = ap lines_text (words_turn m at h ∙ ap (λ (t : Bool). kept t (record { address = at; word = word_at m at }) (words_from (at + 4) (drop (at + 4) m))) k) ∙ unfold lines_text in refl in
      let long : length o ≡ length out = ap length q.1 ∙ length_over out place s (omega arith) in
      record {
        left = ap₂ (λ (x : List ℕ) (n : ℕ). over x n t) q.1 q.0 ∙ over_over out place s (omega arith) t ∙ ap (over out place) (sym e) ∙ g.left;
        places = omega (arith, q.0, length-append s t, ap length e, g.places);
        room = omega (arith, q.0, short, g.room, many, long);
        inside = h;
        long = long ∙ g.long;
      }

  -- a word, with a line or without
  pub going_word : (p : ℕ) (o : List ℕ) → at + 4 ≤ length m
      → (p ≡ place_after_word out place at (word_at m at) (drop (at + 4) m)) × (o ≡ wrote_word out place at (word_at m at) (drop (at + 4) m)) → Going m d start (at + 4) p o
  unfolding place_after_word wrote_word
  going_word p o h w = go (has_line (word_at m at) (drop (at + 4) m)) refl w
    where
      go : (t : Bool) → has_line (word_at m at) (drop (at + 4) m) ≡ t → (p ≡ cond t (place_after 18 out place (pair_text at (word_at m at))) place) × (o ≡ cond t (wrote 18 out place (pair_text at (word_at m at))) out) → Going m d start (at + 4) p o
      go true k q = going_on p o h k q
      go false k q = subst (λ (x : List ℕ). Going m d start (at + 4) p x) (sym q.1) (subst (λ (x : ℕ). Going m d start (at + 4) x out) (sym q.0) (going_past h k))

  -- the end
  pub going_end : length m < at + 4 → (place ≡ start + length (lines_from m 0)) × (out ≡ over d start (lines_from m 0))
  going_end h =
      let e : lines_from m at ≡ [] = ap lines_text (words_end at (drop at m) (omega (arith, length-drop at m))) ∙ unfold lines_text in refl in
      (omega (arith, ap length e, g.places), sym (over_none out place (omega (arith, g.room))) ∙ ap (over out place) (sym e) ∙ g.left)

-- a text in front, and another behind it
pub text_behind : (d s t : List ℕ) (at p q : ℕ) (out o : List ℕ) → at + length s ≤ length d
    → (p ≡ place_after (length s) d at s) × (out ≡ wrote (length s) d at s) → (q ≡ p + length t) × (o ≡ over out p t) → (q ≡ at + length (s ++ t)) × (o ≡ over d at (s ++ t))
text_behind d s t at p q out o h a b =
    let w = wrote_fits (length s) d at s p out (omega arith) a in
    (omega (arith, w.0, b.0, length-append s t), b.1 ∙ ap₂ (λ (x : List ℕ) (n : ℕ). over x n t) w.1 w.0 ∙ over_over d at s (omega arith) t)

-- ── A call ──
module _ (limit n : ℕ) where
  pub room_text : length_fits limit n ≡ true → room_for limit n ≡ 18 + 18 * (n / 4)
  unfolding room_for
  room_text h = rw h

  pub room_refusal : length_fits limit n ≡ false → room_for limit n ≡ 18
  unfolding room_for
  room_refusal h = rw h

module _ (limit : ℕ) (m : List ℕ) where
  -- the output of an image that has lines, and of one that has none
  pub output_text : length_fits limit (length m) ≡ true → output (lines_of limit m) ≡ text_of (words_from 0 m)
  unfolding lines_of
  output_text h = rw h

  pub output_refusal : length_fits limit (length m) ≡ false → output (lines_of limit m) ≡ pair_text 0 19
  unfolding lines_of
  output_refusal h = rw h

pub called_good : (limit : ℕ) (image : List ℕ) (n : ℕ) (d : List ℕ) → n ≤ length image → has_room (room_for limit n) d 0 ≡ true → called limit image n d ≡ in_front (output (lines_of limit (take n image))) d
unfolding called
called_good limit image n d h k = rw (le-ltb (length image) n h, k)
