-- Lines that are accepted are the text of their words, which stand in their order; and such a text is accepted. Assumes nothing.
use Prim.Native.Nat.{ℕ, zero, suc, ◌+◌, ◌%◌, ◌≤◌, ◌<◌}
use mathlib.Core.Path.{◌≡◌, refl, ap, ap₂, sym, ◌∙◌, subst}
use mathlib.Core.Bool.{Bool, true, false, cond, not, ◌&&◌, ◌||◌, true≢false}
use mathlib.Core.List.{List, [], ◌∷◌, ◌++◌}
use native.Mathlib.Omega.{arith}
use lib.Dec.{eqb, ltb}
use lib.ListN.{length, length-append}
use borrow.Author.Tests.{eq-eqb, ne_eqb, eqb-true, eqb-false, lt-ltb, le-ltb, ltb-false}
use Rattle.text.specs.Split.{has, until, past, same}
use Rattle.text.proofs.SplitLaws.{join, join_parts, same_equal, same_refl}
use Rattle.names.specs.Names.{newline}
use Rattle.std.specs.declared.option.Option.{Option}
use Rattle.std.specs.declared.option.Option.TheVariants.{Some, None}
use Rattle.lines.specs.Form.{line_names, line_of, pair_text}
use Rattle.lines.specs.Words.{Word, is_empty}
use Rattle.lines.specs.Ways.{Read, words, turned, with_word, falls, unaligned, zero_before, refuses19, judged, behind, ended, read_lines, has_names, read_all, lines_text, text_of}
use Rattle.lines.proofs.LineLaws.{line_fits, line_join, text_line, pair_some}
use Rattle.lines.proofs.WordLaws.{Follows, Rises}

-- lines that are turned back have no words
pub no_words : {n r : ℕ} {xs : List Word} {A : Type 0} → turned n r ≡ words xs → A
no_words h = let z : ◌≡◌ {A = ℕ} 0 1 = cc in absurd (omega arith)

-- ── The conditions of 19 ──
none_empty : (l : List ℕ) → is_empty l ≡ true → l ≡ []
none_empty [] h = refl
none_empty (x ∷ xs) h = absurd (true≢false (sym h))

-- what holds of a line where none of them does
pub in_order : (least a w : ℕ) (rest : List ℕ) → refuses19 least a w rest ≡ false → (least ≤ a) × (a % 4 ≡ 0) × (w ≡ 0 → rest ≡ [])
unfolding refuses19 falls unaligned zero_before
in_order least a w rest h = go (ltb a least) refl (eqb (a % 4) 0) refl (eqb w 0) refl (is_empty rest) refl h
  where
    go : (s : Bool) → ltb a least ≡ s → (t : Bool) → eqb (a % 4) 0 ≡ t → (u : Bool) → eqb w 0 ≡ u → (v : Bool) → is_empty rest ≡ v → (s || not t || (u && not v)) ≡ false → (least ≤ a) × (a % 4 ≡ 0) × (w ≡ 0 → rest ≡ [])
    go true es t et u eu v ev k = absurd (true≢false k)
    go false es false et u eu v ev k = absurd (true≢false k)
    go false es true et true eu false ev k = absurd (true≢false k)
    go false es true et true eu true ev k = (ltb-false a least es, eqb-true (a % 4) 0 et, λ z. none_empty rest ev)
    go false es true et false eu v ev k = (ltb-false a least es, eqb-true (a % 4) 0 et, λ z. absurd (eqb-false w 0 eu z))

pub order_kept : (least a w : ℕ) (rest : List ℕ) → least ≤ a → a % 4 ≡ 0 → (w ≡ 0 → rest ≡ []) → refuses19 least a w rest ≡ false
unfolding refuses19 falls unaligned zero_before
order_kept least a w rest h k z = rw (le-ltb a least h, eq-eqb (a % 4) 0 k) (go (eqb w 0) refl)
  where
    go : (u : Bool) → eqb w 0 ≡ u → (u && not (is_empty rest)) ≡ false
    go true e = ap (λ (l : List ℕ). not (is_empty l)) (z (eqb-true w 0 e))
    go false e = refl

-- each of them turns a line back
pub falls_refused : (least a w : ℕ) (rest : List ℕ) → a < least → refuses19 least a w rest ≡ true
unfolding refuses19 falls
falls_refused least a w rest h = rw (lt-ltb a least h)

pub unaligned_refused : (least a w : ℕ) (rest : List ℕ) → least ≤ a → (a % 4 ≡ 0 → ⊥) → refuses19 least a w rest ≡ true
unfolding refuses19 falls unaligned
unaligned_refused least a w rest h k = rw (le-ltb a least h, ne_eqb (a % 4) 0 k)

pub zero_refused : (least a w : ℕ) (rest : List ℕ) → least ≤ a → a % 4 ≡ 0 → w ≡ 0 → is_empty rest ≡ false → refuses19 least a w rest ≡ true
unfolding refuses19 falls unaligned zero_before
zero_refused least a w rest h k z e = rw (le-ltb a least h, eq-eqb (a % 4) 0 k, eq-eqb w 0 z, e)

-- ── Accepted lines ──
no_text : (xs : List Word) → lines_text xs ≡ [] → xs ≡ []
unfolding lines_text
no_text [] h = refl
no_text (x ∷ xs) h = absurd (let z : ⊥ = omega (arith, ap length h, length-append (pair_text x.address x.word) (lines_text xs), pair_some x.address x.word) in z)

-- the rest is read as its words
abbrev Reads : Read → ℕ → List ℕ → Type 0
Reads q least l = (xs : List Word) → q ≡ words xs → (l ≡ lines_text xs) × Rises least xs

with_words : (x : Word) (q : Read) (xs : List Word) → with_word x q ≡ words xs → (ys : List Word) × (q ≡ words ys) × (xs ≡ x ∷ ys)
with_words x (words ys) xs h = (ys, refl, let e : xs ≡ x ∷ ys = cc in e)
with_words x (turned n r) xs h = no_words h

-- a line in front
judged_reads : (n least : ℕ) (l : List ℕ) (x : Option (ℕ × ℕ)) (q : Read) → has newline l ≡ true → line_of (until newline l) ≡ x → Reads q (behind x) (past newline l) → Reads (judged n least (past newline l) x q) least l
judged_reads n least l None q h e ih xs k = no_words k
judged_reads n least l (Some (a, w)) q h e ih xs k = go (refuses19 least a w (past newline l)) refl k
  where
    here : Word
    here = record { address = a; word = w }

    go : (t : Bool) → refuses19 least a w (past newline l) ≡ t → cond t (turned n 19) (with_word here q) ≡ words xs → (l ≡ lines_text xs) × Rises least xs
    go true f p = no_words p
    go false f p =
        let s = with_words here q xs p in
        let ys = s.0 in
        let r = ih ys s.1 in
        let o = in_order least a w (past newline l) f in
        let b = line_fits (until newline l) a w e in
        let z : w ≡ 0 → ys ≡ [] = λ v. no_text ys (sym r.0 ∙ o.2 v) in
        let g : Follows least here ys = record { rises = o.0; aligned = o.1; address_fits = b.0; word_fits = b.1; zero_last = z } in
        let t : l ≡ pair_text a w ++ lines_text ys = line_join l a w h e ∙ ap (λ (v : List ℕ). pair_text a w ++ v) r.0 in
        (t ∙ sym (ap lines_text s.2 ∙ unfold lines_text in refl), subst (Rises least) (sym s.2) (g, r.1))

none_reads : (least : ℕ) → Reads (words []) least []
none_reads least [] h = (unfold lines_text in refl, tt)
none_reads least (x ∷ xs) h = let z : ◌≡◌ {A = ℕ} 0 1 = cc in absurd (omega arith)

pub lines_read : (turns n least : ℕ) (l : List ℕ) → Reads (read_lines turns n least l) least l
unfolding read_lines
lines_read zero n least l = go l
  where
    go : (k : List ℕ) → Reads (cond (is_empty k) (words []) (turned n 18)) least k
    go [] = none_reads least
    go (x ∷ xs) = λ ys h. no_words h
lines_read (suc turns) n least l = go l (has newline l) refl (lines_read turns (suc n) (behind (line_of (until newline l))) (past newline l))
  where
    Rest : List ℕ → Type 0
    Rest k = Reads (read_lines turns (suc n) (behind (line_of (until newline k))) (past newline k)) (behind (line_of (until newline k))) (past newline k)

    go : (k : List ℕ) (t : Bool) → has newline k ≡ t → Rest k
        → Reads (cond (is_empty k) (words []) (ended t n (judged n least (past newline k) (line_of (until newline k)) (read_lines turns (suc n) (behind (line_of (until newline k))) (past newline k))))) least k
    go [] t e ih = none_reads least
    go (x ∷ xs) true e ih = judged_reads n least (x ∷ xs) (line_of (until newline (x ∷ xs))) _ e refl ih
    go (x ∷ xs) false e ih = λ ys h. no_words h

-- accepted lines are the text of their words
pub all_read : (l : List ℕ) → (xs : List Word) → read_all l ≡ words xs → (l ≡ text_of xs) × Rises 0 xs
unfolding read_all has_names text_of
all_read l xs h = go (has newline l) refl (same (until newline l) line_names) refl h
  where
    go : (t : Bool) → has newline l ≡ t → (u : Bool) → same (until newline l) line_names ≡ u → cond (t && u) (read_lines (length (past newline l)) 2 0 (past newline l)) (turned 1 18) ≡ words xs → (l ≡ line_names ++ (newline ∷ lines_text xs)) × Rises 0 xs
    go true e true f k =
        let r = lines_read (length (past newline l)) 2 0 (past newline l) xs k in
        (join newline l e ∙ ap₂ (λ (x y : List ℕ). x ++ (newline ∷ y)) (same_equal (until newline l) line_names f) r.0, r.1)
    go true e false f k = no_words k
    go false e u f k = no_words k

-- ── The text of words is accepted ──
lines_empty : (turns n least : ℕ) → read_lines turns n least [] ≡ words []
unfolding read_lines
lines_empty zero n least = refl
lines_empty (suc turns) n least = refl

has_some : (b : ℕ) (l : List ℕ) → has b l ≡ true → is_empty l ≡ false
unfolding has
has_some b [] h = absurd (true≢false (sym h))
has_some b (x ∷ xs) h = refl

-- a line that is not turned back, in front
line_read : (turns n least a w : ℕ) (l rest : List ℕ) → has newline l ≡ true → line_of (until newline l) ≡ Some (a, w) → past newline l ≡ rest → refuses19 least a w rest ≡ false
    → read_lines (suc turns) n least l ≡ with_word (record { address = a; word = w }) (read_lines turns (suc n) (a + 4) rest)
unfolding read_lines
line_read turns n least a w l rest h e p f = rw (has_some newline l h, h, e, p, f)

pub text_read : (turns n least : ℕ) (xs : List Word) → Rises least xs → length xs ≤ turns → read_lines turns n least (lines_text xs) ≡ words xs
unfolding lines_text
text_read turns n least [] r h = lines_empty turns n least
text_read zero n least (x ∷ xs) r h = absurd (let z : ⊥ = omega arith in z)
text_read (suc turns) n least (x ∷ xs) r h =
    let f = r.0 in
    let t = text_line x.address x.word f.address_fits f.word_fits (lines_text xs) in
    let o = order_kept least x.address x.word (lines_text xs) f.rises f.aligned (λ z. ap lines_text (f.zero_last z)) in
    line_read turns n least x.address x.word (pair_text x.address x.word ++ lines_text xs) (lines_text xs) t.0 t.1 t.2 o
    ∙ ap (with_word x) (text_read turns (suc n) (x.address + 4) xs r.1 (omega arith))

lines_length : (xs : List Word) → length xs ≤ length (lines_text xs)
unfolding lines_text
lines_length [] = omega arith
lines_length (x ∷ xs) = omega (arith, length-append (pair_text x.address x.word) (lines_text xs), pair_some x.address x.word, lines_length xs)

pub text_accepted : (xs : List Word) → Rises 0 xs → read_all (text_of xs) ≡ words xs
unfolding read_all has_names text_of
text_accepted xs r =
    let p = join_parts newline line_names (lines_text xs) (unfold has in refl) in
    rw (p.0, p.1, p.2, same_refl line_names) (text_read (length (lines_text xs)) 2 0 xs r (lines_length xs))
