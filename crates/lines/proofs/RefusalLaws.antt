-- Lines are turned back by the conditions of the rules: with a number exactly when its condition holds and none before it does. Assumes nothing.
use Prim.Native.Nat.{ℕ, zero, suc, ◌+◌, ◌%◌, ◌≤◌}
use mathlib.Core.Path.{◌≡◌, refl, ap, ap₂, sym, ◌∙◌}
use mathlib.Core.Bool.{Bool, true, false, cond, not, ◌&&◌, ◌||◌, true≢false}
use mathlib.Core.Logic.{◌⊎◌, inl, inr, ◌↔◌}
use mathlib.Core.List.{List, [], ◌∷◌, ◌++◌}
use mathlib.Core.Option.{Option, none, some}
use native.Mathlib.Omega.{arith}
use lib.Dec.{eqb, leb, ltb}
use lib.ListN.{length}
use borrow.Author.Tests.{ne_eqb, eqb-true, le-leb, lt-leb, le-ltb, ltb-true, ltb-false}
use Rattle.text.specs.Split.{has, until, past, same}
use Rattle.text.specs.Hex.{number, value_of}
use Rattle.text.proofs.SplitLaws.{past_none, past_shorter}
use Rattle.text.proofs.HexLaws.{value_text, value_bound, hex_lacks}
use Rattle.names.specs.Names.{comma, newline}
use Rattle.names.proofs.NameLaws.{comma_no_digit}
use Rattle.model.specs.step.Checks.{memory_fits}
use Rattle.model.proofs.Calls.{first_holding, none_some}
use Rattle.listing.specs.Refusals.{parts, Written, lines_in, first_line, field, is_value, GivenAt}
use Rattle.listing.proofs.RefusalLaws.{parts_split, split, some_part, written, lines_end, lines_split, first_line_lem, rest_lines, value_read, first_of, first_at, given_at, at_given}
use Rattle.std.specs.declared.option.Option.TheVariants.{Some, None}
use Rattle.std.specs.declared.option.Option as option
use Rattle.lines.specs.Form.{line_names, pair_of, line_of}
use Rattle.lines.specs.Words.{Word, is_empty, image_from, end_from}
use Rattle.lines.specs.Ways.{Converted, gives, refusal, length_fits, Read, words, turned, with_word, falls, unaligned, zero_before, refuses19, judged, behind, ended, read_lines, has_names, read_all, made, image_of}
use Rattle.lines.specs.Refusals.{address_in, word_in, other_names, misshapen, not_above, no_multiple, zero_followed, misplaced, wrong_length, length_of, of_line, numbered, conditions_for, LinesRefused}
use Rattle.lines.proofs.ReadLaws.{no_words, in_order}

-- ── Shape and spelling ──
abbrev line : List ℕ → Written
line t = record { text = t; ended = true }

-- a text with a comma is no value
comma_misspelled : (s : List ℕ) → has comma s ≡ true → value_of s ≡ None
comma_misspelled s h = go (value_of s) refl
  where
    go : (v : option.Option ℕ) → value_of s ≡ v → v ≡ None
    go None e = refl
    go (Some n) e =
        let f : has comma s ≡ false = ap (has comma) (value_text s n e) ∙ hex_lacks comma n comma_no_digit (value_bound s n e) in
        absurd (true≢false (sym h ∙ f))

empty_misspelled : value_of [] ≡ None
empty_misspelled = value_read [] ∙ unfold is_value in refl

second_misshapen : (v : option.Option ℕ) → pair_of v None ≡ None
second_misshapen (Some a) = refl
second_misshapen None = refl

-- what a line says is what its two fields, if it has two, say
abbrev Says : List ℕ → Type 0
Says t = ((line_of t ≡ None) × (misshapen (line t) ≡ true)) ⊎ ((line_of t ≡ Some (address_in (line t), word_in (line t))) × (misshapen (line t) ≡ false))

two_fields : (t u p : List ℕ) → parts comma t ≡ u ∷ p ∷ [] → line_of t ≡ pair_of (value_of u) (value_of p) → Says t
unfolding misshapen
two_fields t u p e f = go (is_value u) refl (is_value p) refl
  where
    pair : (s : Bool) → is_value u ≡ s → (v : Bool) → is_value p ≡ v → line_of t ≡ pair_of (cond s (Some (number 0 u)) None) (cond v (Some (number 0 p)) None)
    pair s a v b = f ∙ ap₂ pair_of (value_read u ∙ ap (λ (x : Bool). cond x (Some (number 0 u)) None) a) (value_read p ∙ ap (λ (x : Bool). cond x (Some (number 0 p)) None) b)

    test : (s : Bool) → is_value u ≡ s → (v : Bool) → is_value p ≡ v → not (true && eqb (length (parts comma t)) 2 && is_value (field 0 (parts comma t)) && is_value (field 1 (parts comma t))) ≡ not (s && v)
    test s a v b = ap (λ (fs : List (List ℕ)). not (true && eqb (length fs) 2 && is_value (field 0 fs) && is_value (field 1 fs))) e ∙ ap₂ (λ (x y : Bool). not (x && y)) a b

    numbers : ◌≡◌ {A = option.Option (ℕ × ℕ)} (Some (number 0 u, number 0 p)) (Some (number 0 (field 0 (parts comma t)), number 0 (field 1 (parts comma t))))
    numbers = sym (ap (λ (fs : List (List ℕ)). Some (number 0 (field 0 fs), number 0 (field 1 fs))) e)

    go : (s : Bool) → is_value u ≡ s → (v : Bool) → is_value p ≡ v → Says t
    go true a true b = inr (pair true a true b ∙ numbers, test true a true b)
    go true a false b = inl (pair true a false b, test true a false b)
    go false a v b = inl (pair false a v b, test false a v b)

-- another number of fields
other_fields : (t : List ℕ) → (length (parts comma t) ≡ 2 → ⊥) → line_of t ≡ None → Says t
unfolding misshapen
other_fields t h e = inl (e, ap (λ (x : Bool). not (true && x && is_value (field 0 (parts comma t)) && is_value (field 1 (parts comma t)))) (ne_eqb (length (parts comma t)) 2 h))

says : (t : List ℕ) → Says t
says t = first (has comma t) refl (parts_split comma t)
  where
    u : List ℕ
    u = until comma t

    p : List ℕ
    p = past comma t

    second : (s : Bool) → has comma p ≡ s → parts comma t ≡ u ∷ parts comma p → parts comma p ≡ split s comma p → Says t
    second true e f g =
        let q = some_part comma (past comma p) in
        other_fields t (λ z. omega (arith, ap length (f ∙ ap (λ (x : List (List ℕ)). u ∷ x) g ∙ ap (λ (x : List (List ℕ)). u ∷ until comma p ∷ x) q.2), z))
        (unfold line_of in ap (pair_of (value_of u)) (comma_misspelled p e) ∙ second_misshapen (value_of u))
    second false e f g = two_fields t u p (f ∙ ap (λ (x : List (List ℕ)). u ∷ x) g) (unfold line_of in refl)

    first : (s : Bool) → has comma t ≡ s → parts comma t ≡ split s comma t → Says t
    first true e f = second (has comma p) refl f (parts_split comma p)
    first false e f =
        other_fields t (λ z. omega (arith, ap length f, z))
        (unfold line_of in ap (λ (x : List ℕ). pair_of (value_of u) (value_of x)) (past_none comma t e) ∙ ap (pair_of (value_of u)) empty_misspelled ∙ second_misshapen (value_of u))

-- ── Order ──
-- the least address that may follow the one before
abbrev After : Option ℕ → ℕ → Type 0
After none least = least ≡ 0
After (some b) least = (least ≡ b + 4) × (b % 4 ≡ 0)

order_same : (before : Option ℕ) (least a : ℕ) → After before least → (falls least a || unaligned a) ≡ (not_above before a || no_multiple a)
unfolding falls unaligned not_above no_multiple
order_same none least a h = ap (λ (t : Bool). t || not (eqb (a % 4) 0)) (le-ltb a least (omega (arith, h)))
order_same (some b) least a h = go (eqb (a % 4) 0) refl
  where
    less : (t : Bool) → a % 4 ≡ 0 → ltb a least ≡ t → t ≡ leb a b
    less true e f = sym (le-leb a b (omega (arith, h.0, h.1, e, ltb-true a least f)))
    less false e f = sym (lt-leb a b (omega (arith, h.0, ltb-false a least f)))

    either : (t : Bool) → (t || true) ≡ true
    either true = refl
    either false = refl

    go : (t : Bool) → eqb (a % 4) 0 ≡ t → (ltb a least || not (eqb (a % 4) 0)) ≡ (leb a b || not (eqb (a % 4) 0))
    go true e = ap (λ (t : Bool). t || not (eqb (a % 4) 0)) (less (ltb a least) (eqb-true (a % 4) 0 e) refl)
    go false e = rw e (either (ltb a least) ∙ sym (either (leb a b)))

-- nothing follows a line where no line does
lines_none : (l : List ℕ) → is_empty l ≡ eqb (length (lines_in l)) 0
lines_none [] = sym (ap (λ (ws : List Written). eqb (length ws) 0) lines_end)
lines_none (x ∷ xs) = sym (ap (λ (ws : List Written). eqb (length ws) 0) (lines_split x xs) ∙ ne_eqb (suc (length (lines_in (past newline (x ∷ xs))))) 0 (λ e. omega arith))

or_assoc : (s t u : Bool) → (s || t || u) ≡ ((s || t) || u)
or_assoc true t u = refl
or_assoc false t u = refl

placed_same : (before : Option ℕ) (least : ℕ) (w : Written) (rest : List ℕ) → After before least → refuses19 least (address_in w) (word_in w) rest ≡ misplaced before w (lines_in rest)
unfolding refuses19 zero_before misplaced zero_followed
placed_same before least w rest h =
    or_assoc (falls least (address_in w)) (unaligned (address_in w)) (eqb (word_in w) 0 && not (is_empty rest))
    ∙ ap₂ (λ (t u : Bool). t || (eqb (word_in w) 0 && not u)) (order_same before least (address_in w) h) (lines_none rest)
    ∙ sym (or_assoc (not_above before (address_in w)) (no_multiple (address_in w)) (eqb (word_in w) 0 && not (eqb (length (lines_in rest)) 0)))

-- ── Lines from a line on ──
abbrev read_number : Read → Option (ℕ × ℕ)
read_number (words xs) = none
read_number (turned n r) = some (n, r)

with_number : (x : Word) (q : Read) → read_number (with_word x q) ≡ read_number q
with_number x (words xs) = refl
with_number x (turned n r) = refl

-- a line, and what is given for it or after it
module _ (n least : ℕ) (before : Option ℕ) (rest : List ℕ) (h : After before least) where
  judged_number : (w : Written) (q : Read) (y : Option (ℕ × ℕ)) → misshapen w ≡ false → (After (some (address_in w)) (address_in w + 4) → read_number q ≡ y)
      → read_number (judged n least rest (Some (address_in w, word_in w)) q) ≡ first_of n (first_holding (of_line before w (lines_in rest))) y
  unfolding first_of first_holding of_line
  judged_number w q y m ih = rw (m, sym (placed_same before least w rest h)) (go (refuses19 least (address_in w) (word_in w) rest) refl)
    where
      go : (t : Bool) → refuses19 least (address_in w) (word_in w) rest ≡ t
          → read_number (cond t (turned n 19) (with_word (record { address = address_in w; word = word_in w }) q)) ≡ first_of n (cond t (some 19) none) y
      go true e = unfold first_of in refl
      go false e = unfold first_of in with_number _ q ∙ ih (refl, (in_order least (address_in w) (word_in w) rest e).1)

misshapen_number : (n : ℕ) (before : Option ℕ) (w : Written) (ws : List Written) (y : Option (ℕ × ℕ)) → misshapen w ≡ true → some (n, 18) ≡ first_of n (first_holding (of_line before w ws)) y
unfolding first_of first_holding of_line
misshapen_number n before w ws y m = rw m

-- a line without its newline
open_misshapen : (t : List ℕ) → misshapen (record { text = t; ended = false }) ≡ true
unfolding misshapen
open_misshapen t = refl

lines_number : (turns n least : ℕ) (before : Option ℕ) (l : List ℕ) → length l ≤ turns → After before least → read_number (read_lines turns n least l) ≡ first_at (numbered n before (lines_in l))
unfolding read_lines numbered first_at
lines_number zero n least before l h a = go l h
  where
    go : (k : List ℕ) → length k ≤ 0 → read_number (cond (is_empty k) (words []) (turned n 18)) ≡ first_at (numbered n before (lines_in k))
    go [] p = unfold numbered first_at in rw lines_end
    go (x ∷ xs) p = absurd (let z : ⊥ = omega arith in z)
lines_number (suc turns) n least before l h a = go l h (λ low k p q r. lines_number turns (suc n) low (some k) p q r)
  where
    Next : Type 0
    Next = (low k : ℕ) (p : List ℕ) → length p ≤ turns → After (some k) low → read_number (read_lines turns (suc n) low p) ≡ first_at (numbered (suc n) (some k) (lines_in p))

    -- a line that has its newline
    whole : (u rest : List ℕ) → length rest ≤ turns → Next → Says u
        → read_number (judged n least rest (line_of u) (read_lines turns (suc n) (behind (line_of u)) rest)) ≡ first_of n (first_holding (of_line before (line u) (lines_in rest))) (first_at (numbered (suc n) (some (address_in (line u))) (lines_in rest)))
    whole u rest p ih (inl e) =
        ap (λ (x : option.Option (ℕ × ℕ)). read_number (judged n least rest x (read_lines turns (suc n) (behind x) rest))) e.0
        ∙ misshapen_number n before (line u) (lines_in rest) (first_at (numbered (suc n) (some (address_in (line u))) (lines_in rest))) e.1
    whole u rest p ih (inr e) =
        ap (λ (x : option.Option (ℕ × ℕ)). read_number (judged n least rest x (read_lines turns (suc n) (behind x) rest))) e.0
        ∙ judged_number n least before rest a (line u) (read_lines turns (suc n) (address_in (line u) + 4) rest) (first_at (numbered (suc n) (some (address_in (line u))) (lines_in rest))) e.1
        (λ b. ih (address_in (line u) + 4) (address_in (line u)) rest p b)

    by : (x : ℕ) (xs : List ℕ) → length (x ∷ xs) ≤ suc turns → Next → (t : Bool)
        → read_number (ended t n (judged n least (past newline (x ∷ xs)) (line_of (until newline (x ∷ xs))) (read_lines turns (suc n) (behind (line_of (until newline (x ∷ xs)))) (past newline (x ∷ xs)))))
        ≡ first_of n (first_holding (of_line before (written t (x ∷ xs)) (lines_in (past newline (x ∷ xs))))) (first_at (numbered (suc n) (some (address_in (written t (x ∷ xs)))) (lines_in (past newline (x ∷ xs)))))
    by x xs p ih true = whole (until newline (x ∷ xs)) (past newline (x ∷ xs)) (omega (arith, past_shorter newline x xs)) ih (says (until newline (x ∷ xs)))
    by x xs p ih false = misshapen_number n before (record { text = x ∷ xs; ended = false }) (lines_in (past newline (x ∷ xs))) _ (open_misshapen (x ∷ xs))

    go : (k : List ℕ) → length k ≤ suc turns → Next → read_number (read_lines (suc turns) n least k) ≡ first_at (numbered n before (lines_in k))
    go [] p ih = unfold read_lines numbered first_at in rw lines_end
    go (x ∷ xs) p ih = unfold read_lines numbered first_at in by x xs p ih (has newline (x ∷ xs)) ∙ sym (ap (λ (ws : List Written). first_at (numbered n before ws)) (lines_split x xs))

-- ── The length ──
with_read : (x : Word) (q : Read) (xs : List Word) → with_word x q ≡ words xs → (ys : List Word) × (q ≡ words ys) × (xs ≡ x ∷ ys)
with_read x (words ys) xs h = (ys, refl, let e : xs ≡ x ∷ ys = cc in e)
with_read x (turned n r) xs h = no_words h

abbrev Ends : Read → ℕ → List ℕ → Type 0
Ends q least l = (xs : List Word) → q ≡ words xs → length_of least (lines_in l) ≡ end_from least xs

judged_ends : (n least : ℕ) (u rest : List ℕ) (q : Read) → Ends q (address_in (line u) + 4) rest → line_of u ≡ Some (address_in (line u), word_in (line u))
    → (xs : List Word) → judged n least rest (Some (address_in (line u), word_in (line u))) q ≡ words xs → length_of least (line u ∷ lines_in rest) ≡ end_from least xs
unfolding length_of end_from
judged_ends n least u rest q ih e xs k = go (refuses19 least (address_in (line u)) (word_in (line u)) rest) k
  where
    go : (t : Bool) → cond t (turned n 19) (with_word (record { address = address_in (line u); word = word_in (line u) }) q) ≡ words xs → length_of (address_in (line u) + 4) (lines_in rest) ≡ end_from least xs
    go true f = no_words f
    go false f =
        let s = with_read (record { address = address_in (line u); word = word_in (line u) }) q xs f in
        ih s.0 s.1 ∙ sym (ap (end_from least) s.2 ∙ unfold end_from in refl)

none_ends : (least : ℕ) (xs : List Word) → words [] ≡ words xs → length_of least (lines_in []) ≡ end_from least xs
unfolding length_of end_from
none_ends least xs h = let e : [] ≡ xs = cc in ap (length_of least) lines_end ∙ ap (end_from least) e

lines_ends : (turns n least : ℕ) (l : List ℕ) → Ends (read_lines turns n least l) least l
unfolding read_lines
lines_ends zero n least l = go l
  where
    go : (k : List ℕ) → Ends (cond (is_empty k) (words []) (turned n 18)) least k
    go [] xs h = none_ends least xs h
    go (x ∷ xs) ys h = no_words h
lines_ends (suc turns) n least l = go l (λ low k. lines_ends turns (suc n) low k)
  where
    Next : Type 0
    Next = (low : ℕ) (k : List ℕ) → Ends (read_lines turns (suc n) low k) low k

    whole : (u rest : List ℕ) → Next → Says u → (xs : List Word) → judged n least rest (line_of u) (read_lines turns (suc n) (behind (line_of u)) rest) ≡ words xs → length_of least (line u ∷ lines_in rest) ≡ end_from least xs
    whole u rest ih (inl e) xs k = no_words (sym (ap (λ (x : option.Option (ℕ × ℕ)). judged n least rest x (read_lines turns (suc n) (behind x) rest)) e.0) ∙ k)
    whole u rest ih (inr e) xs k =
        judged_ends n least u rest (read_lines turns (suc n) (address_in (line u) + 4) rest) (ih (address_in (line u) + 4) rest) e.0 xs
        (sym (ap (λ (x : option.Option (ℕ × ℕ)). judged n least rest x (read_lines turns (suc n) (behind x) rest)) e.0) ∙ k)

    by : (x : ℕ) (xs : List ℕ) → Next → (t : Bool) (ys : List Word)
        → ended t n (judged n least (past newline (x ∷ xs)) (line_of (until newline (x ∷ xs))) (read_lines turns (suc n) (behind (line_of (until newline (x ∷ xs)))) (past newline (x ∷ xs)))) ≡ words ys
        → length_of least (written t (x ∷ xs) ∷ lines_in (past newline (x ∷ xs))) ≡ end_from least ys
    by x xs ih true ys k = whole (until newline (x ∷ xs)) (past newline (x ∷ xs)) ih (says (until newline (x ∷ xs))) ys k
    by x xs ih false ys k = no_words k

    go : (k : List ℕ) → Next → Ends (read_lines (suc turns) n least k) least k
    go [] ih xs h = none_ends least xs (unfold read_lines in h)
    go (x ∷ xs) ih ys h = ap (length_of least) (lines_split x xs) ∙ by x xs ih (has newline (x ∷ xs)) ys (unfold read_lines in h)

-- ── The whole input ──
abbrev converted_number : Converted → Option (ℕ × ℕ)
converted_number (gives m) = none
converted_number (refusal n r) = some (n, r)

length_same : (limit n : ℕ) → length_fits limit n ≡ not (wrong_length limit n)
unfolding length_fits memory_fits wrong_length
length_same limit n = go (eqb (n % 4096) 0) (leb 4096 n) (leb n 16777216) (leb n limit)
  where
    go : (s t u v : Bool) → cond (cond s (cond t u false) false) v false ≡ not (not (s && t && u && v))
    go true true true true = refl
    go true true true false = refl
    go true true false v = refl
    go true false u v = refl
    go false t u v = refl

-- what is given for lines, or, where nothing is, behind them
first_append : (xs ys : List (ℕ × List (ℕ × Bool))) → (n r : ℕ) → first_at xs ≡ some (n, r) → first_at (xs ++ ys) ≡ some (n, r)
unfolding first_at first_of
first_append [] ys n r h = absurd (none_some (n, r) h)
first_append (x ∷ xs) ys n r h = go (first_holding x.1) (first_append xs ys n r) h
  where
    go : (y : Option ℕ) → (first_at xs ≡ some (n, r) → first_at (xs ++ ys) ≡ some (n, r)) → first_of x.0 y (first_at xs) ≡ some (n, r) → first_of x.0 y (first_at (xs ++ ys)) ≡ some (n, r)
    go none ih k = unfold first_of in ih (unfold first_of in k)
    go (some s) ih k = unfold first_of in (unfold first_of in k)

none_append : (xs ys : List (ℕ × List (ℕ × Bool))) → first_at xs ≡ none → first_at (xs ++ ys) ≡ first_at ys
unfolding first_at first_of
none_append [] ys h = refl
none_append (x ∷ xs) ys h = go (first_holding x.1) (none_append xs ys) h
  where
    go : (y : Option ℕ) → (first_at xs ≡ none → first_at (xs ++ ys) ≡ first_at ys) → first_of x.0 y (first_at xs) ≡ none → first_of x.0 y (first_at (xs ++ ys)) ≡ first_at ys
    go none ih k = unfold first_of in ih (unfold first_of in k)
    go (some s) ih k = absurd (none_some (x.0, s) (sym (unfold first_of in k)))

-- the lines behind the names, then the length
module _ (limit : ℕ) (l : List ℕ) where
  abbrev last : List (ℕ × List (ℕ × Bool))
  last = (0, (19, wrong_length limit (length_of 0 (lines_in l))) ∷ []) ∷ []

  made_number : (q : Read) → read_lines (length l) 2 0 l ≡ q → converted_number (made limit q) ≡ first_at (numbered 2 none (lines_in l) ++ last)
  made_number (turned n r) e = sym (first_append (numbered 2 none (lines_in l)) last n r (sym (lines_number (length l) 2 0 none l (omega arith) refl) ∙ ap read_number e))
  made_number (words xs) e =
      ap (λ (t : Bool). converted_number (cond t (gives (image_from 0 xs)) (refusal 0 19))) (ap (length_fits limit) (sym (lines_ends (length l) 2 0 l xs e)) ∙ length_same limit (length_of 0 (lines_in l)))
      ∙ go (wrong_length limit (length_of 0 (lines_in l)))
      ∙ sym (none_append (numbered 2 none (lines_in l)) last (sym (lines_number (length l) 2 0 none l (omega arith) refl) ∙ ap read_number e))
    where
      go : (t : Bool) → converted_number (cond (not t) (gives (image_from 0 xs)) (refusal 0 19)) ≡ first_at ((0, (19, t) ∷ []) ∷ [])
      go true = unfold first_at first_of first_holding in refl
      go false = unfold first_at first_of first_holding in refl

names_same : (l : List ℕ) → other_names (first_line l) ≡ not (has_names l)
unfolding other_names has_names
names_same l = ap other_names (first_line_lem l) ∙ go (has newline l)
  where
    go : (t : Bool) → other_names (written t l) ≡ not (t && same (until newline l) line_names)
    go true = unfold other_names in refl
    go false = unfold other_names in refl

whole_number : (limit : ℕ) (l : List ℕ) → converted_number (image_of limit l) ≡ first_at (conditions_for limit l)
unfolding image_of read_all conditions_for first_at
whole_number limit l =
    go (has_names l) ∙ sym (ap₂ (λ (t : Bool) (ws : List Written). first_of 1 (first_holding ((18, t) ∷ [])) (first_at (numbered 2 none ws ++ ((0, (19, wrong_length limit (length_of 0 ws)) ∷ []) ∷ [])))) (names_same l) (rest_lines l))
  where
    k : List ℕ
    k = past newline l

    go : (t : Bool) → converted_number (made limit (cond t (read_lines (length k) 2 0 k) (turned 1 18))) ≡ first_of 1 (first_holding ((18, not t) ∷ [])) (first_at (numbered 2 none (lines_in k) ++ ((0, (19, wrong_length limit (length_of 0 (lines_in k))) ∷ []) ∷ [])))
    go true = unfold first_of first_holding in made_number limit k (read_lines (length k) 2 0 k) refl
    go false = unfold first_of first_holding in refl

-- ── The theorem ──
exactly : (limit : ℕ) (l : List ℕ) (n r : ℕ) → (image_of limit l ≡ refusal n r) ↔ GivenAt n r (conditions_for limit l)
exactly limit l n r = (λ p. at_given n r (conditions_for limit l) (sym (whole_number limit l) ∙ ap converted_number p), λ g. back (image_of limit l) (whole_number limit l ∙ given_at n r (conditions_for limit l) g))
  where
    back : (c : Converted) → converted_number c ≡ some (n, r) → c ≡ refusal n r
    back (gives m) e = absurd (none_some (n, r) e)
    back (refusal k s) e =
        let p : ◌≡◌ {A = ℕ × ℕ} (k, s) (n, r) = cc in
        ap₂ refusal (ap (λ (y : ℕ × ℕ). y.0) p) (ap (λ (y : ℕ × ℕ). y.1) p)

accepted : (limit : ℕ) (l : List ℕ) → ((m : List ℕ) × (image_of limit l ≡ gives m)) ↔ ((n r : ℕ) → GivenAt n r (conditions_for limit l) → ⊥)
accepted limit l = (λ p n r g. none_some (n, r) (sym (ap converted_number p.1) ∙ whole_number limit l ∙ given_at n r (conditions_for limit l) g), λ h. go (image_of limit l) refl h)
  where
    go : (c : Converted) → image_of limit l ≡ c → ((n r : ℕ) → GivenAt n r (conditions_for limit l) → ⊥) → (m : List ℕ) × (image_of limit l ≡ gives m)
    go (gives m) e h = (m, e)
    go (refusal n r) e h = absurd (h n r ((exactly limit l n r).0 e))

pub lines_refused : LinesRefused
lines_refused = record { exactly = exactly; accepted = accepted }
