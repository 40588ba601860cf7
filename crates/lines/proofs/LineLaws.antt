-- A line is the text of what it says. Assumes nothing.
use Prim.Native.Nat.{ℕ, ◌^◌, ◌≤◌, ◌<◌}
use mathlib.Core.Path.{◌≡◌, refl, ap, ap₂, sym, ◌∙◌}
use mathlib.Core.Bool.{Bool, true, false}
use mathlib.Core.List.{List, [], ◌∷◌, ◌++◌, append_assoc}
use native.Mathlib.Omega.{arith}
use lib.ListN.{length, length-append}
use Rattle.text.specs.Split.{has, until, past}
use Rattle.text.specs.Hex.{value_of, hex_of, spelled, lean}
use Rattle.text.proofs.SplitLaws.{join, join_parts, has_append, past_none}
use Rattle.text.proofs.HexLaws.{value_text, text_value, value_bound, hex_lacks, hex_some, hex_length}
use Rattle.names.specs.Names.{comma, newline}
use Rattle.names.proofs.NameLaws.{comma_no_digit, newline_no_digit}
use Rattle.std.specs.declared.option.Option.{Option}
use Rattle.std.specs.declared.option.Option.TheVariants.{Some, None}
use Rattle.lines.specs.Form.{pair_of, line_of, pair_text}

pair_parts : (x y : Option ℕ) (a w : ℕ) → pair_of x y ≡ Some (a, w) → (x ≡ Some a) × (y ≡ Some w)
pair_parts (Some b) (Some v) a w h = let p : ◌≡◌ {A = ℕ × ℕ} (b, v) (a, w) = cc in (ap (λ (x : ℕ × ℕ). Some x.0) p, ap (λ (x : ℕ × ℕ). Some x.1) p)
pair_parts (Some b) None a w h = let z : ◌≡◌ {A = ℕ} 0 1 = cc in absurd (omega arith)
pair_parts None y a w h = let z : ◌≡◌ {A = ℕ} 0 1 = cc in absurd (omega arith)

-- the values of the two fields
pub line_values : (l : List ℕ) (a w : ℕ) → line_of l ≡ Some (a, w) → (value_of (until comma l) ≡ Some a) × (value_of (past comma l) ≡ Some w)
unfolding line_of
line_values l a w h = pair_parts (value_of (until comma l)) (value_of (past comma l)) a w h

nothing_misspelled : (w : ℕ) → value_of [] ≡ Some w → ⊥
unfolding value_of spelled lean
nothing_misspelled w h = let z : ◌≡◌ {A = ℕ} 0 1 = cc in omega arith

-- a line with no comma says nothing
pub one_field : (l : List ℕ) → has comma l ≡ false → line_of l ≡ None
unfolding line_of
one_field l h = go (line_of l) refl
  where
    go : (x : Option (ℕ × ℕ)) → line_of l ≡ x → line_of l ≡ None
    go None e = e
    go (Some (a, w)) e = absurd (nothing_misspelled w (sym (ap value_of (past_none comma l h)) ∙ (line_values l a w e).1))

pub line_text_lem : (l : List ℕ) (a w : ℕ) → line_of l ≡ Some (a, w) → l ≡ hex_of a ++ (comma ∷ hex_of w)
line_text_lem l a w h = go (has comma l) refl
  where
    v : (value_of (until comma l) ≡ Some a) × (value_of (past comma l) ≡ Some w)
    v = line_values l a w h

    go : (t : Bool) → has comma l ≡ t → l ≡ hex_of a ++ (comma ∷ hex_of w)
    go true e = join comma l e ∙ ap₂ (λ (x y : List ℕ). x ++ (comma ∷ y)) (value_text (until comma l) a v.0) (value_text (past comma l) w v.1)
    go false e = absurd (nothing_misspelled w (sym (ap value_of (past_none comma l e)) ∙ v.1))

-- its numbers have 32 bits, and it has at most 17 bytes
pub line_fits : (l : List ℕ) (a w : ℕ) → line_of l ≡ Some (a, w) → (a < 2 ^ 32) × (w < 2 ^ 32)
line_fits l a w h = let v = line_values l a w h in (value_bound (until comma l) a v.0, value_bound (past comma l) w v.1)

pub line_short : (l : List ℕ) (a w : ℕ) → line_of l ≡ Some (a, w) → length l ≤ 17
line_short l a w h = omega (arith, ap length (line_text_lem l a w h), length-append (hex_of a) (comma ∷ hex_of w), hex_length a, hex_length w)

pair_line : (a w : ℕ) (rest : List ℕ) → pair_text a w ++ rest ≡ (hex_of a ++ (comma ∷ hex_of w)) ++ (newline ∷ rest)
unfolding pair_text
pair_line a w rest = simp append_assoc

-- the text of two numbers of 32 bits, and what follows it
module _ (a w : ℕ) (ha : a < 2 ^ 32) (hw : w < 2 ^ 32) where
  says : line_of (hex_of a ++ (comma ∷ hex_of w)) ≡ Some (a, w)
  unfolding line_of
  says =
      let p = join_parts comma (hex_of a) (hex_of w) (hex_lacks comma a comma_no_digit ha) in
      ap₂ (λ (x y : List ℕ). pair_of (value_of x) (value_of y)) p.1 p.2
      ∙ ap₂ pair_of (text_value a ha) (text_value w hw)

  lacks_newline : has newline (hex_of a ++ (comma ∷ hex_of w)) ≡ false
  lacks_newline = has_append newline (hex_of a) (comma ∷ hex_of w) (hex_lacks newline a newline_no_digit ha) (unfold has in hex_lacks newline w newline_no_digit hw)

  pub text_line : (rest : List ℕ) → (has newline (pair_text a w ++ rest) ≡ true) × (line_of (until newline (pair_text a w ++ rest)) ≡ Some (a, w)) × (past newline (pair_text a w ++ rest) ≡ rest)
  text_line rest =
      let e = pair_line a w rest in
      let p = join_parts newline (hex_of a ++ (comma ∷ hex_of w)) rest lacks_newline in
      (ap (has newline) e ∙ p.0, ap (λ (x : List ℕ). line_of (until newline x)) e ∙ ap line_of p.1 ∙ says, ap (past newline) e ∙ p.2)

-- a line in front of others, from its parts
pub line_join : (l : List ℕ) (a w : ℕ) → has newline l ≡ true → line_of (until newline l) ≡ Some (a, w) → l ≡ pair_text a w ++ past newline l
unfolding pair_text
line_join l a w h e = join newline l h ∙ ap (λ (x : List ℕ). x ++ (newline ∷ past newline l)) (line_text_lem (until newline l) a w e) ∙ simp append_assoc

pub pair_some : (a w : ℕ) → 1 ≤ length (pair_text a w)
unfolding pair_text
pair_some a w = omega (arith, length-append (hex_of a) (comma ∷ (hex_of w ++ (newline ∷ []))), hex_some a)

pub pair_most : (a w : ℕ) → length (pair_text a w) ≤ 18
unfolding pair_text
pair_most a w = simp length-append (omega (arith, hex_length a, hex_length w))
