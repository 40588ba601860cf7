-- The reader turns a list back by the conditions of the rules: with a number exactly when its condition holds and none before it
-- does. Assumes nothing.
use Prim.Native.Nat.{ℕ, zero, suc, ◌-◌, ◌≤◌}
use mathlib.Core.Path.{◌≡◌, refl, ap, ap₂, sym, ◌∙◌, subst}
use mathlib.Core.Bool.{Bool, true, false, cond, not, ◌&&◌, ◌||◌, and-true, or-false}
use mathlib.Core.Logic.{◌⊎◌, inl, inr, ◌↔◌}
use mathlib.Core.List.{List, [], ◌∷◌}
use mathlib.Core.Option.{Option as Maybe, none, some}
use native.Mathlib.Omega.{arith}
use lib.Dec.{eqb, leb, ltb}
use lib.ListN.{length, drop}
use borrow.Author.Tests.{eq-eqb, ne_eqb, eqb-true, le-leb, leb-true, lt-ltb}
use Rattle.std.specs.Prelude.{Option, Some, None, Result, Ok, Err}
use Rattle.text.specs.Split.{has, until, past, same}
use Rattle.text.specs.Hex.{digit, digits, glyph, number, lean, spelled, value_of, spell, hex_of}
use Rattle.text.proofs.SplitLaws.{same_equal, same_refl, past_none, past_shorter}
use Rattle.text.proofs.HexLaws.{value_text}
use Rattle.names.specs.Names.{comma, newline, names, name, kinds, named_in, named_of}
use Rattle.model.specs.declared.Kind.{Kind}
use Rattle.model.specs.declared.Kind.TheVariants.{Read, Write, Root, Asid, Mode, All, Addr, Ctx, AddrCtx, Fetch, Domain}
use Rattle.model.specs.reference.Rules.{Given}
use Rattle.model.proofs.BoolLaws.{same_test, not_leb}
use Rattle.model.proofs.Calls.{first_holding, given_first, first_given, none_some, none_holds}
use Rattle.listing.specs.declared.Reason.TheVariants.{TooLong, Names, Shape, Unused}
use Rattle.model.specs.declared.Operation.{Operation}
use Rattle.listing.specs.declared.Reason.{Reason}
use Rattle.listing.specs.Line.{used, spare, zeros, op_of, judged, values_of, field_a, field_b, field_c, fields_of, line_of}
use Rattle.listing.specs.Whole.{list_number, line_number, too_long, has_names, Ending, finished, stopped, ending_number, Reading, stopped_at, read_line, read_lines, read_rest, read_list}
use Rattle.listing.specs.Refusals.{any, every, in_front, parts, Written, lines_of, lines_in, first_line, field, is_digit, leading_zero, is_value, zero_text, unused, refuses1, refuses2, refuses3, refuses4, refuses5, refuses6, conditions_of, of_line, line_conditions, numbered, list_conditions, GivenAt, RefusedExactly}
use Rattle.listing.proofs.CanonicalLaws.{named_name}

-- ── Parts ──

-- what stands before the first b and the parts of what stands after it, or the whole text
abbrev pub split : Bool → ℕ → List ℕ → List (List ℕ)
split found b l = cond found (until b l ∷ parts b (past b l)) (l ∷ [])

pub parts_split : (b : ℕ) (l : List ℕ) → parts b l ≡ split (has b l) b l
unfolding parts in_front has until past
parts_split b [] = refl
parts_split b (x ∷ xs) = go (parts_split b xs) (eqb x b)
  where
    more : (t : Bool) → in_front x (split t b xs) ≡ cond t ((x ∷ until b xs) ∷ parts b (past b xs)) ((x ∷ xs) ∷ [])
    more true = refl
    more false = refl

    go : parts b xs ≡ split (has b xs) b xs → (t : Bool) →
        cond t ([] ∷ parts b xs) (in_front x (parts b xs)) ≡ cond (cond t true (has b xs)) (cond t [] (x ∷ until b xs) ∷ parts b (cond t xs (past b xs))) ((x ∷ xs) ∷ [])
    go ih true = refl
    go ih false = ap (in_front x) ih ∙ more (has b xs)

-- there is always a part
pub some_part : (b : ℕ) (l : List ℕ) → (p : List ℕ) × (ps : List (List ℕ)) × (parts b l ≡ p ∷ ps)
some_part b l = go (has b l) (parts_split b l)
  where
    go : (t : Bool) → parts b l ≡ split t b l → (p : List ℕ) × (ps : List (List ℕ)) × (parts b l ≡ p ∷ ps)
    go true e = (until b l, parts b (past b l), e)
    go false e = (l, [], e)

-- ── Lines ──

-- the first line: what stands before the first newline, or the whole text
abbrev pub written : Bool → List ℕ → Written
written found l = cond found (record { text = until newline l; ended = true }) (record { text = l; ended = false })

pub lines_end : lines_in [] ≡ []
unfolding lines_of parts
lines_end = refl

lines_more : (t l : List ℕ) → lines_of (t ∷ parts newline l) ≡ record { text = t; ended = true } ∷ lines_in l
unfolding lines_of
lines_more t l =
    let p = some_part newline l in
    ap (λ (ps : List (List ℕ)). lines_of (t ∷ ps)) p.2 ∙ sym (ap (λ (ps : List (List ℕ)). record { text = t; ended = true } ∷ lines_of ps) p.2)

pub lines_split : (x : ℕ) (xs : List ℕ) → lines_in (x ∷ xs) ≡ written (has newline (x ∷ xs)) (x ∷ xs) ∷ lines_in (past newline (x ∷ xs))
lines_split x xs = ap lines_of (parts_split newline (x ∷ xs)) ∙ go (has newline (x ∷ xs)) refl
  where
    go : (t : Bool) → has newline (x ∷ xs) ≡ t → lines_of (split t newline (x ∷ xs)) ≡ written t (x ∷ xs) ∷ lines_in (past newline (x ∷ xs))
    go true e = lines_more (until newline (x ∷ xs)) (past newline (x ∷ xs))
    go false e = rw (past_none newline (x ∷ xs) e, lines_end) (unfold lines_of in rw (ne_eqb (suc (length xs)) 0 (λ h. omega arith)))

pub first_line_lem : (l : List ℕ) → first_line l ≡ written (has newline l) l
unfolding first_line
first_line_lem [] = rw lines_end (unfold has in refl)
first_line_lem (x ∷ xs) = rw (lines_split x xs)

pub rest_lines : (l : List ℕ) → drop 1 (lines_in l) ≡ lines_in (past newline l)
rest_lines [] = rw lines_end (unfold past in sym lines_end)
rest_lines (x ∷ xs) = rw (lines_split x xs)

-- ── Fields ──

-- a field and those after it, and the last field
unfoldable taken : (List ℕ → List (List ℕ) → Result Operation Reason) → List (List ℕ) → Result Operation Reason
taken g [] = Err Shape
taken g (p ∷ ps) = g p ps

unfoldable only : (List ℕ → Result Operation Reason) → List (List ℕ) → Result Operation Reason
only g [] = Err Shape
only g (p ∷ []) = g p
only g (p ∷ q ∷ ps) = Err Shape

take_field : (f : List ℕ → List ℕ → Result Operation Reason) (g : List ℕ → List (List ℕ) → Result Operation Reason) → ((p q : List ℕ) → f p q ≡ g p (parts comma q)) → ((p : List ℕ) → g p [] ≡ Err Shape) →
    (l : List ℕ) → cond (has comma l) (f (until comma l) (past comma l)) (Err Shape) ≡ taken g (parts comma l)
unfolding taken
take_field f g h z l = go (has comma l) (parts_split comma l)
  where
    go : (t : Bool) → parts comma l ≡ split t comma l → cond t (f (until comma l) (past comma l)) (Err Shape) ≡ taken g (parts comma l)
    go true e = h (until comma l) (past comma l) ∙ sym (ap (taken g) e)
    go false e = sym (z l) ∙ sym (ap (taken g) e)

last_field : (g : List ℕ → Result Operation Reason) (l : List ℕ) → cond (has comma l) (Err Shape) (g l) ≡ only g (parts comma l)
unfolding only
last_field g l = go (has comma l) (parts_split comma l)
  where
    go : (t : Bool) → parts comma l ≡ split t comma l → cond t (Err Shape) (g l) ≡ only g (parts comma l)
    go true e = let p = some_part comma (past comma l) in sym (ap (only g) (e ∙ ap (λ (ps : List (List ℕ)). until comma l ∷ ps) p.2))
    go false e = sym (ap (only g) e)

-- the fields of a line are its parts at commas
abbrev of_c : Option Kind → Option ℕ → Option ℕ → List (List ℕ) → Result Operation Reason
of_c n a b = only (λ c. judged n (values_of a b (value_of c)))

abbrev of_b : Option Kind → Option ℕ → List (List ℕ) → Result Operation Reason
of_b n a = taken (λ b. of_c n a (value_of b))

abbrev of_a : Option Kind → List (List ℕ) → Result Operation Reason
of_a n = taken (λ a. of_b n (value_of a))

abbrev of_fields : List (List ℕ) → Result Operation Reason
of_fields = taken (λ o. of_a (named_of o))

c_same : (n : Option Kind) (a b : Option ℕ) (l : List ℕ) → field_c n a b l ≡ of_c n a b (parts comma l)
unfolding field_c
c_same n a b l = last_field (λ c. judged n (values_of a b (value_of c))) l

b_same : (n : Option Kind) (a : Option ℕ) (l : List ℕ) → field_b n a l ≡ of_b n a (parts comma l)
unfolding field_b only
b_same n a l = take_field (λ p q. field_c n a (value_of p) q) (λ b. of_c n a (value_of b)) (λ p q. c_same n a (value_of p) q) (λ p. refl) l

a_same : (n : Option Kind) (l : List ℕ) → field_a n l ≡ of_a n (parts comma l)
unfolding field_a taken
a_same n l = take_field (λ p q. field_b n (value_of p) q) (λ a. of_b n (value_of a)) (λ p q. b_same n (value_of p) q) (λ p. refl) l

fields_same : (l : List ℕ) → fields_of l ≡ of_fields (parts comma l)
unfolding fields_of taken
fields_same l = take_field (λ p q. field_a (named_of p) q) (λ o. of_a (named_of o)) (λ p q. a_same (named_of p) q) (λ p. refl) l

-- ── 4: a value's spelling ──

digit_same : (x : ℕ) → is_digit x ≡ ltb (digit x) 16
unfolding is_digit digit
digit_same x = go (leb 48 x) refl (leb x 57) refl (leb 97 x) refl (leb x 102) refl
  where
    other : (t : Bool) → leb 97 x ≡ t → (u : Bool) → leb x 102 ≡ u → (t && u) ≡ ltb (cond (cond t u false) (x - 87) 16) 16
    other true e true f = sym (lt-ltb (x - 87) 16 (omega (arith, leb-true 97 x e, leb-true x 102 f)))
    other true e false f = refl
    other false e u f = refl

    go : (s : Bool) → leb 48 x ≡ s → (t : Bool) → leb x 57 ≡ t → (u : Bool) → leb 97 x ≡ u → (v : Bool) → leb x 102 ≡ v →
        (s && t || u && v) ≡ ltb (cond (cond s t false) (x - 48) (cond (cond u v false) (x - 87) 16)) 16
    go true e true f u g v h = sym (lt-ltb (x - 48) 16 (omega (arith, leb-true 48 x e, leb-true x 57 f)))
    go true e false f u g v h = other u g v h
    go false e t f u g v h = other u g v h

digits_same : (s : List ℕ) → every is_digit s ≡ digits s
unfolding every digits
digits_same [] = refl
digits_same (x ∷ xs) = rw (digit_same x, digits_same xs) (go (ltb (digit x) 16))
  where
    go : (t : Bool) → (t && digits xs) ≡ cond t (digits xs) false
    go true = refl
    go false = refl

-- what the conditions call a value is what the reader reads as one
value_same : (s : List ℕ) → is_value s ≡ spelled s
unfolding is_value leading_zero spelled lean
value_same [] = refl
value_same (x ∷ []) = and-true (every is_digit (x ∷ [])) ∙ digits_same (x ∷ [])
value_same (x ∷ y ∷ ys) =
    rw (le-leb 1 (suc (suc (length ys))) (omega arith), le-leb 2 (suc (suc (length ys))) (omega arith), digits_same (x ∷ y ∷ ys))
    (go (leb (suc (suc (length ys))) 8) (digits (x ∷ y ∷ ys)) (eqb x 48))
  where
    go : (t u v : Bool) → (t && u && not v) ≡ cond t (cond (not v) u false) false
    go true true true = refl
    go true true false = refl
    go true false true = refl
    go true false false = refl
    go false u v = refl

pub value_read : (s : List ℕ) → value_of s ≡ cond (is_value s) (Some (number 0 s)) None
unfolding value_of
value_read s = rw (value_same s)

-- ── 5 and 6: the operation and its unused fields ──

zero_text_lem : hex_of 0 ≡ zero_text
unfolding hex_of spell glyph
zero_text_lem = refl

zero_number : number 0 zero_text ≡ 0
unfolding number digit
zero_number = refl

-- a value is 0 if its text is `0`, and only then
zero_same : (s : List ℕ) → is_value s ≡ true → eqb (number 0 s) 0 ≡ same s zero_text
zero_same s h = same_test (eqb (number 0 s) 0) (same s zero_text) to from
  where
    to : eqb (number 0 s) 0 ≡ true → same s zero_text ≡ true
    to e =
        let v : value_of s ≡ Some 0 = value_read s ∙ rw (h, eqb-true (number 0 s) 0 e) in
        ap (λ (t : List ℕ). same t zero_text) (value_text s 0 v ∙ zero_text_lem) ∙ same_refl zero_text

    from : same s zero_text ≡ true → eqb (number 0 s) 0 ≡ true
    from e = eq-eqb (number 0 s) 0 (ap (number 0) (same_equal s zero_text e) ∙ zero_number)

-- one, two and three fields that are to be 0
one_zero : (x : Bool) → x ≡ not (not x || false)
one_zero true = refl
one_zero false = refl

two_zeros : (x y : Bool) → cond x y false ≡ not (not x || (not y || false))
two_zeros true y = one_zero y
two_zeros false y = refl

three_zeros : (x y z : Bool) → cond x (cond y z false) false ≡ not (not x || (not y || (not z || false)))
three_zeros true y z = two_zeros y z
three_zeros false y z = refl

-- whether an unused field of an operation is not `0`
abbrev not_zero : Kind → List (List ℕ) → Bool
not_zero k fs = any (λ i. not (same (field i fs) zero_text)) (unused k)

-- the fields of a line behind the first n of a, b and c
abbrev behind : ℕ → List ℕ
behind zero = 1 ∷ 2 ∷ 3 ∷ []
behind (suc zero) = 2 ∷ 3 ∷ []
behind (suc (suc zero)) = 3 ∷ []
behind (suc (suc (suc n))) = []

-- the fields that an operation does not use are those behind the ones that it uses
unused_behind : (k : Kind) → unused k ≡ behind (used k)
unused_behind Read = refl
unused_behind Write = refl
unused_behind Root = refl
unused_behind Asid = refl
unused_behind Mode = refl
unused_behind All = refl
unused_behind Addr = refl
unused_behind Ctx = refl
unused_behind AddrCtx = refl
unused_behind Fetch = refl
unused_behind Domain = refl

module _ (o a b c : List ℕ) where
  abbrev four : List (List ℕ)
  four = o ∷ a ∷ b ∷ c ∷ []

  -- the fields behind the first n
  behind_same : (n : ℕ) →
      cond (cond (ltb 0 n) true (same a zero_text)) (cond (cond (ltb 1 n) true (same b zero_text)) (cond (ltb 2 n) true (same c zero_text)) false) false
      ≡ not (any (λ i. not (same (field i four) zero_text)) (behind n))
  unfolding any
  behind_same zero = three_zeros (same a zero_text) (same b zero_text) (same c zero_text)
  behind_same (suc zero) = two_zeros (same b zero_text) (same c zero_text)
  behind_same (suc (suc zero)) = one_zero (same c zero_text)
  behind_same (suc (suc (suc n))) = rw (lt-ltb 0 (suc (suc (suc n))) (omega arith), lt-ltb 1 (suc (suc (suc n))) (omega arith), lt-ltb 2 (suc (suc (suc n))) (omega arith))

  unused_same : (k : Kind) →
      cond (cond (ltb 0 (used k)) true (same a zero_text)) (cond (cond (ltb 1 (used k)) true (same b zero_text)) (cond (ltb 2 (used k)) true (same c zero_text)) false) false
      ≡ not (not_zero k four)
  unused_same k = behind_same (used k) ∙ ap (λ (l : List ℕ). not (any (λ i. not (same (field i four) zero_text)) l)) (sym (unused_behind k))

-- an operation's own name is known, and tells which of its fields are unused
module _ (a b c : List ℕ) where
  abbrev Told : Kind → List ℕ → Type 0
  Told k s = (refuses5 (four s a b c) ≡ false) × (refuses6 (four s a b c) ≡ (not_zero k (four s a b c) || false))

  own_name : (k : Kind) → Told k (name k)
  unfolding refuses5 refuses6 any same
  own_name Read = (refl, refl)
  own_name Write = (refl, refl)
  own_name Root = (refl, refl)
  own_name Asid = (refl, refl)
  own_name Mode = (refl, refl)
  own_name All = (refl, refl)
  own_name Addr = (refl, refl)
  own_name Ctx = (refl, refl)
  own_name AddrCtx = (refl, refl)
  own_name Fetch = (refl, refl)
  own_name Domain = (refl, refl)

no_name : (ks : List Kind) (s : List ℕ) → named_in ks s ≡ None → any (λ k. same s (name k)) ks ≡ false
unfolding any named_in
no_name [] s h = refl
no_name (k ∷ ks) s h = go (no_name ks s) (same s (name k)) h
  where
    go : (named_in ks s ≡ None → any (λ j. same s (name j)) ks ≡ false) → (t : Bool) → cond t (Some k) (named_in ks s) ≡ None → (t || any (λ j. same s (name j)) ks) ≡ false
    go ih true e = let z : ◌≡◌ {A = ℕ} 0 1 = cc in absurd (omega arith)
    go ih false e = ih e

-- ── A line ──

-- a value that is spelled wrong gives 4, whatever the name
spelling_first : (n : Option Kind) → line_number (judged n None) ≡ some 4
unfolding judged
spelling_first (Some k) = refl
spelling_first None = refl

module _ (o a b c : List ℕ) (va : is_value a ≡ true) (vb : is_value b ≡ true) (vc : is_value c ≡ true) where
  zeros_same : (k : Kind) → zeros (used k) (number 0 a) (number 0 b) (number 0 c) ≡ not (not_zero k (four o a b c))
  unfolding zeros spare
  zeros_same k = rw (zero_same a va, zero_same b vb, zero_same c vc) (unused_same o a b c k)

  made_number : (k : Kind) → line_number (op_of k (number 0 a) (number 0 b) (number 0 c)) ≡ cond (not_zero k (four o a b c)) (some 6) none
  unfolding op_of
  made_number k = rw (zeros_same k) (go (not_zero k (four o a b c)))
    where
      go : (t : Bool) → line_number (cond (not t) (Ok (record { kind = k; a = number 0 a; b = number 0 b; c = number 0 c })) (Err Unused)) ≡ cond t (some 6) none
      go true = refl
      go false = refl

  named_number : line_number (judged (named_of o) (Some ((number 0 a), (number 0 b), (number 0 c)))) ≡ first_holding ((5, refuses5 (four o a b c)) ∷ (6, refuses6 (four o a b c)) ∷ [])
  unfolding first_holding judged
  named_number = go (named_of o) refl
    where
      go : (n : Option Kind) → named_of o ≡ n → line_number (judged n (Some ((number 0 a), (number 0 b), (number 0 c)))) ≡ cond (refuses5 (four o a b c)) (some 5) (cond (refuses6 (four o a b c)) (some 6) none)
      go (Some k) e =
          let told : Told a b c k o = subst (Told a b c k) (sym (named_name kinds o k e)) (own_name a b c k) in
          rw (told.0, told.1, or-false (not_zero k (four o a b c))) (made_number k)
      go None e = unfold refuses5 in rw (no_name kinds o e)

four_number : (o a b c : List ℕ) → line_number (judged (named_of o) (values_of (value_of a) (value_of b) (value_of c))) ≡ first_holding ((4, refuses4 (four o a b c)) ∷ (5, refuses5 (four o a b c)) ∷ (6, refuses6 (four o a b c)) ∷ [])
unfolding refuses4 first_holding values_of
four_number o a b c = rw (value_read a, value_read b, value_read c) (go (is_value a) refl (is_value b) refl (is_value c) refl)
  where
    go : (t : Bool) → is_value a ≡ t → (u : Bool) → is_value b ≡ u → (v : Bool) → is_value c ≡ v →
        line_number (judged (named_of o) (values_of (cond t (Some (number 0 a)) None) (cond u (Some (number 0 b)) None) (cond v (Some (number 0 c)) None)))
        ≡ cond (not (t && u && v)) (some 4) (first_holding ((5, refuses5 (four o a b c)) ∷ (6, refuses6 (four o a b c)) ∷ []))
    go true e true f true g = named_number o a b c e f g
    go true e true f false g = spelling_first (named_of o)
    go true e false f v g = spelling_first (named_of o)
    go false e u f v g = spelling_first (named_of o)

fields_number : (fs : List (List ℕ)) → line_number (of_fields fs) ≡ first_holding (conditions_of true fs)
unfolding first_holding conditions_of refuses3 taken only
fields_number [] = refl
fields_number (o ∷ []) = refl
fields_number (o ∷ a ∷ []) = refl
fields_number (o ∷ a ∷ b ∷ []) = refl
fields_number (o ∷ a ∷ b ∷ c ∷ []) = four_number o a b c
fields_number (o ∷ a ∷ b ∷ c ∷ d ∷ fs) = rw (ne_eqb (suc (suc (suc (suc (suc (length fs)))))) 4 (λ e. omega arith))

line_number_lem : (l : List ℕ) → line_number (line_of l) ≡ first_holding (of_line (written (has newline l) l))
unfolding line_of
line_number_lem l = go (has newline l)
  where
    go : (t : Bool) → line_number (cond t (fields_of (until newline l)) (Err Shape)) ≡ first_holding (of_line (written t l))
    go true = ap line_number (fields_same (until newline l)) ∙ fields_number (parts comma (until newline l))
    go false = unfold first_holding conditions_of refuses3 in refl

-- ── A whole list ──

-- the number given for a line, or what is given after it
unfoldable pub first_of : ℕ → Maybe ℕ → Maybe (ℕ × ℕ) → Maybe (ℕ × ℕ)
first_of n none y = y
first_of n (some r) y = some (n, r)

unfoldable pub first_at : List (ℕ × List (ℕ × Bool)) → Maybe (ℕ × ℕ)
first_at [] = none
first_at (x ∷ xs) = first_of x.0 (first_holding x.1) (first_at xs)

read_number : (n : ℕ) (i : Result Operation Reason) (q : Reading) → ending_number (read_line n i q).ending ≡ first_of n (line_number i) (ending_number q.ending)
unfolding first_of
read_number n (Ok o) q = refl
read_number n (Err x) q = refl

lines_number : (turns n : ℕ) (l : List ℕ) → length l ≤ turns → ending_number (read_lines turns n l).ending ≡ first_at (numbered n (lines_in l))
unfolding read_lines numbered first_at
lines_number zero n [] h = rw lines_end
lines_number zero n (x ∷ xs) h = absurd (omega arith)
lines_number (suc turns) n [] h = rw lines_end
lines_number (suc turns) n (x ∷ xs) h =
    read_number n (line_of (x ∷ xs)) (read_lines turns (suc n) (past newline (x ∷ xs)))
    ∙ ap₂ (first_of n) (line_number_lem (x ∷ xs)) (lines_number turns (suc n) (past newline (x ∷ xs)) (omega (arith, past_shorter newline x xs)))
    ∙ sym (ap (λ (ws : List Written). first_at (numbered n ws)) (lines_split x xs))

names_same : (l : List ℕ) → refuses2 (first_line l) ≡ not (has_names l)
unfolding refuses2 has_names
names_same l = rw (first_line_lem l) (go (has newline l))
  where
    go : (t : Bool) → refuses2 (written t l) ≡ not (cond t (same (until newline l) names) false)
    go true = refl
    go false = refl

long_same : (l : List ℕ) → refuses1 l ≡ too_long l
unfolding refuses1 too_long
long_same l = not_leb (length l) 65536

list_number_lem : (l : List ℕ) → ending_number (read_list l).ending ≡ first_at (list_conditions l)
unfolding read_list list_conditions first_at first_holding first_of
list_number_lem l = rw (long_same l, names_same l, rest_lines l) (go (too_long l) (has_names l))
  where
    go : (s t : Bool) → ending_number (cond s (stopped_at 1 TooLong) (cond t (read_rest (past newline l)) (stopped_at 1 Names))).ending
        ≡ first_of 1 (cond s (some 1) (cond (not t) (some 2) none)) (first_at (numbered 2 (lines_in (past newline l))))
    go true t = refl
    go false true = lines_number (length (past newline l)) 2 (past newline l) (omega arith)
    go false false = refl

-- ── The theorem ──

pub given_at : (n r : ℕ) (xs : List (ℕ × List (ℕ × Bool))) → GivenAt n r xs → first_at xs ≡ some (n, r)
unfolding GivenAt first_at first_of
given_at n r [] g = absurd g
given_at n r (x ∷ xs) (inl g) = rw (given_first x.1 r g.1) (ap (λ (m : ℕ). some (m, r)) g.0)
given_at n r (x ∷ xs) (inr g) = rw (none_holds x.1 g.0) (given_at n r xs g.1)

pub at_given : (n r : ℕ) (xs : List (ℕ × List (ℕ × Bool))) → first_at xs ≡ some (n, r) → GivenAt n r xs
unfolding GivenAt first_at
at_given n r [] p = absurd (none_some (n, r) p)
at_given n r (x ∷ xs) p = go (first_holding x.1) refl p (at_given n r xs)
  where
    go : (y : Maybe ℕ) → first_holding x.1 ≡ y → first_of x.0 y (first_at xs) ≡ some (n, r) → (first_at xs ≡ some (n, r) → GivenAt n r xs) →
        ((x.0 ≡ n) × Given r x.1) ⊎ (((s : ℕ) → Given s x.1 → ⊥) × GivenAt n r xs)
    go none e q rest = inr ((λ s g. none_some s (sym e ∙ given_first x.1 s g)), rest (unfold first_of in q))
    go (some s) e q rest =
        let given : ◌≡◌ {A = Maybe (ℕ × ℕ)} (some (x.0, s)) (some (n, r)) = unfold first_of in q in
        let pair : ◌≡◌ {A = ℕ × ℕ} (x.0, s) (n, r) = cc in
        inl (ap (λ (y : ℕ × ℕ). y.0) pair, first_given x.1 r (e ∙ ap (λ (y : ℕ × ℕ). some y.1) pair))

line_exactly : (l : List ℕ) (r : ℕ) → (line_number (line_of l) ≡ some r) ↔ Given r (line_conditions l)
line_exactly l r =
    let e : line_number (line_of l) ≡ first_holding (line_conditions l) = line_number_lem l ∙ sym (ap (λ (w : Written). first_holding (of_line w)) (first_line_lem l)) in
    (λ p. first_given (line_conditions l) r (sym e ∙ p), λ g. e ∙ given_first (line_conditions l) r g)

whole_exactly : (l : List ℕ) (n r : ℕ) → (ending_number (read_list l).ending ≡ some (n, r)) ↔ GivenAt n r (list_conditions l)
whole_exactly l n r = (λ p. at_given n r (list_conditions l) (sym (list_number_lem l) ∙ p), λ g. list_number_lem l ∙ given_at n r (list_conditions l) g)

accepted_exactly : (l : List ℕ) → ((read_list l).ending ≡ finished) ↔ ((n r : ℕ) → GivenAt n r (list_conditions l) → ⊥)
accepted_exactly l = (λ p n r g. none_some (n, r) (sym (ap ending_number p) ∙ (whole_exactly l n r).1 g), λ h. go (read_list l).ending refl h)
  where
    go : (y : Ending) → (read_list l).ending ≡ y → ((n r : ℕ) → GivenAt n r (list_conditions l) → ⊥) → y ≡ finished
    go finished e h = refl
    go (stopped n x) e h = absurd (h n (list_number x) ((whole_exactly l n (list_number x)).0 (ap ending_number e)))

pub refused_exactly : RefusedExactly
refused_exactly = record { line = line_exactly; whole = whole_exactly; accepted = accepted_exactly }
