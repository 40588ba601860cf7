-- Laws of `has`, `until`, `past` and `same`. Assumes nothing.
use Prim.Native.Nat.{ℕ, suc, ◌+◌, ◌-◌, ◌≤◌, ◌<◌}
use mathlib.Core.Path.{◌≡◌, refl, ap, ap₂, sym, ◌∙◌}
use mathlib.Core.Bool.{Bool, true, false, cond, true≢false}
use mathlib.Core.List.{List, [], ◌∷◌, ◌++◌}
use native.Mathlib.Numerals.{add-one}
use native.Mathlib.Omega.{arith}
use lib.ListN.{length, take, drop, drop_of_length-le, length-drop}
use lib.Dec.{eqb, ltb, leb-suc-suc}
use lib.Seq.{take_all}
use borrow.Author.Tests.{eq-eqb, eqb-true, lt-ltb, le-ltb, leb-false}
use Rattle.std.proofs.Common.{Option, Some, None, nat_eq, ◌&&◌, ◌||◌}
use Rattle.std.specs.Option.{unwrap_or}
use Rattle.std.specs.List.{position, position_or_len, list_any, starts_with}
use Rattle.std.specs.Cmp.Lexicographic.{pointwise}
use Rattle.std.proofs.lemmas.List.Recursion.{is_position_or_len}
use Rattle.text.specs.Split.{has, until, past, same}

-- the place that a search finds, and the three parts there
pub has_place : (b : ℕ) (l : List ℕ) → ltb (length (until b l)) (length l) ≡ has b l
unfolding has until
has_place b [] = refl
has_place b (x ∷ xs) = go (has_place b xs) (eqb x b)
  where
    go : ltb (length (until b xs)) (length xs) ≡ has b xs → (t : Bool) → ltb (length (cond t [] (x ∷ until b xs))) (suc (length xs)) ≡ cond t true (has b xs)
    go ih true = lt-ltb 0 (suc (length xs)) (omega arith)
    go ih false = leb-suc-suc (suc (length (until b xs))) (length xs) ∙ ih

pub until_take : (b : ℕ) (l : List ℕ) → take (length (until b l)) l ≡ until b l
unfolding until
until_take b [] = refl
until_take b (x ∷ xs) = go (until_take b xs) (eqb x b)
  where
    go : take (length (until b xs)) xs ≡ until b xs → (t : Bool) → take (length (cond t [] (x ∷ until b xs))) (x ∷ xs) ≡ cond t [] (x ∷ until b xs)
    go ih true = refl
    go ih false = ap (λ (r : List ℕ). x ∷ r) ih

pub past_drop : (b : ℕ) (l : List ℕ) → drop (suc (length (until b l))) l ≡ past b l
unfolding until past
past_drop b [] = refl
past_drop b (x ∷ xs) = go (past_drop b xs) (eqb x b)
  where
    go : drop (suc (length (until b xs))) xs ≡ past b xs → (t : Bool) → drop (length (cond t [] (x ∷ until b xs))) xs ≡ cond t xs (past b xs)
    go ih true = refl
    go ih false = ih

pub until_length : (b : ℕ) (l : List ℕ) → length (until b l) ≤ length l
unfolding until
until_length b [] = omega arith
until_length b (x ∷ xs) = go (until_length b xs) (eqb x b)
  where
    go : length (until b xs) ≤ length xs → (t : Bool) → length (cond t [] (x ∷ until b xs)) ≤ suc (length xs)
    go ih true = omega arith
    go ih false = omega arith

-- the part behind the place, as a slice is cut there
pub past_part : (b : ℕ) (l : List ℕ) (n : ℕ) → n ≡ length (until b l) → take (length l - (n + 1)) (drop (n + 1) l) ≡ past b l
past_part b l n e = take_all (length l - (n + 1)) (drop (n + 1) l) (rw length-drop (omega arith)) ∙ rw (add-one, e) (past_drop b l)

-- a place that was looked for: b stands there, or nowhere; and what stands before it
pub found_has : (b : ℕ) (l : List ℕ) (n : ℕ) → n ≡ length (until b l) → n < length l → has b l ≡ true
found_has b l n e h = sym (has_place b l) ∙ lt-ltb (length (until b l)) (length l) (omega arith)

pub found_none : (b : ℕ) (l : List ℕ) (n : ℕ) → n ≡ length (until b l) → length l ≤ n → has b l ≡ false
found_none b l n e h = sym (has_place b l) ∙ le-ltb (length (until b l)) (length l) (omega arith)

pub found_before : (b : ℕ) (l : List ℕ) (n : ℕ) → n ≡ length (until b l) → take n l ≡ until b l
found_before b l n e = ap (λ i. take i l) e ∙ until_take b l

pub past_part_end : (b : ℕ) (l : List ℕ) (n : ℕ) → n ≡ length (until b l) → length l ≤ n → take (length l - n) (drop n l) ≡ past b l
past_part_end b l n e h =
    take_all (length l - n) (drop n l) (rw length-drop (omega arith))
    ∙ drop_of_length-le l h
    ∙ sym (drop_of_length-le l {i = suc (length (until b l))} (omega arith))
    ∙ past_drop b l

pub same_lengths : (a b : List ℕ) → (length a ≡ length b → ⊥) → same a b ≡ false
unfolding same
same_lengths [] [] ne = absurd (ne refl)
same_lengths [] (y ∷ ys) ne = refl
same_lengths (x ∷ xs) [] ne = refl
same_lengths (x ∷ xs) (y ∷ ys) ne = go (same_lengths xs ys (λ e. ne (ap suc e))) (eqb x y)
  where
    go : same xs ys ≡ false → (t : Bool) → cond t (same xs ys) false ≡ false
    go ih true = ih
    go ih false = refl

-- a list is what stands before the first b, b, and what stands after it
pub join : (b : ℕ) (l : List ℕ) → has b l ≡ true → l ≡ until b l ++ (b ∷ past b l)
unfolding has until past
join b [] h = absurd (true≢false (sym h))
join b (x ∷ xs) h = go (join b xs) (eqb x b) refl h
  where
    go : (has b xs ≡ true → xs ≡ until b xs ++ (b ∷ past b xs)) → (t : Bool) → eqb x b ≡ t → cond t true (has b xs) ≡ true → x ∷ xs ≡ cond t [] (x ∷ until b xs) ++ (b ∷ cond t xs (past b xs))
    go ih true e k = ap (λ (y : ℕ). y ∷ xs) (eqb-true x b e)
    go ih false e k = ap (λ (r : List ℕ). x ∷ r) (ih k)

-- and where the front has no b, the parts of the two joined are the two
pub join_parts : (b : ℕ) (xs ys : List ℕ) → has b xs ≡ false → (has b (xs ++ (b ∷ ys)) ≡ true) × (until b (xs ++ (b ∷ ys)) ≡ xs) × (past b (xs ++ (b ∷ ys)) ≡ ys)
unfolding has until past
join_parts b [] ys h = (rw (eq-eqb b b refl), rw (eq-eqb b b refl), rw (eq-eqb b b refl))
join_parts b (x ∷ xs) ys h = go (join_parts b xs ys) (eqb x b) h
  where
    go : (has b xs ≡ false → (has b (xs ++ (b ∷ ys)) ≡ true) × (until b (xs ++ (b ∷ ys)) ≡ xs) × (past b (xs ++ (b ∷ ys)) ≡ ys)) → (t : Bool) → cond t true (has b xs) ≡ false → (cond t true (has b (xs ++ (b ∷ ys))) ≡ true) × (cond t [] (x ∷ until b (xs ++ (b ∷ ys))) ≡ x ∷ xs) × (cond t (xs ++ (b ∷ ys)) (past b (xs ++ (b ∷ ys))) ≡ ys)
    go ih true k = absurd (true≢false k)
    go ih false k = let p = ih k in (p.0, ap (λ (r : List ℕ). x ∷ r) p.1, p.2)

pub has_append : (b : ℕ) (xs ys : List ℕ) → has b xs ≡ false → has b ys ≡ false → has b (xs ++ ys) ≡ false
unfolding has
has_append b [] ys h k = k
has_append b (x ∷ xs) ys h k = go (λ (e : has b xs ≡ false). has_append b xs ys e k) (eqb x b) h
  where
    go : (has b xs ≡ false → has b (xs ++ ys) ≡ false) → (t : Bool) → cond t true (has b xs) ≡ false → cond t true (has b (xs ++ ys)) ≡ false
    go ih true e = e
    go ih false e = ih e

pub same_equal : (a b : List ℕ) → same a b ≡ true → a ≡ b
unfolding same
same_equal [] [] h = refl
same_equal [] (y ∷ ys) h = absurd (true≢false (sym h))
same_equal (x ∷ xs) [] h = absurd (true≢false (sym h))
same_equal (x ∷ xs) (y ∷ ys) h = go (same_equal xs ys) (eqb x y) refl h
  where
    go : (same xs ys ≡ true → xs ≡ ys) → (t : Bool) → eqb x y ≡ t → cond t (same xs ys) false ≡ true → x ∷ xs ≡ y ∷ ys
    go ih true e k = ap₂ (λ (z : ℕ) (r : List ℕ). z ∷ r) (eqb-true x y e) (ih k)
    go ih false e k = absurd (true≢false (sym k))

pub same_refl : (a : List ℕ) → same a a ≡ true
unfolding same
same_refl [] = refl
same_refl (x ∷ xs) = rw (eq-eqb x x refl) (same_refl xs)

pub past_length : (b : ℕ) (l : List ℕ) → length (past b l) ≤ length l
unfolding past
past_length b [] = omega arith
past_length b (x ∷ xs) = go (past_length b xs) (eqb x b)
  where
    go : length (past b xs) ≤ length xs → (t : Bool) → length (cond t xs (past b xs)) ≤ suc (length xs)
    go ih true = omega arith
    go ih false = omega arith

-- what stands after the first b is shorter than a list that is not empty, and nothing where there is no b
pub past_shorter : (b x : ℕ) (xs : List ℕ) → length (past b (x ∷ xs)) ≤ length xs
unfolding past
past_shorter b x xs = go (eqb x b)
  where
    go : (t : Bool) → length (cond t xs (past b xs)) ≤ length xs
    go true = omega arith
    go false = past_length b xs

pub past_none : (b : ℕ) (l : List ℕ) → has b l ≡ false → past b l ≡ []
unfolding has past
past_none b [] h = refl
past_none b (x ∷ xs) h = go (past_none b xs) (eqb x b) h
  where
    go : (has b xs ≡ false → past b xs ≡ []) → (t : Bool) → cond t true (has b xs) ≡ false → cond t xs (past b xs) ≡ []
    go ih true e = absurd (true≢false e)
    go ih false e = ih e

-- the library's searches, in these words
place_is : (b : ℕ) (l : List ℕ) → position (λ x. nat_eq x b) l ≡ cond (has b l) (Some (length (until b l))) None
unfolding until
place_is b l =
    ap (λ (n : ℕ). cond (ltb n (length l)) (Some n) None) (sym place)
    ∙ ap (λ (t : Bool). cond t (Some (length (until b l))) None) (has_place b l)
  where
    turn : (x : ℕ) (xs : List ℕ) (t : Bool) → length (cond t [] (x ∷ until b xs)) ≡ cond t 0 (1 + length (until b xs))
    turn x xs true = refl
    turn x xs false = omega arith

    place : length (until b l) ≡ position_or_len (λ x. nat_eq x b) l
    place = is_position_or_len (λ (xs : List ℕ). length (until b xs)) (λ x. nat_eq x b) refl (λ x xs. turn x xs (eqb x b)) l

pub find_position : (b : ℕ) (l : List ℕ) (o : Option ℕ) (n : ℕ) → o ≡ position (λ x. nat_eq x b) l → n ≡ unwrap_or o (length l) → n ≡ length (until b l)
find_position b l o n e f = f ∙ ap (λ (q : Option ℕ). unwrap_or q (length l)) (e ∙ place_is b l) ∙ go (has b l) refl
  where
    go : (t : Bool) → has b l ≡ t → unwrap_or (cond t (Some (length (until b l))) None) (length l) ≡ length (until b l)
    go true h = refl
    go false h = omega (arith, until_length b l, leb-false (suc (length (until b l))) (length l) (has_place b l ∙ h))

pub cut_none : (b : ℕ) (l : List ℕ) → None ≡ position (λ x. nat_eq x b) l → has b l ≡ false
cut_none b l e = go (has b l) (e ∙ place_is b l)
  where
    go : (t : Bool) → None ≡ cond t (Some (length (until b l))) None → t ≡ false
    go true h = cc
    go false h = refl

pub cut_some : (b : ℕ) (l : List ℕ) (n : ℕ) → Some n ≡ position (λ x. nat_eq x b) l → (has b l ≡ true) × (take n l ≡ until b l) × (take (length l - (n + 1)) (drop (n + 1) l) ≡ past b l)
cut_some b l n e = go (has b l) refl (e ∙ place_is b l)
  where
    go : (t : Bool) → has b l ≡ t → Some n ≡ cond t (Some (length (until b l))) None → (t ≡ true) × (take n l ≡ until b l) × (take (length l - (n + 1)) (drop (n + 1) l) ≡ past b l)
    go true h k = let m : n ≡ length (until b l) = cc in (refl, found_before b l n m, past_part b l n m)
    go false h k = let z : ◌≡◌ {A = ℕ} 0 1 = cc in absurd (omega arith)

has_list_any : (b : ℕ) (l : List ℕ) → list_any (λ x. nat_eq x b) l ≡ has b l
unfolding has
has_list_any b [] = refl
has_list_any b (x ∷ xs) = go (has_list_any b xs) (eqb x b)
  where
    go : list_any (λ y. nat_eq y b) xs ≡ has b xs → (t : Bool) → (t || list_any (λ y. nat_eq y b) xs) ≡ cond t true (has b xs)
    go ih true = refl
    go ih false = ih

pub has_any : (b : ℕ) (l : List ℕ) (r : Bool) → r ≡ list_any (λ x. nat_eq x b) l → r ≡ has b l
has_any b l r e = e ∙ has_list_any b l

pub same_pointwise : (a b : List ℕ) → pointwise nat_eq a b ≡ same a b
unfolding same
same_pointwise [] [] = refl
same_pointwise [] (y ∷ ys) = refl
same_pointwise (x ∷ xs) [] = refl
same_pointwise (x ∷ xs) (y ∷ ys) = go (same_pointwise xs ys) (eqb x y)
  where
    go : pointwise nat_eq xs ys ≡ same xs ys → (t : Bool) → (t && pointwise nat_eq xs ys) ≡ cond t (same xs ys) false
    go ih true = ih
    go ih false = refl

-- lists of one length, one of which begins the other; and lists of two lengths
pub same_prefix : (a b : List ℕ) (r : Bool) → r ≡ starts_with nat_eq b a → length a ≡ length b → r ≡ same a b
same_prefix a b r e h = e ∙ ap (pointwise nat_eq a) (take_all (length a) b (omega (arith, h))) ∙ same_pointwise a b

pub differ : (a b : List ℕ) → (length a ≡ length b → ⊥) → false ≡ same a b
differ a b ne = sym (same_lengths a b ne)
