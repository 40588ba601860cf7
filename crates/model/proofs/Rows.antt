-- What a change of rows does to each word: word p of row d stands at d * size + p.
use Prim.Native.Nat.{ℕ, zero, suc, ◌+◌, ◌*◌, ◌-◌, ◌≤◌, ◌<◌}
use mathlib.Core.Path.{◌≡◌, refl, sym, ap, ◌∙◌}
use mathlib.Core.Bool.{Bool, true, false, cond}
use mathlib.Core.List.{List, [], ◌∷◌, ◌++◌}
use native.Mathlib.Nat.{le_of_suc-le-suc, not-suc-le-zero, add-zero, add-suc, suc-add, zero-add, mul-le-mul_right, suc-mul}
use mathlib.Core.Logic.{◌⊎◌, inl, inr}
use native.Mathlib.Omega.{arith}
use lib.Dec.{eqb, leb, ltb}
use lib.ListN.{length, get_or, take, drop, length-append, length-drop, get_or-append}
use lib.Seq.{get_or-append-add, get_or-drop, get_or-take, length-take-le}
use borrow.Author.Tests.{le-leb, leb-true, leb-false, eqb-true, eqb-false, le-ltb, lt-ltb}
use Rattle.model.specs.step.Rows.{map_first, map_words, in_row, each_row}
use Rattle.model.proofs.BoolLaws.{leb_same}

module _ (f : ℕ → ℕ → ℕ) where
  pub length_map_first : (i n : ℕ) (l : List ℕ) → length (map_first f i n l) ≡ length l
  length_map_first i zero l = refl
  length_map_first i (suc n) [] = refl
  length_map_first i (suc n) (w ∷ ws) = ap suc (length_map_first (suc i) n ws)

  get_d_map_first : (i n : ℕ) (l : List ℕ) (k : ℕ) → k < n → k < length l → get_or (map_first f i n l) k 0 ≡ f (i + k) (get_or l k 0)
  get_d_map_first i zero l k h g = absurd (not-suc-le-zero h)
  get_d_map_first i (suc n) [] k h g = absurd (not-suc-le-zero g)
  get_d_map_first i (suc n) (w ∷ ws) zero h g = ap (λ j. f j w) (sym (add-zero i))
  get_d_map_first i (suc n) (w ∷ ws) (suc k) h g =
      get_d_map_first (suc i) n ws k (le_of_suc-le-suc h) (le_of_suc-le-suc g) ∙ ap (λ j. f j (get_or ws k 0)) (suc-add i k ∙ sym (add-suc i k))

  pub get_d_map_words : (l : List ℕ) (k : ℕ) → k < length l → get_or (map_words f l) k 0 ≡ f k (get_or l k 0)
  get_d_map_words l k g = get_d_map_first 0 (length l) l k g g ∙ ap (λ j. f j (get_or l k 0)) (zero-add k)

-- a change of rows of this size that changes word p by g p
pub record Acts (size : ℕ) (f : List ℕ → List ℕ) (g : ℕ → ℕ → ℕ) : Type 0 where
  pub keeps : (row : List ℕ) → length row ≡ size → length (f row) ≡ size
  pub word : (row : List ℕ) (p : ℕ) → length row ≡ size → p < size → get_or (f row) p 0 ≡ g p (get_or row p 0)

pub acts_words : (size : ℕ) (g : ℕ → ℕ → ℕ) → Acts size (map_words g) g
acts_words size g = record {
  keeps = λ row e. length_map_first g 0 (length row) row ∙ e;
  word = λ row p e h. get_d_map_words g row p (rw e h);
}

-- a word of an earlier row stands before the row c
earlier : (size c d p : ℕ) → d < c → p < size → d * size + p < c * size
earlier size c d p h g = let e : suc d * size ≤ c * size = mul-le-mul_right size h in omega (arith, suc-mul d size)

-- two numbers that differ
apart : (d c : ℕ) → (d ≡ c → ⊥) → (d < c) ⊎ (c < d)
apart d c n = go (leb d c) refl
  where
    go : (b : Bool) → leb d c ≡ b → (d < c) ⊎ (c < d)
    go true e = let h = leb-true d c e in inl (omega arith)
    go false e = inr (leb-false d c e)

-- one row of a list changed
module _ {size : ℕ} {f : List ℕ → List ℕ} {g : ℕ → ℕ → ℕ} (acts : Acts size f g) (c : ℕ) (l : List ℕ) (fits : c * size + size ≤ length l) where
  row : List ℕ
  row = take size (drop (c * size) l)

  row_length : length row ≡ size
  unfolding row
  row_length = length-take-le size (drop (c * size) l) (simp length-drop (omega arith))

  front_length : length (take (c * size) l) ≡ c * size
  front_length = length-take-le (c * size) l (omega arith)

  part : in_row size c f l ≡ take (c * size) l ++ (f row ++ drop size (drop (c * size) l))
  unfolding in_row row
  part = rw (le-leb (c * size + size) (length l) fits)

  pub length_in_row : length (in_row size c f l) ≡ length l
  unfolding row
  length_in_row =
      ap length part
      ∙ simp (length-append, acts.keeps row row_length, front_length, length-drop) (omega arith)

  word_inside : (p : ℕ) → p < size → get_or (in_row size c f l) (c * size + p) 0 ≡ g p (get_or l (c * size + p) 0)
  unfolding row
  word_inside p h =
      ap (λ x. get_or x (c * size + p) 0) part
      ∙ ap (λ n. get_or (take (c * size) l ++ (f row ++ drop size (drop (c * size) l))) (n + p) 0) (sym front_length)
      ∙ get_or-append-add (take (c * size) l) (f row ++ drop size (drop (c * size) l)) p 0
      ∙ get_or-append (f row) (drop size (drop (c * size) l)) 0 p (rw (acts.keeps row row_length) h)
      ∙ acts.word row p row_length h
      ∙ ap (g p) (get_or-take size (drop (c * size) l) p 0 h ∙ get_or-drop (c * size) l p 0)

  word_before : (i : ℕ) → i < c * size → get_or (in_row size c f l) i 0 ≡ get_or l i 0
  word_before i h =
      ap (λ x. get_or x i 0) part
      ∙ get_or-append (take (c * size) l) _ 0 i (rw front_length h)
      ∙ get_or-take (c * size) l i 0 h

  word_after_lem : (k : ℕ) → get_or (in_row size c f l) (c * size + (size + k)) 0 ≡ get_or l (c * size + (size + k)) 0
  word_after_lem k =
      ap (λ x. get_or x (c * size + (size + k)) 0) part
      ∙ ap (λ n. get_or (take (c * size) l ++ (f row ++ drop size (drop (c * size) l))) (n + (size + k)) 0) (sym front_length)
      ∙ get_or-append-add (take (c * size) l) (f row ++ drop size (drop (c * size) l)) (size + k) 0
      ∙ ap (λ n. get_or (f row ++ drop size (drop (c * size) l)) (n + k) 0) (sym (acts.keeps row row_length))
      ∙ get_or-append-add (f row) (drop size (drop (c * size) l)) k 0
      ∙ get_or-drop size (drop (c * size) l) k 0
      ∙ get_or-drop (c * size) l (size + k) 0

  word_outside : (d p : ℕ) → (d ≡ c → ⊥) → p < size → get_or (in_row size c f l) (d * size + p) 0 ≡ get_or l (d * size + p) 0
  word_outside d p n h = go (apart d c n)
    where
      later : (k : ℕ) → d * size + p ≡ c * size + (size + k) → get_or (in_row size c f l) (d * size + p) 0 ≡ get_or l (d * size + p) 0
      later k e = rw e (word_after_lem k)

      go : (d < c) ⊎ (c < d) → get_or (in_row size c f l) (d * size + p) 0 ≡ get_or l (d * size + p) 0
      go (inl q) = word_before (d * size + p) (earlier size c d p q h)
      go (inr q) =
          let e : suc c * size ≤ d * size = mul-le-mul_right size q in
          later (d * size + p - (c * size + size)) (omega (arith, suc-mul c size))

  -- the words of row c are changed by g, the others are as they were
  pub word_in_row : (d p : ℕ) → p < size → get_or (in_row size c f l) (d * size + p) 0 ≡ cond (eqb d c) (g p (get_or l (d * size + p) 0)) (get_or l (d * size + p) 0)
  word_in_row d p h = go (eqb d c) refl
    where
      go : (b : Bool) → eqb d c ≡ b → get_or (in_row size c f l) (d * size + p) 0 ≡ cond b (g p (get_or l (d * size + p) 0)) (get_or l (d * size + p) 0)
      go true e = rw (eqb-true d c e) (word_inside p h)
      go false e = word_outside d p (eqb-false d c e) h

-- the first k rows of a list changed
module _ {size : ℕ} {f : List ℕ → List ℕ} {g : ℕ → ℕ → ℕ} (acts : Acts size f g) (l : List ℕ) where
  fits_next : (k : ℕ) → suc k * size ≤ length l → k * size + size ≤ length l
  fits_next k h = omega (arith, suc-mul k size)

  pub length_each_row : (k : ℕ) → k * size ≤ length l → length (each_row size k f l) ≡ length l
  unfolding each_row
  length_each_row zero h = refl
  length_each_row (suc k) h =
      let before = length_each_row k (omega (arith, fits_next k h)) in
      length_in_row acts k (each_row size k f l) (rw before (fits_next k h)) ∙ before

  -- the words of the first k rows are changed by g, the others are as they were
  pub word_each_row : (k : ℕ) → k * size ≤ length l → (d p : ℕ) → p < size →
      get_or (each_row size k f l) (d * size + p) 0 ≡ cond (ltb d k) (g p (get_or l (d * size + p) 0)) (get_or l (d * size + p) 0)
  unfolding each_row
  word_each_row zero h d p q = rw (le-ltb d zero (omega arith))
  word_each_row (suc k) h d p q =
      let before = length_each_row k (omega (arith, fits_next k h)) in
      word_in_row acts k (each_row size k f l) (rw before (fits_next k h)) d p q
      ∙ rw (word_each_row k (omega (arith, fits_next k h)) d p q) (go (eqb d k) refl)
    where
      w : ℕ
      w = get_or l (d * size + p) 0

      go : (b : Bool) → eqb d k ≡ b → cond b (g p (cond (ltb d k) (g p w) w)) (cond (ltb d k) (g p w) w) ≡ cond (ltb d (suc k)) (g p w) w
      go true e = let same = eqb-true d k e in rw (le-ltb d k (omega arith), lt-ltb d (suc k) (omega arith))
      go false e =
          let other = eqb-false d k e in
          ap (λ b. cond b (g p w) w) (leb_same (suc d) k (suc d) (suc k) (λ h. omega arith) (λ h. omega arith))
