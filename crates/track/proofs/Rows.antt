-- Laws of lists of words in rows.
use Prim.Native.Nat.{ℕ, zero, suc, ◌+◌, ◌-◌, ◌*◌, ◌≤◌, ◌<◌}
use mathlib.Core.Path.{◌≡◌, refl, sym, ap, ◌∙◌}
use mathlib.Core.List.{List, [], ◌∷◌, ◌++◌}
use native.Mathlib.Nat.{le_of_suc-le-suc, not-suc-le-zero, add-zero, add-suc, suc-add, zero-add}
use native.Mathlib.Numerals.{add-one}
use native.Mathlib.Omega.{arith}
use lib.ListN.{length, get_or, set, take, drop}
use borrow.Rule.Slice.PartMut.{put_mid}
use mathlib.Core.Bool.{Bool, true, false, cond}
use lib.Dec.{leb}
use Rattle.std.proofs.lemmas.List.{set-get_or, take-append-drop}
use Rattle.model.specs.step.Rows.{map_first, in_part, in_row}
use Rattle.limits.specs.Ranges.{IsRowRange}

module _ (f : ℕ → ℕ → ℕ) where
  -- the word after the first n is as it was
  pub next_map_first : (i n : ℕ) (l : List ℕ) → get_or (map_first f i n l) n 0 ≡ get_or l n 0
  next_map_first i zero l = refl
  next_map_first i (suc n) [] = refl
  next_map_first i (suc n) (w ∷ ws) = next_map_first (suc i) n ws

  step : (i n j : ℕ) (l : List ℕ) → j ≡ i + n → n < length l → set (map_first f i n l) n (f j (get_or l n 0)) ≡ map_first f i (suc n) l
  step i zero j [] e h = absurd (not-suc-le-zero h)
  step i zero j (w ∷ ws) e h = ap (λ (k : ℕ). f k w ∷ ws) (e ∙ add-zero i)
  step i (suc n) j [] e h = absurd (not-suc-le-zero h)
  step i (suc n) j (w ∷ ws) e h = ap (λ (l : List ℕ). f i w ∷ l) (step (suc i) n j ws (e ∙ add-suc i n ∙ sym (suc-add i n)) (le_of_suc-le-suc h))

  -- a turn of a loop that changes one word after the other
  pub turn : (old row : List ℕ) (n r : ℕ) → row ≡ map_first f 0 n old → n < length old → r ≡ f n (get_or row n 0) → set row n r ≡ map_first f 0 (n + 1) old
  turn old row n r e h q =
      let r-is : r ≡ f n (get_or old n 0) = q ∙ ap (f n) (ap (λ (l : List ℕ). get_or l n 0) e ∙ next_map_first 0 n old) in
      rw (add-one, e, r-is) (step 0 n n old (sym (zero-add n)) h)

  -- a turn of a loop that finds the next word as f leaves it
  pub still_turn : (l : List ℕ) (n : ℕ) → l ≡ map_first f 0 n l → n < length l → f n (get_or l n 0) ≡ get_or l n 0 → l ≡ map_first f 0 (n + 1) l
  still_turn l n e h q = sym (set-get_or l n 0) ∙ turn l l n (get_or l n 0) e h (sym q)

  whole_part : (i k : ℕ) (l : List ℕ) → map_first f i k l ≡ map_first f i (length (take k l)) (take k l) ++ drop k l
  whole_part i zero l = refl
  whole_part i (suc k) [] = refl
  whole_part i (suc k) (w ∷ ws) = ap (λ (l : List ℕ). f i w ∷ l) (whole_part (suc i) k ws)

  next_part : (i p k : ℕ) (l : List ℕ) → p ≤ length l → map_first f i (p + k) l ≡ put_mid p k (map_first f i p l) (map_first f (i + p) (length (take k (drop p (map_first f i p l)))) (take k (drop p (map_first f i p l))))
  next_part i zero k l h = rw (zero-add, add-zero) (whole_part i k l)
  next_part i (suc p) k [] h = absurd (not-suc-le-zero h)
  next_part i (suc p) k (w ∷ ws) h =
      rw (suc-add p k, add-suc i p ∙ sym (suc-add i p)) (ap (λ (l : List ℕ). f i w ∷ l) (next_part (suc i) p k ws (le_of_suc-le-suc h)))

  -- a turn of a loop that changes one part after the other
  pub part_turn : (old row ys : List ℕ) (p k : ℕ) → row ≡ map_first f 0 p old → p ≤ length old → ys ≡ map_first f p (length (take k (drop p row))) (take k (drop p row)) → put_mid p k row ys ≡ map_first f 0 (p + k) old
  part_turn old row ys p k e h q = sym (next_part 0 p k old h ∙ rw (zero-add p, ← e, ← q))

  no_words : (i n : ℕ) → map_first f i n [] ≡ map_first f i 0 []
  no_words i zero = refl
  no_words i (suc n) = refl

  -- words that f leaves as they are
  pub rest_stays : (i n : ℕ) (l : List ℕ) → ((p : ℕ) → i + n ≤ p → p < i + length l → (w : ℕ) → w ≡ f p w) → map_first f i n l ≡ map_first f i (length l) l
  rest_stays i n [] h = no_words i n
  rest_stays i zero (w ∷ ws) h =
      ap (λ (x : ℕ). x ∷ ws) (h i (omega arith) (omega arith) w) ∙ ap (λ (l : List ℕ). f i w ∷ l) (rest_stays (suc i) zero ws (λ (p : ℕ) a b. h p (omega arith) (omega arith)))
  rest_stays i (suc n) (w ∷ ws) h =
      ap (λ (l : List ℕ). f i w ∷ l) (rest_stays (suc i) n ws (λ (p : ℕ) a b. h p (omega arith) (omega arith)))

  -- words whose index is told from another start
  pub from_start : (s i n : ℕ) (l : List ℕ) → map_first f (s + i) n l ≡ map_first (λ (k : ℕ). f (s + k)) i n l
  from_start s i zero l = refl
  from_start s i (suc n) [] = refl
  from_start s i (suc n) (w ∷ ws) =
      ap (λ (l : List ℕ). f (s + i) w ∷ l) (ap (λ (k : ℕ). map_first f k n ws) (sym (add-suc s i)) ∙ from_start s (suc i) n ws)

-- two functions that agree on the words of a list
pub same_words : (f g : ℕ → ℕ → ℕ) (i n : ℕ) (l : List ℕ) → ((p : ℕ) → p < i + n → (w : ℕ) → f p w ≡ g p w) → map_first f i n l ≡ map_first g i n l
same_words f g i zero l h = refl
same_words f g i (suc n) [] h = refl
same_words f g i (suc n) (w ∷ ws) h =
    ap (λ (x : ℕ). x ∷ map_first f (suc i) n ws) (h i (omega arith) w) ∙ ap (λ (l : List ℕ). g i w ∷ l) (same_words f g (suc i) n ws (λ (p : ℕ) a. h p (omega arith)))

-- a part put back where it stood
part_own : (start k : ℕ) (l : List ℕ) → put_mid start k l (take k (drop start l)) ≡ l
part_own start k l = ap (λ (ys : List ℕ). take start l ++ ys) (take-append-drop k (drop start l)) ∙ take-append-drop start l

-- a turn of a loop that finds the next part as f leaves it
pub still_part : (f : ℕ → ℕ → ℕ) (l : List ℕ) (p k : ℕ) → l ≡ map_first f 0 p l → p ≤ length l → take k (drop p l) ≡ map_first f p (length (take k (drop p l))) (take k (drop p l)) → l ≡ map_first f 0 (p + k) l
still_part f l p k e h q = sym (part_own p k l) ∙ part_turn f l l (take k (drop p l)) p k e h q

-- a part that was lent and came back as ys
pub put_part : (f : List ℕ → List ℕ) (start size k : ℕ) (l ys : List ℕ) → k ≡ size → ys ≡ f (take k (drop start l)) → put_mid start k l ys ≡ in_part start size f l
put_part f start size k l ys e q = rw (q, e)

-- a row that f leaves as it is
pub still_row : (f : List ℕ → List ℕ) (size c k : ℕ) (l : List ℕ) → k ≡ size → take k (drop (c * size) l) ≡ f (take k (drop (c * size) l)) → l ≡ in_row size c f l
unfolding in_row
still_row f size c k l e q = go (leb (c * size + size) (length l))
  where
    go : (b : Bool) → l ≡ cond b (in_part (c * size) size f l) l
    go true = sym (part_own (c * size) k l) ∙ put_part f (c * size) size k l (take k (drop (c * size) l)) e q
    go false = refl

-- the same, seen from where it stands
pub still_range : (f : List ℕ → List ℕ) (size c start end : ℕ) (l : List ℕ) → IsRowRange size c (length l) start end →
    take (end - start) (drop start l) ≡ f (take (end - start) (drop start l)) → l ≡ in_row size c f l
still_range f size c start end l r q =
    let words : end - start ≡ size = omega (arith, r.to) in
    still_row f size c (end - start) l words (sym (ap (λ (s : ℕ). take (end - start) (drop s l)) r.from) ∙ q ∙ ap (λ (s : ℕ). f (take (end - start) (drop s l))) r.from)
