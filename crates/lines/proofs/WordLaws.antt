-- The image of an image's words is the image, and the words of the image of words are the words. Assumes nothing.
use Prim.Native.Nat.{ℕ, zero, suc, ◌+◌, ◌*◌, ◌-◌, ◌/◌, ◌%◌, ◌^◌, ◌≤◌, ◌<◌}
use mathlib.Core.Path.{◌≡◌, refl, ap, ap₂, sym, ◌∙◌}
use mathlib.Core.Bool.{Bool, true, false, cond, true≢false}
use mathlib.Core.List.{List, [], ◌∷◌, ◌++◌, append_assoc}
use native.Mathlib.Omega.{arith}
use lib.Dec.{eqb}
use lib.ListN.{length, replicate, length-append, length-replicate, replicate-append-replicate}
use borrow.Author.Tests.{eq-eqb, eqb-true}
use Rattle.lines.specs.Words.{Word, is_empty, word_of, has_line, kept, words_from, bytes_of, image_from, end_from}
use Rattle.lines.specs.Ways.{Bytes, no_more, more}

-- ── Words and their bytes ──
low_byte : (x y : ℕ) → x < 256 → (x + 256 * y) % 256 ≡ x
low_byte x y h = omega arith

one_byte : (x : ℕ) → x < 256 → x % 256 ≡ x
one_byte x h = omega arith

module _ (a b c d : ℕ) (ha : a < 256) (hb : b < 256) (hc : c < 256) (hd : d < 256) where
  word_bytes : (rest : List ℕ) → bytes_of (word_of a b c d) rest ≡ a ∷ b ∷ c ∷ d ∷ rest
  word_bytes rest =
      let w = word_of a b c d in
      let p : w % 256 ≡ a = omega arith in
      let e : w / 256 ≡ b + 256 * (c + 256 * d) = omega arith in
      let f : w / 65536 ≡ c + 256 * d = omega arith in
      let g : w / 16777216 ≡ d = omega arith in
      let q : w / 256 % 256 ≡ b = ap (λ (n : ℕ). n % 256) e ∙ low_byte b (c + 256 * d) hb in
      let r : w / 65536 % 256 ≡ c = ap (λ (n : ℕ). n % 256) f ∙ low_byte c d hc in
      let s : w / 16777216 % 256 ≡ d = ap (λ (n : ℕ). n % 256) g ∙ one_byte d hd in
      ap₂ (λ (x y : ℕ). x ∷ y ∷ w / 65536 % 256 ∷ w / 16777216 % 256 ∷ rest) p q ∙ ap₂ (λ (x y : ℕ). a ∷ b ∷ x ∷ y ∷ rest) r s

  word_fits : word_of a b c d < 2 ^ 32
  word_fits = omega arith

bytes_word : (w : ℕ) → w < 2 ^ 32 → word_of (w % 256) (w / 256 % 256) (w / 65536 % 256) (w / 16777216 % 256) ≡ w
bytes_word w h =
    let e : w / 65536 ≡ w / 256 / 256 = omega arith in
    let f : w / 16777216 ≡ w / 65536 / 256 = omega arith in
    let g : w / 16777216 % 256 ≡ w / 16777216 = omega arith in
    let i : w ≡ w % 256 + 256 * (w / 256) = omega arith in
    let j : w / 256 ≡ w / 256 % 256 + 256 * (w / 65536) = omega (arith, e) in
    let k : w / 65536 ≡ w / 65536 % 256 + 256 * (w / 16777216) = omega (arith, f) in
    omega (arith, g, i, j, k)

-- ── Words in their order ──
-- what the words of an image are like: x, with xs behind it, is at `least` or above
pub record Follows (least : ℕ) (x : Word) (xs : List Word) : Type 0 where
  pub rises : least ≤ x.address
  pub aligned : x.address % 4 ≡ 0
  pub address_fits : x.address < 2 ^ 32
  pub word_fits : x.word < 2 ^ 32
  pub zero_last : x.word ≡ 0 → xs ≡ []

abbrev pub Rises : ℕ → List Word → Type 0
Rises least [] = Unit {0}
Rises least (x ∷ xs) = Follows least x xs × Rises (x.address + 4) xs

rises_more : (least low : ℕ) (xs : List Word) → low ≤ least → Rises least xs → Rises low xs
rises_more least low [] h r = tt
rises_more least low (x ∷ xs) h r =
    let f = r.0 in
    (record { rises = omega (arith, f.rises); aligned = f.aligned; address_fits = f.address_fits; word_fits = f.word_fits; zero_last = f.zero_last }, r.1)

empty_nil : (m : List ℕ) → is_empty m ≡ true → m ≡ []
empty_nil [] h = refl
empty_nil (x ∷ xs) h = absurd (true≢false (sym h))

-- a word that has no line is zero and has bytes behind it
no_line : (w : ℕ) (rest : List ℕ) → has_line w rest ≡ false → (w ≡ 0) × (is_empty rest ≡ false)
unfolding has_line
no_line w rest h = go (eqb w 0) refl h
  where
    go : (t : Bool) → eqb w 0 ≡ t → cond t (is_empty rest) true ≡ false → (w ≡ 0) × (is_empty rest ≡ false)
    go true e k = (eqb-true w 0 e, k)
    go false e k = absurd (true≢false k)

line_zero : (w : ℕ) (rest : List ℕ) → has_line w rest ≡ true → w ≡ 0 → rest ≡ []
unfolding has_line
line_zero w rest h z = empty_nil rest (sym (ap (λ (t : Bool). cond t (is_empty rest) true) (eq-eqb w 0 z)) ∙ h)

-- ── The image of an image's words ──
zeros_four : (k : ℕ) (rest : List ℕ) → replicate (k + 4) 0 ++ rest ≡ replicate k 0 ++ (0 ∷ 0 ∷ 0 ∷ 0 ∷ rest)
zeros_four k rest =
    ap (λ (x : List ℕ). x ++ rest) (sym (replicate-append-replicate k 4 0))
    ∙ append_assoc (replicate k 0) (replicate 4 0) rest

-- an image is whole words
pub words_image : (base at : ℕ) (m : List ℕ) → base ≤ at → length m % 4 ≡ 0 → Bytes m → is_empty m ≡ false → image_from base (words_from at m) ≡ replicate (at - base) 0 ++ m
unfolding words_from image_from
words_image base at [] h k b e = absurd (true≢false e)
words_image base at (x ∷ []) h k b e = absurd (let z : ⊥ = omega arith in z)
words_image base at (x ∷ y ∷ []) h k b e = absurd (let z : ⊥ = omega arith in z)
words_image base at (x ∷ y ∷ z ∷ []) h k b e = absurd (let z : ⊥ = omega arith in z)
words_image base at (x ∷ y ∷ z ∷ u ∷ rest) h k (more hx (more hy (more hz (more hu b)))) e =
    go (λ low p q. words_image low (at + 4) rest p (let z : length rest % 4 ≡ 0 = omega arith in z) b q) (has_line w rest) refl
  where
    w : ℕ
    w = word_of x y z u

    Rest : Type 0
    Rest = (low : ℕ) → low ≤ at + 4 → is_empty rest ≡ false → image_from low (words_from (at + 4) rest) ≡ replicate (at + 4 - low) 0 ++ rest

    -- with nothing in front
    here : Rest → (r : List ℕ) → rest ≡ r → image_from (at + 4) (words_from (at + 4) r) ≡ r
    here ih [] f = refl
    here ih (v ∷ vs) f =
        ap (λ (q : List ℕ). image_from (at + 4) (words_from (at + 4) q)) (sym f)
        ∙ ih (at + 4) (omega arith) (ap is_empty f)
        ∙ ap (λ (n : ℕ). replicate n 0 ++ rest) (let z : at + 4 - (at + 4) ≡ 0 = omega arith in z)
        ∙ f

    go : Rest → (t : Bool) → has_line w rest ≡ t → image_from base (kept t (record { address = at; word = w }) (words_from (at + 4) rest)) ≡ replicate (at - base) 0 ++ (x ∷ y ∷ z ∷ u ∷ rest)
    go ih true f = ap (λ (q : List ℕ). replicate (at - base) 0 ++ q) (ap (bytes_of w) (here ih rest refl) ∙ word_bytes x y z u hx hy hz hu rest)
    go ih false f =
        let p = no_line w rest f in
        let zx : 0 ≡ x = omega (arith, p.0) in
        let zy : 0 ≡ y = omega (arith, p.0) in
        let zz : 0 ≡ z = omega (arith, p.0) in
        let zu : 0 ≡ u = omega (arith, p.0) in
        ih base (omega arith) p.1
        ∙ ap (λ (n : ℕ). replicate n 0 ++ rest) (let q : at + 4 - base ≡ at - base + 4 = omega arith in q)
        ∙ zeros_four (at - base) rest
        ∙ ap₂ (λ (i j : ℕ). replicate (at - base) 0 ++ (i ∷ j ∷ 0 ∷ 0 ∷ rest)) zx zy
        ∙ ap₂ (λ (i j : ℕ). replicate (at - base) 0 ++ (x ∷ y ∷ i ∷ j ∷ rest)) zz zu

-- the words of an image stand in their order
pub words_rise : (at : ℕ) (m : List ℕ) → at % 4 ≡ 0 → at + length m ≤ 2 ^ 32 → Bytes m → Rises at (words_from at m)
unfolding words_from
words_rise at [] h k b = tt
words_rise at (x ∷ []) h k b = tt
words_rise at (x ∷ y ∷ []) h k b = tt
words_rise at (x ∷ y ∷ z ∷ []) h k b = tt
words_rise at (x ∷ y ∷ z ∷ u ∷ rest) h k (more hx (more hy (more hz (more hu b)))) =
    go (words_rise (at + 4) rest (let z : (at + 4) % 4 ≡ 0 = omega arith in z) (let z : at + 4 + length rest ≤ 2 ^ 32 = omega arith in z) b) (has_line w rest) refl
  where
    w : ℕ
    w = word_of x y z u

    last : has_line w rest ≡ true → w ≡ 0 → words_from (at + 4) rest ≡ []
    last f e = ap (words_from (at + 4)) (line_zero w rest f e)

    go : Rises (at + 4) (words_from (at + 4) rest) → (t : Bool) → has_line w rest ≡ t → Rises at (kept t (record { address = at; word = w }) (words_from (at + 4) rest))
    go ih true f =
        (record { rises = omega arith; aligned = h; address_fits = omega arith; word_fits = word_fits x y z u hx hy hz hu; zero_last = last f }, ih)
    go ih false f = rises_more (at + 4) at (words_from (at + 4) rest) (omega arith) ih

-- ── The words of the image of words ──
empty_append : (xs ys : List ℕ) → is_empty ys ≡ false → is_empty (xs ++ ys) ≡ false
empty_append [] ys h = h
empty_append (x ∷ xs) ys h = refl

-- words that are zero, with bytes behind them, have no lines
skip_zeros : (j at : ℕ) (m : List ℕ) → is_empty m ≡ false → words_from at (replicate (4 * j) 0 ++ m) ≡ words_from (at + 4 * j) m
unfolding words_from has_line
skip_zeros zero at m h = ap (λ (n : ℕ). words_from n m) (let z : at ≡ at + 4 * 0 = omega arith in z)
skip_zeros (suc j) at m h =
    ap (λ (n : ℕ). words_from at (replicate n 0 ++ m)) (let z : 4 * suc j ≡ suc (suc (suc (suc (4 * j)))) = omega arith in z)
    ∙ ap (λ (t : Bool). kept t (record { address = at; word = 0 }) (words_from (at + 4) (replicate (4 * j) 0 ++ m))) (empty_append (replicate (4 * j) 0) m h)
    ∙ skip_zeros j (at + 4) m h
    ∙ ap (λ (n : ℕ). words_from n m) (let z : at + 4 + 4 * j ≡ at + 4 * suc j = omega arith in z)

-- a word in front, whose bytes have a line
word_first : (at w : ℕ) (rest : List ℕ) → w < 2 ^ 32 → has_line w rest ≡ true → words_from at (bytes_of w rest) ≡ record { address = at; word = w } ∷ words_from (at + 4) rest
unfolding words_from
word_first at w rest h k =
    ap (λ (v : ℕ). kept (has_line v rest) (record { address = at; word = v }) (words_from (at + 4) rest)) (bytes_word w h)
    ∙ ap (λ (t : Bool). kept t (record { address = at; word = w }) (words_from (at + 4) rest)) k

has_line_lem : (w : ℕ) (rest : List ℕ) → (w ≡ 0 → rest ≡ []) → has_line w rest ≡ true
unfolding has_line
has_line_lem w rest h = go (eqb w 0) refl
  where
    go : (t : Bool) → eqb w 0 ≡ t → cond t (is_empty rest) true ≡ true
    go true e = ap is_empty (h (eqb-true w 0 e))
    go false e = refl

pub image_words : (at : ℕ) (xs : List Word) → at % 4 ≡ 0 → Rises at xs → words_from at (image_from at xs) ≡ xs
unfolding image_from
image_words at [] h r = unfold words_from in refl
image_words at (x ∷ xs) h r =
    let f = r.0 in
    let a = x.address in
    let rest = image_from (a + 4) xs in
    let j = (a - at) / 4 in
    let gap : a - at ≡ 4 * j = omega (arith, f.rises, f.aligned) in
    let here : at + 4 * j ≡ a = omega (arith, f.rises, f.aligned) in
    ap (λ (n : ℕ). words_from at (replicate n 0 ++ bytes_of x.word rest)) gap
    ∙ skip_zeros j at (bytes_of x.word rest) refl
    ∙ ap (λ (n : ℕ). words_from n (bytes_of x.word rest)) here
    ∙ word_first a x.word rest f.word_fits (has_line_lem x.word rest (λ z. ap (image_from (a + 4)) (f.zero_last z)))
    ∙ ap (λ (ys : List Word). x ∷ ys) (image_words (a + 4) xs (let z : (a + 4) % 4 ≡ 0 = omega (arith, f.aligned) in z) r.1)

-- ── The length and the bytes of the image of words ──
pub image_length : (at : ℕ) (xs : List Word) → Rises at xs → at + length (image_from at xs) ≡ end_from at xs
unfolding image_from end_from
image_length at [] r = omega arith
image_length at (x ∷ xs) r =
    let a = x.address in
    let e : length (replicate (a - at) 0 ++ bytes_of x.word (image_from (a + 4) xs)) ≡ a - at + (4 + length (image_from (a + 4) xs)) =
    length-append (replicate (a - at) 0) (bytes_of x.word (image_from (a + 4) xs)) ∙ omega (arith, length-replicate {A = ℕ} (a - at) 0) in
    omega (arith, e, r.0.rises, image_length (a + 4) xs r.1)

bytes_append : (xs ys : List ℕ) → Bytes xs → Bytes ys → Bytes (xs ++ ys)
bytes_append [] ys b c = c
bytes_append (x ∷ xs) ys (more h b) c = more h (bytes_append xs ys b c)

zeros_bytes : (n : ℕ) → Bytes (replicate n 0)
zeros_bytes zero = no_more
zeros_bytes (suc n) = more {x = 0} (omega arith) (zeros_bytes n)

pub image_bytes : (at : ℕ) (xs : List Word) → Bytes (image_from at xs)
unfolding image_from
image_bytes at [] = no_more
image_bytes at (x ∷ xs) =
    bytes_append (replicate (x.address - at) 0) (bytes_of x.word (image_from (x.address + 4) xs)) (zeros_bytes (x.address - at))
    (more (omega arith) (more (omega arith) (more (omega arith) (more (omega arith) (image_bytes (x.address + 4) xs)))))
