-- Laws of the spelling of numbers: a turn of the reader, and that spelling and reading undo each other. Assumes nothing.
use Prim.Native.Nat.{ℕ, zero, suc, ◌+◌, ◌*◌, ◌-◌, ◌/◌, ◌%◌, ◌^◌, ◌≤◌, ◌<◌}
use mathlib.Core.Path.{◌≡◌, refl, ap, sym, ◌∙◌, subst}
use mathlib.Core.Bool.{Bool, true, false, cond, true≢false}
use mathlib.Core.List.{List, [], ◌∷◌, ◌++◌, append-nil}
use native.Mathlib.Numerals.{add-one}
use native.Mathlib.Omega.{arith}
use native.Mathlib.Nat.{pow-suc, pow-le-pow_right, zero-add, suc-add, add-suc}
use native.Mathlib.Decide.{dec_lt}
use mathlib.Core.Logic.{◌⊎◌, inl, inr, ⊎_elim}
use lib.ListN.{length, drop, get_or, drop_of_length-le}
use lib.Dec.{ltb, leb, lit<}
use lib.Seq.{drop-cons}
use borrow.Author.Tests.{ne_eqb, eq-eqb, eqb-false, lt-ltb, le-ltb, le-leb, lt-leb, ltb-true, leb-true, leb-false, not-true}
use Rattle.std.specs.Prelude.{Some, None}
use Rattle.text.specs.Split.{has}
use Rattle.text.specs.Hex.{digit, digit_of, digits, glyph, number, lean, spelled, value_of, spell, hex_of}

-- a digit that is read, and a byte that is none
pub digit_some : (x d : ℕ) → Some d ≡ digit_of x → (digit x < 16) × (d ≡ digit x)
unfolding digit_of
digit_some x d h = go (ltb (digit x) 16) refl h
  where
    go : (t : Bool) → ltb (digit x) 16 ≡ t → Some d ≡ cond t (Some (digit x)) None → (digit x < 16) × (d ≡ digit x)
    go true e k = (ltb-true _ _ e, cc)
    go false e k = let z : ◌≡◌ {A = ℕ} 0 1 = cc in absurd (omega arith)

pub digit_none : (x : ℕ) → None ≡ digit_of x → 15 < digit x
unfolding digit_of
digit_none x h = go (ltb (digit x) 16) refl h
  where
    go : (t : Bool) → ltb (digit x) 16 ≡ t → None ≡ cond t (Some (digit x)) None → 15 < digit x
    go true e k = let z : ◌≡◌ {A = ℕ} 0 1 = cc in absurd (omega arith)
    go false e k = omega (arith, leb-false (suc (digit x)) 16 e)

-- one turn of the reader
module _ (l : List ℕ) (i : ℕ) (h : i < length l) where
  pub digits_more : digit (get_or l i 0) < 16 → digits (drop i l) ≡ digits (drop (i + 1) l)
  unfolding digits
  digits_more d = rw (add-one, drop-cons l i 0 h, lt-ltb _ _ d)

  pub digits_stop : 15 < digit (get_or l i 0) → digits (drop i l) ≡ false
  unfolding digits
  digits_stop d = rw (drop-cons l i 0 h, le-ltb _ _ d)

  pub number_more : (v : ℕ) → number v (drop i l) ≡ number (v * 16 + digit (get_or l i 0)) (drop (i + 1) l)
  unfolding number
  number_more v = rw (add-one, drop-cons l i 0 h)

pub digits_end : (l : List ℕ) (i : ℕ) → length l ≤ i → digits (drop i l) ≡ true
unfolding digits
digits_end l i h = rw (drop_of_length-le l h)

pub number_end : (v : ℕ) (l : List ℕ) (i : ℕ) → length l ≤ i → number v (drop i l) ≡ v
unfolding number
number_end v l i h = rw (drop_of_length-le l h)

-- the bound on the digits read so far
pub bound_more : (v d i : ℕ) → v < 16 ^ i → d < 16 → v * 16 + d < 16 ^ (i + 1)
bound_more v d i h k = rw (add-one, pow-suc) (omega arith)

pub bound_fits : (v i : ℕ) → v < 16 ^ i → i ≤ 8 → v < 2 ^ 32
bound_fits v i h k = omega (arith, pow-le-pow_right {n = 16} (lit< tt) k)

-- the cases of a value
pub value_long : (s : List ℕ) → 8 < length s → None ≡ value_of s
unfolding value_of spelled
value_long s h = rw (lt-leb _ _ h)

pub value_lean : (s : List ℕ) → lean s ≡ false → None ≡ value_of s
unfolding value_of spelled
value_lean s h = rw h (go (leb (length s) 8))
  where
    go : (t : Bool) → None ≡ cond (cond t false false) (Some (number 0 s)) None
    go true = refl
    go false = refl

pub value_digits : (s : List ℕ) → digits s ≡ false → None ≡ value_of s
unfolding value_of spelled
value_digits s h = rw h (go (leb (length s) 8) (lean s))
  where
    go : (t u : Bool) → None ≡ cond (cond t (cond u false false) false) (Some (number 0 s)) None
    go true true = refl
    go true false = refl
    go false u = refl

pub value_good : (s : List ℕ) → length s ≤ 8 → lean s ≡ true → digits s ≡ true → Some (number 0 s) ≡ value_of s
unfolding value_of spelled
value_good s h k d = rw (le-leb _ _ h, k, d)

-- a `0` in front of others
pub lean_zero : (s : List ℕ) → 1 < length s → get_or s 0 0 ≡ 48 → lean s ≡ false
unfolding lean
lean_zero [] h e = absurd (omega arith)
lean_zero (x ∷ []) h e = absurd (omega arith)
lean_zero (x ∷ y ∷ ys) h e = rw (eq-eqb _ _ e)

-- a test and what it says
below : (a b : ℕ) → (a < b) ⊎ (b ≤ a)
below a b = elim (dec_lt a b) [ yes h ↦ inl h | no n ↦ inr (omega arith) ]

-- a digit and its byte
pub digit_glyph : (d : ℕ) → d < 16 → digit (glyph d) ≡ d
unfolding digit glyph
digit_glyph d h =
    ⊎_elim
    (λ p. simp (lt-ltb d 10 p, le-leb 48 (48 + d) (omega arith), le-leb (48 + d) 57 (omega arith)) (omega arith))
    (λ p. simp (le-ltb d 10 p, le-leb 48 (87 + d) (omega arith), lt-leb (87 + d) 57 (omega arith), le-leb 97 (87 + d) (omega arith), le-leb (87 + d) 102 (omega arith)) (omega arith))
    (below d 10)

pub glyph_digit : (x : ℕ) → digit x < 16 → glyph (digit x) ≡ x
unfolding digit glyph
glyph_digit x h = go (below x 48) (below x 58) (below x 97) (below x 103)
  where
    go : (x < 48) ⊎ (48 ≤ x) → (x < 58) ⊎ (58 ≤ x) → (x < 97) ⊎ (97 ≤ x) → (x < 103) ⊎ (103 ≤ x) → glyph (digit x) ≡ x
    go (inl a) q r t = absurd (omega (arith, simp (lt-leb 48 x a, lt-leb 97 x (omega arith)) at h))
    go (inr a) (inl b) r t = simp (le-leb 48 x a, le-leb x 57 (omega arith), lt-ltb (x - 48) 10 (omega arith)) (omega arith)
    go (inr a) (inr b) (inl c) t = absurd (omega (arith, simp (le-leb 48 x a, lt-leb x 57 (omega arith), lt-leb 97 x c) at h))
    go (inr a) (inr b) (inr c) (inl d) = simp (le-leb 48 x a, lt-leb x 57 (omega arith), le-leb 97 x c, le-leb x 102 (omega arith), le-ltb (x - 87) 10 (omega arith)) (omega arith)
    go (inr a) (inr b) (inr c) (inr d) = absurd (omega (arith, simp (le-leb 48 x a, lt-leb x 57 (omega arith), le-leb 97 x c, lt-leb x 102 (omega arith)) at h))

-- the first of several digits that pass is one, and the rest pass
pub digits_head : (x : ℕ) (xs : List ℕ) → digits (x ∷ xs) ≡ true → (digit x < 16) × (digits xs ≡ true)
unfolding digits
digits_head x xs h = go (ltb (digit x) 16) refl h
  where
    go : (t : Bool) → ltb (digit x) 16 ≡ t → cond t (digits xs) false ≡ true → (digit x < 16) × (digits xs ≡ true)
    go true e k = (ltb-true _ _ e, k)
    go false e k = absurd (true≢false (sym k))

-- to spell a number that was read gives back its digits, after the first
spell_number : (k v : ℕ) (xs acc : List ℕ) → 0 < v → digits xs ≡ true → spell (length xs + k) (number v xs) acc ≡ spell k v (xs ++ acc)
unfolding number spell
spell_number k v [] acc p h = rw zero-add
spell_number k v (x ∷ xs) acc p h =
    let d = digits_head x xs h in
    let w = v * 16 + digit x in
    let q : w / 16 ≡ v = omega arith in
    let r : w % 16 ≡ digit x = omega arith in
    ap (λ (n : ℕ). spell n (number w xs) acc) (suc-add (length xs) k ∙ sym (add-suc (length xs) k))
    ∙ spell_number (suc k) w xs acc (omega arith) d.1
    ∙ simp (le-ltb w 16 (omega arith), q, r, glyph_digit x d.0)

digit_zero : (x : ℕ) → digit x ≡ 0 → x ≡ 48
unfolding glyph
digit_zero x e = sym (glyph_digit x (omega arith)) ∙ ap glyph e

lean_two : (x y : ℕ) (ys : List ℕ) → lean (x ∷ y ∷ ys) ≡ true → 0 < digit x
unfolding lean
lean_two x y ys h = ⊎_elim (λ p. absurd (eqb-false x 48 (not-true _ h) (digit_zero x (omega arith)))) (λ p. p) (below (digit x) 1)

-- a text that reads as a number is that number's
spell_text : (s : List ℕ) → length s ≤ 8 → lean s ≡ true → digits s ≡ true → hex_of (number 0 s) ≡ s
unfolding hex_of lean number spell
spell_text [] h k d = absurd (true≢false (sym k))
spell_text (x ∷ []) h k d =
    let q = digits_head x [] d in
    let e : 0 * 16 + digit x ≡ digit x = omega arith in
    simp (e, lt-ltb (digit x) 16 q.0, glyph_digit x q.0)
spell_text (x ∷ y ∷ ys) h k d =
    let q = digits_head x (y ∷ ys) d in
    let e : 0 * 16 + digit x ≡ digit x = omega arith in
    let f : 8 ≡ length (y ∷ ys) + suc (7 - length (y ∷ ys)) = omega arith in
    ap (λ (v : ℕ). spell 8 (number v (y ∷ ys)) []) e
    ∙ ap (λ (n : ℕ). spell n (number (digit x) (y ∷ ys)) []) f
    ∙ spell_number (suc (7 - length (y ∷ ys))) (digit x) (y ∷ ys) [] (lean_two x y ys k) q.1
    ∙ simp (lt-ltb (digit x) 16 q.0, glyph_digit x q.0, append-nil)

-- what `spelled` tests
pub spelled_parts : (s : List ℕ) → spelled s ≡ true → (length s ≤ 8) × (lean s ≡ true) × (digits s ≡ true)
unfolding spelled
spelled_parts s h = go (leb (length s) 8) refl (lean s) refl h
  where
    go : (t : Bool) → leb (length s) 8 ≡ t → (u : Bool) → lean s ≡ u → cond t (cond u (digits s) false) false ≡ true → (length s ≤ 8) × (lean s ≡ true) × (digits s ≡ true)
    go true e true f k = (leb-true _ _ e, f, k)
    go true e false f k = absurd (true≢false (sym k))
    go false e u f k = absurd (true≢false (sym k))

-- a value that is read is spelled as the printer spells it
pub value_text : (s : List ℕ) (n : ℕ) → value_of s ≡ Some n → s ≡ hex_of n
unfolding value_of
value_text s n h = go (spelled s) refl h
  where
    go : (t : Bool) → spelled s ≡ t → cond t (Some (number 0 s)) None ≡ Some n → s ≡ hex_of n
    go true e k =
        let p = spelled_parts s e in
        let q : number 0 s ≡ n = cc in
        sym (spell_text s p.0 p.1 p.2) ∙ ap hex_of q
    go false e k = let z : ◌≡◌ {A = ℕ} 0 1 = cc in absurd (omega arith)

-- a value has 32 bits
number_bound : (v k : ℕ) (s : List ℕ) → v < 16 ^ k → digits s ≡ true → number v s < 16 ^ (k + length s)
unfolding number
number_bound v k [] h d = subst (λ (n : ℕ). v < 16 ^ n) (let e : k ≡ k + 0 = omega arith in e) h
number_bound v k (x ∷ xs) h d =
    let q = digits_head x xs d in
    let e : k + 1 + length xs ≡ k + suc (length xs) = omega arith in
    subst (λ (n : ℕ). number (v * 16 + digit x) xs < 16 ^ n) e (number_bound (v * 16 + digit x) (k + 1) xs (bound_more v (digit x) k h q.0) q.1)

pub value_bound : (s : List ℕ) (n : ℕ) → value_of s ≡ Some n → n < 2 ^ 32
unfolding value_of
value_bound s n h = go (spelled s) refl h
  where
    go : (t : Bool) → spelled s ≡ t → cond t (Some (number 0 s)) None ≡ Some n → n < 2 ^ 32
    go true e k =
        let p = spelled_parts s e in
        let q : number 0 s ≡ n = cc in
        let b : number 0 s < 16 ^ (0 + length s) = number_bound 0 0 s (omega arith) p.2 in
        subst (λ (m : ℕ). m < 2 ^ 32) q (bound_fits (number 0 s) (0 + length s) b (omega (arith, p.0)))
    go false e k = let z : ◌≡◌ {A = ℕ} 0 1 = cc in absurd (omega arith)

-- and the other way: what the printer spells is read as the number
number_spell : (k n : ℕ) (acc : List ℕ) → n < 16 ^ k → number 0 (spell k n acc) ≡ number n acc
unfolding number spell
number_spell zero n acc h = ap (λ (v : ℕ). number v acc) (omega arith)
number_spell (suc k) n acc h = go (number_spell k (n / 16) (glyph (n % 16) ∷ acc)) (below n 16)
  where
    go : (n / 16 < 16 ^ k → number 0 (spell k (n / 16) (glyph (n % 16) ∷ acc)) ≡ number (n / 16) (glyph (n % 16) ∷ acc)) → (n < 16) ⊎ (16 ≤ n) → number 0 (spell (suc k) n acc) ≡ number n acc
    go ih (inl p) = simp (lt-ltb n 16 p) (ap (λ (v : ℕ). number v acc) (omega (arith, digit_glyph n p)))
    go ih (inr p) =
        let w : n < 16 ^ k * 16 = rw pow-suc at h in
        let m : n % 16 < 16 = omega arith in
        simp (le-ltb n 16 p)
        (ih (omega arith) ∙ ap (λ (v : ℕ). number v acc) (omega (arith, digit_glyph (n % 16) m)))

digits_spell : (k n : ℕ) (acc : List ℕ) → digits acc ≡ true → digits (spell k n acc) ≡ true
unfolding digits spell
digits_spell zero n acc h = h
digits_spell (suc k) n acc h = go (digits_spell k (n / 16) (glyph (n % 16) ∷ acc)) (below n 16)
  where
    one : (d : ℕ) → d < 16 → digits (glyph d ∷ acc) ≡ true
    one d q = rw (digit_glyph d q, lt-ltb d 16 q) h

    go : (digits (glyph (n % 16) ∷ acc) ≡ true → digits (spell k (n / 16) (glyph (n % 16) ∷ acc)) ≡ true) → (n < 16) ⊎ (16 ≤ n) → digits (spell (suc k) n acc) ≡ true
    go ih (inl p) = rw (lt-ltb n 16 p) (one n p)
    go ih (inr p) = rw (le-ltb n 16 p) (ih (one (n % 16) (omega arith)))

pub length_spell : (k n : ℕ) (acc : List ℕ) → length (spell k n acc) ≤ k + length acc
unfolding spell
length_spell zero n acc = omega arith
length_spell (suc k) n acc = go (length_spell k (n / 16) (glyph (n % 16) ∷ acc)) (ltb n 16)
  where
    go : length (spell k (n / 16) (glyph (n % 16) ∷ acc)) ≤ k + suc (length acc) → (t : Bool) → length (cond t (glyph n ∷ acc) (spell k (n / 16) (glyph (n % 16) ∷ acc))) ≤ suc k + length acc
    go ih true = omega arith
    go ih false = omega arith

lean_head : (x : ℕ) (xs : List ℕ) → (x ≡ 48 → ⊥) → lean (x ∷ xs) ≡ true
unfolding lean
lean_head x [] h = refl
lean_head x (y ∷ ys) h = rw (ne_eqb x 48 h)

glyph_more : (d : ℕ) → 0 < d → glyph d ≡ 48 → ⊥
unfolding glyph
glyph_more d h e = ⊎_elim (λ p. omega (arith, simp (lt-ltb d 10 p) at e)) (λ p. omega (arith, simp (le-ltb d 10 p) at e)) (below d 10)

lean_spell : (k n : ℕ) (acc : List ℕ) → 0 < n → n < 16 ^ k → lean (spell k n acc) ≡ true
unfolding spell
lean_spell zero n acc p h = absurd (omega arith)
lean_spell (suc k) n acc p h = go (lean_spell k (n / 16) (glyph (n % 16) ∷ acc)) (below n 16)
  where
    go : (0 < n / 16 → n / 16 < 16 ^ k → lean (spell k (n / 16) (glyph (n % 16) ∷ acc)) ≡ true) → (n < 16) ⊎ (16 ≤ n) → lean (spell (suc k) n acc) ≡ true
    go ih (inl q) = rw (lt-ltb n 16 q) (lean_head (glyph n) acc (glyph_more n p))
    go ih (inr q) =
        let w : n < 16 ^ k * 16 = rw pow-suc at h in
        rw (le-ltb n 16 q) (ih (omega arith) (omega arith))

pub hex_spelled : (n : ℕ) → n < 2 ^ 32 → (length (hex_of n) ≤ 8) × (lean (hex_of n) ≡ true) × (digits (hex_of n) ≡ true)
unfolding hex_of
hex_spelled n h = (omega (arith, length_spell 8 n []), ⊎_elim (λ p. zero_lean n (omega arith)) (λ p. lean_spell 8 n [] p h) (below n 1), digits_spell 8 n [] digits_nil)
  where
    zero_lean : (m : ℕ) → m ≡ 0 → lean (spell 8 m []) ≡ true
    zero_lean m e = rw e (unfold lean spell in refl)

    digits_nil : digits [] ≡ true
    digits_nil = unfold digits in refl

pub text_value : (n : ℕ) → n < 2 ^ 32 → value_of (hex_of n) ≡ Some n
unfolding hex_of
text_value n h =
    let p = hex_spelled n h in
    sym (value_good (hex_of n) p.0 p.1 p.2) ∙ ap Some (number_spell 8 n [] h ∙ unfold number in refl)

-- a text of digits holds no byte that is no digit
pub digits_lack : (b : ℕ) (s : List ℕ) → digit b ≡ 16 → digits s ≡ true → has b s ≡ false
unfolding has
digits_lack b [] e h = refl
digits_lack b (x ∷ xs) e h =
    let q = digits_head x xs h in
    let n : x ≡ b → ⊥ = λ p. omega (arith, q.0, ap digit p) in
    rw (ne_eqb x b n) (digits_lack b xs e q.1)

-- a number holds no byte that is no digit
pub hex_lacks : (b n : ℕ) → digit b ≡ 16 → n < 2 ^ 32 → has b (hex_of n) ≡ false
hex_lacks b n e h = digits_lack b (hex_of n) e (hex_spelled n h).2

-- a number has a digit
spell_some : (k n : ℕ) (acc : List ℕ) → 1 ≤ length (spell (suc k) n acc)
unfolding spell
spell_some zero n acc = go (ltb n 16)
  where
    go : (t : Bool) → 1 ≤ length (cond t (glyph n ∷ acc) (glyph (n % 16) ∷ acc))
    go true = omega arith
    go false = omega arith
spell_some (suc k) n acc = go (spell_some k (n / 16) (glyph (n % 16) ∷ acc)) (ltb n 16)
  where
    go : 1 ≤ length (spell (suc k) (n / 16) (glyph (n % 16) ∷ acc)) → (t : Bool) → 1 ≤ length (cond t (glyph n ∷ acc) (spell (suc k) (n / 16) (glyph (n % 16) ∷ acc)))
    go ih true = omega arith
    go ih false = ih

pub hex_some : (n : ℕ) → 1 ≤ length (hex_of n)
unfolding hex_of
hex_some n = spell_some 7 n []

pub hex_length : (n : ℕ) → length (hex_of n) ≤ 8
unfolding hex_of
hex_length n = omega (arith, length_spell 8 n [])
