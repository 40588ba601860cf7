-- Image to lines to image returns the same bytes, and so does the way from accepted lines. Assumes nothing.
use Prim.Native.Nat.{ℕ, ◌+◌, ◌%◌, ◌≤◌}
use mathlib.Core.Path.{◌≡◌, refl, ap, sym, ◌∙◌, subst}
use mathlib.Core.Bool.{Bool, true, false, cond, true≢false}
use mathlib.Core.List.{List, [], ◌∷◌}
use native.Mathlib.Omega.{arith}
use lib.Dec.{eqb, leb}
use lib.ListN.{length}
use borrow.Author.Tests.{eqb-true, leb-true}
use Rattle.model.specs.step.Checks.{memory_fits}
use Rattle.lines.specs.Words.{Word, is_empty, words_from, image_from, end_from}
use Rattle.lines.specs.Ways.{Converted, gives, refusal, length_fits, text_of, lines_of, Read, words, turned, read_all, made, image_of, output, Bytes, SameBytes}
use Rattle.lines.proofs.WordLaws.{Rises, words_image, words_rise, image_words, image_length, image_bytes}
use Rattle.lines.proofs.ReadLaws.{all_read, text_accepted}

-- what a length that fits is like
pub fits_parts : (limit n : ℕ) → length_fits limit n ≡ true → (n % 4096 ≡ 0) × (4096 ≤ n) × (n ≤ 16777216) × (n ≤ limit)
unfolding length_fits memory_fits
fits_parts limit n h = go (eqb (n % 4096) 0) refl (leb 4096 n) refl (leb n 16777216) refl (leb n limit) refl h
  where
    go : (s : Bool) → eqb (n % 4096) 0 ≡ s → (t : Bool) → leb 4096 n ≡ t → (u : Bool) → leb n 16777216 ≡ u → (v : Bool) → leb n limit ≡ v
        → cond (cond s (cond t u false) false) v false ≡ true → (n % 4096 ≡ 0) × (4096 ≤ n) × (n ≤ 16777216) × (n ≤ limit)
    go true es true et true eu true ev k = (eqb-true _ _ es, leb-true _ _ et, leb-true _ _ eu, leb-true _ _ ev)
    go true es true et true eu false ev k = absurd (true≢false (sym k))
    go true es true et false eu v ev k = absurd (true≢false (sym k))
    go true es false et u eu v ev k = absurd (true≢false (sym k))
    go false es t et u eu v ev k = absurd (true≢false (sym k))

some_bytes : (m : List ℕ) → 1 ≤ length m → is_empty m ≡ false
some_bytes [] h = absurd (let z : ⊥ = omega arith in z)
some_bytes (x ∷ xs) h = refl

-- ── Image to lines to image ──
module _ (limit : ℕ) (m : List ℕ) (b : Bytes m) (h : length_fits limit (length m) ≡ true) where
  p : (length m % 4096 ≡ 0) × (4096 ≤ length m) × (length m ≤ 16777216) × (length m ≤ limit)
  p = fits_parts limit (length m) h

  rise : Rises 0 (words_from 0 m)
  rise = words_rise 0 m (omega arith) (omega (arith, p.2)) b

  back : image_from 0 (words_from 0 m) ≡ m
  back = words_image 0 0 m (omega arith) (let z : length m % 4 ≡ 0 = omega (arith, p.0) in z) b (some_bytes m (omega (arith, p.1)))

  long : end_from 0 (words_from 0 m) ≡ length m
  long = sym (image_length 0 (words_from 0 m) rise) ∙ ap (λ (x : List ℕ). 0 + length x) back ∙ omega arith

  pub has_lines : lines_of limit m ≡ gives (text_of (words_from 0 m))
  unfolding lines_of
  has_lines = ap (λ (t : Bool). cond t (gives (text_of (words_from 0 m))) (refusal 0 19)) h

  of_text : image_of limit (text_of (words_from 0 m)) ≡ gives m
  unfolding image_of
  of_text =
      ap (made limit) (text_accepted (words_from 0 m) rise)
      ∙ ap (λ (n : ℕ). cond (length_fits limit n) (gives (image_from 0 (words_from 0 m))) (refusal 0 19)) long
      ∙ ap (λ (t : Bool). cond t (gives (image_from 0 (words_from 0 m))) (refusal 0 19)) h
      ∙ ap gives back

  pub image_back_lem : image_of limit (output (lines_of limit m)) ≡ gives m
  image_back_lem = ap (λ (g : Converted). image_of limit (output g)) has_lines ∙ of_text

-- ── Accepted lines to image to lines ──
-- what an accepted input is: the text of words in their order, whose image it gives
pub record Accepted (limit : ℕ) (l m : List ℕ) : Type 0 where
  pub written : List Word
  pub text : l ≡ text_of written
  pub rise : Rises 0 written
  pub fits : length_fits limit (end_from 0 written) ≡ true
  pub image : m ≡ image_from 0 written

no_image : {n r : ℕ} {m : List ℕ} {A : Type 0} → refusal n r ≡ gives m → A
no_image h = let z : ◌≡◌ {A = ℕ} 0 1 = cc in absurd (omega arith)

pub accepted_parts : (limit : ℕ) (l m : List ℕ) → image_of limit l ≡ gives m → Accepted limit l m
unfolding image_of
accepted_parts limit l m h = go (read_all l) refl h
  where
    of_words : (xs : List Word) → read_all l ≡ words xs → (t : Bool) → length_fits limit (end_from 0 xs) ≡ t → cond t (gives (image_from 0 xs)) (refusal 0 19) ≡ gives m → Accepted limit l m
    of_words xs e true f k =
        let r = all_read l xs e in
        let i : m ≡ image_from 0 xs = cc in
        record { written = xs; text = r.0; rise = r.1; fits = f; image = i }
    of_words xs e false f k = no_image k

    go : (q : Read) → read_all l ≡ q → made limit q ≡ gives m → Accepted limit l m
    go (words xs) e k = of_words xs e (length_fits limit (end_from 0 xs)) refl k
    go (turned n r) e k = no_image k

module _ (limit : ℕ) (l m : List ℕ) (h : image_of limit l ≡ gives m) where
  a : Accepted limit l m
  a = accepted_parts limit l m h

  ends : length m ≡ end_from 0 a.written
  ends = ap length a.image ∙ (let z : length (image_from 0 a.written) ≡ 0 + length (image_from 0 a.written) = omega arith in z) ∙ image_length 0 a.written a.rise

  fits : length_fits limit (length m) ≡ true
  fits = ap (length_fits limit) ends ∙ a.fits

  same_words : words_from 0 m ≡ a.written
  same_words = ap (words_from 0) a.image ∙ image_words 0 a.written (omega arith) a.rise

  pub lines_back_lem : lines_of limit m ≡ gives l
  unfolding lines_of
  lines_back_lem =
      ap (λ (t : Bool). cond t (gives (text_of (words_from 0 m))) (refusal 0 19)) fits
      ∙ ap (λ (xs : List Word). gives (text_of xs)) same_words
      ∙ ap gives (sym a.text)

  pub accepted_image : Bytes m × (length_fits limit (length m) ≡ true)
  accepted_image = (subst Bytes (sym a.image) (image_bytes 0 a.written), fits)

same_lines : (limit : ℕ) (l k m : List ℕ) → image_of limit l ≡ gives m → image_of limit k ≡ gives m → l ≡ k
same_lines limit l k m p q = let e : gives l ≡ gives k = sym (lines_back_lem limit l m p) ∙ lines_back_lem limit k m q in let z : l ≡ k = cc in z

pub same_bytes : SameBytes
same_bytes = record { image_back = image_back_lem; lines_back = lines_back_lem; same_lines = same_lines; images = accepted_image }
