-- The words of lines, stored one after the other into an image of zeros, make their image. Assumes nothing.
use Prim.Native.Nat.{ℕ, suc, ◌+◌, ◌-◌, ◌/◌, ◌%◌, ◌≤◌}
use mathlib.Core.Path.{◌≡◌, refl, ap, ap₂, sym, ◌∙◌}
use mathlib.Core.Bool.{Bool, true, false, cond}
use mathlib.Core.List.{List, [], ◌∷◌, ◌++◌, append_assoc, append-nil}
use native.Mathlib.Omega.{arith}
use lib.ListN.{length, take, drop, set, replicate, length-append, length-replicate, length-set, replicate-append-replicate}
use lib.Seq.{sets-eq, take_at, drop-append-add}
use borrow.Author.Tests.{le-leb}
use Rattle.model.specs.declared.Size.TheVariants.{Four}
use Rattle.model.specs.step.Memory.{within, stored_at, written_at}
use Rattle.lines.specs.Words.{Word, bytes_of, image_from, end_from}
use Rattle.lines.proofs.WordLaws.{Rises}

-- words stored one after the other, where they lie in the image
unfoldable pub stored : List ℕ → List Word → List ℕ
stored m [] = m
stored m (x ∷ xs) = stored (written_at Four m x.address x.word) xs

-- a store leaves the length
stored_length : (m : List ℕ) (a w : ℕ) → length (stored_at Four m a w) ≡ length m
stored_length m a w =
    length-set (set (set (set m a (w % 256)) (a + 1) (w / 256 % 256)) (a + 2) (w / 65536 % 256)) (a + 2 + 1) (w / 65536 / 256 % 256)
    ∙ length-set (set (set m a (w % 256)) (a + 1) (w / 256 % 256)) (a + 2) (w / 65536 % 256)
    ∙ length-set (set m a (w % 256)) (a + 1) (w / 256 % 256)
    ∙ length-set m a (w % 256)

pub written_length : (m : List ℕ) (a w : ℕ) → length (written_at Four m a w) ≡ length m
unfolding written_at
written_length m a w = go (within Four m a)
  where
    go : (t : Bool) → length (cond t (stored_at Four m a w) m) ≡ length m
    go true = stored_length m a w
    go false = refl

-- a word that lies in the image
word_stored : (m : List ℕ) (a w : ℕ) → a + 4 ≤ length m → written_at Four m a w ≡ take a m ++ bytes_of w [] ++ drop (a + 4) m
unfolding written_at within
word_stored m a w h =
    ap (λ (t : Bool). cond t (stored_at Four m a w) m) (le-leb (a + 4) (length m) h)
    ∙ ap₂ (λ (i j : ℕ). set (set (set (set m a (w % 256)) i (w / 256 % 256)) j (w / 65536 % 256)) (j + 1) (w / 65536 / 256 % 256))
    (let e : a + 1 ≡ suc a = omega arith in e) (let e : a + 2 ≡ suc (suc a) = omega arith in e)
    ∙ ap₂ (λ (i x : ℕ). set (set (set (set m a (w % 256)) (suc a) (w / 256 % 256)) (suc (suc a)) (w / 65536 % 256)) i (x % 256))
    (let e : suc (suc a) + 1 ≡ suc (suc (suc a)) = omega arith in e) (let e : w / 65536 / 256 ≡ w / 16777216 = omega arith in e)
    ∙ sets-eq (bytes_of w []) m a h

-- the same where its four bytes, x to u, and what stands before and behind them are known
word_between : (p q : List ℕ) (x y z u a w : ℕ) → length p ≡ a → written_at Four (p ++ (x ∷ y ∷ z ∷ u ∷ q)) a w ≡ (p ++ bytes_of w []) ++ q
word_between p q x y z u a w e =
    let r = x ∷ y ∷ z ∷ u ∷ q in
    word_stored (p ++ r) a w (omega (arith, e, length-append p r))
    ∙ ap₂ (λ (s t : List ℕ). s ++ bytes_of w [] ++ t) (take_at p r a e) (ap (λ (n : ℕ). drop (n + 4) (p ++ r)) (sym e) ∙ drop-append-add p r 4)

-- zeros, with a word's place in them
zeros_around : (gap rest : ℕ) → replicate {A = ℕ} (gap + (4 + rest)) 0 ≡ replicate gap 0 ++ (0 ∷ 0 ∷ 0 ∷ 0 ∷ replicate rest 0)
zeros_around gap rest =
    sym (replicate-append-replicate gap (4 + rest) 0)
    ∙ ap (λ (z : List ℕ). replicate gap 0 ++ z) (sym (replicate-append-replicate 4 rest 0))

-- a word stored behind what is written
word_behind : (f : List ℕ) (at gap rest a w : ℕ) → length f ≡ at → a ≡ at + gap
    → written_at Four (f ++ replicate (gap + (4 + rest)) 0) a w ≡ (f ++ (replicate gap 0 ++ bytes_of w [])) ++ replicate rest 0
word_behind f at gap rest a w e h =
    let p = f ++ replicate gap 0 in
    let long : length p ≡ a = omega (arith, e, h, length-append f (replicate gap 0), length-replicate {A = ℕ} gap 0) in
    ap (λ (z : List ℕ). written_at Four (f ++ z) a w) (zeros_around gap rest)
    ∙ ap (λ (z : List ℕ). written_at Four z a w) (sym (append_assoc f (replicate gap 0) (0 ∷ 0 ∷ 0 ∷ 0 ∷ replicate rest 0)))
    ∙ word_between p (replicate rest 0) 0 0 0 0 a w long
    ∙ ap (λ (z : List ℕ). z ++ replicate rest 0) (append_assoc f (replicate gap 0) (bytes_of w []))

pub end_grows : (at : ℕ) (xs : List Word) → Rises at xs → at ≤ end_from at xs
unfolding end_from
end_grows at [] r = omega arith
end_grows at (x ∷ xs) r = omega (arith, r.0.rises, end_grows (x.address + 4) xs r.1)

-- behind what is written, zeros for the words still to come
pub stored_image : (xs : List Word) (f : List ℕ) (at k : ℕ) → length f ≡ at → Rises at xs → end_from at xs ≤ at + k → take (end_from at xs) (stored (f ++ replicate k 0) xs) ≡ f ++ image_from at xs
unfolding stored end_from image_from
stored_image [] f at k e r h = take_at f (replicate k 0) at e ∙ sym (append-nil f)
stored_image (x ∷ xs) f at k e r h =
    let a = x.address in
    let gap = a - at in
    let grows = end_grows (a + 4) xs r.1 in
    let rest = k - (gap + 4) in
    let place : a ≡ at + gap = omega (arith, r.0.rises) in
    let many : k ≡ gap + (4 + rest) = omega (arith, r.0.rises, grows, h) in
    let g = f ++ (replicate gap 0 ++ bytes_of x.word []) in
    let long : length g ≡ a + 4 =
    length-append f (replicate gap 0 ++ bytes_of x.word []) ∙ omega (arith, e, place, length-append (replicate gap 0) (bytes_of x.word []), length-replicate {A = ℕ} gap 0) in
    ap (λ (n : ℕ). take (end_from (a + 4) xs) (stored (written_at Four (f ++ replicate n 0) a x.word) xs)) many
    ∙ ap (λ (m : List ℕ). take (end_from (a + 4) xs) (stored m xs)) (word_behind f at gap rest a x.word e place)
    ∙ stored_image xs g (a + 4) rest long r.1 (omega (arith, h, many, place))
    ∙ append_assoc f (replicate gap 0 ++ bytes_of x.word []) (image_from (a + 4) xs)
    ∙ ap (λ (z : List ℕ). f ++ z) (append_assoc (replicate gap 0) (bytes_of x.word []) (image_from (a + 4) xs))
