-- What the tests of `load` and `store` say of the definitions.
use Prim.Native.Nat.{ℕ, ◌+◌, ◌*◌, ◌≤◌, ◌<◌, ◌-◌, ◌/◌, ◌%◌}
use native.Mathlib.Omega.{arith}
use lib.Dec.{lit<}
use Rattle.std.specs.Int.{w32, to_le_bytes}
use Rattle.model.specs.declared.Size.TheVariants.{One, Two, Four}
use mathlib.Core.Path.{◌≡◌, refl, sym, ap, ◌∙◌}
use mathlib.Core.List.{List, [], ◌∷◌, ◌++◌}
use mathlib.Core.Bool.{true}
use lib.ListN.{length, length-set, get_or, set, take}
use borrow.Rule.Slice.PartMut.{put_mid}
use Rattle.std.proofs.lemmas.List.{same_lists, places, get_or-set_same, take-append-drop}
use Rattle.std.proofs.lemmas.Bool.{cases_eq}
use Rattle.std.proofs.Common.{rules}
use borrow.Author.Tests.{leb-true}
use Rattle.model.specs.declared.Size.{Size}
use Rattle.model.specs.step.Memory.{bytes_of, number_at, stored_at, within, written_at}

-- what was tested lies in memory
pub fits : (s : Size) (m : List ℕ) (at : ℕ) → true ≡ within s m at → at + bytes_of s ≤ length m
unfolding within
fits s m at h = leb-true (at + bytes_of s) (length m) (sym h)

-- a value that is known in two ways, under a function
pub via : {A B : Type 0} (f : A → B) {r x y : A} → r ≡ x → r ≡ y → f y ≡ f x
via f p q = ap f (sym q ∙ p)

pub bytes_pos : (s : Size) → 0 < bytes_of s
bytes_pos One = lit< tt
bytes_pos Two = lit< tt
bytes_pos Four = lit< tt

-- one byte more behind the k bytes ys that were stored from `at`
one_more : (m : List ℕ) (at k i : ℕ) (ys : List ℕ) (y : ℕ) → length ys ≡ k → i ≡ at + k → i < length m → set (put_mid at k m ys) i y ≡ put_mid at (k + 1) m (ys ++ y ∷ [])
one_more m at k i ys y e q h =
    same_lists _ _ (search (rules, places, length-set)) (λ (j d : ℕ) l. grind (arith, places, get_or-set_same, cases_eq j i))

-- one byte, two and four of them, stored one by one
one_set : (m : List ℕ) (at a : ℕ) → at < length m → set m at a ≡ put_mid at 1 m (a ∷ [])
one_set m at a h = ap (λ (l : List ℕ). set l at a) (sym (take-append-drop at m)) ∙ one_more m at 0 at [] a refl (omega arith) h

two_set : (m : List ℕ) (at a b : ℕ) → at + 1 < length m → set (set m at a) (at + 1) b ≡ put_mid at 2 m (a ∷ b ∷ [])
two_set m at a b h = ap (λ (l : List ℕ). set l (at + 1) b) (one_set m at a (omega (arith, h))) ∙ one_more m at 1 (at + 1) (a ∷ []) b refl refl h

four_set : (m : List ℕ) (at a b c d : ℕ) → at + 3 < length m → set (set (set (set m at a) (at + 1) b) (at + 2) c) (at + 2 + 1) d ≡ put_mid at 4 m (a ∷ b ∷ c ∷ d ∷ [])
four_set m at a b c d h =
    ap (λ (l : List ℕ). set (set l (at + 2) c) (at + 2 + 1) d) (two_set m at a b (omega (arith, h)))
    ∙ ap (λ (l : List ℕ). set l (at + 2 + 1) d) (one_more m at 2 (at + 2) (a ∷ b ∷ []) c refl refl (omega (arith, h)))
    ∙ one_more m at 3 (at + 2 + 1) (a ∷ b ∷ c ∷ []) d refl (omega arith) (omega (arith, h))

-- the low bytes of v in place of those that stood there
pub stored_by : (s : Size) (m : List ℕ) (at v : ℕ) → at + bytes_of s ≤ length m → put_mid at (bytes_of s) m (take (bytes_of s) (to_le_bytes w32 v)) ≡ stored_at s m at v
stored_by One m at v h = sym (one_set m at _ (omega (arith, h)))
stored_by Two m at v h = sym (two_set m at _ _ (omega (arith, h)))
stored_by Four m at v h =
    let top : v / 16777216 % 256 ≡ v / 65536 / 256 % 256 = omega arith in
    sym (rw (sym top) (four_set m at _ _ _ _ (omega (arith, h))))

-- a store that was tested: the first n of the bytes of v, from `at` to at + n
pub stored : (s : Size) (m : List ℕ) (at v n : ℕ) (bs ys : List ℕ) → true ≡ within s m at → n ≡ bytes_of s → bs ≡ to_le_bytes w32 v → ys ≡ take n bs → put_mid at (at + n - at) m ys ≡ written_at s m at v
unfolding written_at
stored s m at v n bs ys h e f g =
    let size : at + n - at ≡ bytes_of s = omega (arith, e) in
    rw (← h, size, g, e, f) (stored_by s m at v (fits s m at h))

-- the number that four bytes of memory make
pub four_bytes : (m : List ℕ) (at r : ℕ) → r ≡ get_or m at 0 + 256 * get_or m (at + 1) 0 + 65536 * (get_or m (at + 2) 0 + 256 * get_or m (at + 3) 0) → r ≡ number_at Four m at
four_bytes m at r e =
    let last : at + 3 ≡ at + 2 + 1 = omega arith in
    e ∙ ap (λ (k : ℕ). get_or m at 0 + 256 * get_or m (at + 1) 0 + 65536 * (get_or m (at + 2) 0 + 256 * get_or m k 0)) last
