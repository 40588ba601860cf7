-- Laws of tests and choices, which are of type Bool.
use Prim.Native.Nat.{ℕ, zero, suc, ◌<◌, ◌≤◌}
use mathlib.Core.Path.{◌≡◌, refl, sym, ap, ◌∙◌}
use mathlib.Core.Bool.{Bool, true, false, cond, not, ◌&&◌, ◌||◌, true≢false}
use native.Mathlib.Omega.{arith}
use lib.Dec.{eqb, leb, ltb}
use borrow.Author.Tests.{eqb-true, eqb-false, eq-eqb, ltb-true, ltb-false, le-leb, lt-leb, leb-true, leb-false}

-- a function of a choice is a choice of its values
pub push : {A B : Type 0} (f : A → B) (b : Bool) (x y : A) → f (cond b x y) ≡ cond b (f x) (f y)
push f true x y = refl
push f false x y = refl

-- a choice of the same
pub either : {A : Type 0} (b : Bool) (x : A) → cond b x x ≡ x
either true x = refl
either false x = refl

-- both parts of a conjunction hold
pub and_both : (x y : Bool) → (x && y) ≡ true → (x ≡ true) × (y ≡ true)
and_both true y p = (refl, p)
and_both false y p = absurd (true≢false (sym p))

-- whether a test holds of each number below n
unfoldable pub all_below : ℕ → (ℕ → Bool) → Bool
all_below zero test = true
all_below (suc n) test = test n && all_below n test

-- a test computed over all numbers below n holds of each of them
pub at_each : (n : ℕ) (test : ℕ → Bool) → all_below n test ≡ true → (i : ℕ) → i < n → test i ≡ true
unfolding all_below
at_each zero test h i lt = absurd (let z : ⊥ = omega arith in z)
at_each (suc n) test h i lt = go (at_each n test (and_both (test n) (all_below n test) h).1 i) (eqb i n) refl
  where
    go : (i < n → test i ≡ true) → (b : Bool) → eqb i n ≡ b → test i ≡ true
    go below true e = ap test (eqb-true i n e) ∙ (and_both (test n) (all_below n test) h).0
    go below false e = let ne = eqb-false i n e in below (omega arith)

-- two functions that a computed test finds equal below n, and that are equal from n on
pub by_table : (n : ℕ) (f g : ℕ → ℕ) → all_below n (λ i. eqb (f i) (g i)) ≡ true → ((i : ℕ) → n ≤ i → f i ≡ g i) → (i : ℕ) → f i ≡ g i
by_table n f g h past i = go (ltb i n) refl
  where
    go : (b : Bool) → ltb i n ≡ b → f i ≡ g i
    go true e = eqb-true (f i) (g i) (at_each n (λ i. eqb (f i) (g i)) h i (ltb-true i n e))
    go false e = past i (ltb-false i n e)

-- two tests that hold together are equal
pub same_test : (x y : Bool) → (x ≡ true → y ≡ true) → (y ≡ true → x ≡ true) → x ≡ y
same_test true y f g = sym (f refl)
same_test false true f g = g refl
same_test false false f g = refl

pub leb_same : (a b c d : ℕ) → (a ≤ b → c ≤ d) → (c ≤ d → a ≤ b) → leb a b ≡ leb c d
leb_same a b c d f g = same_test (leb a b) (leb c d) (λ e. le-leb c d (f (leb-true a b e))) (λ e. le-leb a b (g (leb-true c d e)))

pub eqb_same : (a b c d : ℕ) → (a ≡ b → c ≡ d) → (c ≡ d → a ≡ b) → eqb a b ≡ eqb c d
eqb_same a b c d f g = same_test (eqb a b) (eqb c d) (λ e. eq-eqb c d (f (eqb-true a b e))) (λ e. eq-eqb a b (g (eqb-true c d e)))

-- not below is at least
pub not_ltb : (a n : ℕ) → not (ltb a n) ≡ leb n a
not_ltb a n = go (ltb a n) refl
  where
    go : (b : Bool) → ltb a n ≡ b → not b ≡ leb n a
    go true e = sym (lt-leb n a (ltb-true a n e))
    go false e = sym (le-leb n a (ltb-false a n e))

-- not at most is above
pub not_leb : (a n : ℕ) → not (leb a n) ≡ leb (suc n) a
not_leb a n = go (leb a n) refl
  where
    go : (b : Bool) → leb a n ≡ b → not b ≡ leb (suc n) a
    go true e = let h = leb-true a n e in sym (lt-leb (suc n) a (omega arith))
    go false e = sym (le-leb (suc n) a (leb-false a n e))

-- choices of tests as their conjunction, disjunction and negation
pub three_and : (x y z : Bool) → cond x (cond y z false) false ≡ (x && y && z)
three_and true true z = refl
three_and true false z = refl
three_and false y z = refl

pub three_or : (x y z : Bool) → cond x true (cond y true z) ≡ (x || y || z)
three_or true y z = refl
three_or false true z = refl
three_or false false z = refl

pub not_four : (x y z w : Bool) → not (cond x (cond y (cond z w false) false) false) ≡ (not x || not y || not z || not w)
not_four true true true w = refl
not_four true true false w = refl
not_four true false z w = refl
not_four false y z w = refl

pub not_two : (x y : Bool) → not (cond x y false) ≡ (not x || not y)
not_two true y = refl
not_two false y = refl

pub or_false : (x : Bool) → (x || false) ≡ x
or_false true = refl
or_false false = refl
