-- The fields of a domain register: the step's are the reference's, and so is the test that none of them is 2.
use Prim.Native.Nat.{ℕ, zero, suc, ◌+◌, ◌*◌, ◌-◌, ◌/◌, ◌%◌, ◌^◌}
use mathlib.Core.Path.{◌≡◌, refl, sym, ap, ap₂, ◌∙◌}
use mathlib.Core.Bool.{Bool, true, false, cond, not, ◌||◌}
use native.Mathlib.Omega.{arith}
use native.Mathlib.Nat.{div-one, div-div-eq-div-mul, pow-succ'}
use lib.Dec.{eqb}
use Rattle.model.specs.reference.Rules.{bits, field_of, some_field2}
use Rattle.model.specs.step.Rights.{field_at}
use Rattle.model.specs.step.Checks.{fields_fit, domains_fit}
use Rattle.model.proofs.BoolLaws.{or_false}

-- four to the power of d, as a power of two
by_four : (d : ℕ) → 2 ^ (2 * suc d) ≡ 4 * 2 ^ (2 * d)
by_four d =
    ap (λ n. 2 ^ n) (let q : 2 * suc d ≡ suc (suc (2 * d)) = omega arith in q)
    ∙ pow-succ' 2 (suc (2 * d))
    ∙ ap (λ n. 2 * n) (pow-succ' 2 (2 * d))
    ∙ (let q : 2 * (2 * 2 ^ (2 * d)) ≡ 4 * 2 ^ (2 * d) = omega arith in q)

-- a field by division
pub by_division : (w d : ℕ) → field_at w d ≡ w / 2 ^ (2 * d) % 4
unfolding field_at
by_division w zero = ap (λ n. n % 4) (sym (div-one w))
by_division w (suc d) =
    by_division (w / 4) d
    ∙ ap (λ n. n % 4) (div-div-eq-div-mul w 4 (2 ^ (2 * d)) ∙ ap (λ n. w / n) (sym (by_four d)))

pub field_same : (w d : ℕ) → field_at w d ≡ field_of w d
unfolding field_of bits
field_same w d = by_division w d ∙ ap (λ n. w / 2 ^ (2 * d) % 2 ^ n) (let q : 2 ≡ suc (2 * d + 1) - 2 * d = omega arith in q)

-- the fields of a register from the lowest up: the first, then those of the rest
next_field : (w d : ℕ) → field_of w (suc d) ≡ field_of (w / 4) d
next_field w d = sym (field_same w (suc d)) ∙ (unfold field_at in field_same (w / 4) d)

first_field : (w : ℕ) → field_of w 0 ≡ w % 4
first_field w = sym (field_same w 0) ∙ (unfold field_at in refl)

or_assoc : (x y z : Bool) → ((x || y) || z) ≡ (x || (y || z))
or_assoc true y z = refl
or_assoc false y z = refl

from_lowest : (n w : ℕ) → some_field2 (suc n) w ≡ (eqb (w % 4) 2 || some_field2 n (w / 4))
unfolding some_field2
from_lowest zero w = ap (λ n. eqb n 2) (first_field w) ∙ sym (or_false (eqb (w % 4) 2))
from_lowest (suc n) w =
    ap₂ (λ x k. x || eqb k 2) (from_lowest n w) (next_field w n)
    ∙ or_assoc (eqb (w % 4) 2) (some_field2 n (w / 4)) (eqb (field_of (w / 4) n) 2)

fields_same : (n w : ℕ) → not (fields_fit n w) ≡ some_field2 n w
unfolding fields_fit some_field2
fields_same zero w = refl
fields_same (suc n) w =
    either_2 (eqb (w % 4) 2) (fields_fit n (w / 4))
    ∙ ap (λ x. eqb (w % 4) 2 || x) (fields_same n (w / 4))
    ∙ sym (from_lowest n w)
  where
    either_2 : (x y : Bool) → not (cond x false y) ≡ (x || not y)
    either_2 true y = refl
    either_2 false y = refl

pub domains_same : (w : ℕ) → not (domains_fit w) ≡ some_field2 16 w
unfolding domains_fit
domains_same w = fields_same 16 w
