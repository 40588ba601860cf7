-- The step reads and stores numbers as the reference does.
use Prim.Native.Nat.{ℕ, ◌+◌, ◌*◌, ◌/◌}
use mathlib.Core.Path.{◌≡◌, refl, ap, ap₂, ◌∙◌}
use mathlib.Core.List.{List}
use native.Mathlib.Omega.{arith}
use native.Mathlib.Numerals.{add-one, add-two}
use Rattle.model.specs.reference.Rules.{in_memory, value, stored}
use Rattle.model.specs.step.Memory.{bytes_of, within, number_at, half_at, stored_at, half_stored}
use Rattle.model.specs.Types.{Size, One, Two, Four}

pub within_same : (size : Size) (m : List ℕ) (at : ℕ) → within size m at ≡ in_memory m at (bytes_of size)
unfolding within in_memory
within_same size m at = refl

half_same : (m : List ℕ) (at : ℕ) → half_at m at ≡ value m at 2
unfolding value
half_same m at = rw add-one (omega arith)

halves : (m : List ℕ) (at : ℕ) → value m at 2 + 65536 * value m (at + 2) 2 ≡ value m at 4
unfolding value
halves m at = rw add-two (omega arith)

pub number_same : (size : Size) (m : List ℕ) (at : ℕ) → number_at size m at ≡ value m at (bytes_of size)
unfolding value
number_same One m at = omega arith
number_same Two m at = half_same m at
number_same Four m at = ap₂ (λ x y. x + 65536 * y) (half_same m at) (half_same m (at + 2)) ∙ halves m at

half_stored_lem : (m : List ℕ) (at v : ℕ) → half_stored m at v ≡ stored m at 2 v
unfolding stored
half_stored_lem m at v = rw add-one

two_halves : (v : ℕ) → v / 65536 ≡ v / 256 / 256
two_halves v = omega arith

pub stored_same : (size : Size) (m : List ℕ) (at v : ℕ) → stored_at size m at v ≡ stored m at (bytes_of size) v
unfolding stored
stored_same One m at v = refl
stored_same Two m at v = half_stored_lem m at v
stored_same Four m at v =
    half_stored_lem (half_stored m at v) (at + 2) (v / 65536)
    ∙ ap₂ (λ l x. stored l (at + 2) 2 x) (half_stored_lem m at v) (two_halves v)
    ∙ ap (λ i. stored (stored m at 2 v) i 2 (v / 256 / 256)) (add-two at)
