-- The places of a TLB: each may hold one thing. What is held, what may not stand together, and which places are free.
use Rattle.std.specs.Prelude.{◌≡◌, ◌⊎◌, Bool, false, List, [], ◌∷◌}
use Rattle.std.proofs.Math.Option.{Option, none, some}

module _ {H : Type 0} where
  -- a place holds h
  unfoldable pub Within : H → List (Option H) → Type 0
  Within h [] = ⊥
  Within h (p ∷ ps) = (p ≡ some h) ⊎ Within h ps

  -- no place holds a thing that may not stand beside x
  unfoldable pub NoClash : (H → H → Bool) → H → List (Option H) → Type 0
  NoClash clash x ps = (h : H) → Within h ps → clash x h ≡ false

  -- no two places hold things that may not stand together
  unfoldable pub Apart : (H → H → Bool) → List (Option H) → Type 0
  Apart clash [] = Unit {0}
  Apart clash (none ∷ ps) = Apart clash ps
  Apart clash (some x ∷ ps) = NoClash clash x ps × Apart clash ps
