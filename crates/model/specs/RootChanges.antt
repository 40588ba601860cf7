-- The root changes under context 0 alone.
use Rattle.std.specs.Prelude.{◌≡◌}
use Rattle.model.specs.Demands.{Call, after}

-- Whatever the operation is, and whether it is refused or not: a call that is given another context returns the root that it was given.
pub record RootChanges : Type 0 where
  pub kept : (x : Call) → (x.registers.context ≡ 0 → ⊥) → (after x).registers.root ≡ x.registers.root
