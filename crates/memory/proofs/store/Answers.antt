use Prim.Native.Nat.{ℕ}
use mathlib.Core.Path.{refl, ap, sym, ◌∙◌}
use mathlib.Core.List.{List, [], ◌∷◌}
use lib.ListN.{get_or}
use Rattle.std.specs.Int.{w32, to_le_bytes}
use Rattle.model.specs.step.Memory.{bytes_of}
use Rattle.memory.proofs.Laws.{stored}
use Rattle.memory.proofs.store.Goals as goal

-- the four bytes that are copied are those of v
pub returns-in-Four : goal.returns-in-Four
returns-in-Four c = let a = c.args in (
  c.if-not-inside.ensures,
  stored a.size a.m.now a.at a.v 4 (to_le_bytes w32 a.v) _ c.if-not-inside.ensures (sym (ap bytes_of c.in-Four.is)) refl
      (c.copy_from_slice-in-Four.ensures.after ∙ ap (λ (l : List ℕ). get_or l 0 0 ∷ get_or l 1 0 ∷ get_or l 2 0 ∷ get_or l 3 0 ∷ []) c.to_le_bytes.ensures),
)
