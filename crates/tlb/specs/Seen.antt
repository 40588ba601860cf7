-- What is kept of the set of entries that may be held under one tag: nothing, one entry, or two or more different ones.
use Rattle.std.specs.Prelude.{◌≡◌, Bool, true, false}
use mathlib.Core.HLevel.{Discrete}
use Rattle.std.proofs.Math.Option.{Option, none, some}
use Rattle.tlb.specs.Machine.{Walk, entry}

pub data Seen (E : Type 0) : Type 0 where
  nothing : Seen E
  one : E → Seen E
  many : Seen E

module _ {E : Type 0} where
  unfoldable pub joined : (x e : E) → Dec (x ≡ e) → Seen E
  joined x e (yes p) = one x
  joined x e (no q) = many

  -- an entry added, if there is one
  unfoldable pub note : Discrete E → Option E → Seen E → Seen E
  note d none a = a
  note d (some e) nothing = one e
  note d (some e) (one x) = joined x e (d x e)
  note d (some e) many = many

  -- emptied by a flush that names the tag
  unfoldable pub spared : Bool → Seen E → Seen E
  spared true a = nothing
  spared false a = a

  -- the entry may be in the set: an upper bound
  unfoldable pub Has : Seen E → E → Type 0
  Has nothing e = ⊥
  Has (one x) e = x ≡ e
  Has many e = Unit {0}

  -- each entry that is known to be in the set meets P: a lower bound
  unfoldable pub From : Seen E → (E → Type 0) → Type 0
  From nothing P = Unit {0}
  From (one x) P = P x
  From many P = (x : E) × (y : E) × P x × P y × (x ≡ y → ⊥)

  -- the set has an entry other than the present outcome
  unfoldable pub Stale : {F : Type 0} → Seen E → Walk E F → Type 0
  Stale nothing w = ⊥
  Stale (one x) w = w ≡ entry x → ⊥
  Stale many w = Unit {0}
