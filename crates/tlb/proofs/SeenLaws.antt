-- Laws of what is kept of a set of entries.
use mathlib.Core.Path.{◌≡◌, refl, sym, ap, ◌∙◌}
use mathlib.Core.Logic.{◌⊎◌, inl, inr}
use mathlib.Core.HLevel.{Discrete}
use mathlib.Core.Bool.{Bool, true, false, true≢false}
use mathlib.Core.Option.{Option, none, some}
use Rattle.tlb.specs.Machine.{Walk, entry, fault}
use Rattle.tlb.specs.Seen.{Seen, nothing, one, many, joined, note, spared, Has, From, Stale}

module _ {E : Type 0} where
  pub has_noted : (d : Discrete E) (o : Option E) (a : Seen E) (e : E) → o ≡ some e → Has (note d o a) e
  unfolding note Has joined
  has_noted d o a e p = rw p (go a)
    where
      go : (a : Seen E) → Has (note d (some e) a) e
      go nothing = refl
      go (one x) = at (d x e)
        where
          at : (r : Dec (x ≡ e)) → Has (joined x e r) e
          at (yes q) = q
          at (no q) = tt
      go many = tt

  pub has_kept : (d : Discrete E) (o : Option E) (a : Seen E) (e : E) → Has a e → Has (note d o a) e
  unfolding note Has joined
  has_kept d none a e p = p
  has_kept d (some x) nothing e p = absurd p
  has_kept d (some x) (one y) e p = at (d y x)
    where
      at : (r : Dec (y ≡ x)) → Has (joined y x r) e
      at (yes q) = p
      at (no q) = tt
  has_kept d (some x) many e p = tt

  pub from_noted : (d : Discrete E) (o : Option E) (a : Seen E) (P : E → Type 0) → From a P → From (note d o a) (λ e. (o ≡ some e) ⊎ P e)
  unfolding note From joined
  from_noted d none nothing P p = tt
  from_noted d none (one x) P p = inr p
  from_noted d none many P p = (p.0, p.1, inr p.2, inr p.3, p.4)
  from_noted d (some e) nothing P p = inl refl
  from_noted d (some e) (one x) P p = at (d x e)
    where
      at : (r : Dec (x ≡ e)) → From (joined x e r) (λ y. (some e ≡ some y) ⊎ P y)
      at (yes q) = inr p
      at (no q) = (x, e, inr p, inl refl, q)
  from_noted d (some e) many P p = (p.0, p.1, inr p.2, inr p.3, p.4)

  pub from_map : (a : Seen E) (P Q : E → Type 0) → ((e : E) → P e → Q e) → From a P → From a Q
  unfolding From
  from_map nothing P Q f p = tt
  from_map (one x) P Q f p = f x p
  from_map many P Q f p = (p.0, p.1, f p.0 p.2, f p.1 p.3, p.4)

  pub from_spared : (b : Bool) (a : Seen E) (P : E → Type 0) → From a P → From (spared b a) (λ e. (b ≡ false) × P e)
  unfolding spared From
  from_spared true a P p = tt
  from_spared false a P p = from_map a P (λ e. (false ≡ false) × P e) (λ e q. (refl, q)) p

  module _ {F : Type 0} where
    -- an entry remembered that is not the present outcome makes the set stale
    pub stale_of : (a : Seen E) (w : Walk E F) (e : E) → Has a e → (w ≡ entry e → ⊥) → Stale a w
    unfolding Has Stale
    stale_of nothing w e p q = p
    stale_of (one x) w e p q = λ r. q (r ∙ ap entry p)
    stale_of many w e p q = tt

    pub is_entry? : Discrete E → (w : Walk E F) (e : E) → Dec (w ≡ entry e)
    is_entry? d (entry x) e = at (d x e)
      where
        at : Dec (x ≡ e) → Dec (◌≡◌ {A = Walk E F} (entry x) (entry e))
        at (yes p) = yes (ap entry p)
        at (no q) = no (λ r. q (cc))
    is_entry? d (fault f) e = no (λ r. let z : ◌≡◌ {A = Bool} true false = cc in true≢false z)

    -- a stale set has an entry of P that is not the present outcome
    pub stale_from : Discrete E → (a : Seen E) (w : Walk E F) (P : E → Type 0) → From a P → Stale a w → (e : E) × P e × (w ≡ entry e → ⊥)
    unfolding From Stale
    stale_from d nothing w P p q = absurd q
    stale_from d (one x) w P p q = (x, p, q)
    stale_from d many w P p q = at (is_entry? d w p.0)
      where
        at : Dec (w ≡ entry p.0) → (e : E) × P e × (w ≡ entry e → ⊥)
        at (yes r) = (p.1, p.3, λ r'. p.4 (let z : ◌≡◌ {A = Walk E F} (entry p.0) (entry p.1) = sym r ∙ r' in cc))
        at (no r) = (p.0, p.2, r)
