-- Laws of words: adding to a word adds to its set, and the test of a word is about its set.
use Prim.Native.Nat.{ℕ}
use mathlib.Core.Path.{◌≡◌, refl, sym, ap, ◌∙◌}
use mathlib.Core.Logic.{◌↔◌}
use mathlib.Core.HLevel.{Discrete}
use mathlib.Core.Bool.{Bool, true, false, cond, not, true≢false}
use mathlib.Core.Option.{some}
use Rattle.tlb.specs.Machine.{Walk, entry, fault}
use Rattle.tlb.specs.Seen.{Seen, nothing, one, many, joined, note, Stale}
use Rattle.tlb.specs.Words.{add_word, differs_from, Coding}

module _ {E : Type 0} (code : E → ℕ) (same : E → E → Bool) (seen : ℕ → Seen E) (InRange : E → Type 0) (W : Coding E code same seen InRange) (d : Discrete E) where
  joined_same : (x e : E) (r : Dec (x ≡ e)) → x ≡ e → joined x e r ≡ one x
  unfolding joined
  joined_same x e (yes p) q = refl
  joined_same x e (no p) q = absurd (p q)

  joined_other : (x e : E) (r : Dec (x ≡ e)) → (x ≡ e → ⊥) → joined x e r ≡ many
  unfolding joined
  joined_other x e (yes p) q = absurd (q p)
  joined_other x e (no p) q = refl

  pub seen_added : (e : E) (w : ℕ) → InRange e → seen (add_word code same (seen w) e w) ≡ note d (some e) (seen w)
  unfolding add_word note
  seen_added e w h = go (seen w) refl
    where
      joins : (x : E) (b : Bool) → same x e ≡ b → seen w ≡ one x → seen (cond b w 1) ≡ joined x e (d x e)
      joins x true p q = q ∙ sym (joined_same x e (d x e) (W.same_true x e p))
      joins x false p q = W.of_one ∙ sym (joined_other x e (d x e) (W.same_false x e p))

      go : (y : Seen E) → seen w ≡ y → seen (add_word code same y e w) ≡ note d (some e) y
      go nothing q = W.of_entry e h
      go (one x) q = joins x (same x e) refl q
      go many q = q

  pub stale_iff_lem : {F : Type 0} (y : Seen E) (o : Walk E F) → (differs_from code same y o ≡ true) ↔ Stale y o
  unfolding differs_from Stale
  stale_iff_lem nothing o = (λ p. true≢false (sym p), λ p. absurd p)
  stale_iff_lem {F} (one x) (entry e) = (to (same x e) refl, from (same x e) refl)
    where
      inside : ◌≡◌ {A = Walk E F} (entry e) (entry x) → x ≡ e
      inside q = cc

      to : (b : Bool) → same x e ≡ b → not b ≡ true → ◌≡◌ {A = Walk E F} (entry e) (entry x) → ⊥
      to true p q r = true≢false (sym q)
      to false p q r = W.same_false x e p (inside r)

      from : (b : Bool) → same x e ≡ b → (◌≡◌ {A = Walk E F} (entry e) (entry x) → ⊥) → not b ≡ true
      from true p r = absurd (r (ap entry (sym (W.same_true x e p))))
      from false p r = refl
  stale_iff_lem {F} (one x) (fault f) = (λ p q. apart q, λ p. refl)
    where
      apart : ◌≡◌ {A = Walk E F} (fault f) (entry x) → ⊥
      apart q = let z : ◌≡◌ {A = Bool} true false = cc in true≢false z
  stale_iff_lem many o = (λ p. tt, λ p. refl)
