-- Laws of the places of a TLB.
use Prim.Native.Nat.{ℕ, zero, suc}
use mathlib.Core.Path.{◌≡◌, refl, sym, ap, ◌∙◌}
use mathlib.Core.Logic.{◌⊎◌, inl, inr, ⊎_map}
use mathlib.Core.Bool.{Bool, true, false, true≢false}
use mathlib.Core.Option.{Option, none, some}
use mathlib.Core.List.{List, [], ◌∷◌, map}
use lib.ListN.{get_or, set, replicate}
use Rattle.tlb.specs.Places.{Within, NoClash, Apart}

pub none_some : {A : Type 0} (x : A) → ◌≡◌ {A = Option A} none (some x) → ⊥
none_some x p = let z : ◌≡◌ {A = Bool} true false = cc in true≢false z

pub some_same : {A : Type 0} (x y : A) → ◌≡◌ {A = Option A} (some x) (some y) → x ≡ y
some_same x y p = cc

module _ {H : Type 0} where
  -- ── What is held after a change ──

  pub within_none : (h : H) (n : ℕ) → Within h (replicate n none) → ⊥
  unfolding Within
  within_none h zero y = y
  within_none h (suc n) (inl p) = none_some h p
  within_none h (suc n) (inr y) = within_none h n y

  pub within_dropped : (h : H) (i : ℕ) (ps : List (Option H)) → Within h (set ps i none) → Within h ps
  unfolding Within
  within_dropped h i [] y = y
  within_dropped h zero (p ∷ ps) (inl q) = absurd (none_some h q)
  within_dropped h zero (p ∷ ps) (inr y) = inr y
  within_dropped h (suc i) (p ∷ ps) (inl q) = inl q
  within_dropped h (suc i) (p ∷ ps) (inr y) = inr (within_dropped h i ps y)

  pub within_put : (h x : H) (i : ℕ) (ps : List (Option H)) → Within h (set ps i (some x)) → (x ≡ h) ⊎ Within h ps
  unfolding Within
  within_put h x i [] y = inr y
  within_put h x zero (p ∷ ps) (inl q) = inl (some_same x h q)
  within_put h x zero (p ∷ ps) (inr y) = inr (inr y)
  within_put h x (suc i) (p ∷ ps) (inl q) = inr (inl q)
  within_put h x (suc i) (p ∷ ps) (inr y) = ⊎_map (λ z. z) (λ z. inr z) (within_put h x i ps y)

  -- a change of each place by f, which leaves of what is held only what is not named
  module _ (f : Option H → Option H) (named : H → Bool) (leaves : (p : Option H) (h : H) → f p ≡ some h → (p ≡ some h) × (named h ≡ false)) where
    pub within_flushed : (h : H) (ps : List (Option H)) → Within h (map f ps) → Within h ps × (named h ≡ false)
    unfolding Within
    within_flushed h [] y = absurd y
    within_flushed h (p ∷ ps) (inl q) = let r = leaves p h q in (inl r.0, r.1)
    within_flushed h (p ∷ ps) (inr y) = let r = within_flushed h ps y in (inr r.0, r.1)

  module _ (f : Option H → Option H) (named : H → Bool) (keeps : (h : H) → named h ≡ false → f (some h) ≡ some h) where
    pub within_kept : (h : H) (ps : List (Option H)) → Within h ps → named h ≡ false → Within h (map f ps)
    unfolding Within
    within_kept h [] y n = y
    within_kept h (p ∷ ps) (inl q) n = inl (ap f q ∙ keeps h n)
    within_kept h (p ∷ ps) (inr y) n = inr (within_kept h ps y n)

  pub map_none : (f : Option H → Option H) → f none ≡ none → (n : ℕ) → map f (replicate n none) ≡ replicate n none
  map_none f e zero = refl
  map_none f e (suc n) = λ i. e i ∷ map_none f e n i

  -- ── A place that is free can be filled; a place dropped is empty ──

  pub put_within : (x : H) (i : ℕ) (ps : List (Option H)) → get_or (set ps i (some x)) i none ≡ some x → Within x (set ps i (some x))
  unfolding Within
  put_within x i [] q = absurd (none_some x q)
  put_within x zero (p ∷ ps) q = inl refl
  put_within x (suc i) (p ∷ ps) q = inr (put_within x i ps q)

  -- ── No two places hold things that may not stand together ──

  module _ (clash : H → H → Bool) where
    pub apart_none : (n : ℕ) → Apart clash (replicate n none)
    unfolding Apart
    apart_none zero = tt
    apart_none (suc n) = apart_none n

    pub apart_dropped : (i : ℕ) (ps : List (Option H)) → Apart clash ps → Apart clash (set ps i none)
    unfolding Apart NoClash
    apart_dropped i [] a = a
    apart_dropped zero (none ∷ ps) a = a
    apart_dropped zero (some x ∷ ps) a = a.1
    apart_dropped (suc i) (none ∷ ps) a = apart_dropped i ps a
    apart_dropped (suc i) (some x ∷ ps) a = (λ h y. a.0 h (within_dropped h i ps y), apart_dropped i ps a.1)

    module _ (swap : (x y : H) → clash x y ≡ clash y x) where
      pub apart_put : (x : H) (i : ℕ) (ps : List (Option H)) → get_or ps i none ≡ none → NoClash clash x ps → Apart clash ps → Apart clash (set ps i (some x))
      unfolding Apart NoClash Within
      apart_put x i [] free q a = a
      apart_put x zero (none ∷ ps) free q a = (λ h y. q h (inr y), a)
      apart_put x zero (some z ∷ ps) free q a = absurd (none_some z (sym free))
      apart_put x (suc i) (none ∷ ps) free q a = apart_put x i ps free (λ h y. q h (inr y)) a
      apart_put x (suc i) (some z ∷ ps) free q a = (beside, apart_put x i ps free (λ h y. q h (inr y)) a.1)
        where
          beside : (h : H) → Within h (set ps i (some x)) → clash z h ≡ false
          beside h y = go (within_put h x i ps y)
            where
              go : (x ≡ h) ⊎ Within h ps → clash z h ≡ false
              go (inl e) = ap (clash z) (sym e) ∙ swap z x ∙ q z (inl refl)
              go (inr w) = a.0 h w

    pub apart_flushed : (f : Option H → Option H) → ((p : Option H) (h : H) → f p ≡ some h → p ≡ some h) → (ps : List (Option H)) → Apart clash ps → Apart clash (map f ps)
    unfolding Apart NoClash
    apart_flushed f leaves [] a = a
    apart_flushed f leaves (none ∷ ps) a = go (f none) refl (apart_flushed f leaves ps a)
      where
        go : (p : Option H) → f none ≡ p → Apart clash (map f ps) → Apart clash (p ∷ map f ps)
        go none e r = r
        go (some h) e r = absurd (none_some h (leaves none h e))
    apart_flushed f leaves (some x ∷ ps) a = go (f (some x)) refl (apart_flushed f leaves ps a.1)
      where
        before : (h : H) → Within h (map f ps) → Within h ps
        before h y = (within_flushed f (λ z. false) (λ p z e. (leaves p z e, refl)) h ps y).0

        go : (p : Option H) → f (some x) ≡ p → Apart clash (map f ps) → Apart clash (p ∷ map f ps)
        go none e r = r
        go (some h) e r = (λ z y. ap (λ w. clash w z) (sym (some_same x h (leaves (some x) h e))) ∙ a.0 z (before z y), r)
