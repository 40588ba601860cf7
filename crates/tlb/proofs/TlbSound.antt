-- A TLB stays sound: every entry that it holds, and every one that it could load now, is one that the track keeps.
use Prim.Native.Nat.{ℕ}
use mathlib.Core.Path.{◌≡◌, sym, ◌∙◌, subst}
use mathlib.Core.Logic.{◌⊎◌, inl, inr}
use mathlib.Core.Bool.{Bool, true, false, true≢false}
use mathlib.Core.Option.{some}
use Rattle.tlb.specs.Machine.{Machine, entry}
use Rattle.tlb.specs.Chip.{Chip}
use Rattle.tlb.specs.Tracker.{Tracker, Reply, done, refused}
use Rattle.tlb.specs.Seen.{nothing, spared, Has, Stale}
use Rattle.tlb.specs.Laws.{Carries, Sound, Keeps, Tlb}
use Rattle.tlb.proofs.SeenLaws.{has_noted, has_kept, stale_of, is_entry?}

pub done_refused : {R : Type 0} (a : R) (r : ℕ) (x : Reply R) → x ≡ done a → x ≡ refused r → ⊥
done_refused a r x p q = let z : ◌≡◌ {A = Bool} true false = cc in true≢false z

module _ (A : Machine) (M : Tracker A) (B : Carries A M) (stale : ℕ) (K : Keeps A M B stale)
    (C : Chip A) (Holds : A.Tag → A.Entry → C.Held → Type 0) (T : Tlb A C Holds) where
  pub record Fitting (s : A.State) (t : M.Track) (h : C.Held) : Type 0 where
    pub held : (u : A.Tag) (e : A.Entry) → Holds u e h → Has (K.look s t u) e
    pub now : (u : A.Tag) (e : A.Entry) → K.present s u ≡ some e → Has (K.look s t u) e

  pub fitting_start : (g : A.Given) (t : M.Track) → M.Accepted g t → Fitting (M.start_state g t) (M.start_track g t) C.empty
  fitting_start g t ok = record {
    held = λ u e y. absurd (T.empty_holds u e y);
    now = λ u e p. rw (K.look_start g t ok u) (has_noted K.decide (K.present (M.start_state g t) u) nothing e p);
  }

  pub fitting_move : (s : A.State) (t : M.Track) (h : C.Held) (m : C.Move) → B.Valid s t → Fitting s t h → Fitting s t (C.move s h m)
  fitting_move s t h m v f = record { held = λ u e y. go u e (T.move_holds s h m u e y); now = f.now }
    where
      go : (u : A.Tag) (e : A.Entry) → Holds u e h ⊎ ((k : A.Page) × (A.in_window s k ≡ true) × (A.walk s k ≡ entry e) × (A.tag s k e ≡ u)) → Has (K.look s t u) e
      go u e (inl y) = f.held u e y
      go u e (inr y) = f.now u e (subst (λ (z : A.Tag). K.present s z ≡ some e) y.3 (K.present_of s t y.0 e v y.1 y.2))

  pub fitting_next : (s : A.State) (t : M.Track) (h : C.Held) (o : A.Op) (a : A.Answer) → B.Valid s t → Fitting s t h →
      M.reply s t o ≡ done a → Fitting (M.next_state s t o) (M.next_track s t o) (C.obey o h)
  unfolding spared
  fitting_next s t h o a v f d = record {
    held = λ u e y.
        let r = T.obey_holds o h u e y in
        rw (K.look_next s t o a v d u)
        (has_kept K.decide (K.present (M.next_state s t o) u) (spared (A.names o u) (K.look s t u)) e (rw r.1 (f.held u e r.0)));
    now = λ u e p. rw (K.look_next s t o a v d u) (has_noted K.decide (K.present (M.next_state s t o) u) _ e p);
  }

  -- an access carried out takes the same way with a held entry as through the tables
  pub same_way_lem : (s : A.State) (t : M.Track) (h : C.Held) (o : A.Op) (a : A.Answer) (k : A.Page) → B.Valid s t → Fitting s t h →
      M.reply s t o ≡ done a → A.page s o ≡ some k → C.through s h k ≡ A.walk s k
  same_way_lem s t h o a k v f d p = go (T.through_held s h k)
    where
      fresh : (u : A.Tag) → A.serves s k u ≡ true → Stale (K.look s t u) (A.walk s k) → ⊥
      fresh u q z =
          done_refused a stale (M.reply s t o) d
          ((K.stale_iff s t o k v p (λ r e. absurd (done_refused a r (M.reply s t o) d e))).1 (u, q, z))

      at : (u : A.Tag) (e : A.Entry) → Holds u e h → A.serves s k u ≡ true → Dec (A.walk s k ≡ entry e) → entry e ≡ A.walk s k
      at u e y q (yes w) = sym w
      at u e y q (no w) = absurd (fresh u q (stale_of (K.look s t u) (A.walk s k) e (f.held u e y) w))

      go : (C.through s h k ≡ A.walk s k) ⊎ ((u : A.Tag) × (e : A.Entry) × Holds u e h × (A.serves s k u ≡ true) × (C.through s h k ≡ entry e)) →
          C.through s h k ≡ A.walk s k
      go (inl e) = e
      go (inr y) = y.4 ∙ at y.0 y.1 y.2 y.3 (is_entry? K.decide (A.walk s k) y.1)

  unfoldable pub tlb_sound : Sound A M B C
  tlb_sound = record { Fits = Fitting; fits_start = fitting_start; fits_move = fitting_move; fits_next = fitting_next; same_way = same_way_lem }
