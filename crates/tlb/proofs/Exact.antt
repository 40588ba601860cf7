-- The second half: what the track keeps of a set, some TLB of any size can hold, and it can hold nothing else.
use Prim.Native.Nat.{ℕ, zero, suc}
use mathlib.Core.Path.{◌≡◌, refl, sym, ap, subst}
use mathlib.Core.Logic.{◌⊎◌, inl, inr, ⊎_elim}
use mathlib.Core.Bool.{Bool, true, false, true≢false}
use mathlib.Core.Option.{some}
use mathlib.Core.List.{List, [], ◌∷◌}
use Rattle.tlb.specs.Machine.{Machine, entry}
use Rattle.tlb.specs.Chip.{Chip, held_after, moves, held_at_end}
use Rattle.tlb.specs.Tracker.{Tracker, Reply, done, refused, is_refused, told, end_state, end_track, CanDiffer, Exact}
use Rattle.tlb.specs.Seen.{nothing, note, From, Stale}
use Rattle.tlb.specs.Laws.{Carries, Keeps, Tlb}
use Rattle.tlb.proofs.Agree.{next, next_fits, moves_fit, held_cons, end_fits, valid_end}
use Rattle.tlb.proofs.SeenLaws.{from_noted, from_map, from_spared, stale_of, stale_from}
use Rattle.tlb.proofs.TlbSound.{Fitting, fitting_start, fitting_move, tlb_sound}

module _ (A : Machine) (M : Tracker A) (B : Carries A M) (stale : ℕ) (K : Keeps A M B stale)
    (C : Chip A) (Holds : A.Tag → A.Entry → C.Held → Type 0) (T : Tlb A C Holds) where
  abbrev Fits : A.State → M.Track → C.Held → Type 0
  Fits = Fitting A M B stale K C Holds T

  abbrev next_of : A.State → M.Track → C.Held → A.Op → List C.Move → C.Held
  next_of = next A M B C (tlb_sound A M B stale K C Holds T)

  -- a script that begins with these moves
  also : List C.Move → (ℕ → List C.Move) → ℕ → List C.Move
  also ms f zero = ms
  also ms f (suc i) = f i

  -- the operation is refused, or does not flush the tag
  Spares : A.State → M.Track → A.Op → A.Tag → Type 0
  Spares s t o u = (is_refused (M.reply s t o) ≡ true) ⊎ (A.names o u ≡ false)

  -- no operation of the list that is carried out flushes the tag
  Spared : A.State → M.Track → List A.Op → A.Tag → Type 0
  Spared s t [] u = Unit {0}
  Spared s t (o ∷ os) u = Spares s t o u × Spared (M.next_state s t o) (M.next_track s t o) os u

  after_holds : (h : C.Held) (o : A.Op) (u : A.Tag) (e : A.Entry) (b : Bool) → (b ≡ true) ⊎ (A.names o u ≡ false) →
      Holds u e h → Holds u e (held_after A C h o b)
  unfolding held_after
  after_holds h o u e true x y = y
  after_holds h o u e false (inl x) y = absurd (true≢false (sym x))
  after_holds h o u e false (inr x) y = T.obey_keeps o h u e y x

  -- an entry held stays, if the chip makes no move
  stays : (s : A.State) (t : M.Track) (h : C.Held) (os : List A.Op) (u : A.Tag) (e : A.Entry) →
      B.Valid s t → Fits s t h → Holds u e h → Spared s t os u → Holds u e (held_at_end A C s h (told A M s t os) (λ i. []))
  unfolding held_at_end told Spared Spares moves tlb_sound next
  stays s t h [] u e v f y x = y
  stays s t h (o ∷ os) u e v f y x =
      rw (held_cons A M B C (tlb_sound A M B stale K C Holds T) s t h o os (λ i. []) v f)
      (stays (M.next_state s t o) (M.next_track s t o) _ os u e (B.valid_next s t o v)
      (next_fits A M B C (tlb_sound A M B stale K C Holds T) s t h o [] v f)
      (after_holds h o u e (is_refused (M.reply s t o)) x.0 y) x.1)

  -- where an entry kept at the end comes from: it was kept before and is spared, or a chip that begins empty can hold it
  Source : A.State → M.Track → List A.Op → A.Tag → (A.Entry → Type 0) → A.Entry → Type 0
  Source s t os u P e =
      (P e × Spared s t os u) ⊎ ((after : ℕ → List C.Move) × Holds u e (held_at_end A C s C.empty (told A M s t os) after))

  -- what one operation adds to the sources
  Added : A.State → M.Track → A.Op → A.Tag → (A.Entry → Type 0) → A.Entry → Type 0
  Added s t o u P e =
      ((is_refused (M.reply s t o) ≡ false) × (K.present (M.next_state s t o) u ≡ some e)) ⊎ (Spares s t o u × P e)

  from_op : (s : A.State) (t : M.Track) (o : A.Op) (u : A.Tag) (P : A.Entry → Type 0) → B.Valid s t → From (K.look s t u) P →
      From (K.look (M.next_state s t o) (M.next_track s t o) u) (Added s t o u P)
  unfolding Added Spares is_refused
  from_op s t o u P v p = go (M.reply s t o) refl
    where
      go : (r : Reply A.Answer) → M.reply s t o ≡ r →
          From (K.look (M.next_state s t o) (M.next_track s t o) u)
          (λ e. ((is_refused r ≡ false) × (K.present (M.next_state s t o) u ≡ some e)) ⊎ (((is_refused r ≡ true) ⊎ (A.names o u ≡ false)) × P e))
      go (done a) e =
          rw (K.look_next s t o a v e u)
          (from_map _ _ _ (λ x. ⊎_elim (λ y. inl (refl, y)) (λ y. inr (inr y.0, y.1)))
          (from_noted K.decide (K.present (M.next_state s t o) u) _ _ (from_spared (A.names o u) (K.look s t u) P p)))
      go (refused r) e =
          rw ((B.keeps s t o r v e).0, (B.keeps s t o r v e).1) (from_map (K.look s t u) P _ (λ x y. inr (inl refl, y)) p)

  after_empty : (o : A.Op) (b : Bool) → held_after A C C.empty o b ≡ C.empty
  unfolding held_after
  after_empty o true = refl
  after_empty o false = T.obey_empty o

  empty_next : (s : A.State) (t : M.Track) (o : A.Op) (ms : List C.Move) → next_of s t C.empty o ms ≡ moves A C (M.next_state s t o) C.empty ms
  unfolding next
  empty_next s t o ms = ap (λ h. moves A C (M.next_state s t o) h ms) (after_empty o (is_refused (M.reply s t o)))

  fits_empty : (s : A.State) (t : M.Track) (o : A.Op) → B.Valid s t → Fits s t C.empty → Fits (M.next_state s t o) (M.next_track s t o) C.empty
  unfolding tlb_sound moves
  fits_empty s t o v f = rw (empty_next s t o []) at (next_fits A M B C (tlb_sound A M B stale K C Holds T) s t C.empty o [] v f)

  -- an entry that the tables put under a tag now can be loaded by an empty chip
  loaded : (s : A.State) (t : M.Track) (u : A.Tag) (e : A.Entry) → B.Valid s t → K.present s u ≡ some e →
      (m : C.Move) × Holds u e (C.move s C.empty m)
  loaded s t u e v p =
      let r = K.present_at s t u e v p in
      let l = T.loads s r.0 e r.1 r.2 in
      (l.0, subst (λ (z : A.Tag). Holds z e (C.move s C.empty l.0)) r.3 l.1)

  source_next : (s : A.State) (t : M.Track) (o : A.Op) (os : List A.Op) (u : A.Tag) (P : A.Entry → Type 0) (e : A.Entry) →
      B.Valid s t → Fits s t C.empty → Source (M.next_state s t o) (M.next_track s t o) os u (Added s t o u P) e → Source s t (o ∷ os) u P e
  unfolding Source Added Spared tlb_sound moves also
  source_next s t o os u P e v f (inl y) = go y.0
    where
      go : Added s t o u P e → Source s t (o ∷ os) u P e
      go (inl z) =
          let l = loaded (M.next_state s t o) (M.next_track s t o) u e (B.valid_next s t o v) z.1 in
          inr (
            also (l.0 ∷ []) (λ i. []),
            rw (held_cons A M B C (tlb_sound A M B stale K C Holds T) s t C.empty o os (also (l.0 ∷ []) (λ i. [])) v f)
                (stays (M.next_state s t o) (M.next_track s t o) _ os u e (B.valid_next s t o v)
                (next_fits A M B C (tlb_sound A M B stale K C Holds T) s t C.empty o (l.0 ∷ []) v f)
                (rw (empty_next s t o (l.0 ∷ [])) l.1) y.1),
          )
      go (inr z) = inl (z.1, (z.0, y.1))
  source_next s t o os u P e v f (inr y) =
      inr (
        also [] y.0,
        rw (held_cons A M B C (tlb_sound A M B stale K C Holds T) s t C.empty o os (also [] y.0) v f)
            (rw (empty_next s t o []) y.1),
      )

  origin : (s : A.State) (t : M.Track) (os : List A.Op) (u : A.Tag) (P : A.Entry → Type 0) → B.Valid s t → Fits s t C.empty → From (K.look s t u) P →
      From (K.look (end_state A M s t os) (end_track A M s t os) u) (Source s t os u P)
  unfolding Source end_state end_track Spared
  origin s t [] u P v f p = from_map (K.look s t u) P _ (λ e y. inl (y, tt)) p
  origin s t (o ∷ os) u P v f p =
      from_map (K.look (end_state A M (M.next_state s t o) (M.next_track s t o) os) (end_track A M (M.next_state s t o) (M.next_track s t o) os) u)
      (Source (M.next_state s t o) (M.next_track s t o) os u (Added s t o u P)) (Source s t (o ∷ os) u P)
      (λ e y. source_next s t o os u P e v f y)
      (origin (M.next_state s t o) (M.next_track s t o) os u (Added s t o u P) (B.valid_next s t o v) (fits_empty s t o v f) (from_op s t o u P v p))

  -- from an accepted start
  module _ (g : A.Given) (t : M.Track) (ok : M.Accepted g t) (os : List A.Op) where
    abbrev s₀ : A.State
    s₀ = M.start_state g t

    abbrev t₀ : M.Track
    t₀ = M.start_track g t

    abbrev Now : A.Tag → A.Entry → Type 0
    Now u e = K.present s₀ u ≡ some e

    can_hold : (s : A.State) (k : A.Page) (u : A.Tag) (e : A.Entry) → Source s₀ t₀ os u (Now u) e →
        A.serves s k u ≡ true → (A.walk s k ≡ entry e → ⊥) → CanDiffer A C Holds g (told A M s₀ t₀ os) s k
    unfolding Source moves tlb_sound
    can_hold s k u e (inl y) q d =
        let l = loaded s₀ t₀ u e (B.valid_start g t ok) y.0 in
        record {
          first = l.0 ∷ [];
          after = λ i. [];
          tag = u;
          entry_held = e;
          holds = rw (← B.begins g t ok)
              (stays s₀ t₀ (C.move s₀ C.empty l.0) os u e (B.valid_start g t ok)
              (fitting_move A M B stale K C Holds T s₀ t₀ C.empty l.0 (B.valid_start g t ok) (fitting_start A M B stale K C Holds T g t ok)) l.1 y.1);
          serving = q;
          differs = d;
        }
    can_hold s k u e (inr y) q d = record {
      first = [];
      after = y.0;
      tag = u;
      entry_held = e;
      holds = rw (← B.begins g t ok) y.1;
      serving = q;
      differs = d;
    }

    abbrev s₁ : A.State
    s₁ = end_state A M s₀ t₀ os

    abbrev t₁ : M.Track
    t₁ = end_track A M s₀ t₀ os

    stale_can : (k : A.Page) (u : A.Tag) → A.serves s₁ k u ≡ true → Stale (K.look s₁ t₁ u) (A.walk s₁ k) → CanDiffer A C Holds g (told A M s₀ t₀ os) s₁ k
    unfolding From
    stale_can k u q z =
        let begun : From (K.look s₀ t₀ u) (Now u) =
        rw (K.look_start g t ok u)
        (from_map (note K.decide (K.present s₀ u) nothing) _ _ (λ x. ⊎_elim (λ y. y) (λ y. absurd y))
        (from_noted K.decide (K.present s₀ u) nothing (λ x. ⊥) tt)) in
        let r = stale_from K.decide (K.look s₁ t₁ u) (A.walk s₁ k) (Source s₀ t₀ os u (Now u))
        (origin s₀ t₀ os u (Now u) (B.valid_start g t ok) (fitting_start A M B stale K C Holds T g t ok) begun) z in
        can_hold s₁ k u r.0 r.1 q r.2

    can_stale : (k : A.Page) → CanDiffer A C Holds g (told A M s₀ t₀ os) s₁ k →
        (u : A.Tag) × (A.serves s₁ k u ≡ true) × Stale (K.look s₁ t₁ u) (A.walk s₁ k)
    unfolding tlb_sound
    can_stale k y =
        let f = end_fits A M B C (tlb_sound A M B stale K C Holds T) s₀ t₀ _ os y.after (B.valid_start g t ok)
        (moves_fit A M B C (tlb_sound A M B stale K C Holds T) s₀ t₀ C.empty y.first (B.valid_start g t ok) (fitting_start A M B stale K C Holds T g t ok)) in
        (y.tag, y.serving, stale_of (K.look s₁ t₁ y.tag) (A.walk s₁ k) y.entry_held (f.held y.tag y.entry_held (rw (← B.begins g t ok) at y.holds)) y.differs)

-- for chips of every size
pub exact : (A : Machine) (M : Tracker A) (B : Carries A M) (stale : ℕ) (K : Keeps A M B stale)
    (C : ℕ → Chip A) (Holds : (n : ℕ) → A.Tag → A.Entry → (C n).Held → Type 0) → ((n : ℕ) → Tlb A (C n) (Holds n)) → Exact A M C Holds stale
exact A M B stale K C Holds T g t ok os o k p h =
    let i = K.stale_iff _ _ o k (valid_end A M B _ _ os (B.valid_start g t ok)) p h in (
      λ r. (0, let z = i.0 r in stale_can A M B stale K (C 0) (Holds 0) (T 0) g t ok os k z.0 z.1 z.2),
      λ y. i.1 (can_stale A M B stale K (C y.0) (Holds y.0) (T y.0) g t ok os k y.1),
    )
