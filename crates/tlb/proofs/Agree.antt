-- The first half, for any chip that stays sound beside the tracker.
use Prim.Native.Nat.{ℕ, suc}
use mathlib.Core.Path.{◌≡◌, refl, sym, ap, ◌∙◌, subst₂}
use mathlib.Core.Option.{Option, none, some}
use mathlib.Core.List.{List, [], ◌∷◌}
use Rattle.tlb.specs.Machine.{Machine}
use Rattle.tlb.specs.Chip.{Chip, plain, chip_step, held_after, moves, held_next, trace, held_at_end}
use Rattle.tlb.specs.Tracker.{Tracker, Reply, done, refused, answer, is_refused, told, own_trace, end_state, end_track, Agrees}
use Rattle.tlb.specs.Laws.{Carries, Sound}

module _ (A : Machine) (M : Tracker A) (B : Carries A M) (C : Chip A) (S : Sound A M B C) where
  -- one operation
  step_same : (s : A.State) (t : M.Track) (h : C.Held) (o : A.Op) → B.Valid s t → S.Fits s t h →
      chip_step A C s h o (is_refused (M.reply s t o)) ≡ (answer (M.reply s t o), M.next_state s t o)
  unfolding chip_step is_refused answer
  step_same s t h o v f = go (M.reply s t o) refl
    where
      go : (r : Reply A.Answer) → M.reply s t o ≡ r → chip_step A C s h o (is_refused r) ≡ (answer r, M.next_state s t o)
      go (done a) e =
          ap (λ (x : A.Answer × A.State). (some x.0, x.1))
          (B.one_page s o (C.through s h) (A.walk s) (λ k p. S.same_way s t h o a k v f e p) ∙ B.carries s t o a v e)
      go (refused r) e = ap (λ (x : A.State). (none, x)) (sym (B.keeps s t o r v e).0)

  after_fits : (s : A.State) (t : M.Track) (h : C.Held) (o : A.Op) → B.Valid s t → S.Fits s t h →
      S.Fits (M.next_state s t o) (M.next_track s t o) (held_after A C h o (is_refused (M.reply s t o)))
  unfolding held_after is_refused
  after_fits s t h o v f = go (M.reply s t o) refl
    where
      go : (r : Reply A.Answer) → M.reply s t o ≡ r → S.Fits (M.next_state s t o) (M.next_track s t o) (held_after A C h o (is_refused r))
      go (done a) e = S.fits_next s t h o a v f e
      go (refused r) e =
          subst₂ (λ (x : A.State) (y : M.Track). S.Fits x y h) (sym (B.keeps s t o r v e).0) (sym (B.keeps s t o r v e).1) f

  pub moves_fit : (s : A.State) (t : M.Track) (h : C.Held) (ms : List C.Move) → B.Valid s t → S.Fits s t h → S.Fits s t (moves A C s h ms)
  unfolding moves
  moves_fit s t h [] v f = f
  moves_fit s t h (m ∷ ms) v f = moves_fit s t (C.move s h m) ms v (S.fits_move s t h m v f)

  -- what is held after an operation and the moves that follow it, in the tracker's own states
  unfoldable pub next : A.State → M.Track → C.Held → A.Op → List C.Move → C.Held
  next s t h o ms = moves A C (M.next_state s t o) (held_after A C h o (is_refused (M.reply s t o))) ms

  next_same : (s : A.State) (t : M.Track) (h : C.Held) (o : A.Op) (ms : List C.Move) → B.Valid s t → S.Fits s t h →
      held_next A C s h o (is_refused (M.reply s t o)) ms ≡ next s t h o ms
  unfolding held_next next
  next_same s t h o ms v f =
      ap (λ (x : Option A.Answer × A.State). moves A C x.1 (held_after A C h o (is_refused (M.reply s t o))) ms) (step_same s t h o v f)

  pub next_fits : (s : A.State) (t : M.Track) (h : C.Held) (o : A.Op) (ms : List C.Move) → B.Valid s t → S.Fits s t h →
      S.Fits (M.next_state s t o) (M.next_track s t o) (next s t h o ms)
  unfolding next
  next_fits s t h o ms v f = moves_fit (M.next_state s t o) (M.next_track s t o) _ ms (B.valid_next s t o v) (after_fits s t h o v f)

  -- over a list
  run_same : (s : A.State) (t : M.Track) (h : C.Held) (os : List A.Op) (after : ℕ → List C.Move) → B.Valid s t → S.Fits s t h →
      trace A C s h (told A M s t os) after ≡ own_trace A M s t os
  unfolding trace told own_trace
  run_same s t h [] after v f = refl
  run_same s t h (o ∷ os) after v f =
      rw (next_same s t h o (after 0) v f, step_same s t h o v f)
      (ap (λ l. (answer (M.reply s t o), M.next_state s t o) ∷ l)
      (run_same (M.next_state s t o) (M.next_track s t o) (next s t h o (after 0)) os (λ i. after (suc i)) (B.valid_next s t o v) (next_fits s t h o (after 0) v f)))

  pub agrees : Agrees A M C
  agrees g t ok os first after =
      rw (← B.begins g t ok)
      (run_same _ _ _ os after (B.valid_start g t ok) (moves_fit _ _ C.empty first (B.valid_start g t ok) (S.fits_start g t ok)))

  -- what is held at the end, one operation at a time
  pub held_cons : (s : A.State) (t : M.Track) (h : C.Held) (o : A.Op) (os : List A.Op) (after : ℕ → List C.Move) → B.Valid s t → S.Fits s t h →
      held_at_end A C s h (told A M s t (o ∷ os)) after
      ≡ held_at_end A C (M.next_state s t o) (next s t h o (after 0)) (told A M (M.next_state s t o) (M.next_track s t o) os) (λ i. after (suc i))
  unfolding held_at_end told
  held_cons s t h o os after v f =
      ap (λ (x : C.Held). held_at_end A C (chip_step A C s h o (is_refused (M.reply s t o))).1 x (told A M (M.next_state s t o) (M.next_track s t o) os) (λ i. after (suc i))) (next_same s t h o (after 0) v f)
      ∙ ap (λ (x : Option A.Answer × A.State). held_at_end A C x.1 (next s t h o (after 0)) (told A M (M.next_state s t o) (M.next_track s t o) os) (λ i. after (suc i))) (step_same s t h o v f)

  pub end_fits : (s : A.State) (t : M.Track) (h : C.Held) (os : List A.Op) (after : ℕ → List C.Move) → B.Valid s t → S.Fits s t h →
      S.Fits (end_state A M s t os) (end_track A M s t os) (held_at_end A C s h (told A M s t os) after)
  unfolding held_at_end told end_state end_track
  end_fits s t h [] after v f = f
  end_fits s t h (o ∷ os) after v f =
      rw (held_cons s t h o os after v f)
      (end_fits (M.next_state s t o) (M.next_track s t o) (next s t h o (after 0)) os (λ i. after (suc i)) (B.valid_next s t o v) (next_fits s t h o (after 0) v f))

-- the machine itself holds nothing
pub plain_sound : (A : Machine) (M : Tracker A) (B : Carries A M) → Sound A M B (plain A)
plain_sound A M B = record {
  Fits = λ s t h. Unit {0};
  fits_start = λ g t ok. tt;
  fits_move = λ s t h m v f. tt;
  fits_next = λ s t h o a v f e. tt;
  same_way = λ s t h o a k v f e p. refl;
}

pub valid_end : (A : Machine) (M : Tracker A) (B : Carries A M) (s : A.State) (t : M.Track) (os : List A.Op) → B.Valid s t → B.Valid (end_state A M s t os) (end_track A M s t os)
unfolding end_state end_track
valid_end A M B s t [] v = v
valid_end A M B s t (o ∷ os) v = valid_end A M B (M.next_state s t o) (M.next_track s t o) os (B.valid_next s t o v)
