-- A tracker: a machine with a track, which refuses operations; and the two halves of what is to be proved of it.
use Rattle.std.specs.Prelude.{ℕ, ◌≡◌, ◌↔◌, Bool, true, false, List, [], ◌∷◌}
use Rattle.std.proofs.Math.Option.{Option, none, some}
use Rattle.tlb.specs.Machine.{Machine, entry}
use Rattle.tlb.specs.Chip.{Chip, moves, trace, held_at_end}

pub data Reply (R : Type 0) : Type 0 where
  done : R → Reply R
  refused : ℕ → Reply R

unfoldable pub answer : {R : Type 0} → Reply R → Option R
answer (done a) = some a
answer (refused r) = none

unfoldable pub is_refused : {R : Type 0} → Reply R → Bool
is_refused (done a) = false
is_refused (refused r) = true

pub record Tracker (A : Machine) : Type 1 where
  pub Track : Type 0
  -- whether a start is accepted; the state that it returns and leaves; the track that it leaves
  pub Accepted : A.Given → Track → Type 0
  pub start_state : A.Given → Track → A.State
  pub start_track : A.Given → Track → Track
  -- what an operation answers, and the state and track after it
  pub reply : A.State → Track → A.Op → Reply A.Answer
  pub next_state : A.State → Track → A.Op → A.State
  pub next_track : A.State → Track → A.Op → Track

module _ (A : Machine) (M : Tracker A) where
  -- which operations are refused, as the chips are told
  unfoldable pub told : A.State → M.Track → List A.Op → List (A.Op × Bool)
  told s t [] = []
  told s t (o ∷ os) = (o, is_refused (M.reply s t o)) ∷ told (M.next_state s t o) (M.next_track s t o) os

  -- the tracker's own answers and states
  unfoldable pub own_trace : A.State → M.Track → List A.Op → List (Option A.Answer × A.State)
  own_trace s t [] = []
  own_trace s t (o ∷ os) = (answer (M.reply s t o), M.next_state s t o) ∷ own_trace (M.next_state s t o) (M.next_track s t o) os

  unfoldable pub end_state : A.State → M.Track → List A.Op → A.State
  end_state s t [] = s
  end_state s t (o ∷ os) = end_state (M.next_state s t o) (M.next_track s t o) os

  unfoldable pub end_track : A.State → M.Track → List A.Op → M.Track
  end_track s t [] = t
  end_track s t (o ∷ os) = end_track (M.next_state s t o) (M.next_track s t o) os

  -- The first half: whatever moves a chip makes, over every list it gives the tracker's answers and, after every operation, its state.
  abbrev pub Agrees : Chip A → Type 0
  Agrees C =
      (g : A.Given) (t : M.Track) → M.Accepted g t → (os : List A.Op) (first : List C.Move) (after : ℕ → List C.Move) →
      trace A C (A.boot g) (moves A C (A.boot g) C.empty first) (told (M.start_state g t) (M.start_track g t) os) after
      ≡ own_trace (M.start_state g t) (M.start_track g t) os

-- An entry that a chip can hold for a page after the operations, other than the page's present outcome.
module _ (A : Machine) (C : Chip A) (Holds : A.Tag → A.Entry → C.Held → Type 0) where
  pub record CanDiffer (g : A.Given) (xs : List (A.Op × Bool)) (s : A.State) (k : A.Page) : Type 0 where
    pub first : List C.Move
    pub after : ℕ → List C.Move
    pub tag : A.Tag
    pub entry_held : A.Entry
    pub holds : Holds tag entry_held (held_at_end A C (A.boot g) (moves A C (A.boot g) C.empty first) xs after)
    pub serving : A.serves s k tag ≡ true
    pub differs : A.walk s k ≡ entry entry_held → ⊥

-- The second half, of chips of every size: after every list, an access that is not refused by another number is refused as stale
-- exactly when some chip can hold for its page an entry other than the present outcome.
module _ (A : Machine) (M : Tracker A) (C : ℕ → Chip A) (Holds : (n : ℕ) → A.Tag → A.Entry → (C n).Held → Type 0) where
  abbrev pub Exact : ℕ → Type 0
  Exact stale =
      (g : A.Given) (t : M.Track) → M.Accepted g t → (os : List A.Op) (o : A.Op) (k : A.Page) →
      let s = end_state A M (M.start_state g t) (M.start_track g t) os in
      let u = end_track A M (M.start_state g t) (M.start_track g t) os in
      A.page s o ≡ some k → ((r : ℕ) → M.reply s u o ≡ refused r → r ≡ stale) →
      (M.reply s u o ≡ refused stale)
      ↔ ((n : ℕ) × CanDiffer A (C n) (Holds n) g (told A M (M.start_state g t) (M.start_track g t) os) s k)
