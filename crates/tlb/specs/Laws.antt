-- The laws from which the two halves follow. Each speaks of one operation or one move, and none of a list.
use Rattle.std.specs.Prelude.{ℕ, ◌≡◌, ◌↔◌, ◌⊎◌, true, false}
use mathlib.Core.HLevel.{Discrete}
use Rattle.std.proofs.Math.Option.{Option, some}
use Rattle.tlb.specs.Machine.{Machine, Walk, entry}
use Rattle.tlb.specs.Chip.{Chip}
use Rattle.tlb.specs.Tracker.{Tracker, done, refused}
use Rattle.tlb.specs.Seen.{Seen, nothing, note, spared, Stale}

-- The tracker carries out what the machine does, and a refusal changes nothing.
pub record Carries (A : Machine) (M : Tracker A) : Type 1 where
  pub Valid : A.State → M.Track → Type 0
  pub begins : (g : A.Given) (t : M.Track) → M.Accepted g t → M.start_state g t ≡ A.boot g
  pub valid_start : (g : A.Given) (t : M.Track) → M.Accepted g t → Valid (M.start_state g t) (M.start_track g t)
  pub valid_next : (s : A.State) (t : M.Track) (o : A.Op) → Valid s t → Valid (M.next_state s t o) (M.next_track s t o)
  pub keeps : (s : A.State) (t : M.Track) (o : A.Op) (r : ℕ) → Valid s t → M.reply s t o ≡ refused r →
      (M.next_state s t o ≡ s) × (M.next_track s t o ≡ t)
  pub carries : (s : A.State) (t : M.Track) (o : A.Op) (a : A.Answer) → Valid s t → M.reply s t o ≡ done a →
      A.carry s o (A.walk s) ≡ (a, M.next_state s t o)
  -- an operation uses the translation of its own page and no other
  pub one_page : (s : A.State) (o : A.Op) (f h : A.Page → Walk A.Entry A.Fault) →
      ((k : A.Page) → A.page s o ≡ some k → f k ≡ h k) → A.carry s o f ≡ A.carry s o h

-- A chip whose memory stays sound beside the tracker, and that translates an access carried out as the tables do.
pub record Sound (A : Machine) (M : Tracker A) (B : Carries A M) (C : Chip A) : Type 1 where
  pub Fits : A.State → M.Track → C.Held → Type 0
  pub fits_start : (g : A.Given) (t : M.Track) → M.Accepted g t → Fits (M.start_state g t) (M.start_track g t) C.empty
  pub fits_move : (s : A.State) (t : M.Track) (h : C.Held) (m : C.Move) → B.Valid s t → Fits s t h → Fits s t (C.move s h m)
  pub fits_next : (s : A.State) (t : M.Track) (h : C.Held) (o : A.Op) (a : A.Answer) → B.Valid s t → Fits s t h →
      M.reply s t o ≡ done a → Fits (M.next_state s t o) (M.next_track s t o) (C.obey o h)
  pub same_way : (s : A.State) (t : M.Track) (h : C.Held) (o : A.Op) (a : A.Answer) (k : A.Page) → B.Valid s t → Fits s t h →
      M.reply s t o ≡ done a → A.page s o ≡ some k → C.through s h k ≡ A.walk s k

-- What the track keeps of the set of each tag.
pub record Keeps (A : Machine) (M : Tracker A) (B : Carries A M) (stale : ℕ) : Type 1 where
  pub decide : Discrete A.Entry
  pub look : A.State → M.Track → A.Tag → Seen A.Entry
  -- the entry that the tables now put under a tag
  pub present : A.State → A.Tag → Option A.Entry
  pub present_of : (s : A.State) (t : M.Track) (k : A.Page) (e : A.Entry) → B.Valid s t →
      A.in_window s k ≡ true → A.walk s k ≡ entry e → present s (A.tag s k e) ≡ some e
  pub present_at : (s : A.State) (t : M.Track) (u : A.Tag) (e : A.Entry) → B.Valid s t → present s u ≡ some e →
      (k : A.Page) × (A.in_window s k ≡ true) × (A.walk s k ≡ entry e) × (A.tag s k e ≡ u)
  -- start empties each set and notes it; an operation carried out empties those that it flushes and notes each
  pub look_start : (g : A.Given) (t : M.Track) → M.Accepted g t → (u : A.Tag) →
      look (M.start_state g t) (M.start_track g t) u ≡ note decide (present (M.start_state g t) u) nothing
  pub look_next : (s : A.State) (t : M.Track) (o : A.Op) (a : A.Answer) → B.Valid s t → M.reply s t o ≡ done a → (u : A.Tag) →
      look (M.next_state s t o) (M.next_track s t o) u ≡ note decide (present (M.next_state s t o) u) (spared (A.names o u) (look s t u))
  -- an access is refused as stale exactly when a set that serves its page has an entry other than the present outcome
  pub stale_iff : (s : A.State) (t : M.Track) (o : A.Op) (k : A.Page) → B.Valid s t → A.page s o ≡ some k →
      ((r : ℕ) → M.reply s t o ≡ refused r → r ≡ stale) →
      (M.reply s t o ≡ refused stale) ↔ ((u : A.Tag) × (A.serves s k u ≡ true) × Stale (look s t u) (A.walk s k))

-- A TLB: it holds entries under tags, that were loaded from the tables and not flushed since, and translates by them.
pub record Tlb (A : Machine) (C : Chip A) (Holds : A.Tag → A.Entry → C.Held → Type 0) : Type 1 where
  -- what it may hold at most
  pub empty_holds : (u : A.Tag) (e : A.Entry) → Holds u e C.empty → ⊥
  pub move_holds : (s : A.State) (h : C.Held) (m : C.Move) (u : A.Tag) (e : A.Entry) → Holds u e (C.move s h m) →
      Holds u e h ⊎ ((k : A.Page) × (A.in_window s k ≡ true) × (A.walk s k ≡ entry e) × (A.tag s k e ≡ u))
  pub obey_holds : (o : A.Op) (h : C.Held) (u : A.Tag) (e : A.Entry) → Holds u e (C.obey o h) → Holds u e h × (A.names o u ≡ false)
  pub through_held : (s : A.State) (h : C.Held) (k : A.Page) →
      (C.through s h k ≡ A.walk s k) ⊎ ((u : A.Tag) × (e : A.Entry) × Holds u e h × (A.serves s k u ≡ true) × (C.through s h k ≡ entry e))
  -- what it can hold at least: a page loaded when nothing is held stays until it is flushed
  pub loads : (s : A.State) (k : A.Page) (e : A.Entry) → A.in_window s k ≡ true → A.walk s k ≡ entry e →
      (m : C.Move) × Holds (A.tag s k e) e (C.move s C.empty m)
  pub obey_keeps : (o : A.Op) (h : C.Held) (u : A.Tag) (e : A.Entry) → Holds u e h → A.names o u ≡ false → Holds u e (C.obey o h)
  pub obey_empty : (o : A.Op) → C.obey o C.empty ≡ C.empty
