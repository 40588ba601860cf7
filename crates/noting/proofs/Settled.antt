-- Laws of words and rows that noting leaves as they are.
use Prim.Native.Nat.{ℕ, ◌+◌, ◌<◌}
use mathlib.Core.Path.{◌≡◌, ◌∙◌}
use mathlib.Core.List.{List}
use lib.ListN.{length, get_or}
use Rattle.model.specs.Types.{Outcome}
use Rattle.model.specs.step.Rows.{map_first}
use Rattle.model.specs.step.Track.{add_outcome}
use Rattle.noting.specs.Mib.{Stays}
use Rattle.track.proofs.Rows.{still_turn}

-- the first n words of both rows are left as they are
pub record Through (f : ℕ → ℕ → ℕ → ℕ) (n : ℕ) (own shared : List ℕ) : Type 0 where
  pub in_own : own ≡ map_first (f 0) 0 n own
  pub in_shared : shared ≡ map_first (f 1) 0 n shared

-- one word more, by what the walk of its page found
pub through_turn : (f : ℕ → ℕ → ℕ → ℕ) (n : ℕ) (own shared : List ℕ) (o : Outcome) → ((g w : ℕ) → f g n w ≡ add_outcome g w o) →
    Through f n own shared → n < length own → n < length shared → Stays (get_or own n 0) (get_or shared n 0) o → Through f (n + 1) own shared
through_turn f n own shared o by t h k z = record {
  in_own = still_turn (f 0) own n t.in_own h (by 0 (get_or own n 0) ∙ z.in_own);
  in_shared = still_turn (f 1) shared n t.in_shared k (by 1 (get_or shared n 0) ∙ z.in_shared);
}
